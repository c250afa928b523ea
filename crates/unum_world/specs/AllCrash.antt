-- That all attempts that live crash.
use Rattle.std.specs.Prelude.{ℕ, List, ◌++◌, map}
use Rattle.world_types.specs.declared.queue.Event.TheVariants.{Crash}
use Rattle.world_plans.specs.Three.{living_numbers}
use Rattle.unum_world.specs.Openings.{codes_of}
use Rattle.unum_world.specs.Traces.{Trace, now}

-- the attempts that live now, by rising number
abbrev pub living : Trace → List ℕ
living p = living_numbers p.opening.plan (codes_of p.opening) (now p)

-- the trace with the crashes of these attempts, one after the other
abbrev pub after_crashes : Trace → List ℕ → Trace
after_crashes p attempts = record p { history = p.history ++ map Crash attempts }
