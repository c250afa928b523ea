use Rattle.std.proofs.Common.{◌≡◌, ◌-◌, ◌+◌, ◌≤◌, true, false, sym, ap, ◌∙◌, length, slice_get, None, Some, arith}
use Rattle.world_types.specs.declared.queue.Event.TheVariants.{Crash}
use Rattle.unum_world.specs.Traces.{Trace, is_enabled}
use Rattle.unum_world.specs.AllCrash.{living, after_crashes}
use Rattle.unum_world.proofs.Crashes.{one_crashed, first_lives, all_crashed, all_length}
use Rattle.unum_world.proofs.world.World.crash_all.Goals as goal

pub loop-attempt-preserved : goal.loop-attempt-preserved
loop-attempt-preserved c = record {
  crashed = one_crashed c.args.self.now c.loop-attempt.self c.apply.new.self c.in-Some.attempt c.loop-attempt.invariant.crashed
      c.first_living.ensures.happened (sym c.first_living.ensures.first ∙ c.in-Some.is) c.in-Ok.ensures.ok;
}

pub unreachable-requires : goal.unreachable-requires
unreachable-requires c =
    let w = c.loop-attempt.self in
    let may : is_enabled w (Crash c.in-Some.attempt) ≡ true = first_lives w c.in-Some.attempt (sym c.first_living.ensures.first ∙ c.in-Some.is) in
    let y = rw c.in-Err-NotEnabled.field-0-is at c.in-Err-NotEnabled.ensures.why in
    let no : is_enabled w (Crash c.in-Some.attempt) ≡ false = y.1 in
    cc

pub returns-clause-all : goal.returns-clause-all
returns-clause-all c =
    let p = c.args.self.now in
    let q = c.loop-attempt.self in
    let is = all_crashed p q c.loop-attempt.invariant.crashed (sym c.first_living.ensures.first ∙ c.in_default.is) in
    let n = all_length p q is in
    (omega (arith, n, c.length.ensures, c.length-before.ensures), is)

pub returns-clause-room : goal.returns-clause-room
returns-clause-room c =
    let p = c.args.self.now in
    let q = c.loop-attempt.self in
    let is = all_crashed p q c.loop-attempt.invariant.crashed (sym c.first_living.ensures.first ∙ c.in_default.is) in
    let n = all_length p q is in
    let l : q.limit ≡ p.limit = ap (λ (z : Trace). z.limit) is in
    omega (arith, n, l, c.first_living.ensures.within)
