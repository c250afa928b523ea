use Rattle.std.proofs.Common.{refl}
use Rattle.world_types.specs.declared.queue.Event.TheVariants.{Answer}
use Rattle.world_plans.proofs.Allows.{allowed_on}
use Rattle.unum_world.specs.Openings.{codes_of}
use Rattle.unum_world.specs.Traces.{now}
use Rattle.unum_world.proofs.turns.ask.Goals as goal

pub awaited-requires : goal.awaited-requires
awaited-requires c =
    let w = c.args.world.now in
    allowed_on w.opening.plan (codes_of w.opening) (now w) (Answer c.args.attempt) c.requires.allowed

pub returns-in-Err-clause-asks : goal.returns-in-Err-clause-asks
returns-in-Err-clause-asks c = refl
