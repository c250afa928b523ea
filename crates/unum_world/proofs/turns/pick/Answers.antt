use Rattle.std.proofs.Common.{refl, sym, ap, ◌∙◌, subst, Some, Option}
use Rattle.world_types.specs.declared.queue.Event.{Event}
use Rattle.world_types.specs.declared.queue.Event.TheVariants.{Answer}
use Rattle.worker_gate.specs.declared.pick.Pick.TheVariants.{Idle}
use Rattle.unum_world.specs.Turns.{TurnWith}
use Rattle.unum_world.proofs.DueNow.{due_allowed}
use Rattle.unum_world.proofs.turns.pick.Goals as goal

pub ask-requires-clause-allowed : goal.ask-requires-clause-allowed
ask-requires-clause-allowed c =
    due_allowed c.args.world.now c.args.mine (Answer c.in-Some-Answer.attempt)
    (sym c.due.ensures.event ∙ c.in-Some-Answer.is ∙ ap Some c.in-Some-Answer.field-0-is)

pub make-requires : goal.make-requires
make-requires c = record {
  obeying = c.requires;
  allowed = due_allowed c.args.world.now c.args.mine c.in-Some.event (sym c.due.ensures.event ∙ c.in-Some.is);
}

pub returns-in-None-clause-picks : goal.returns-in-None-clause-picks
returns-in-None-clause-picks c =
    subst (λ (z : Option Event). TurnWith c.args.world.now c.args.mine z Idle c.args.world.now) (sym c.in-None.is ∙ c.due.ensures.event)
    (refl, refl, c.due.ensures.none c.in-None.is)
