use Rattle.std.proofs.Common.{ap, ◌∙◌}
use Rattle.std.specs.Prelude.{is_err}
use Rattle.world_model.specs.AnyCode.Program.{Looking}
use Rattle.world_model.specs.AnyCode.World.{lives}
use Rattle.unum_world.proofs.Givens.{not_refused}
use Rattle.unum_world.proofs.Answered.{taken_at, taken_steps, answered_queue}
use Rattle.unum_world.proofs.answers.take_answer.Goals as goal

pub unreachable-requires : goal.unreachable-requires
unreachable-requires c =
    not_refused _ _ c.put_phase.ensures.refused (ap lives c.requires.attempt_is ∙ c.requires.alive) (ap is_err c.in_default.is)

pub advance-requires : goal.advance-requires
advance-requires c = taken_steps c.args.queue.now c.put_phase.new.self c.args.attempt Looking c.requires c.in-Ok.ensures.ok

pub unreachable-requires-in_default-advance : goal.unreachable-requires-in_default-advance
unreachable-requires-in_default-advance c =
    let k = c.requires in
    not_refused _ _ c.advance.ensures.refused
    (ap lives (taken_at c.args.queue.now c.put_phase.new.self c.args.attempt k.att Looking k.attempt_is c.in-Ok.ensures.ok) ∙ k.alive)
    (ap is_err c.in_default-advance.is)

pub returns : goal.returns
returns c =
    answered_queue c.args.queue.now c.put_phase.new.self c.advance.new.self c.args.attempt c.args.outcome c.in-Ok.phase Looking c.called.new.phase
    c.requires c.in-Ok.ensures.ok c.in-Ok.ensures.before c.called.ensures
    c.in-Ok-advance.ensures.ok
