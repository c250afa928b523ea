use Rattle.std.proofs.Common.{sym, ap, ◌∙◌, slice_get}
use Rattle.unum_world.specs.OneStep.{phase_acts}
use Rattle.unum_world.specs.Kept.{stop_in}
use Rattle.unum_world.proofs.Moving.{few_acts}
use Rattle.unum_world.proofs.steps.count_acts.Goals as goal

pub act_count-requires : goal.act_count-requires
act_count-requires c =
    let a = c.args.instance.ticket in
    few_acts c.args.instance.ir.now c.args.instance.invocation.now c.args.now.now a c.in-Some.stop.now c.requires
    (ap phase_acts (sym c.attempt.ensures) ∙ sym c.if-not-acts.ensures)
    (c.in-Some.ensures ∙ ap (λ z. stop_in (slice_get z a)) c.as_slice.ensures.value)
