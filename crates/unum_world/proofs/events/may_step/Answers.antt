use Rattle.std.proofs.Common.{sym, ap, ◌∙◌, ◌&&◌, not}
use Rattle.unum_world.proofs.Enabling.{step_is, dead_step, none_step}
use Rattle.unum_world.proofs.events.may_step.Goals as goal

pub returns-then-t : goal.returns-then-t
returns-then-t c = λ o h.
    ap (λ l. l && not c.is_call.result) (sym c.if-t.true)
    ∙ step_is o c.args.now.now h c.args.attempt c.in-Some.t.now (sym c.in-Some.ensures) c.is_call.result c.is_call.ensures

pub returns-else-t : goal.returns-else-t
returns-else-t c = λ o h. c.if-t.false ∙ dead_step o c.args.now.now h c.args.attempt c.in-Some.t.now (sym c.in-Some.ensures) c.if-t.false

pub returns-in-None : goal.returns-in-None
returns-in-None c = λ o h. none_step o c.args.now.now c.args.attempt (sym c.in-None.ensures)
