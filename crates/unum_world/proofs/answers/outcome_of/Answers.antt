use Rattle.std.proofs.Common.{sym, subst, ◌≡◌, ◌∙◌, Option}
use Rattle.std.specs.Prelude.{IfOk}
use Rattle.unum_json.specs.declared.outcome.Outcome.{Outcome}
use Rattle.unum_world.proofs.Answered.{ask_outcome}
use Rattle.unum_world.proofs.answers.outcome_of.Goals as goal

pub returns-in-Ask : goal.returns-in-Ask
returns-in-Ask c =
    let it = c.args.instance in
    subst (λ (z : Option Outcome). IfOk c.function_outcome-outcome.result (λ x. x ≡ z))
    (ask_outcome c.args.table.now it.ir.now it.invocation.now c.args.now.now.hub.queue it.ticket c.in-Ask.resource c.in-Ask.input
    (sym c.in-Ask.is ∙ c.in_ok-other.ensures.next))
    c.function_outcome-outcome.ensures
