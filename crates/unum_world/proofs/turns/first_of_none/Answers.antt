use Rattle.std.proofs.Common.{sym, ap, ◌∙◌, Some}
use Rattle.unum_world.proofs.DueNow.{twin_due, open_due, nothing_due}
use Rattle.unum_world.proofs.turns.first_of_none.Goals as goal

pub returns-in-Some : goal.returns-in-Some
returns-in-Some c = twin_due c.args.o.now c.args.now.now c.requires c.in-Some.inv (sym c.in-Some.is ∙ c.at.ensures)

pub returns-in-Some-open_at : goal.returns-in-Some-open_at
returns-in-Some-open_at c =
    ap Some c.rest_of.ensures
    ∙ open_due c.args.o.now c.args.now.now c.requires c.in-Some-open_at.inv (sym c.in_default.is ∙ c.at.ensures) (sym c.in-Some-open_at.is ∙ c.open_at.ensures)

pub returns-in-None : goal.returns-in-None
returns-in-None c =
    nothing_due c.args.o.now c.args.now.now c.requires (sym c.in_default.is ∙ c.at.ensures) (sym c.in-None.is ∙ c.open_at.ensures)
