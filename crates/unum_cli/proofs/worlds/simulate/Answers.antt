use Rattle.std.proofs.Common.{◌≡◌, sym, subst}
use Rattle.unum_world.specs.Traces.{Trace, IsChosen, opening_trace}
use Rattle.unum_cli.specs.Telling.{told_by}
use Rattle.unum_cli.specs.Tool.{By_chooser, AnswersWorld}
use Rattle.unum_cli.proofs.worlds.simulate.Goals as goal

pub returns-in-Ok-clause-told : goal.returns-in-Ok-clause-told
returns-in-Ok-clause-told g c =
    let p : Trace = c.in-Ok.planned in
    let e : p ≡ opening_trace c.args.opening c.args.limit = c.in-Ok.ensures in
    subst (λ (z : Trace). AnswersWorld (told_by c.args.telling) By_chooser z.opening z.limit c.settle_on.result c.settle_on.new.desk (g.K.Sink.taken c.args.out.now) (g.K.Sink.taken c.settle_on.new.out)) e
    (c.settle_on.ensures.told By_chooser (subst IsChosen (sym e) tt))
