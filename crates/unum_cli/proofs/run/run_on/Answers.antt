use Rattle.std.proofs.Common.{ℕ, subst}
use Rattle.session_report.specs.Report.{report}
use Rattle.unum_world.specs.declared.opening.Opening.{Opening}
use Rattle.unum_cli.specs.Tool.{By_workers, AnswersWorld}
use Rattle.unum_cli.proofs.run.run_on.Goals as goal

pub returns-clause-told : goal.returns-clause-told
returns-clause-told g c =
    let p = c.in-Ok.ran.planned in
    let old = g.K.Sink.taken c.args.out.now in
    let new = g.K.Sink.taken c.settle_on.new.out in
    subst (λ (o : Opening). AnswersWorld report By_workers o c.args.planned.limit c.settle_on.result c.settle_on.new.desk old new) c.in-Ok.ensures.opening
    (subst (λ (l : ℕ). AnswersWorld report By_workers p.opening l c.settle_on.result c.settle_on.new.desk old new) c.in-Ok.ensures.limit
    (c.settle_on.ensures.told By_workers c.is_obeying.ensures))
