use Rattle.std.proofs.lemmas.Result.{IfOk-weaker}
use Rattle.unum_ir.specs.Views.{begun_of}
use Rattle.unum_ir.proofs.WalkLaw.{entered}
use Rattle.unum_ir.proofs.walks.enter.Goals as goal

pub returns-in-Ok-begin : goal.returns-in-Ok-begin
returns-in-Ok-begin c =
    IfOk-weaker c.step_at.result _ _
    (λ s step. entered c.args.ir.now c.args.label c.args.hop c.args.raw c.args.again c.in-Some.node.now c.in-Ok.used (begun_of c.in-Ok-begin.begun) s c.in-Some.ensures c.in-Ok.ensures c.in-Ok-begin.ensures step) c.step_at.ensures
