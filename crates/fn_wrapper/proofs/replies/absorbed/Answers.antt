use Rattle.std.proofs.Common.{◌≡◌, subst}
use Rattle.std.specs.Prelude.{IfOk}
use Rattle.world_model.specs.AnyCode.Program.{Phase, after_read}
use Rattle.continuation_gen.specs.Coded.{code_of_ir}
use Rattle.fn_wrapper.proofs.Acted.{read_is}
use Rattle.fn_wrapper.proofs.replies.absorbed.Goals as goal

pub returns-in-Reading-clause-ok : goal.returns-in-Reading-clause-ok
returns-in-Reading-clause-ok c =
    let code = code_of_ir c.args.instance.ir.now in
    let due : Phase = after_read code c.args.instance.invocation.now c.args.instance.ticket c.args.reply in
    subst (λ (d : Phase). IfOk c.or_before-in-Reading.result (λ p. p ≡ d))
    (read_is code c.args.instance.invocation.now c.args.instance.ticket c.args.phase c.args.reply c.in-Reading.is)
    (c.or_before-in-Reading.ensures.ok due c.read.ensures)
