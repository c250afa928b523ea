use Rattle.continuation_gen.specs.Coded.{code_of_ir}
use Rattle.fn_wrapper.proofs.Acted.{acted_is}
use Rattle.fn_wrapper.proofs.replies.moved.Goals as goal

pub returns-in-Acting : goal.returns-in-Acting
returns-in-Acting c =
    acted_is (code_of_ir c.args.instance.ir.now) c.args.instance.invocation.now c.args.instance.ticket c.args.phase c.in-Acting.kept
    c.in-Acting.done
    c.args.acts c.args.reply c.acted.result c.acted.ensures c.in-Acting.is
    (c.requires.acts c.in-Acting.kept c.in-Acting.done c.in-Acting.is)
