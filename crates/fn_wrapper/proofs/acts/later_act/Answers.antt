use Rattle.continuation_gen.specs.Coded.{code_of_ir}
use Rattle.fn_wrapper.proofs.Branches.{task_hop}
use Rattle.fn_wrapper.proofs.acts.later_act.Goals as goal

pub call_act-requires : goal.call_act-requires
call_act-requires c =
    task_hop (code_of_ir c.args.ir.now) c.args.site c.args.scope.now c.args.stop.now c.in-Call.task c.in-Call.hop c.in-Call.raw
    c.in-Call.used c.args.index c.requires c.in-Call.is
