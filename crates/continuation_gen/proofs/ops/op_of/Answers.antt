use Rattle.std.proofs.Common.{◌≡◌, ap, sym, subst, ◌∙◌, IfOk}
use Rattle.asl_model.specs.Machine as m
use Rattle.asl_model.specs.Tree.{state_tree}
use Rattle.continuation_gen.specs.Numbering as n
use Rattle.continuation_gen.specs.Filling.{number_in, inner_at}
use Rattle.continuation_gen.proofs.StateTrees.{task_tree}
use Rattle.continuation_gen.proofs.ops.op_of.Goals as goal

pub returns-in-Task : goal.returns-in-Task
returns-in-Task c =
    let spot = c.args.spot.now in
    let k = c.in-Task in
    subst (λ (s : m.State). IfOk c.task.result (λ op. op ≡ n.op_of (number_in spot) spot.func (inner_at spot.scope) s)) (sym (ap state_tree k.is ∙ task_tree k.shape k.resource k.after k.care)) (c.task.ensures k.resource)
