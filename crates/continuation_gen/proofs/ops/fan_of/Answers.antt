use Rattle.std.proofs.Common.{◌≡◌, ap, sym, subst, ◌∙◌, IfOk}
use Rattle.asl_model.specs.Machine as m
use Rattle.asl_model.specs.Tree.{state_tree, block_tree}
use Rattle.continuation_gen.specs.Numbering as n
use Rattle.continuation_gen.specs.Filling.{number_in, inner_at}
use Rattle.continuation_gen.proofs.StateTrees.{map_tree}
use Rattle.continuation_gen.proofs.ops.fan_of.Goals as goal

pub returns-in-Map : goal.returns-in-Map
returns-in-Map c =
    let spot = c.args.spot.now in
    let k = c.in-Map in
    subst (λ (s : m.State). IfOk c.map_op.result (λ op. op ≡ n.op_of (number_in spot) spot.func (inner_at spot.scope) s)) (sym (ap state_tree k.is ∙ map_tree k.shape k.items k.selector k.body k.after k.care k.limit)) (c.map_op.ensures (block_tree k.body))
