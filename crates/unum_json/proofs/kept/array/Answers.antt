use Rattle.std.proofs.Common.{arith}
use Rattle.unum_json.proofs.Laws.{nodes-Arr, depth-Arr}
use Rattle.unum_json.proofs.kept.array.Goals as goal

pub invariant_of-result : goal.invariant_of-result
invariant_of-result c =
    rw c.in_ok-items.ensures (
      omega (arith, nodes-Arr c.args.items, c.nodes_of_items.ensures, c.saturating_add-nodes.ensures),
      omega (arith, depth-Arr c.args.items, c.depth_of_items.ensures, c.saturating_add-depth.ensures),
    )
