use Rattle.std.proofs.Common.{arith}
use Rattle.unum_json.proofs.Laws.{nodes-Obj, depth-Obj}
use Rattle.unum_json.proofs.kept.object.Goals as goal

pub invariant_of-result : goal.invariant_of-result
invariant_of-result c =
    rw c.in_ok-fields.ensures (
      omega (arith, nodes-Obj c.args.fields, c.nodes_of_fields.ensures, c.saturating_add-nodes.ensures),
      omega (arith, depth-Obj c.args.fields, c.depth_of_fields.ensures, c.saturating_add-depth.ensures),
    )
