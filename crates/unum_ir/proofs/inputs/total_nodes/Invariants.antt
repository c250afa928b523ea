use Rattle.std.proofs.Common.{◌≡◌, ◌≤◌, ◌+◌, ◌^◌, ◌-◌, min, map, drop}
use Rattle.std.specs.Prelude.{sum}
use Rattle.unum_json.specs.Tree.{nodes}
use Rattle.unum_ir.proofs.inputs.total_nodes.Given as goal

abbrev pub invariant-loop-value : goal.invariant-loop-value
invariant-loop-value l =
    (min (l.total + sum (map nodes (drop l.value-index l.value-items))) (2 ^ 64 - 1) ≡ min (1 + sum (map nodes l.values)) (2 ^ 64 - 1)) × (l.total ≤ 2 ^ 64 - 1)
