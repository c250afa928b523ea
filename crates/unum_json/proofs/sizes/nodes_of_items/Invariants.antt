use Rattle.std.proofs.Common.{◌≡◌, ◌^◌, ◌-◌, min, sum, map, take}
use Rattle.unum_json.specs.Tree.{nodes}
use Rattle.unum_json.proofs.sizes.nodes_of_items.Given as goal

abbrev pub invariant-loop-item : goal.invariant-loop-item
invariant-loop-item l = l.total ≡ min (sum (map nodes (take l.item-index l.item-items))) (2 ^ 64 - 1)
