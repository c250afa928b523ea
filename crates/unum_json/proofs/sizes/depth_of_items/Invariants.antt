use Rattle.std.proofs.Common.{◌≡◌, ◌^◌, ◌-◌, min, map, take}
use Rattle.unum_json.specs.Tree.{depth, largest}
use Rattle.unum_json.proofs.sizes.depth_of_items.Given as goal

abbrev pub invariant-loop-item : goal.invariant-loop-item
invariant-loop-item l = l.most ≡ min (largest (map depth (take l.item-index l.item-items))) (2 ^ 32 - 1)
