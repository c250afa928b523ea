use Rattle.std.proofs.Common.{◌≡◌, ◌^◌, ◌-◌, min, take}
use Rattle.unum_json.specs.Tree.{depth, largest_value, on_values}
use Rattle.unum_json.proofs.sizes.depth_of_fields.Given as goal

abbrev pub invariant-loop-field : goal.invariant-loop-field
invariant-loop-field l = l.most ≡ min (largest_value (on_values depth (take l.field-index l.field-items))) (2 ^ 32 - 1)
