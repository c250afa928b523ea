use Rattle.std.proofs.Common.{◌≡◌, ◌^◌, ◌-◌, min, take}
use Rattle.unum_json.specs.Tree.{nodes, fields_sum, on_values}
use Rattle.unum_json.proofs.sizes.nodes_of_fields.Given as goal

abbrev pub invariant-loop-field : goal.invariant-loop-field
invariant-loop-field l = l.total ≡ min (fields_sum (on_values nodes (take l.field-index l.field-items))) (2 ^ 64 - 1)
