use Rattle.std.proofs.Common.{◌≡◌, ◌≤◌, ◌-◌, ◌^◌, drop}
use Rattle.std.specs.Option.{option_map}
use Rattle.asl_paths.specs.Filling.{fill_parts, fill_fields, item_of}
use Rattle.asl_paths.specs.Sizes.{items_size, fields_size}
use Rattle.asl_paths.proofs.FillSizes.{counted}
use Rattle.asl_paths.proofs.sizing.+sizing.Given as goal

abbrev pub invariant-of_parts-loop-part : goal.invariant-of_parts-loop-part
invariant-of_parts-loop-part l = record {
  found : option_map items_size (fill_parts l.value (item_of l.item) l.parts) ≡ counted items_size l.total (fill_parts l.value (item_of l.item) (drop l.part-index l.part-items));
  capped : l.total.nodes ≤ 2 ^ 64 - 1;
}

abbrev pub invariant-of_fields-loop-field : goal.invariant-of_fields-loop-field
invariant-of_fields-loop-field l = record {
  found : option_map fields_size (fill_fields l.value (item_of l.item) l.fields) ≡ counted fields_size l.total (fill_fields l.value (item_of l.item) (drop l.field-index l.field-items));
  capped : l.total.nodes ≤ 2 ^ 64 - 1;
}
