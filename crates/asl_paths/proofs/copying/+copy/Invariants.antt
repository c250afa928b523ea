use Rattle.std.proofs.Common.{◌≡◌, take}
use Rattle.asl_paths.proofs.copying.+copy.Given as goal

abbrev pub invariant-copy_parts-loop-part : goal.invariant-copy_parts-loop-part
invariant-copy_parts-loop-part l = l.copies ≡ take l.part-index l.part-items

abbrev pub invariant-copy_part_fields-loop-field : goal.invariant-copy_part_fields-loop-field
invariant-copy_part_fields-loop-field l = l.copies ≡ take l.field-index l.field-items
