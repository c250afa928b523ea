use Rattle.std.proofs.Common.{take, refl, ap, ◌∙◌}
use Rattle.unum_json.proofs.Rising.{rising_next}
use Rattle.asl_paths.proofs.copying.+copy.Goals as goal

pub copy_part_fields-add_field-requires : goal.copy_part_fields-add_field-requires
copy_part_fields-add_field-requires t c =
    rising_next c.args.fields.now c.as_slice-field-items.result.now c.loop-field.copies c.loop-field.field-index c.field-item.result (c.field-item.result.0, c.in_ok-part.part)
    c.as_slice-field-items.ensures.rising c.as_slice-field-items.ensures.value
    (c.loop-field.invariant ∙ ap (take c.loop-field.field-index) c.as_slice-field-items.ensures.value)
    c.loop-field-test.true c.field-item.is refl c.in_ok-part.ensures
