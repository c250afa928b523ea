use Rattle.std.proofs.Common.{take, ap, ◌∙◌}
use Rattle.unum_json.proofs.Rising.{rising_next}
use Rattle.unum_json.proofs.copies.copy_fields.Goals as goal

pub push-requires : goal.push-requires
push-requires c =
    rising_next c.args.fields.now c.as_slice-field-items.result.now c.loop-field.copies c.loop-field.field-index c.field-item.result (c.in_ok-key.key, c.in_ok-copy.field-0)
    c.as_slice-field-items.ensures.rising c.as_slice-field-items.ensures.value
    (c.loop-field.invariant ∙ ap (take c.loop-field.field-index) c.as_slice-field-items.ensures.value)
    c.loop-field-test.true c.field-item.is c.in_ok-key.ensures c.in_ok-copy.ensures
