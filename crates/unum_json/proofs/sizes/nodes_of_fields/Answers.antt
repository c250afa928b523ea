use Rattle.std.proofs.Common.{arith}
use Rattle.unum_json.specs.Tree.{nodes}
use Rattle.unum_json.proofs.NextSize.{fields_sum-next}
use Rattle.unum_json.proofs.sizes.nodes_of_fields.Goals as goal

pub loop-field-preserved : goal.loop-field-preserved
loop-field-preserved c =
    omega (arith, fields_sum-next nodes c.as_slice-field-items.result.now c.loop-field.field-index c.field-item.result c.loop-field-test.true c.field-item.is, c.loop-field.invariant, c.nodes_of_text.ensures, c.nodes.ensures, c.saturating_add-own.ensures, c.saturating_add-total.ensures)
