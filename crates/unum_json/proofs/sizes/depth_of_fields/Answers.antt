use Rattle.std.proofs.Common.{arith}
use Rattle.unum_json.specs.Tree.{depth}
use Rattle.unum_json.proofs.NextSize.{largest_value-next}
use Rattle.unum_json.proofs.sizes.depth_of_fields.Goals as goal

pub loop-field-preserved : goal.loop-field-preserved
loop-field-preserved c =
    omega (arith, largest_value-next depth c.as_slice-field-items.result.now c.loop-field.field-index c.field-item.result c.loop-field-test.true c.field-item.is, c.loop-field.invariant, c.depth.ensures, c.max-most.ensures)
