use Rattle.std.proofs.Common.{arith}
use Rattle.unum_json.specs.Tree.{depth}
use Rattle.unum_json.proofs.NextSize.{largest-next}
use Rattle.unum_json.proofs.sizes.depth_of_items.Goals as goal

pub loop-item-preserved : goal.loop-item-preserved
loop-item-preserved c =
    omega (arith, largest-next depth c.as_slice-item-items.result.now c.loop-item.item-index c.item-item.result c.loop-item-test.true c.item-item.is, c.loop-item.invariant, c.depth.ensures, c.max-most.ensures)
