use Rattle.asl_model.proofs.Trees.{rises_all_through}
use Rattle.asl_model.proofs.counting.+count.Goals as goal

pub count_in-returns-clause-rising : goal.count_in-returns-clause-rising
count_in-returns-clause-rising t c =
    rises_all_through c.args.block.now c.as_slice-row-items.result.now c.loop-row.row-index c.as_slice-row-items.ensures.value c.as_slice-row-items.ensures.rising c.loop-row-test.false c.loop-row.invariant.2
