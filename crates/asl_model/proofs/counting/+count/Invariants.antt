use Rattle.std.proofs.Common.{◌≡◌, ◌≤◌, ◌+◌, ◌^◌, ◌-◌, min, map, drop}
use Rattle.asl_model.specs.Tree.{block_tree, states_from, blocks_from}
use Rattle.asl_model.specs.Walked.{count_block, count_within, count_all, RisesWithin, RisesAll}
use Rattle.asl_model.proofs.Trees.{row}
use Rattle.asl_model.proofs.counting.+count.Given as goal

abbrev pub invariant-count_in-loop-row : goal.invariant-count_in-loop-row
invariant-count_in-loop-row l =
    (min (l.total + count_within (states_from (map row (drop l.row-index l.row-items)))) (2 ^ 64 - 1) ≡ min (count_block (block_tree l.block)) (2 ^ 64 - 1))
    × (l.total ≤ 2 ^ 64 - 1)
    × (RisesWithin (states_from (map row (drop l.row-index l.row-items))) → RisesWithin (states_from (map row l.row-items)))

abbrev pub invariant-count_branches-loop-block : goal.invariant-count_branches-loop-block
invariant-count_branches-loop-block l =
    (min (l.total + count_all (blocks_from (map block_tree (drop l.block-index l.block-items)))) (2 ^ 64 - 1) ≡ min (count_all (blocks_from (map block_tree l.branches))) (2 ^ 64 - 1))
    × (l.total ≤ 2 ^ 64 - 1)
    × (RisesAll (blocks_from (map block_tree (drop l.block-index l.block-items))) → RisesAll (blocks_from (map block_tree l.block-items)))
