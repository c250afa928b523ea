use Rattle.std.proofs.Common.{◌≡◌, ℕ, suc, ◌-◌, ◌++◌, map, drop}
use Rattle.asl_model.specs.Blocks.{nested_at, nested_within, nested_all}
use Rattle.asl_model.specs.Tree.{block_tree, states_from, blocks_from}
use Rattle.asl_valid.specs.Levels.{levels_of, with_room}
use Rattle.asl_valid.proofs.Trees.{row}
use Rattle.asl_valid.proofs.levels.+walk.Given as goal

abbrev pub invariant-add_block-loop-row : goal.invariant-add_block-loop-row
invariant-add_block-loop-row l =
    (d : ℕ) → l.room ≡ 8 - d →
    levels_of l.levels.items ++ map with_room (nested_within (suc d) (states_from (map row (drop l.row-index l.row-items))))
    ≡ levels_of l.fn.levels.items ++ map with_room (nested_at d (block_tree l.block))

abbrev pub invariant-add_branches-loop-block : goal.invariant-add_branches-loop-block
invariant-add_branches-loop-block l =
    (d : ℕ) → l.room ≡ 8 - d →
    levels_of l.levels.items ++ map with_room (nested_all d (blocks_from (map block_tree (drop l.block-index l.block-items))))
    ≡ levels_of l.fn.levels.items ++ map with_room (nested_all d (blocks_from (map block_tree l.branches)))
