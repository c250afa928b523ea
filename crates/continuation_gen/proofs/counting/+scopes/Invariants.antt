use Rattle.std.proofs.Common.{◌≡◌, ◌+◌, map, drop}
use Rattle.asl_model.specs.Tree.{block_tree, states_from, blocks_from}
use Rattle.asl_model.proofs.Trees.{row}
use Rattle.continuation_gen.specs.Numbering.{size, size_within, size_all}
use Rattle.continuation_gen.proofs.counting.+scopes.Given as goal

abbrev pub invariant-scopes_in-loop-row : goal.invariant-scopes_in-loop-row
invariant-scopes_in-loop-row l =
    l.total + (size_within (states_from (map row (drop l.row-index l.row-items)))).scope ≡ (size (block_tree l.block)).scope

abbrev pub invariant-scopes_in_all-loop-block : goal.invariant-scopes_in_all-loop-block
invariant-scopes_in_all-loop-block l =
    l.total + (size_all (blocks_from (map block_tree (drop l.block-index l.block-items)))).scope ≡ (size_all (blocks_from (map block_tree l.branches))).scope
