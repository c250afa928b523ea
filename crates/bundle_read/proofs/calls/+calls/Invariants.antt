use Rattle.std.proofs.Common.{◌≡◌, map, drop}
use Rattle.asl_model.specs.Tree.{block_tree, blocks_from, states_from}
use Rattle.bundle_read.specs.Bounds.{calls_another}
use Rattle.bundle_read.specs.Called.{any_all, any_block, any_within}
use Rattle.bundle_read.proofs.Somewhere.{row}
use Rattle.bundle_read.proofs.calls.+calls.Given as goal

abbrev pub invariant-block_calls-loop-row : goal.invariant-block_calls-loop-row
invariant-block_calls-loop-row l = any_block (calls_another l.functions) (block_tree l.block) ≡ any_within (calls_another l.functions) (states_from (map row (drop l.row-index l.row-items)))

abbrev pub invariant-branches_call-loop-block : goal.invariant-branches_call-loop-block
invariant-branches_call-loop-block l = any_all (calls_another l.functions) (blocks_from (map block_tree l.branches)) ≡ any_all (calls_another l.functions) (blocks_from (map block_tree (drop l.block-index l.block-items)))
