use Rattle.std.proofs.Common.{◌≡◌, ◌+◌, map, drop}
use Rattle.asl_model.specs.Machine.{states_of}
use Rattle.asl_model.specs.Tree.{block_tree, states_from}
use Rattle.asl_model.proofs.Trees.{row}
use Rattle.continuation_gen.specs.Numbering.{callers}
use Rattle.continuation_gen.proofs.counting.functions_in.Given as goal

abbrev pub invariant-loop-row : goal.invariant-loop-row
invariant-loop-row l = l.total + callers (states_from (map row (drop l.row-index l.row-items))) ≡ callers (states_of (block_tree l.block))
