use Rattle.std.proofs.Common.{◌≡◌, drop}
use Rattle.std.specs.List.{list_any}
use Rattle.asl_model.specs.Tree.{block_tree}
use Rattle.asl_valid.specs.Rules.{catcher_nexts, is_unknown}
use Rattle.asl_valid.proofs.leading.is_catch_lost.Given as goal

abbrev pub invariant-loop-catcher : goal.invariant-loop-catcher
invariant-loop-catcher l =
    list_any (is_unknown (block_tree l.block)) (catcher_nexts (drop l.catcher-index l.catcher-items)) ≡ list_any (is_unknown (block_tree l.block)) (catcher_nexts l.catchers)
