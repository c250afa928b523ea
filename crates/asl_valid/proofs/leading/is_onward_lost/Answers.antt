use Rattle.std.proofs.Common.{sym, ◌∙◌}
use Rattle.asl_model.specs.Tree.{block_tree}
use Rattle.asl_model.specs.Valid.{one_or_none}
use Rattle.asl_valid.specs.Rules.{catcher_nexts, is_unknown}
use Rattle.asl_valid.proofs.Trees.{any_after}
use Rattle.asl_valid.proofs.leading.is_onward_lost.Goals as goal

pub returns-else-is_next_lost : goal.returns-else-is_next_lost
returns-else-is_next_lost c =
    c.is_catch_lost.ensures
    ∙ any_after (is_unknown (block_tree c.args.block.now)) (one_or_none c.args.after.now.next) (catcher_nexts c.args.care.now.catch)
    (sym c.is_next_lost.ensures ∙ c.if-is_next_lost.false)
