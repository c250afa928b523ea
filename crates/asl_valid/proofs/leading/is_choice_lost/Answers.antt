use Rattle.std.proofs.Common.{sym, ◌∙◌}
use Rattle.asl_model.specs.Tree.{block_tree}
use Rattle.asl_model.specs.Valid.{one_or_none}
use Rattle.asl_valid.specs.Rules.{is_unknown, rule_nexts}
use Rattle.asl_valid.proofs.Trees.{any_after}
use Rattle.asl_valid.proofs.leading.is_choice_lost.Goals as goal

pub returns-else-is_rule_lost : goal.returns-else-is_rule_lost
returns-else-is_rule_lost c =
    c.is_next_lost.ensures
    ∙ any_after (is_unknown (block_tree c.args.block.now)) (rule_nexts c.args.rules.now) (one_or_none c.args.default.now)
    (sym c.is_rule_lost.ensures ∙ c.if-is_rule_lost.false)
