use Rattle.std.proofs.Common.{◌≡◌, drop}
use Rattle.std.specs.List.{list_any}
use Rattle.asl_model.specs.Tree.{block_tree}
use Rattle.asl_valid.specs.Rules.{is_unknown, rule_nexts}
use Rattle.asl_valid.proofs.leading.is_rule_lost.Given as goal

abbrev pub invariant-loop-rule : goal.invariant-loop-rule
invariant-loop-rule l =
    list_any (is_unknown (block_tree l.block)) (rule_nexts (drop l.rule-index l.rule-items)) ≡ list_any (is_unknown (block_tree l.block)) (rule_nexts l.rules)
