use Rattle.std.proofs.Common.{◌+◌, ◌*◌}
use Rattle.test_parts.proofs.rules.+rules.Given as goal

abbrev pub decreases-rule_in : goal.decreases-rule_in
decreases-rule_in l = 5 * l.depth

abbrev pub decreases-push_rules : goal.decreases-push_rules
decreases-push_rules l = 5 * l.depth + 1

abbrev pub decreases-rules_in : goal.decreases-rules_in
decreases-rules_in l = 5 * l.depth + 2

abbrev pub decreases-several : goal.decreases-several
decreases-several l = 5 * l.depth + 3

abbrev pub decreases-joined : goal.decreases-joined
decreases-joined l = 5 * l.depth + 4
