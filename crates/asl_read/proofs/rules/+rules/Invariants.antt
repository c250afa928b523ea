use Rattle.std.proofs.Common.{◌≡◌, ◌++◌, ◌*◌, ◌+◌, drop}
use Rattle.serde_json.specs.Data.{depth}
use Rattle.unum_json.specs.Parsed.{view}
use Rattle.asl_read.specs.Rules.{rules_of}
use Rattle.asl_read.proofs.Inside.{rules_in}
use Rattle.asl_read.proofs.rules.+rules.Given as goal

abbrev pub decreases-rule_of : goal.decreases-rule_of
decreases-rule_of l = 3 * depth (view l.value.now) + 2

abbrev pub decreases-or_not_test : goal.decreases-or_not_test
decreases-or_not_test l = 3 * depth (view l.value.now) + 1

abbrev pub decreases-not_or_test : goal.decreases-not_or_test
decreases-not_or_test l = 3 * depth (view l.value.now)

abbrev pub decreases-rules_of : goal.decreases-rules_of
decreases-rules_of l = 3 * depth (view l.value.now)

abbrev pub invariant-rules_of-loop-item : goal.invariant-rules_of-loop-item
invariant-rules_of-loop-item l = rules_of (view l.value) ≡ l.rules.items ++ rules_in (drop l.item-index l.item-items)
