use Rattle.std.proofs.Common.{◌≡◌, map, take}
use Rattle.ir_text.specs.Printed.{node_rule_value}
use Rattle.ir_text.proofs.nodes.rules_value.Given as goal

abbrev pub invariant-loop-rule : goal.invariant-loop-rule
invariant-loop-rule l = l.values ≡ map node_rule_value (take l.rule-index l.rule-items)
