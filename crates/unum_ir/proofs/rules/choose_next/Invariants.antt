use Rattle.std.proofs.Common.{◌≡◌, drop}
use Rattle.unum_ir.specs.Kinds.{next_from, next_node, rules_in}
use Rattle.unum_ir.proofs.rules.choose_next.Given as goal

abbrev pub invariant-loop-rule : goal.invariant-loop-rule
invariant-loop-rule l = next_from l.rule-index (rules_in (drop l.rule-index l.rule-items)) l.rules l.default l.value ≡ next_node l.rules l.default l.value
