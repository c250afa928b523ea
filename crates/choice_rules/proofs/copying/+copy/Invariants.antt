use Rattle.std.proofs.Common.{◌≡◌, take}
use Rattle.choice_rules.proofs.copying.+copy.Given as goal

abbrev pub invariant-copy_rules-loop-rule : goal.invariant-copy_rules-loop-rule
invariant-copy_rules-loop-rule l = l.copies.items ≡ take l.rule-index l.rule-items
