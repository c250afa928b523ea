use Rattle.std.proofs.Common.{subst, sym}
use Rattle.choice_rules.specs.PatternTexts.{IsPattern}
use Rattle.choice_rules.proofs.PatternBack.{is_empty_pattern}
use Rattle.choice_rules.proofs.pattern.Pattern.empty.Goals as goal

pub invariant_of-result : goal.invariant_of-result
invariant_of-result c = subst IsPattern (sym c.new.ensures.items) is_empty_pattern
