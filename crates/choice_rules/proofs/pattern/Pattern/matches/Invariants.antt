use Rattle.std.proofs.Common.{length}
use Rattle.std.specs.Str.{chars}
use Rattle.choice_rules.specs.Searching.{standing}
use Rattle.choice_rules.proofs.Searches.{IsSearch, work}
use Rattle.choice_rules.proofs.pattern.Pattern.matches.Given as goal

abbrev pub invariant-loop-answer : goal.invariant-loop-answer
invariant-loop-answer l = IsSearch l.fn.self (chars l.fn.text) (standing l.search)

abbrev pub decreases-loop-answer : goal.decreases-loop-answer
decreases-loop-answer l = work (length l.fn.self) (standing l.search)
