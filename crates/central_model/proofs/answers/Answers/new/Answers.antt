use Rattle.std.proofs.Common.{sym, subst}
use Rattle.std.specs.List.Sorted.{IsStrictlySortedBy}
use Rattle.central_model.specs.Places.{AreRising}
use Rattle.central_model.proofs.answers.Answers.new.Goals as goal

pub invariant_of-result : goal.invariant_of-result
unfolding IsStrictlySortedBy
invariant_of-result c = subst AreRising (sym c.new.ensures) tt
