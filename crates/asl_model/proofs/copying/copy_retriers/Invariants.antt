use Rattle.std.proofs.Common.{◌≡◌, take}
use Rattle.asl_model.proofs.copying.copy_retriers.Given as goal

abbrev pub invariant-loop-retrier : goal.invariant-loop-retrier
invariant-loop-retrier l = l.copies ≡ take l.retrier-index l.retrier-items
