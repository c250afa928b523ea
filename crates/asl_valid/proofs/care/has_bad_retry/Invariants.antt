use Rattle.std.proofs.Common.{◌≡◌, drop}
use Rattle.asl_model.specs.Valid.{has_bad_errors}
use Rattle.asl_valid.specs.Rules.{retrier_errors}
use Rattle.asl_valid.proofs.care.has_bad_retry.Given as goal

abbrev pub invariant-loop-i : goal.invariant-loop-i
invariant-loop-i l = has_bad_errors (retrier_errors (drop l.i l.retrier-items)) ≡ has_bad_errors (retrier_errors l.retriers)
