use Rattle.std.proofs.Common.{◌≡◌, take}
use Rattle.asl_model.proofs.copying.copy_errors.Given as goal

abbrev pub invariant-loop-error : goal.invariant-loop-error
invariant-loop-error l = l.copies ≡ take l.error-index l.error-items
