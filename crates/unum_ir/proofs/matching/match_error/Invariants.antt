use Rattle.std.proofs.Common.{◌≡◌, drop}
use Rattle.asl_model.specs.Data.{match_error}
use Rattle.unum_ir.proofs.matching.match_error.Given as goal

abbrev pub invariant-loop-name : goal.invariant-loop-name
invariant-loop-name l = match_error (drop l.name-index l.name-items) l.error l.answered ≡ match_error l.errors l.error l.answered
