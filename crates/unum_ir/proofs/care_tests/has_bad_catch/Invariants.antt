use Rattle.std.proofs.Common.{◌≡◌, drop}
use Rattle.asl_model.specs.Valid.{has_bad_errors}
use Rattle.unum_ir.specs.Forming.{catcher_errors}
use Rattle.unum_ir.proofs.care_tests.has_bad_catch.Given as goal

abbrev pub invariant-loop-i : goal.invariant-loop-i
invariant-loop-i l = has_bad_errors (catcher_errors (drop l.i l.catcher-items)) ≡ has_bad_errors (catcher_errors l.catchers)
