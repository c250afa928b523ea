use Rattle.std.proofs.Common.{◌≡◌, ◌++◌, drop}
use Rattle.asl_model.specs.Head.{zeros}
use Rattle.unum_ir.proofs.walks.zeros.Given as goal

abbrev pub invariant-loop-retrier : goal.invariant-loop-retrier
invariant-loop-retrier l = l.used ++ zeros (drop l._retrier-index l._retrier-items) ≡ zeros l.retriers
