use Rattle.std.proofs.Common.{◌≡◌, drop}
use Rattle.unum_ir.specs.WellFormed.{starts_from, starts_fit}
use Rattle.unum_ir.proofs.node_tests.starts_fit.Given as goal

abbrev pub invariant-loop-i : goal.invariant-loop-i
invariant-loop-i l = starts_from l.ir l.i (drop l.i l.scope-items) ≡ starts_fit l.ir
