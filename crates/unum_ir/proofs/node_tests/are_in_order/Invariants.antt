use Rattle.std.proofs.Common.{◌≡◌, drop}
use Rattle.unum_ir.specs.WellFormed.{are_in_order}
use Rattle.unum_ir.proofs.node_tests.are_in_order.Given as goal

abbrev pub invariant-loop-i : goal.invariant-loop-i
invariant-loop-i l = are_in_order (drop l.i l.nodes) ≡ are_in_order l.nodes
