use Rattle.std.proofs.Common.{◌≡◌, drop, map}
use Rattle.unum_ir.specs.WellFormed.{are_apart, name_of}
use Rattle.unum_ir.proofs.node_tests.are_apart.Given as goal

abbrev pub invariant-loop-i : goal.invariant-loop-i
invariant-loop-i l = are_apart (map name_of (drop l.i l.nodes)) ≡ are_apart (map name_of l.nodes)
