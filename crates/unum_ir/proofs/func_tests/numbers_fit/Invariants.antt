use Rattle.std.proofs.Common.{◌≡◌, drop, length}
use Rattle.unum_ir.specs.WellFormed.{same_numbers, func_numbers, range}
use Rattle.unum_ir.proofs.func_tests.numbers_fit.Given as goal

abbrev pub invariant-loop-node : goal.invariant-loop-node
invariant-loop-node l =
    same_numbers (func_numbers (drop l.node-index l.nodes)) (range l.at (length (func_numbers (drop l.node-index l.nodes)))) ≡ same_numbers (func_numbers l.nodes) (range l.from (length (func_numbers l.nodes)))
