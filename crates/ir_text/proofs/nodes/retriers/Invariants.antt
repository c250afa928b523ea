use Rattle.std.proofs.Common.{◌≡◌, map, take}
use Rattle.ir_text.specs.Printed.{retrier_value}
use Rattle.ir_text.proofs.nodes.retriers.Given as goal

abbrev pub invariant-loop-retrier : goal.invariant-loop-retrier
invariant-loop-retrier l = l.values ≡ map retrier_value (take l.retrier-index l.retrier-items)
