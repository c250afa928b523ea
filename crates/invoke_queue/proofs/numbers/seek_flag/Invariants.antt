use Rattle.std.proofs.Common.{◌≡◌, ◌+◌}
use Rattle.invoke_queue.specs.Numbers.{rank}
use Rattle.invoke_queue.proofs.numbers.seek_flag.Given as goal

abbrev pub invariant-loop-at : goal.invariant-loop-at
invariant-loop-at l = rank l.at l.flags + l.rest ≡ rank l.from l.flags + l.left
