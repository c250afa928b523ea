use Rattle.std.proofs.Common.{◌≡◌, ◌+◌, sum, take}
use Rattle.invoke_queue.proofs.numbers.seek.Given as goal

abbrev pub invariant-loop-at : goal.invariant-loop-at
invariant-loop-at l = sum (take l.at l.counts) + l.rest ≡ sum (take l.from l.counts) + l.left
