use Rattle.std.proofs.Common.{◌≡◌}
use Rattle.invoke_queue.proofs.tests.every_third.Given as goal

abbrev pub invariant-loop-number : goal.invariant-loop-number
invariant-loop-number l = l.numbers.room ≡ l.number
