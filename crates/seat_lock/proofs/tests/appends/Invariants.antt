use Rattle.std.proofs.Common.{◌≡◌}
use Rattle.seat_lock.specs.Locks.{IsOf}
use Rattle.seat_lock.proofs.tests.appends.Given as goal

abbrev pub invariant-loop : goal.invariant-loop
invariant-loop g l = IsOf l.lock l.seat × (l.seat.share ≡ l.fn.seat.share)
