use Rattle.std.proofs.Common.{◌≡◌}
use mathlib.Core.List.{IsPrefix}
use Rattle.seat_lock.specs.Locks.{IsOf}
use Rattle.worker_gate.specs.Turns.{Reached}
use Rattle.worker_gate.proofs.worker.work_in.Given as goal

abbrev pub invariant-loop : goal.invariant-loop
invariant-loop g l = record {
  own : IsOf l.lock l.seat × (l.seat.share ≡ l.fn.seat.share);
  seen : IsPrefix l.fn.seat.seen l.seat.seen;
  turns : Reached (g.E.Engine.picked l.lock.opening) (g.E.Engine.handed l.lock.opening) l.fn.seat.seen l.mine l.seat.seen;
}
