use Rattle.std.proofs.Common.{◌≡◌, drop}
use Rattle.bundle_read.specs.Bounds.{in_items, lost_session}
use Rattle.bundle_read.proofs.bounds.check_sessions.Given as goal

abbrev pub invariant-loop-i : goal.invariant-loop-i
invariant-loop-i l = in_items (lost_session l.machines) 0 l.sessions ≡ in_items (lost_session l.machines) l.i (drop l.i l.sessions)
