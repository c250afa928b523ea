use Rattle.std.proofs.Common.{◌≡◌, map}
use Rattle.bundle_read.specs.Accepted.{session_of}
use Rattle.bundle_read.proofs.read.sessions_of.Given as goal

abbrev pub invariant-loop-session : goal.invariant-loop-session
invariant-loop-session l = l.found ≡ map (session_of l.machines) l.yielded
