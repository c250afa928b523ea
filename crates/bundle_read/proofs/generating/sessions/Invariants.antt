use Rattle.std.proofs.Common.{◌≡◌, map}
use Rattle.std.specs.List.{range_with_len}
use Rattle.bundle_read.specs.Generated.{session}
use Rattle.bundle_read.proofs.generating.sessions.Given as goal

abbrev pub invariant-loop-i : goal.invariant-loop-i
invariant-loop-i l = l.sessions ≡ map session (range_with_len 0 l.i)
