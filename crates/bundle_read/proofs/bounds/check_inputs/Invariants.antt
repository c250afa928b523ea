use Rattle.std.proofs.Common.{◌≡◌, drop}
use Rattle.bundle_read.specs.Bounds.{in_items, large_input}
use Rattle.bundle_read.proofs.bounds.check_inputs.Given as goal

abbrev pub invariant-loop-i : goal.invariant-loop-i
invariant-loop-i l = in_items large_input 0 l.sessions ≡ in_items large_input l.i (drop l.i l.sessions)
