use Rattle.std.proofs.Common.{◌≡◌, map}
use Rattle.bundle_read.specs.Bounds.{pair_of}
use Rattle.bundle_read.proofs.validity.pairs_of.Given as goal

abbrev pub invariant-loop-rule : goal.invariant-loop-rule
invariant-loop-rule l = l.pairs ≡ map (pair_of l.name) l.yielded
