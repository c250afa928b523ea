use Rattle.std.proofs.Common.{◌≡◌, ◌++◌, map, drop}
use Rattle.bundle_read.specs.Accepted.{mishap_of}
use Rattle.bundle_read.proofs.plans.mishaps_of.Given as goal

abbrev pub invariant-loop-item : goal.invariant-loop-item
invariant-loop-item l = map mishap_of l.script ≡ l.mishaps ++ map mishap_of (drop l.item-index l.script)
