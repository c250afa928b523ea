use Rattle.std.proofs.Common.{◌≡◌, drop}
use Rattle.bundle_read.specs.Bounds.{wild_twins}
use Rattle.bundle_read.proofs.plans.check_twins.Given as goal

abbrev pub invariant-loop-i : goal.invariant-loop-i
invariant-loop-i l = wild_twins 0 0 l.twins ≡ wild_twins l.low l.i (drop l.i l.twins)
