use Rattle.std.proofs.Common.{◌≡◌, drop}
use Rattle.bundle_read.specs.Bounds.{wild_script}
use Rattle.bundle_read.proofs.plans.check_script.Given as goal

abbrev pub invariant-loop-i : goal.invariant-loop-i
invariant-loop-i l = wild_script 0 0 l.script ≡ wild_script l.low l.i (drop l.i l.script)
