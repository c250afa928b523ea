use Rattle.std.proofs.Common.{◌≡◌, drop, flat_map}
use Rattle.bundle_read.specs.Bounds.{lost_machine}
use Rattle.bundle_read.proofs.bounds.check_all_calls.Given as goal

abbrev pub invariant-loop-machine : goal.invariant-loop-machine
invariant-loop-machine l = flat_map (lost_machine l.functions) l.machines ≡ flat_map (lost_machine l.functions) (drop l.machine-index l.machines)
