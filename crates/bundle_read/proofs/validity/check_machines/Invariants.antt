use Rattle.std.proofs.Common.{◌≡◌, drop, flat_map}
use Rattle.bundle_read.specs.Bounds.{broken_machine}
use Rattle.bundle_read.proofs.validity.check_machines.Given as goal

abbrev pub invariant-loop-machine : goal.invariant-loop-machine
invariant-loop-machine l = flat_map broken_machine l.machines ≡ flat_map broken_machine (drop l.machine-index l.machines)
