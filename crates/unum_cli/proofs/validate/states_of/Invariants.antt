use Rattle.std.proofs.Common.{◌≡◌, ◌+◌, drop, sum_by}
use Rattle.unum_cli.specs.Valid.{states_in}
use Rattle.unum_cli.proofs.validate.states_of.Given as goal

abbrev pub invariant-loop-machine : goal.invariant-loop-machine
invariant-loop-machine l = sum_by states_in l.machines ≡ l.total + sum_by states_in (drop l.machine-index l.machines)
