use Rattle.std.proofs.Common.{rules, Err, flat_map}
use Rattle.bundle_read.specs.Bounds.{broken_machine}
use Rattle.bundle_read.specs.Checked.{Checks}
use Rattle.bundle_read.proofs.Steps.{flat_found}
use Rattle.bundle_read.proofs.validity.check_machines.Goals as goal

pub returns-in_err-check_machine : goal.returns-in_err-check_machine
returns-in_err-check_machine c =
    let found : Checks (Err c.in_err-check_machine.field-0.0) (flat_map broken_machine c.args.machines.now)
    = flat_found broken_machine _ _ _ _ c.loop-machine.invariant c.loop-machine-test.true c.machine-item.is _ c.in_err-check_machine.ensures in
    search rules
