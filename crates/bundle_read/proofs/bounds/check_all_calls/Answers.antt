use Rattle.std.proofs.Common.{rules, Err, flat_map}
use Rattle.bundle_read.specs.Bounds.{lost_machine}
use Rattle.bundle_read.specs.Checked.{Checks}
use Rattle.bundle_read.proofs.Steps.{flat_found}
use Rattle.bundle_read.proofs.bounds.check_all_calls.Goals as goal

pub returns-in_err-check_calls : goal.returns-in_err-check_calls
returns-in_err-check_calls c =
    let found : Checks (Err c.in_err-check_calls.field-0.0) (flat_map (lost_machine c.args.functions.now) c.args.machines.now)
    = flat_found (lost_machine c.args.functions.now) _ _ _ _ c.loop-machine.invariant c.loop-machine-test.true c.machine-item.is _ c.in_err-check_calls.ensures in
    search rules
