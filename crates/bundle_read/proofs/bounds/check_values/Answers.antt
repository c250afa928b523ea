use Rattle.std.proofs.Common.{rules, Err, flat_map}
use Rattle.bundle_read.specs.Bounds.{large_value}
use Rattle.bundle_read.specs.Checked.{Checks}
use Rattle.bundle_read.proofs.Steps.{flat_found}
use Rattle.bundle_read.proofs.bounds.check_values.Goals as goal

pub returns-in_err-check_value : goal.returns-in_err-check_value
returns-in_err-check_value c =
    let found : Checks (Err c.in_err-check_value.field-0.0) (flat_map large_value c.args.functions.now)
    = flat_found large_value _ _ _ _ c.loop-function.invariant c.loop-function-test.true c.function-item.is _ c.in_err-check_value.ensures in
    search rules
