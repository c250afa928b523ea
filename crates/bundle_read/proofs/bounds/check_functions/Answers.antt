use Rattle.std.proofs.Common.{rules, Err, flat_map}
use Rattle.bundle_read.specs.Bounds.{wild_function}
use Rattle.bundle_read.specs.Checked.{Checks}
use Rattle.bundle_read.proofs.Steps.{flat_found}
use Rattle.bundle_read.proofs.bounds.check_functions.Goals as goal

pub returns-in_err-check_every : goal.returns-in_err-check_every
returns-in_err-check_every c =
    let found : Checks (Err c.in_err-check_every.field-0.0) (flat_map wild_function c.args.functions.now)
    = flat_found wild_function _ _ _ _ c.loop-function.invariant c.loop-function-test.true c.function-item.is _ c.in_err-check_every.ensures in
    search rules
