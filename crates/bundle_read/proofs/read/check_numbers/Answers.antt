use Rattle.std.proofs.Common.{rules, Err, flat_map}
use Rattle.bundle_read.specs.Bounds.{broken_numbers, wild_function, wild_plan}
use Rattle.bundle_read.specs.Checked.{Checks}
use Rattle.bundle_read.proofs.Steps.{front, later}
use Rattle.bundle_read.proofs.read.check_numbers.Goals as goal

pub returns-in_err-check_functions : goal.returns-in_err-check_functions
returns-in_err-check_functions c =
    let found : Checks (Err c.in_err-check_functions.field-0.0) (broken_numbers c.args.functions.now c.args.plan.now) = front c.in_err-check_functions.field-0.0 (flat_map wild_function c.args.functions.now) (wild_plan c.args.plan.now) c.in_err-check_functions.ensures in
    search rules

pub returns : goal.returns
returns c = later c.check_plan.result (flat_map wild_function c.args.functions.now) (wild_plan c.args.plan.now) c.in_ok-check_functions.ensures (c.check_plan.ensures)
