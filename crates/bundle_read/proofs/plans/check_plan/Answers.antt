use Rattle.std.proofs.Common.{rules, Err, ◌++◌, codes}
use Rattle.bundle_read.specs.Bounds.{wild_if, wild_plan, wild_script, wild_twins}
use Rattle.bundle_read.specs.Checked.{Checks}
use Rattle.bundle_read.proofs.Steps.{front, later}
use Rattle.bundle_read.proofs.plans.check_plan.Goals as goal

pub returns-in_err-check_number : goal.returns-in_err-check_number
returns-in_err-check_number c =
    let found : Checks (Err c.in_err-check_number.field-0.0) (wild_plan c.args.plan.now) = front c.in_err-check_number.field-0.0 (wild_if 0 1000 c.args.plan.now.crash (codes "/plan/crash")) (wild_if 0 1000 c.args.plan.now.repeat (codes "/plan/repeat") ++ (wild_script 0 0 c.args.plan.now.script ++ (wild_if 0 65535 c.args.plan.now.seed (codes "/plan/seed") ++ (wild_twins 0 0 c.args.plan.now.twins)))) c.in_err-check_number.ensures in
    search rules

pub returns-in_err-check_number-2 : goal.returns-in_err-check_number-2
returns-in_err-check_number-2 c =
    let found : Checks (Err c.in_err-check_number-2.field-0.0) (wild_plan c.args.plan.now) = later (Err c.in_err-check_number-2.field-0.0) (wild_if 0 1000 c.args.plan.now.crash (codes "/plan/crash")) (wild_if 0 1000 c.args.plan.now.repeat (codes "/plan/repeat") ++ (wild_script 0 0 c.args.plan.now.script ++ (wild_if 0 65535 c.args.plan.now.seed (codes "/plan/seed") ++ (wild_twins 0 0 c.args.plan.now.twins)))) c.in_ok-check_number.ensures (front c.in_err-check_number-2.field-0.0 (wild_if 0 1000 c.args.plan.now.repeat (codes "/plan/repeat")) (wild_script 0 0 c.args.plan.now.script ++ (wild_if 0 65535 c.args.plan.now.seed (codes "/plan/seed") ++ (wild_twins 0 0 c.args.plan.now.twins))) c.in_err-check_number-2.ensures) in
    search rules

pub returns-in_err-check_script : goal.returns-in_err-check_script
returns-in_err-check_script c =
    let found : Checks (Err c.in_err-check_script.field-0.0) (wild_plan c.args.plan.now) = later (Err c.in_err-check_script.field-0.0) (wild_if 0 1000 c.args.plan.now.crash (codes "/plan/crash")) (wild_if 0 1000 c.args.plan.now.repeat (codes "/plan/repeat") ++ (wild_script 0 0 c.args.plan.now.script ++ (wild_if 0 65535 c.args.plan.now.seed (codes "/plan/seed") ++ (wild_twins 0 0 c.args.plan.now.twins)))) c.in_ok-check_number.ensures (later (Err c.in_err-check_script.field-0.0) (wild_if 0 1000 c.args.plan.now.repeat (codes "/plan/repeat")) (wild_script 0 0 c.args.plan.now.script ++ (wild_if 0 65535 c.args.plan.now.seed (codes "/plan/seed") ++ (wild_twins 0 0 c.args.plan.now.twins))) c.in_ok-check_number-2.ensures (front c.in_err-check_script.field-0.0 (wild_script 0 0 c.args.plan.now.script) (wild_if 0 65535 c.args.plan.now.seed (codes "/plan/seed") ++ (wild_twins 0 0 c.args.plan.now.twins)) (rw c.as_slice.ensures at c.in_err-check_script.ensures))) in
    search rules

pub returns-in_err-check_number-3 : goal.returns-in_err-check_number-3
returns-in_err-check_number-3 c =
    let found : Checks (Err c.in_err-check_number-3.field-0.0) (wild_plan c.args.plan.now) = later (Err c.in_err-check_number-3.field-0.0) (wild_if 0 1000 c.args.plan.now.crash (codes "/plan/crash")) (wild_if 0 1000 c.args.plan.now.repeat (codes "/plan/repeat") ++ (wild_script 0 0 c.args.plan.now.script ++ (wild_if 0 65535 c.args.plan.now.seed (codes "/plan/seed") ++ (wild_twins 0 0 c.args.plan.now.twins)))) c.in_ok-check_number.ensures (later (Err c.in_err-check_number-3.field-0.0) (wild_if 0 1000 c.args.plan.now.repeat (codes "/plan/repeat")) (wild_script 0 0 c.args.plan.now.script ++ (wild_if 0 65535 c.args.plan.now.seed (codes "/plan/seed") ++ (wild_twins 0 0 c.args.plan.now.twins))) c.in_ok-check_number-2.ensures (later (Err c.in_err-check_number-3.field-0.0) (wild_script 0 0 c.args.plan.now.script) (wild_if 0 65535 c.args.plan.now.seed (codes "/plan/seed") ++ (wild_twins 0 0 c.args.plan.now.twins)) (rw c.as_slice.ensures at c.in_ok-check_script.ensures) (front c.in_err-check_number-3.field-0.0 (wild_if 0 65535 c.args.plan.now.seed (codes "/plan/seed")) (wild_twins 0 0 c.args.plan.now.twins) c.in_err-check_number-3.ensures))) in
    search rules

pub returns : goal.returns
returns c = later c.check_twins.result (wild_if 0 1000 c.args.plan.now.crash (codes "/plan/crash")) (wild_if 0 1000 c.args.plan.now.repeat (codes "/plan/repeat") ++ (wild_script 0 0 c.args.plan.now.script ++ (wild_if 0 65535 c.args.plan.now.seed (codes "/plan/seed") ++ (wild_twins 0 0 c.args.plan.now.twins)))) c.in_ok-check_number.ensures (later c.check_twins.result (wild_if 0 1000 c.args.plan.now.repeat (codes "/plan/repeat")) (wild_script 0 0 c.args.plan.now.script ++ (wild_if 0 65535 c.args.plan.now.seed (codes "/plan/seed") ++ (wild_twins 0 0 c.args.plan.now.twins))) c.in_ok-check_number-2.ensures (later c.check_twins.result (wild_script 0 0 c.args.plan.now.script) (wild_if 0 65535 c.args.plan.now.seed (codes "/plan/seed") ++ (wild_twins 0 0 c.args.plan.now.twins)) (rw c.as_slice.ensures at c.in_ok-check_script.ensures) (later c.check_twins.result (wild_if 0 65535 c.args.plan.now.seed (codes "/plan/seed")) (wild_twins 0 0 c.args.plan.now.twins) c.in_ok-check_number-3.ensures ((rw c.as_slice-2.ensures at c.check_twins.ensures)))))
