use Rattle.std.proofs.Common.{rules, Err, ◌++◌}
use Rattle.bundle_read.specs.Bounds.{broken_machines, broken_names, broken_numbers, broken_parts, broken_sizes}
use Rattle.bundle_read.specs.Checked.{Checks}
use Rattle.bundle_read.proofs.Steps.{front, later}
use Rattle.bundle_read.proofs.read.check_parts.Goals as goal

pub returns-in_err-check_machines : goal.returns-in_err-check_machines
returns-in_err-check_machines c =
    let found : Checks (Err c.in_err-check_machines.field-0.0) (broken_parts c.args.functions.now c.args.machines.now c.args.sessions.now c.args.plan.now) = front c.in_err-check_machines.field-0.0 (broken_machines c.args.machines.now) (broken_names c.args.functions.now c.args.machines.now c.args.sessions.now ++ (broken_sizes c.args.functions.now c.args.sessions.now ++ (broken_numbers c.args.functions.now c.args.plan.now))) c.in_err-check_machines.ensures in
    search rules

pub returns-in_err-check_names : goal.returns-in_err-check_names
returns-in_err-check_names c =
    let found : Checks (Err c.in_err-check_names.field-0.0) (broken_parts c.args.functions.now c.args.machines.now c.args.sessions.now c.args.plan.now) = later (Err c.in_err-check_names.field-0.0) (broken_machines c.args.machines.now) (broken_names c.args.functions.now c.args.machines.now c.args.sessions.now ++ (broken_sizes c.args.functions.now c.args.sessions.now ++ (broken_numbers c.args.functions.now c.args.plan.now))) c.in_ok-check_machines.ensures (front c.in_err-check_names.field-0.0 (broken_names c.args.functions.now c.args.machines.now c.args.sessions.now) (broken_sizes c.args.functions.now c.args.sessions.now ++ (broken_numbers c.args.functions.now c.args.plan.now)) c.in_err-check_names.ensures) in
    search rules

pub returns-in_err-check_sizes : goal.returns-in_err-check_sizes
returns-in_err-check_sizes c =
    let found : Checks (Err c.in_err-check_sizes.field-0.0) (broken_parts c.args.functions.now c.args.machines.now c.args.sessions.now c.args.plan.now) = later (Err c.in_err-check_sizes.field-0.0) (broken_machines c.args.machines.now) (broken_names c.args.functions.now c.args.machines.now c.args.sessions.now ++ (broken_sizes c.args.functions.now c.args.sessions.now ++ (broken_numbers c.args.functions.now c.args.plan.now))) c.in_ok-check_machines.ensures (later (Err c.in_err-check_sizes.field-0.0) (broken_names c.args.functions.now c.args.machines.now c.args.sessions.now) (broken_sizes c.args.functions.now c.args.sessions.now ++ (broken_numbers c.args.functions.now c.args.plan.now)) c.in_ok-check_names.ensures (front c.in_err-check_sizes.field-0.0 (broken_sizes c.args.functions.now c.args.sessions.now) (broken_numbers c.args.functions.now c.args.plan.now) c.in_err-check_sizes.ensures)) in
    search rules

pub returns : goal.returns
returns c = later c.check_numbers.result (broken_machines c.args.machines.now) (broken_names c.args.functions.now c.args.machines.now c.args.sessions.now ++ (broken_sizes c.args.functions.now c.args.sessions.now ++ (broken_numbers c.args.functions.now c.args.plan.now))) c.in_ok-check_machines.ensures (later c.check_numbers.result (broken_names c.args.functions.now c.args.machines.now c.args.sessions.now) (broken_sizes c.args.functions.now c.args.sessions.now ++ (broken_numbers c.args.functions.now c.args.plan.now)) c.in_ok-check_names.ensures (later c.check_numbers.result (broken_sizes c.args.functions.now c.args.sessions.now) (broken_numbers c.args.functions.now c.args.plan.now) c.in_ok-check_sizes.ensures (c.check_numbers.ensures)))
