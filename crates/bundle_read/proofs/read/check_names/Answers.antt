use Rattle.std.proofs.Common.{rules, Err}
use Rattle.bundle_read.specs.Bounds.{broken_names, lost_machines, lost_sessions}
use Rattle.bundle_read.specs.Checked.{Checks}
use Rattle.bundle_read.proofs.Steps.{front, later}
use Rattle.bundle_read.proofs.read.check_names.Goals as goal

pub returns-in_err-check_sessions : goal.returns-in_err-check_sessions
returns-in_err-check_sessions c =
    let found : Checks (Err c.in_err-check_sessions.field-0.0) (broken_names c.args.functions.now c.args.machines.now c.args.sessions.now) = front c.in_err-check_sessions.field-0.0 (lost_sessions c.args.machines.now c.args.sessions.now) (lost_machines c.args.functions.now c.args.machines.now) c.in_err-check_sessions.ensures in
    search rules

pub returns : goal.returns
returns c = later c.check_all_calls.result (lost_sessions c.args.machines.now c.args.sessions.now) (lost_machines c.args.functions.now c.args.machines.now) c.in_ok-check_sessions.ensures (c.check_all_calls.ensures)
