use Rattle.std.proofs.Common.{rules, Err}
use Rattle.bundle_read.specs.Bounds.{in_items, lost_session}
use Rattle.bundle_read.specs.Checked.{Checks}
use Rattle.bundle_read.proofs.Steps.{items_found, items_next, items_done}
use Rattle.bundle_read.proofs.bounds.check_sessions.Goals as goal

pub returns-in_err-check_session : goal.returns-in_err-check_session
returns-in_err-check_session c =
    let found : Checks (Err c.in_err-check_session.field-0.0) (in_items (lost_session c.args.machines.now) 0 c.args.sessions.now)
    = items_found (lost_session c.args.machines.now) _ _ _ _ c.loop-i.invariant c.loop-i-test.true c.index-sessions-i.is _ c.in_err-check_session.ensures in
    search rules

pub loop-i-preserved : goal.loop-i-preserved
loop-i-preserved c = items_next (lost_session c.args.machines.now) _ _ _ _ c.loop-i.invariant c.loop-i-test.true c.index-sessions-i.is c.in_ok-check_session.ensures

pub returns : goal.returns
returns c = items_done (lost_session c.args.machines.now) _ _ _ c.loop-i.invariant c.loop-i-test.false
