use Rattle.std.proofs.Common.{rules, Err}
use Rattle.bundle_read.specs.Bounds.{in_items, large_input}
use Rattle.bundle_read.specs.Checked.{Checks}
use Rattle.bundle_read.proofs.Steps.{items_found, items_next, items_done}
use Rattle.bundle_read.proofs.bounds.check_inputs.Goals as goal

pub returns-in_err-check_input : goal.returns-in_err-check_input
returns-in_err-check_input c =
    let found : Checks (Err c.in_err-check_input.field-0.0) (in_items large_input 0 c.args.sessions.now)
    = items_found large_input _ _ _ _ c.loop-i.invariant c.loop-i-test.true c.index-sessions-i.is _ c.in_err-check_input.ensures in
    search rules

pub loop-i-preserved : goal.loop-i-preserved
loop-i-preserved c = items_next large_input _ _ _ _ c.loop-i.invariant c.loop-i-test.true c.index-sessions-i.is c.in_ok-check_input.ensures

pub returns : goal.returns
returns c = items_done large_input _ _ _ c.loop-i.invariant c.loop-i-test.false
