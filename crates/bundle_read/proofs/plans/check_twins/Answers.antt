use Rattle.std.proofs.Common.{rules, Err}
use Rattle.bundle_read.specs.Bounds.{wild_twins}
use Rattle.bundle_read.specs.Checked.{Checks}
use Rattle.bundle_read.proofs.Steps.{twins_found, twins_next, twins_done}
use Rattle.bundle_read.proofs.plans.check_twins.Goals as goal

pub returns-in_err-low : goal.returns-in_err-low
returns-in_err-low c =
    let found : Checks (Err c.in_err-low.field-0.0) (wild_twins 0 0 c.args.twins.now)
    = twins_found (wild_twins 0 0 c.args.twins.now) c.args.twins.now c.loop-i.low c.loop-i.i c.loop-i.invariant c.loop-i-test.true c.in_err-low.field-0.0 c.in_err-low.ensures in
    search rules

pub loop-i-preserved : goal.loop-i-preserved
loop-i-preserved c =
    twins_next (wild_twins 0 0 c.args.twins.now) c.args.twins.now c.loop-i.low c.loop-i.i c.loop-i.invariant c.loop-i-test.true c.in_ok-low.low c.in_ok-low.ensures

pub returns : goal.returns
returns c = twins_done _ _ _ _ c.loop-i.invariant c.loop-i-test.false
