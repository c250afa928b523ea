use Rattle.std.proofs.Common.{rules, Err}
use Rattle.bundle_read.specs.Bounds.{wild_script}
use Rattle.bundle_read.specs.Checked.{Checks}
use Rattle.bundle_read.proofs.Steps.{script_found, script_next, script_done}
use Rattle.bundle_read.proofs.plans.check_script.Goals as goal

pub returns-in_err-low : goal.returns-in_err-low
returns-in_err-low c =
    let found : Checks (Err c.in_err-low.field-0.0) (wild_script 0 0 c.args.script.now)
    = script_found (wild_script 0 0 c.args.script.now) c.args.script.now c.loop-i.low c.loop-i.i c.index-script-i.result c.loop-i.invariant c.loop-i-test.true c.index-script-i.is c.in_err-low.field-0.0
    (rw c.as_slice.ensures at c.in_err-low.ensures) in
    search rules

pub loop-i-preserved : goal.loop-i-preserved
loop-i-preserved c =
    script_next (wild_script 0 0 c.args.script.now) c.args.script.now c.loop-i.low c.loop-i.i c.index-script-i.result c.loop-i.invariant c.loop-i-test.true c.index-script-i.is c.in_ok-low.low
    (rw c.as_slice.ensures at c.in_ok-low.ensures)

pub returns : goal.returns
returns c = script_done _ _ _ _ c.loop-i.invariant c.loop-i-test.false
