use Rattle.std.proofs.Common.{◌+◌, ◌-◌, ◌∙◌, sym, ap}
use Rattle.unum_ir.specs.Flat.{first_flat}
use Rattle.unum_ir.specs.declared.walks.Step.{Step}
use Rattle.unum_ir.specs.Walk.{step_go}
use Rattle.unum_ir.proofs.WalkLaw.{walk_on}
use Rattle.unum_ir.proofs.walks.first_stop.Goals as goal

pub loop-at-preserved : goal.loop-at-preserved
loop-at-preserved c =
    let ir = c.args.ir.now in
    let at = c.loop-at.at in
    let on = walk_on ir at c.loop-at.label c.loop-at.raw c.loop-at.again c.in_ok-stop.field-0 c.loop-at-test.true c.in_ok-stop.ensures in
    let goes = ap (λ (s : Step). step_go s (λ next w a. first_flat ir (2000 - (at + 1)) next (at + 1) w a)) c.in-Goes.is in
    sym (on ∙ goes) ∙ c.loop-at.invariant
