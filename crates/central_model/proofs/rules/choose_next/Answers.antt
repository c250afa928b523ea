use Rattle.std.proofs.Common.{Ok, ◌∙◌, sym, ap}
use Rattle.central_model.proofs.Picks.{rule_passed, rule_taken}
use Rattle.central_model.proofs.rules.choose_next.Goals as goal

pub returns-in-Ok-true : goal.returns-in-Ok-true
returns-in-Ok-true c =
    let items = c.as_slice-rule-items.result.now in
    sym c.loop-rule.invariant
    ∙ rule_taken items c.args.rules.now c.args.default.now c.args.value.now c.loop-rule.rule-index c.rule-item.result c.as_slice-rule-items.ensures c.loop-rule-test.true c.rule-item.is (ap (λ b. Ok b) (sym c.in-Ok-true.field-0-test) ∙ c.in-Ok-true.ensures)

pub loop-rule-preserved : goal.loop-rule-preserved
loop-rule-preserved c =
    let items = c.as_slice-rule-items.result.now in
    sym (rule_passed items c.args.rules.now c.args.default.now c.args.value.now c.loop-rule.rule-index c.rule-item.result c.loop-rule-test.true c.rule-item.is (ap (λ b. Ok b) (sym c.in-Ok-false.field-0-test) ∙ c.in-Ok-false.ensures))
    ∙ c.loop-rule.invariant
