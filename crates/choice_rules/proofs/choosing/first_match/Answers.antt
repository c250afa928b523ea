use Rattle.std.proofs.Common.{Ok, sym, ap, ◌∙◌}
use Rattle.choice_rules.proofs.Tries.{rule_tried}
use Rattle.choice_rules.specs.Evaluating.{matches}
use Rattle.choice_rules.proofs.choosing.first_match.Goals as goal

pub returns-then-branch-clause-choice : goal.returns-then-branch-clause-choice
returns-then-branch-clause-choice g c =
    sym (c.loop-i.invariant ∙ rule_tried g.T.HasRule.rule_of c.args.list.now c.args.value.now c.loop-i.i c.index-list-i.result _ c.loop-i-test.true c.index-list-i.is
    (ap (λ b. Ok b) (sym c.if-branch.true) ∙ c.in_ok-matches.ensures ∙ ap (λ r. matches r c.args.value.now) c.rule.ensures))

pub loop-i-preserved : goal.loop-i-preserved
loop-i-preserved g c =
    c.loop-i.invariant ∙ rule_tried g.T.HasRule.rule_of c.args.list.now c.args.value.now c.loop-i.i c.index-list-i.result _ c.loop-i-test.true c.index-list-i.is
    (ap (λ b. Ok b) (sym c.if-branch.false) ∙ c.in_ok-matches.ensures ∙ ap (λ r. matches r c.args.value.now) c.rule.ensures)
