use Rattle.std.proofs.Common.{◌≡◌, drop, map}
use Rattle.asl_model.specs.declared.machine.TopRule.{TopRule}
use Rattle.central_model.specs.Kinds.{next_from, next_state}
use Rattle.central_model.proofs.rules.choose_next.Given as goal

abbrev pub invariant-loop-rule : goal.invariant-loop-rule
invariant-loop-rule l =
    next_from l.rule-index (map (λ (r : TopRule). r.rule) (drop l.rule-index l.rule-items)) l.rules l.default l.value ≡ next_state l.rules l.default l.value
