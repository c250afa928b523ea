use Rattle.std.proofs.Common.{◌≡◌, map, drop}
use Rattle.choice_rules.specs.Evaluating.{choose_from}
use Rattle.choice_rules.proofs.choosing.first_match.Given as goal

abbrev pub invariant-loop-i : goal.invariant-loop-i
invariant-loop-i g l = choose_from 0 (map g.T.HasRule.rule_of l.list) l.value ≡ choose_from l.i (map g.T.HasRule.rule_of (drop l.i l.list)) l.value
