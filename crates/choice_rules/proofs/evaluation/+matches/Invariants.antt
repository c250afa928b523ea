use Rattle.std.proofs.Common.{◌≡◌, map, drop}
use Rattle.choice_rules.specs.Evaluating.{all_hold, some_holds, matches_in}
use Rattle.choice_rules.proofs.evaluation.+matches.Given as goal

abbrev pub invariant-all_match-loop-rule : goal.invariant-all_match-loop-rule
invariant-all_match-loop-rule l = all_hold (map (matches_in l.value) l.rules) ≡ all_hold (map (matches_in l.value) (drop l.rule-index l.rules))

abbrev pub invariant-some_matches-loop-rule : goal.invariant-some_matches-loop-rule
invariant-some_matches-loop-rule l = some_holds (map (matches_in l.value) l.rules) ≡ some_holds (map (matches_in l.value) (drop l.rule-index l.rules))
