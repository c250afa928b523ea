use Rattle.std.proofs.Common.{◌≡◌, map, take}
use Rattle.continuation_gen.specs.Numbering.{number_rule}
use Rattle.continuation_gen.specs.Filling.{number_in}
use Rattle.continuation_gen.proofs.ops.number_rules.Given as goal

abbrev pub invariant-loop-rule : goal.invariant-loop-rule
invariant-loop-rule l = l.numbered ≡ map (number_rule (number_in l.spot)) (take l.rule-index l.rule-items)
