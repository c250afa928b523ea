use Rattle.std.proofs.Common.{◌≡◌, ◌++◌, flat_map, drop}
use Rattle.asl_valid.specs.Levels.{levels_of}
use Rattle.asl_valid.specs.Rules.{pairs_of}
use Rattle.asl_valid.proofs.noting.note_rules.Given as goal

abbrev pub invariant-loop-rule : goal.invariant-loop-rule
invariant-loop-rule l = l.found ++ flat_map (pairs_of (levels_of l.levels)) (drop l.rule-index l.rules) ≡ l.fn.found ++ flat_map (pairs_of (levels_of l.levels)) l.rules
