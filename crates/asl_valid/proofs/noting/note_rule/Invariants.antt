use Rattle.std.proofs.Common.{◌≡◌, ◌++◌, drop}
use Rattle.asl_valid.specs.Levels.{levels_of}
use Rattle.asl_valid.specs.Rules.{pairs_of}
use Rattle.asl_valid.proofs.noting.note_rule.Given as goal

abbrev pub invariant-loop-level : goal.invariant-loop-level
invariant-loop-level l = l.found ++ pairs_of (levels_of (drop l.level-index l.levels)) l.rule ≡ l.fn.found ++ pairs_of (levels_of l.levels) l.rule
