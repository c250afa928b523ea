use Rattle.std.proofs.Common.{◌≡◌, ◌++◌, flat_map, drop}
use Rattle.asl_valid.specs.Levels.{levels_of}
use Rattle.asl_valid.specs.Rules.{bad_start}
use Rattle.asl_valid.proofs.noting.note_starts.Given as goal

abbrev pub invariant-loop-level : goal.invariant-loop-level
invariant-loop-level l = l.found ++ flat_map bad_start (levels_of (drop l.level-index l.levels)) ≡ l.fn.found ++ flat_map bad_start (levels_of l.levels)
