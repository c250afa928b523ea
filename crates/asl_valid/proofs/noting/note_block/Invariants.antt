use Rattle.std.proofs.Common.{◌≡◌, ◌++◌, map, filter, drop}
use Rattle.asl_model.specs.Blocks.{Row}
use Rattle.asl_model.specs.Valid.{names_rule}
use Rattle.asl_valid.specs.Levels.{level_of}
use Rattle.asl_valid.specs.Rules.{breaks, pairs_in}
use Rattle.asl_valid.proofs.Trees.{row}
use Rattle.asl_valid.proofs.noting.note_block.Given as goal

abbrev pub invariant-loop-row : goal.invariant-loop-row
invariant-loop-row l =
    l.found ++ map (λ (r : Row). names_rule l.rule r.0) (filter (breaks l.rule (level_of l.level)) (map row (drop l.row-index l.row-items)))
    ≡ l.fn.found ++ pairs_in l.rule (level_of l.level)
