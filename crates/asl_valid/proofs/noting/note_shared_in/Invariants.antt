use Rattle.std.proofs.Common.{◌≡◌, ◌++◌, map, filter, drop}
use Rattle.asl_model.specs.declared.validity.VRule.TheVariants.{V3}
use Rattle.asl_model.specs.Blocks.{Row}
use Rattle.asl_model.specs.Valid.{names_rule, broken_in}
use Rattle.asl_valid.specs.Homes.{home_in, is_shared}
use Rattle.asl_valid.specs.Levels.{level_of}
use Rattle.asl_valid.proofs.Trees.{row}
use Rattle.asl_valid.proofs.noting.note_shared_in.Given as goal

abbrev pub invariant-loop-row : goal.invariant-loop-row
invariant-loop-row l =
    l.found ++ map (λ (r : Row). names_rule V3 r.0) (filter (λ (r : Row). is_shared (home_in l.homes r.0) l.at) (map row (drop l.row-index l.row-items)))
    ≡ l.fn.found ++ broken_in V3 (λ r. is_shared (home_in l.homes r.0) l.at) (level_of l.level).0
