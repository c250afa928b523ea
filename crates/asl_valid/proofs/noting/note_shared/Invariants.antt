use Rattle.std.proofs.Common.{◌≡◌, ◌++◌, drop}
use Rattle.asl_valid.specs.Homes.{home_in, shared_among}
use Rattle.asl_valid.specs.Levels.{levels_of}
use Rattle.asl_valid.proofs.noting.note_shared.Given as goal

abbrev pub invariant-loop-at : goal.invariant-loop-at
invariant-loop-at l =
    l.found ++ shared_among (home_in l.homes) l.at (levels_of (drop l.at l.levels)) ≡ l.fn.found ++ shared_among (home_in l.homes) 0 (levels_of l.levels)
