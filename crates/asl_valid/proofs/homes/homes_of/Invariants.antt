use Rattle.std.proofs.Common.{◌≡◌, ℕ, List, None, drop}
use Rattle.asl_valid.specs.Homes.{home_in, homes_among}
use Rattle.asl_valid.specs.Levels.{levels_of}
use Rattle.asl_valid.proofs.homes.homes_of.Given as goal

abbrev pub invariant-loop-at : goal.invariant-loop-at
invariant-loop-at l =
    (q : List ℕ) → homes_among q l.at (home_in l.homes q) (levels_of (drop l.at l.levels)) ≡ homes_among q 0 None (levels_of l.levels)
