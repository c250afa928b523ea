-- The first and the last block that a name stands in.
use Rattle.std.specs.Prelude.{ℕ, suc, Bool, false, cond, ◌&&◌, ◌==◌, nat_lt, List, [], ◌∷◌, ◌++◌, Option, Some, None}
use Rattle.std.specs.BTreeMap.{BTreeMap, get_by}
use Rattle.std.specs.Borrow.{Bor}
use Rattle.std.specs.Cmp.Lexicographic.{slice_cmp}
use Rattle.std.specs.Ordering.{nat_cmp}
use Rattle.asl_model.specs.declared.validity.VRule.TheVariants.{V3}
use Rattle.asl_model.specs.Data.{Text}
use Rattle.asl_model.specs.Valid.{Broken, broken_in, has_state}
use Rattle.asl_valid.specs.declared.homes.Home.{Home}
use Rattle.asl_valid.specs.Levels.{Roomy}

-- what the map has of a name
abbrev pub home_in : BTreeMap (Bor Text) Home → Text → Option Home
home_in m q = get_by (λ k. slice_cmp nat_cmp q k.now) m

-- the name stands in the block with this index too, which comes after all before
abbrev pub moved : Option Home → ℕ → Home
moved None at = record { first = at; last = at }
moved (Some home) at = record { first = home.first; last = at }

-- where a name stands among blocks that are numbered from an index on
abbrev pub homes_among : Text → ℕ → Option Home → List Roomy → Option Home
homes_among q at home [] = home
homes_among q at home (l ∷ ls) = homes_among q (suc at) (cond (has_state l.0 q) (Some (moved home at)) home) ls

-- the name stands first in the block with this index, and again in a later one
abbrev pub is_shared : Option Home → ℕ → Bool
is_shared None at = false
is_shared (Some home) at = (home.first == at) && nat_lt at home.last

-- the names of blocks, numbered from an index on, that are so
abbrev pub shared_among : (Text → Option Home) → ℕ → List Roomy → Broken
shared_among homes at [] = []
shared_among homes at (l ∷ ls) = broken_in V3 (λ r. is_shared (homes r.0) at) l.0 ++ shared_among homes (suc at) ls
