-- The members of an object, once each was read.
use Rattle.std.specs.Prelude.{List, [], ◌∷◌, Option, Some, None}
use Rattle.std.specs.Ordering.{nat_cmp, match_ordering}
use Rattle.std.specs.Cmp.Lexicographic.{slice_cmp}
use Rattle.asl_read.specs.Objects.{Key}

-- what was read at a key
abbrev pub find : {A : Type 0} → Key → List (Key × A) → Option A
find k [] = None
find k (m ∷ ms) = match_ordering (slice_cmp nat_cmp k m.0) (find k ms) (Some m.1) (find k ms)
