-- A set of numbers: which numbers are in it, by rising number, and how many numbers it has room for.
use Rattle.std.specs.Prelude.{ℕ, zero, suc, ◌+◌, ◌*◌, ◌<◌, ◌≤◌, ◌≡◌, Bool, true, false, List, [], ◌∷◌, ◌++◌, length, cond, sum, take, slice_get, slice_index, Some}
use Rattle.world_plans.specs.Three.{numbers_from}

-- the numbers in the set, rising, and the room: each number below it can be put in
pub record NumberSet : Type 0 where
  pub numbers : List ℕ
  pub room : ℕ

-- a number is in the set where its flag says so
abbrev pub by_flag : ℕ → Bool → Bool
by_flag k b = b

-- the set of these flags
abbrev pub set_of : List Bool → NumberSet
set_of flags = record { numbers = numbers_from by_flag 0 flags; room = length flags }

-- how many of the first so many numbers are in the set
unfoldable pub rank : (first : ℕ) → List Bool → ℕ
rank zero flags = 0
rank (suc i) [] = 0
rank (suc i) (b ∷ flags) = cond b 1 0 + rank i flags

-- numbers in blocks of that width, and how many of each block are in the set
pub record AreCounts (width : ℕ) (flags : List Bool) (counts : List ℕ) : Type 0 where
  pub cover : length flags ≤ length counts * width
  pub at : (block : ℕ) → block < length counts → rank (block * width) flags + slice_index counts block ≡ rank (block * width + width) flags

-- a count and a number below it: so many numbers are before it as there are before the count `from`, and `left` more
abbrev pub IsCountAt : (counts : List ℕ) → (from left : ℕ) → (ℕ × ℕ) → Type 0
IsCountAt counts from left r =
    (r.0 < length counts) × (r.1 < slice_index counts r.0) × (sum (take r.0 counts) + r.1 ≡ sum (take from counts) + left)

-- a flag that is set: so many are set before it as there are before the flag `from`, and `left` more
abbrev pub IsFlagAt : (flags : List Bool) → (from left : ℕ) → (at : ℕ) → Type 0
IsFlagAt flags from left at = (slice_get flags at ≡ Some true) × (rank at flags ≡ rank from flags + left)

-- counts of so many flags, whatever they are, become counts of these and one more, which is not set
abbrev pub Covers : (width number : ℕ) → (old new : List ℕ) → Type 0
Covers width number old new =
    (flags : List Bool) → length flags ≡ number → AreCounts width flags old → AreCounts width (flags ++ false ∷ []) new

-- the numbers in the set are counted: all of them, those of each 256 numbers, and those of each 65,536
pub record IsCountedSet (flags : List Bool) (blocks wide : List ℕ) (len : ℕ) : Type 0 where
  pub fits : length flags ≤ 4294967295
  pub len_is : len ≡ rank (length flags) flags
  pub blocks_are : AreCounts 256 flags blocks
  pub wide_are : AreCounts 65536 flags wide

-- a set has the numbers of the elements that a test takes, and room for each element
pub record IsNumbered {A : Type 0} (test : ℕ → A → Bool) (xs : List A) (s : NumberSet) : Type 0 where
  pub numbers_are : s.numbers ≡ numbers_from test 0 xs
  pub room_is : s.room ≡ length xs
