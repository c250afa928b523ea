-- The flags of a bitmap in words of 64 bits.
use Rattle.std.specs.Prelude.{◌≡◌, ℕ, suc, ◌/◌, ◌%◌, ◌≤◌, Bool, true, false, List, [], ◌∷◌, length, map, nat_eq, slice_index}
use Rattle.std.specs.List.{range_with_len}
use Rattle.std.specs.Int.{bit_at}
use Rattle.place_name.specs.declared.limits.TheConstants.{MOST_BRANCHES}
use Rattle.fanin_bitmap.specs.declared.bitmap.TheConstants.{WORDS}

-- the bit with that index, 64 to a word
unfoldable pub bit_in : List ℕ → ℕ → Bool
bit_in words index = nat_eq (bit_at (slice_index words (index / 64)) (index % 64)) 1

-- a flag for each of the first bits
unfoldable pub flags_in : List ℕ → (count : ℕ) → List Bool
flags_in words count = map (bit_in words) (range_with_len 0 count)

-- how many flags are set
abbrev pub set_flags : List Bool → ℕ
set_flags [] = 0
set_flags (true ∷ bs) = suc (set_flags bs)
set_flags (false ∷ bs) = set_flags bs

-- a bitmap of so many flags, of which so many are set
pub record Keeps (words : List ℕ) (count set : ℕ) : Type 0 where
  pub words_len : length words ≡ WORDS
  pub within : count ≤ MOST_BRANCHES
  pub set_is : set ≡ set_flags (flags_in words count)
