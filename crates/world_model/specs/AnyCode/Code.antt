-- What the program of an instance asks of the code that instances run, and what a bitmap is.
use Rattle.std.specs.Prelude.{ℕ, zero, suc, Bool, true, false, ◌&&◌, nat_eq, cond, List, [], ◌∷◌, slice_set, Option}
pub use Rattle.unum_json.specs.declared.value.Json.{Json, Null}
pub use Rattle.unum_json.specs.declared.outcome.Outcome.{Outcome}
pub use Rattle.unum_json.specs.declared.outcome.Outcome.TheVariants.{Done, Failed}
pub use Rattle.world_types.specs.declared.stop.Stop.{Stop}
pub use Rattle.world_types.specs.declared.stop.Stop.TheVariants.{Call, Fan, Over}

-- a text as its bytes
abbrev pub Text : Type 0
Text = List ℕ

-- how often each retrier of a state was taken
abbrev pub Used : Type 0
Used = List ℕ

-- Code by its sites: an Enter, a Task or a Join each. Where the scope stops after the answer of a site at a hop; what a Task
-- calls; the Join of the fan around a site's scope; the Enter of a site's scope; and of a Join, how many branches may run at
-- once (0 for any number), the input of a branch by the fan's raw data, and what the branches' outcomes come to.
-- Source: Amazon States Language, Task State, Parallel State, and Map State (MaxConcurrency).
pub record Code (S : Type 0) : Type 0 where
  pub after : S → (hop : ℕ) → (raw : Json) → Used → Outcome → Stop S
  pub call_of : S → (raw : Json) → Option (Text × Json)
  pub join_around : S → Option S
  pub enter_of : S → S
  pub width : S → ℕ
  pub input_of : S → (index : ℕ) → (raw : Json) → Option Json
  pub combine : S → List Outcome → Outcome

-- Bitmaps: one without a bit, one with one more bit, and whether each bit below the count is there
pub record Bitmaps (B : Type 0) : Type 0 where
  pub none : (count : ℕ) → B
  pub set : (index : ℕ) → B → B
  pub is_full : (count : ℕ) → B → Bool

-- that index is in the list
abbrev pub has_bit : ℕ → List ℕ → Bool
has_bit n [] = false
has_bit n (i ∷ is) = cond (nat_eq n i) true (has_bit n is)

-- each index below the number is there
abbrev pub has_all : ℕ → List ℕ → Bool
has_all zero is = true
has_all (suc n) is = has_bit n is && has_all n is

-- a bitmap as the list of its bits, the last that was set first
abbrev pub in_order : Bitmaps (List ℕ)
in_order = record { none = λ count. []; set = λ index is. index ∷ is; is_full = has_all }

-- that many flags, none set
abbrev pub no_flags : ℕ → List Bool
no_flags zero = []
no_flags (suc n) = false ∷ no_flags n

-- each flag is set
abbrev pub all_set : List Bool → Bool
all_set [] = true
all_set (b ∷ bs) = b && all_set bs

-- a bitmap as a flag for each branch
abbrev pub flags : Bitmaps (List Bool)
flags = record { none = no_flags; set = λ index bs. slice_set bs index true; is_full = λ count bs. all_set bs }
