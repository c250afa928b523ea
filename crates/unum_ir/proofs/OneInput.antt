-- One of the inputs of a fan.
use Rattle.std.proofs.Common.{Bor, ◌≡◌, ℕ, zero, suc, ◌-◌, ◌^◌, min, ◌<◌, ◌≤◌, nat_le, List, length, Bool, true, false, if◌then◌else◌, Option, Some, None, Result, Ok, Err, slice_get, refl, sym, ap, ◌∙◌, arith}
use Rattle.std.proofs.lemmas.Bool.Decides.{nat_tests}
use Rattle.unum_json.specs.declared.value.Json as json
use Rattle.unum_json.specs.declared.value.Json.{out-Json}
use Rattle.unum_json.specs.declared.value.Json.TheOpen.{Json-F}
use Rattle.unum_json.specs.declared.kept.Seen.{Seen}
use Rattle.unum_json.specs.declared.kept.Seen.TheVariants as seen
use Rattle.unum_json.specs.Seen.{shape_of}
use Rattle.unum_json.specs.Tree.{nodes}
use Rattle.asl_paths.specs.Lookup.{get}
use Rattle.asl_model.specs.Data.{Text, Json, Path, repeat, and_then, fitting, data_limit, array_in, array_of, few, selected_by, item_limit, item_limit_error, parallel_inputs, map_inputs}
use Rattle.unum_ir.specs.Kinds.{input_at}

one_copy : {X : Type 0} (n i : ℕ) (x : X) → i < n → slice_get (repeat n x) i ≡ Some x
one_copy zero i x lt = absurd (omega arith)
one_copy (suc n) zero x lt = refl
one_copy (suc n) (suc i) x lt = one_copy n i x (omega arith)

no_copy : {X : Type 0} (n i : ℕ) (x : X) → n ≤ i → slice_get (repeat n x) i ≡ None
no_copy zero i x le = refl
no_copy (suc n) zero x le = absurd (omega arith)
no_copy (suc n) (suc i) x le = no_copy n i x (omega arith)

by_test : (b : Bool) (vs : List Json) (index : ℕ) → b ≡ true → input_at index (if b then Ok vs else Err data_limit) ≡ slice_get vs index
by_test true vs index e = refl
by_test false vs index e = absurd (cc)

pub fits : (vs : List Json) (index : ℕ) → nat_le (nodes (json.Arr vs)) 200000 ≡ true → input_at index (fitting vs) ≡ slice_get vs index
fits vs index e = by_test (nat_le (nodes (json.Arr vs)) 200000) vs index e

by_refusal : (b : Bool) (vs : List Json) (index : ℕ) → b ≡ false → input_at index (if b then Ok vs else Err data_limit) ≡ None
by_refusal true vs index e = absurd (cc)
by_refusal false vs index e = refl

pub fits_not : (vs : List Json) (index : ℕ) → nat_le (nodes (json.Arr vs)) 200000 ≡ false → input_at index (fitting vs) ≡ None
fits_not vs index e = by_refusal (nat_le (nodes (json.Arr vs)) 200000) vs index e

past : (b : Bool) (vs : List Json) (index : ℕ) → slice_get vs index ≡ None → input_at index (if b then Ok vs else Err data_limit) ≡ None
past true vs index e = e
past false vs index e = refl

fits_or_not : (vs : List Json) (index : ℕ) → slice_get vs index ≡ None → input_at index (fitting vs) ≡ None
fits_or_not vs index e = past (nat_le (nodes (json.Arr vs)) 200000) vs index e

-- ---- the items of a Map as they are

abbrev after_array : ℕ → Result (List Json) Text → Option Json
after_array index found = input_at index (and_then found (λ vs. and_then (few vs) (λ vs. and_then (selected_by None json.Null vs) (λ inputs. fitting inputs))))

own : (items : Path) (x : Json) (found : Option Json) (index : ℕ) → get items x ≡ found → input_at index (map_inputs items None x) ≡ after_array index (array_in found)
unfolding map_inputs
own items x found index e = ap (λ f. after_array index (array_in f)) e

pub no_item : (items : Path) (x : Json) (index : ℕ) → get items x ≡ None → input_at index (map_inputs items None x) ≡ None
no_item items x index e = own items x None index e

no_list : (s : Seen) → ((vs : Bor (List Json)) → s ≡ seen.Arr vs → ⊥) → array_of (shape_of s) ≡ array_of Json-F.Null
no_list seen.Null other = refl
no_list (seen.Bool b) other = refl
no_list (seen.Int i) other = refl
no_list (seen.Str t) other = refl
no_list (seen.Arr vs) other = absurd (other vs refl)
no_list (seen.Obj fs) other = refl

pub no_array : (items : Path) (x v : Json) (s : Seen) (index : ℕ) → get items x ≡ Some v → out-Json v ≡ shape_of s → ((vs : Bor (List Json)) → s ≡ seen.Arr vs → ⊥) → input_at index (map_inputs items None x) ≡ None
no_array items x v s index e is other = own items x (Some v) index e ∙ ap (after_array index) (ap array_of is ∙ no_list s other)

few_by : (b : Bool) (vs : List Json) (index : ℕ) (to : Option Json) → (b ≡ true → input_at index (fitting vs) ≡ to) → (b ≡ false → to ≡ None)
    → input_at index (and_then (if b then Ok vs else Err item_limit_error) (λ vs. and_then (selected_by None json.Null vs) (λ inputs. fitting inputs))) ≡ to
few_by true vs index to short long = short refl
few_by false vs index to short long = sym (long refl)

-- an array, by whether it is short and small
pub of_array : (items : Path) (x v : Json) (vs : List Json) (index : ℕ) (to : Option Json) → get items x ≡ Some v → out-Json v ≡ Json-F.Arr vs → (nat_le (length vs) 1000 ≡ true → input_at index (fitting vs) ≡ to)
    → (nat_le (length vs) 1000 ≡ false → to ≡ None) → input_at index (map_inputs items None x) ≡ to
unfolding item_limit
of_array items x v vs index to e is short long = own items x (Some v) index e ∙ ap (after_array index) (ap array_of is) ∙ few_by (nat_le (length vs) item_limit) vs index to short long

pub no_parallel : (n index : ℕ) (x : Json) → n ≤ index → input_at index (parallel_inputs n x) ≡ None
unfolding parallel_inputs
no_parallel n index x past = fits_or_not (repeat n x) index (no_copy n index x past)

pub large_parallel : (n index : ℕ) (x : Json) → nat_le (nodes (json.Arr (repeat n x))) 200000 ≡ false → input_at index (parallel_inputs n x) ≡ None
unfolding parallel_inputs
large_parallel n index x large = fits_not (repeat n x) index large

pub one_parallel : (n index : ℕ) (x : Json) → index < n → nat_le (nodes (json.Arr (repeat n x))) 200000 ≡ true → input_at index (parallel_inputs n x) ≡ Some x
unfolding parallel_inputs
one_parallel n index x lt small = fits (repeat n x) index small ∙ one_copy n index x lt

pub le_true : (a b : ℕ) → a ≤ b → nat_le a b ≡ true
le_true a b h = grind (arith, nat_tests)

pub le_false : (a b : ℕ) → b < a → nat_le a b ≡ false
le_false a b h = grind (arith, nat_tests)

-- the same of the count that a value keeps
pub large_array : (v : Json) (vs : List Json) (n : ℕ) → v ≡ json.Arr vs → n ≡ min (nodes v) (2 ^ 64 - 1) → 200000 < n → nat_le (nodes (json.Arr vs)) 200000 ≡ false
large_array v vs n same e over = le_false (nodes (json.Arr vs)) 200000 (let is : nodes v ≡ nodes (json.Arr vs) = ap nodes same in omega (arith, is, e, over))

pub small_array : (v : Json) (vs : List Json) (n : ℕ) → v ≡ json.Arr vs → n ≡ min (nodes v) (2 ^ 64 - 1) → n ≤ 200000 → nat_le (nodes (json.Arr vs)) 200000 ≡ true
small_array v vs n same e few = le_true (nodes (json.Arr vs)) 200000 (let is : nodes v ≡ nodes (json.Arr vs) = ap nodes same in omega (arith, is, e, few))
