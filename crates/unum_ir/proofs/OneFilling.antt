-- One filling of a Map with an item template, where all of them are made.
use Rattle.std.proofs.Common.{◌≡◌, ℕ, zero, suc, ◌+◌, nat_le, List, [], ◌∷◌, length, Bool, true, false, if◌then◌else◌, Option, Some, None, Result, Ok, Err, slice_get, refl, sym, ap, ◌∙◌, subst, arith}
use Rattle.std.proofs.lemmas.Bool.{false≢true}
use Rattle.std.specs.Prelude.{IsSome}
use Rattle.unum_json.specs.declared.value.Json as json
use Rattle.unum_json.specs.Tree.{nodes}
use Rattle.asl_paths.specs.Lookup.{get}
use Rattle.asl_model.specs.Data.{Text, Json, Path, Template, Made, and_then, fitting, data_limit, array_in, few, selected, selected_by, with_first, item_limit, item_limit_error, map_inputs}
use Rattle.unum_ir.specs.declared.trouble.StateError.{StateError}
use Rattle.unum_ir.specs.declared.trouble.FlowError.{FlowError}
use Rattle.unum_ir.specs.declared.trouble.FlowError.TheVariants.{Named}
use Rattle.unum_ir.specs.Given.{Gives, error_name}
use Rattle.unum_ir.specs.Kinds.{input_at, item_input}

-- ---- fillings

-- what is made first, and the rest
record IsFirst (m : Made) (rest : Result (List Json) Text) (all : List Json) : Type 0 where
  first : Json
  others : List Json
  first_is : m ≡ Ok first
  others_are : rest ≡ Ok others
  all_are : all ≡ first ∷ others

by_first : (m : Made) (rest : Result (List Json) Text) (all : List Json) → with_first m rest ≡ Ok all → IsFirst m rest all
by_first (Err e) rest all h = absurd (cc)
by_first (Ok v) (Err e) all h = absurd (cc)
by_first (Ok v) (Ok vs) all h = record { first = v; others = vs; first_is = refl; others_are = refl; all_are = cc }

-- the item with that index, and its filling
record IsFilled (t : Template) (x : Json) (number : ℕ) (items : List Json) (index : ℕ) (input : Json) : Type 0 where
  item : Json
  item_is : slice_get items index ≡ Some item
  filled : item_input t x item (number + index) ≡ Ok input

filling_at : (t : Template) (x : Json) (number : ℕ) (items : List Json) (all : List Json) (index : ℕ) (input : Json) → selected t x number items ≡ Ok all → slice_get all index ≡ Some input → IsFilled t x number items index input
filling_at t x n [] all index input h g = absurd (cc)
filling_at t x n (v ∷ vs) all zero input h g =
    let k = by_first (item_input t x v n) (selected t x (suc n) vs) all h in
    let same : k.first ≡ input = let e : Some k.first ≡ Some input = ap (λ l. slice_get l 0) (sym k.all_are) ∙ g in cc in
    let here : n ≡ n + 0 = omega arith in
    record { item = v; item_is = refl; filled = ap (item_input t x v) (sym here) ∙ k.first_is ∙ ap Ok same }
filling_at t x n (v ∷ vs) all (suc index) input h g =
    let k = by_first (item_input t x v n) (selected t x (suc n) vs) all h in
    let r = filling_at t x (suc n) vs k.others index input k.others_are (ap (λ l. slice_get l (suc index)) (sym k.all_are) ∙ g) in
    let there : suc n + index ≡ n + suc index = omega arith in
    record { item = r.item; item_is = r.item_is; filled = ap (item_input t x r.item) (sym there) ∙ r.filled }

-- ---- the input that is given

some_in : (z : Option Json) → IsSome z → (y : Json) × (z ≡ Some y)
some_in (Some y) h = (y, refl)
some_in None h = absurd (false≢true h)

-- the array, its item, and the item's filling
pub record IsItemGiven (items : Path) (t : Template) (x : Json) (index : ℕ) : Type 0 where
  pub list : List Json
  pub item : Json
  pub input : Json
  pub list_is : array_in (get items x) ≡ Ok list
  pub item_is : slice_get list index ≡ Some item
  pub filled : item_input t x item index ≡ Ok input
  pub input_is : input_at index (map_inputs items (Some t) x) ≡ Some input

-- an input that stands in a list that fits
by_fit : (b : Bool) (all : List Json) (index : ℕ) (input : Json) → input_at index (if b then Ok all else Err data_limit) ≡ Some input → slice_get all index ≡ Some input
by_fit true all index input e = e
by_fit false all index input e = absurd (cc)

by_made : (t : Template) (x : Json) (list : List Json) (index : ℕ) (input : Json) (made : Result (List Json) Text) → selected t x 0 list ≡ made → input_at index (and_then made fitting) ≡ Some input → IsFilled t x 0 list index input
by_made t x list index input (Err f) m e = absurd (cc)
by_made t x list index input (Ok all) m e = filling_at t x 0 list all index input m (by_fit (nat_le (nodes (json.Arr all)) 200000) all index input e)

by_few : (b : Bool) (t : Template) (x : Json) (list : List Json) (index : ℕ) (input : Json)
    → input_at index (and_then (if b then Ok list else Err item_limit_error) (λ vs. and_then (selected_by (Some t) x vs) (λ inputs. fitting inputs))) ≡ Some input → IsFilled t x 0 list index input
by_few true t x list index input e = by_made t x list index input (selected t x 0 list) refl e
by_few false t x list index input e = absurd (cc)

by_found : (items : Path) (t : Template) (x : Json) (index : ℕ) (input : Json) (found : Result (List Json) Text) → array_in (get items x) ≡ found → input_at index (map_inputs items (Some t) x) ≡ Some input
    → input_at index (and_then found (λ vs. and_then (few vs) (λ vs. and_then (selected_by (Some t) x vs) (λ inputs. fitting inputs)))) ≡ Some input → IsItemGiven items t x index
by_found items t x index input (Err f) a is e = absurd (cc)
by_found items t x index input (Ok list) a is e =
    let k = by_few (nat_le (length list) item_limit) t x list index input e in
    let here : index ≡ 0 + index = omega arith in
    record { list = list; item = k.item; input = input; list_is = a; item_is = k.item_is; filled = ap (item_input t x k.item) here ∙ k.filled; input_is = is }

pub item_given : (items : Path) (t : Template) (x : Json) (index : ℕ) → IsSome (input_at index (map_inputs items (Some t) x)) → IsItemGiven items t x index
unfolding map_inputs
item_given items t x index h =
    let (input, is) = some_in (input_at index (map_inputs items (Some t) x)) h in
    by_found items t x index input (array_in (get items x)) refl is is

-- so what is found in that array is the item, and its filling is the input
pub item_found : (items : Path) (t : Template) (x : Json) (index : ℕ) (g : IsItemGiven items t x index) (list : List Json) → array_in (get items x) ≡ Ok list → slice_get list index ≡ Some g.item
item_found items t x index g list e =
    let same : g.list ≡ list = let z : Ok g.list ≡ Ok list = sym g.list_is ∙ e in cc in
    ap (λ l. slice_get l index) (sym same) ∙ g.item_is

pub item_filled : (items : Path) (t : Template) (x : Json) (index : ℕ) (g : IsItemGiven items t x index) (list : List Json) (item : Json) → array_in (get items x) ≡ Ok list → slice_get list index ≡ Some item → item_input t x item index ≡ Ok g.input
item_filled items t x index g list item e is =
    let same : item ≡ g.item = let z : Some item ≡ Some g.item = sym is ∙ item_found items t x index g list e in cc in
    ap (λ v. item_input t x v index) same ∙ g.filled

pub input_filled : (items : Path) (t : Template) (x : Json) (index : ℕ) (g : IsItemGiven items t x index) (list : List Json) (item input : Json) → array_in (get items x) ≡ Ok list → slice_get list index ≡ Some item → item_input t x item index ≡ Ok input
    → input_at index (map_inputs items (Some t) x) ≡ Some input
input_filled items t x index g list item input e is made =
    let same : g.input ≡ input = let z : Ok g.input ≡ Ok input = sym (item_filled items t x index g list item e is) ∙ made in cc in
    g.input_is ∙ ap Some same

-- a call that answers no error of the data has none
pub never_named : {A B : Type 0} (view : A → B) (f : FlowError) (e : StateError) (due : Result B Text) (v : B) → f ≡ Named e → Gives view (Err f) due → due ≡ Ok v → ⊥
never_named view f e due v is h ok =
    let P : FlowError → Type 0 = λ y. Gives view (Err y) due in
    let z : Err (error_name e) ≡ Ok v = sym (subst P is h) ∙ ok in
    cc
