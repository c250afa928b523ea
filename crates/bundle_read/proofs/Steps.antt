-- Checks of one part after another: the first that finds something broken answers it.
use Rattle.std.proofs.Common.{◌≡◌, ℕ, ◌+◌, ◌<◌, ◌≤◌, List, [], ◌∷◌, ◌++◌, length, drop, get_or, flat_map, Some, Result, Ok, Err, sym, ap, subst, ◌∙◌}
use Rattle.std.proofs.lemmas.List.{drop_all, drop_more}
use Rattle.bundle_read.specs.Bounds.{in_items, next_low, wild_item, wild_script, wild_twin, wild_twins}
use Rattle.bundle_read.specs.Checked.{first, Checks, Makes}
use Rattle.bundle_read.specs.declared.refusal.Refusal.{Refusal}
use Rattle.bundle_read.specs.declared.refusal.BundleError.{BundleError}
use Rattle.bundle_read.specs.declared.refusal.BundleError.TheVariants as error

pub rest_is : {A : Type 0} (all : List A) (i : ℕ) (item : A) → i < length all → item ≡ get_or all i item → drop i all ≡ item ∷ drop (i + 1) all
rest_is all i item lt is = drop_more all i item lt ∙ ap (λ x. x ∷ drop (i + 1) all) (sym is)

first_more : (a b : List Refusal) (r : Refusal) → first a ≡ Some r → first (a ++ b) ≡ Some r
first_more [] b r h = cc
first_more (x ∷ a) b r h = h

-- what is found first is found first in the whole
pub front : (e : BundleError) (a b : List Refusal) → Checks (Err e) a → Checks (Err e) (a ++ b)
front (error.Refused r) a b h = first_more a b r h
front error.NoMemory a b h = tt

-- the same of a part that comes with a value
pub makes_front : {A : Type 0} (e : BundleError) (a b : List Refusal) (due : A) → Makes {A = A} (Err e) a due → Checks (Err e) (a ++ b)
makes_front (error.Refused r) a b due h = first_more a b r h
makes_front error.NoMemory a b due h = tt

-- where nothing is broken in the front, the rest decides
pub later : (r : Result (Unit {0}) BundleError) (a b : List Refusal) → a ≡ [] → Checks r b → Checks r (a ++ b)
later r a b e h = subst (λ l. Checks r (l ++ b)) (sym e) h

pub past : (a b : List Refusal) → a ≡ [] → a ++ b ≡ b
past a b e = ap (λ l. l ++ b) e

module _ {A : Type 0} (f : A → List Refusal) (whole : List Refusal) (all : List A) (i : ℕ) (item : A) (so_far : whole ≡ flat_map f (drop i all)) (lt : i < length all) (is : item ≡ get_or all i item) where
  pub flat_found : (e : BundleError) → Checks (Err e) (f item) → Checks (Err e) whole
  flat_found e h =
      let P : List Refusal → Type 0 = λ l. Checks (Err e) l in
      subst P (sym (so_far ∙ ap (flat_map f) (rest_is all i item lt is))) (front e (f item) (flat_map f (drop (i + 1) all)) h)

  pub flat_next : f item ≡ [] → whole ≡ flat_map f (drop (i + 1) all)
  flat_next h = so_far ∙ ap (flat_map f) (rest_is all i item lt is) ∙ past (f item) (flat_map f (drop (i + 1) all)) h

module _ {A : Type 0} (f : ℕ → A → List Refusal) (whole : List Refusal) (all : List A) (i : ℕ) (item : A) (so_far : whole ≡ in_items f i (drop i all)) (lt : i < length all) (is : item ≡ get_or all i item) where
  step : whole ≡ f i item ++ in_items f (i + 1) (drop (i + 1) all)
  unfolding in_items
  step = so_far ∙ ap (in_items f i) (rest_is all i item lt is)

  pub items_found : (e : BundleError) → Checks (Err e) (f i item) → Checks (Err e) whole
  items_found e h =
      let P : List Refusal → Type 0 = λ l. Checks (Err e) l in
      subst P (sym step) (front e (f i item) (in_items f (i + 1) (drop (i + 1) all)) h)

  pub items_next : f i item ≡ [] → whole ≡ in_items f (i + 1) (drop (i + 1) all)
  items_next h = step ∙ past (f i item) (in_items f (i + 1) (drop (i + 1) all)) h

-- all items were gone through
pub items_done : {A : Type 0} (f : ℕ → A → List Refusal) (whole : List Refusal) (all : List A) (i : ℕ) → whole ≡ in_items f i (drop i all) → length all ≤ i → whole ≡ []
unfolding in_items
items_done f whole all i so_far h = so_far ∙ ap (in_items f i) (drop_all i all h)

module _ (whole : List Refusal) (all : List (List ℕ)) (low i : ℕ) (item : List ℕ) (so_far : whole ≡ wild_script low i (drop i all)) (lt : i < length all) (is : item ≡ get_or all i item) where
  script_step : whole ≡ wild_item low i item ++ wild_script (next_low low item) (i + 1) (drop (i + 1) all)
  unfolding wild_script
  script_step = so_far ∙ ap (wild_script low i) (rest_is all i item lt is)

  pub script_found : (e : BundleError) → Makes {A = ℕ} (Err e) (wild_item low i item) (next_low low item) → Checks (Err e) whole
  script_found e h =
      let P : List Refusal → Type 0 = λ l. Checks (Err e) l in
      subst P (sym script_step) (makes_front e (wild_item low i item) (wild_script (next_low low item) (i + 1) (drop (i + 1) all)) (next_low low item) h)

  pub script_next : (next : ℕ) → Makes (Ok next) (wild_item low i item) (next_low low item) → whole ≡ wild_script next (i + 1) (drop (i + 1) all)
  script_next next h =
      script_step ∙ past (wild_item low i item) (wild_script (next_low low item) (i + 1) (drop (i + 1) all)) h.0 ∙ ap (λ n. wild_script n (i + 1) (drop (i + 1) all)) (sym h.1)

pub script_done : (whole : List Refusal) (all : List (List ℕ)) (low i : ℕ) → whole ≡ wild_script low i (drop i all) → length all ≤ i → whole ≡ []
unfolding wild_script
script_done whole all low i so_far h = so_far ∙ ap (wild_script low i) (drop_all i all h)

module _ (whole : List Refusal) (all : List ℕ) (low i : ℕ) (so_far : whole ≡ wild_twins low i (drop i all)) (lt : i < length all) where
  abbrev attempt : ℕ
  attempt = get_or all i 0

  twins_step : whole ≡ wild_twin low i attempt ++ wild_twins (attempt + 1) (i + 1) (drop (i + 1) all)
  unfolding wild_twins
  twins_step = so_far ∙ ap (wild_twins low i) (drop_more all i 0 lt)

  pub twins_found : (e : BundleError) → Makes {A = ℕ} (Err e) (wild_twin low i (get_or all i 0)) (get_or all i 0 + 1) → Checks (Err e) whole
  twins_found e h =
      let P : List Refusal → Type 0 = λ l. Checks (Err e) l in
      subst P (sym twins_step) (makes_front e (wild_twin low i attempt) (wild_twins (attempt + 1) (i + 1) (drop (i + 1) all)) (attempt + 1) h)

  pub twins_next : (next : ℕ) → Makes (Ok next) (wild_twin low i (get_or all i 0)) (get_or all i 0 + 1) → whole ≡ wild_twins next (i + 1) (drop (i + 1) all)
  twins_next next h =
      twins_step ∙ past (wild_twin low i attempt) (wild_twins (attempt + 1) (i + 1) (drop (i + 1) all)) h.0 ∙ ap (λ n. wild_twins n (i + 1) (drop (i + 1) all)) (sym h.1)

pub twins_done : (whole : List Refusal) (all : List ℕ) (low i : ℕ) → whole ≡ wild_twins low i (drop i all) → length all ≤ i → whole ≡ []
unfolding wild_twins
twins_done whole all low i so_far h = so_far ∙ ap (wild_twins low i) (drop_all i all h)
