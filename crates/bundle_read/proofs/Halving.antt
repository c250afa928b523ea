-- What one comparison says of a name's number among names that rise.
use Rattle.std.proofs.Common.{◌≡◌, ◌+◌, ◌<◌, List, [], ◌∷◌, ℕ, zero, suc, Bool, true, false, Less, Equal, Greater, Ordering, nat_cmp, refl, sym, ap, ◌∙◌, length, drop, get_or, arith, add-one, Some, not, cond, nat_lt, is_some, if◌then◌else◌}
use Rattle.std.proofs.lemmas.Bool.{lt-ltb}
use Rattle.std.proofs.lemmas.Bool.Decides.{nat_tests}
use Rattle.std.proofs.lemmas.Map.Lookups.{exact_bytes}
use Rattle.std.proofs.lemmas.Map.Text.{is_eq-slice_cmp}
use Rattle.std.proofs.lemmas.Cmp.{nat_list_cmp_total}
use Rattle.std.specs.Cmp.Lexicographic.{slice_cmp}
use Rattle.std.specs.List.{AllByRecursion}
use Rattle.std.specs.List.Sorted.{IsStrictlySortedBy}
use Rattle.std.specs.Map.{keys_of}
use Rattle.std.specs.Ordering.{ordering_reverse, is_eq}
use Rattle.std.specs.Str.{bytes_eq}
use Rattle.unum_json.specs.Keys.{IsRising, find_key}
use Rattle.bundle_read.specs.Bounds.{knows, number_of}

abbrev Key : Type 0
Key = List ℕ

abbrev cmp : Key → Key → Ordering
cmp = slice_cmp nat_cmp

-- not below
abbrev Reaches : Ordering → Type 0
Reaches Less = ⊥
Reaches Equal = Unit {0}
Reaches Greater = Unit {0}

module _ (k : Key) where
  above : (x y : Key) (o : Ordering) → cmp x y ≡ Less → cmp k y ≡ o → Reaches o → cmp k x ≡ Greater
  above x y Less lt is r = absurd r
  above x y Equal lt is r = ap (λ z. cmp z x) (exact_bytes k y is) ∙ nat_list_cmp_total.antisymm y x ∙ ap ordering_reverse lt
  above x y Greater lt is r =
      nat_list_cmp_total.antisymm k x ∙ ap ordering_reverse (nat_list_cmp_total.trans x y k lt (nat_list_cmp_total.antisymm y k ∙ ap ordering_reverse is))

  differs : (x : Key) (o : Ordering) → cmp k x ≡ o → bytes_eq x k ≡ is_eq (ordering_reverse o)
  differs x o is = sym (is_eq-slice_cmp x k) ∙ ap is_eq (nat_list_cmp_total.antisymm x k ∙ ap ordering_reverse is)

  all_below : (y : Key) (ks : List Key) → cmp k y ≡ Less → AllByRecursion (λ z. cmp y z ≡ Less) ks → AllByRecursion (λ z. cmp k z ≡ Less) ks
  all_below y [] lt h = tt
  all_below y (z ∷ ks) lt h = (nat_list_cmp_total.trans k y z lt h.0, all_below y ks lt h.1)

all_at : {V : Type 0} (x : Key) (es : List (Key × V)) (i : ℕ) (d : Key × V) → i < length es → AllByRecursion (λ y. cmp x y ≡ Less) (keys_of es) → cmp x (get_or es i d).0 ≡ Less
all_at x [] i d lt h = absurd (omega (arith, lt))
all_at x (e ∷ es) zero d lt h = h.0
all_at x (e ∷ es) (suc i) d lt h = all_at x es i d (omega (arith, lt)) h.1

lt_suc : (a b : ℕ) → nat_lt (suc a) (suc b) ≡ nat_lt a b
lt_suc a b = grind (arith, nat_tests)

module _ {V : Type 0} (k : Key) where
  one_on : (es : List (Key × V)) (b : Bool) → b ≡ false → cond (not b) (1 + number_of es k) 0 ≡ 1 + number_of es k
  one_on es b is = ap (λ t. cond (not t) (1 + number_of es k) 0) is

  none_below : (es : List (Key × V)) → AllByRecursion (λ y. cmp k y ≡ Less) (keys_of es) → number_of es k ≡ length es
  none_below [] h = refl
  none_below (e ∷ es) h =
      let more : number_of es k ≡ length es = none_below es h.1 in
      let step : number_of (e ∷ es) k ≡ 1 + number_of es k = one_on es (bytes_eq e.0 k) (differs k e.0 Less h.0) in
      omega arith

  pub none_here : (es : List (Key × V)) (i : ℕ) (d : Key × V) → IsRising (keys_of es) → i < length es → cmp k (get_or es i d).0 ≡ Less → number_of (drop i es) k ≡ length (drop i es)
  unfolding IsStrictlySortedBy
  none_here [] i d h lt is = absurd (omega (arith, lt))
  none_here (e ∷ es) zero d h lt is = none_below (e ∷ es) (is, all_below k e.0 (keys_of es) is h.0)
  none_here (e ∷ es) (suc i) d h lt is = none_here es i d h.1 (omega (arith, lt)) is

  past : (es : List (Key × V)) (i : ℕ) (d : Key × V) → IsRising (keys_of es) → i < length es → cmp k (get_or es i d).0 ≡ Greater → number_of es k ≡ suc i + number_of (drop (suc i) es) k
  unfolding IsStrictlySortedBy
  past [] i d h lt is = absurd (omega (arith, lt))
  past (e ∷ es) zero d h lt is = one_on es (bytes_eq e.0 k) (differs k e.0 Greater is)
  past (e ∷ es) (suc i) d h lt is =
      let lt' : i < length es = omega (arith, lt) in
      let more : number_of es k ≡ suc i + number_of (drop (suc i) es) k = past es i d h.1 lt' is in
      let step : number_of (e ∷ es) k ≡ 1 + number_of es k = one_on es (bytes_eq e.0 k) (differs k e.0 Greater (above k e.0 (get_or es i d).0 Greater (all_at e.0 es i d lt' h.0) is tt)) in
      omega arith

  pub here : (es : List (Key × V)) (i : ℕ) (d : Key × V) → IsRising (keys_of es) → i < length es → cmp k (get_or es i d).0 ≡ Equal → number_of es k ≡ i
  unfolding IsStrictlySortedBy
  here [] i d h lt is = absurd (omega (arith, lt))
  here (e ∷ es) zero d h lt is = ap (λ t. cond (not t) (1 + number_of es k) 0) (differs k e.0 Equal is)
  here (e ∷ es) (suc i) d h lt is =
      let lt' : i < length es = omega (arith, lt) in
      let more : number_of es k ≡ i = here es i d h.1 lt' is in
      let step : number_of (e ∷ es) k ≡ 1 + number_of es k = one_on es (bytes_eq e.0 k) (differs k e.0 Greater (above k e.0 (get_or es i d).0 Equal (all_at e.0 es i d lt' h.0) is tt)) in
      omega arith

  pub next : (es : List (Key × V)) (i : ℕ) (d : Key × V) → IsRising (keys_of es) → i < length es → cmp k (get_or es i d).0 ≡ Greater → number_of es k ≡ (i + 1) + number_of (drop (i + 1) es) k
  next es i d h lt is = past es i d h lt is ∙ ap (λ n. n + number_of (drop n es) k) (sym (add-one i))

  known_step : (e : Key × V) (es : List (Key × V)) (b : Bool) → nat_lt (number_of es k) (length es) ≡ knows es k → nat_lt (cond (not b) (1 + number_of es k) 0) (suc (length es)) ≡ is_some (if b then Some e.1 else find_key k es)
  known_step e es true more = lt-ltb 0 (suc (length es)) (omega arith)
  known_step e es false more =
      let one : 1 + number_of es k ≡ suc (number_of es k) = omega arith in
      ap (λ n. nat_lt n (suc (length es))) one ∙ lt_suc (number_of es k) (length es) ∙ more

  -- a name is there where it has a number
  pub known : (es : List (Key × V)) → nat_lt (number_of es k) (length es) ≡ knows es k
  known [] = refl
  known (e ∷ es) = known_step e es (bytes_eq e.0 k) (known es)
