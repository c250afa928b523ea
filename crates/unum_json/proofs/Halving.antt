-- What one comparison says of a key's place among keys that rise.
use Rattle.std.proofs.Common.{◌≡◌, ◌+◌, ◌<◌, List, [], ◌∷◌, ◌++◌, ℕ, zero, suc, Less, Equal, Greater, Ordering, nat_cmp, refl, sym, ap, ◌∙◌, length, take, drop, get_or, arith, add-one, Some, None, Bool, true, false, not, cond, nat_lt, if◌then◌else◌}
use Rattle.std.proofs.lemmas.Bool.{lt-ltb, le-ltb}
use Rattle.std.proofs.lemmas.Map.Lookups.{exact_bytes}
use Rattle.std.proofs.lemmas.Map.Text.{is_eq-slice_cmp}
use Rattle.std.proofs.lemmas.Cmp.{nat_list_cmp_total}
use Rattle.std.specs.Cmp.Lexicographic.{slice_cmp}
use Rattle.std.specs.List.{AllByRecursion, position_or_len}
use Rattle.std.specs.List.Sorted.{IsStrictlySortedBy}
use Rattle.std.specs.Map.{keys_of}
use Rattle.std.specs.Ordering.{match_ordering, ordering_reverse, is_eq}
use Rattle.std.specs.Str.{bytes_eq}
use Rattle.unum_json.specs.Keys.{IsRising, with_key, find_key, key_index}

abbrev Key : Type 0
Key = List ℕ

abbrev cmp : Key → Key → Ordering
cmp = slice_cmp nat_cmp

-- not below
abbrev Reaches : Ordering → Type 0
Reaches Less = ⊥
Reaches Equal = Unit {0}
Reaches Greater = Unit {0}

module _ (k : Key) where
  above : (x y : Key) (o : Ordering) → cmp x y ≡ Less → cmp k y ≡ o → Reaches o → cmp k x ≡ Greater
  above x y Less lt is r = absurd r
  above x y Equal lt is r = ap (λ z. cmp z x) (exact_bytes k y is) ∙ nat_list_cmp_total.antisymm y x ∙ ap ordering_reverse lt
  above x y Greater lt is r =
      nat_list_cmp_total.antisymm k x ∙ ap ordering_reverse (nat_list_cmp_total.trans x y k lt (nat_list_cmp_total.antisymm y k ∙ ap ordering_reverse is))

  differs : (x : Key) (o : Ordering) → cmp k x ≡ o → bytes_eq x k ≡ is_eq (ordering_reverse o)
  differs x o is = sym (is_eq-slice_cmp x k) ∙ ap is_eq (nat_list_cmp_total.antisymm x k ∙ ap ordering_reverse is)

  all_below : (y : Key) (ks : List Key) → cmp k y ≡ Less → AllByRecursion (λ z. cmp y z ≡ Less) ks → AllByRecursion (λ z. cmp k z ≡ Less) ks
  all_below y [] lt h = tt
  all_below y (z ∷ ks) lt h = (nat_list_cmp_total.trans k y z lt h.0, all_below y ks lt h.1)

all_at : {V : Type 0} (x : Key) (es : List (Key × V)) (i : ℕ) (d : Key × V) → i < length es → AllByRecursion (λ y. cmp x y ≡ Less) (keys_of es) → cmp x (get_or es i d).0 ≡ Less
all_at x [] i d lt h = absurd (omega (arith, lt))
all_at x (e ∷ es) zero d lt h = h.0
all_at x (e ∷ es) (suc i) d lt h = all_at x es i d (omega (arith, lt)) h.1

module _ {V : Type 0} (k : Key) where
  pub with_after : (es : List (Key × V)) (i : ℕ) (d : Key × V) (v : V) (o : Ordering) → IsRising (keys_of es) → i < length es → cmp k (get_or es i d).0 ≡ o → Reaches o
      → with_key k v es ≡ take i es ++ with_key k v (drop i es)
  unfolding IsStrictlySortedBy
  with_after [] i d v o h lt is r = absurd (omega (arith, lt))
  with_after (e ∷ es) zero d v o h lt is r = refl
  with_after (e ∷ es) (suc i) d v o h lt is r =
      let lt' : i < length es = omega (arith, lt) in
      ap (λ o. match_ordering o ((k, v) ∷ e ∷ es) ((e.0, v) ∷ es) (e ∷ with_key k v es)) (above k e.0 (get_or es i d).0 o (all_at e.0 es i d lt' h.0) is r)
      ∙ ap (λ t. e ∷ t) (with_after es i d v o h.1 lt' is r)

  with_past : (es : List (Key × V)) (i : ℕ) (d : Key × V) (v : V) → IsRising (keys_of es) → i < length es → cmp k (get_or es i d).0 ≡ Greater
      → with_key k v es ≡ take (suc i) es ++ with_key k v (drop (suc i) es)
  unfolding IsStrictlySortedBy
  with_past [] i d v h lt is = absurd (omega (arith, lt))
  with_past (e ∷ es) zero d v h lt is = ap (λ o. match_ordering o ((k, v) ∷ e ∷ es) ((e.0, v) ∷ es) (e ∷ with_key k v es)) is
  with_past (e ∷ es) (suc i) d v h lt is =
      let lt' : i < length es = omega (arith, lt) in
      ap (λ o. match_ordering o ((k, v) ∷ e ∷ es) ((e.0, v) ∷ es) (e ∷ with_key k v es)) (above k e.0 (get_or es i d).0 Greater (all_at e.0 es i d lt' h.0) is tt)
      ∙ ap (λ t. e ∷ t) (with_past es i d v h.1 lt' is)

  pub with_here : (es : List (Key × V)) (i : ℕ) (d : Key × V) (v : V) → i < length es → cmp k (get_or es i d).0 ≡ Less → with_key k v (drop i es) ≡ (k, v) ∷ drop i es
  with_here [] i d v lt is = absurd (omega (arith, lt))
  with_here (e ∷ es) zero d v lt is = ap (λ o. match_ordering o ((k, v) ∷ e ∷ es) ((e.0, v) ∷ es) (e ∷ with_key k v es)) is
  with_here (e ∷ es) (suc i) d v lt is = with_here es i d v (omega (arith, lt)) is

  none_below : (es : List (Key × V)) → AllByRecursion (λ y. cmp k y ≡ Less) (keys_of es) → find_key k es ≡ None
  none_below [] h = refl
  none_below (e ∷ es) h = ap (λ b. if b then Some e.1 else find_key k es) (differs k e.0 Less h.0) ∙ none_below es h.1

  pub none_here : (es : List (Key × V)) (i : ℕ) (d : Key × V) → IsRising (keys_of es) → i < length es → cmp k (get_or es i d).0 ≡ Less → find_key k (drop i es) ≡ None
  unfolding IsStrictlySortedBy
  none_here [] i d h lt is = absurd (omega (arith, lt))
  none_here (e ∷ es) zero d h lt is = none_below (e ∷ es) (is, all_below k e.0 (keys_of es) is h.0)
  none_here (e ∷ es) (suc i) d h lt is = none_here es i d h.1 (omega (arith, lt)) is

  find_past : (es : List (Key × V)) (i : ℕ) (d : Key × V) → IsRising (keys_of es) → i < length es → cmp k (get_or es i d).0 ≡ Greater → find_key k es ≡ find_key k (drop (suc i) es)
  unfolding IsStrictlySortedBy
  find_past [] i d h lt is = absurd (omega (arith, lt))
  find_past (e ∷ es) zero d h lt is = ap (λ b. if b then Some e.1 else find_key k es) (differs k e.0 Greater is)
  find_past (e ∷ es) (suc i) d h lt is =
      let lt' : i < length es = omega (arith, lt) in
      ap (λ b. if b then Some e.1 else find_key k es) (differs k e.0 Greater (above k e.0 (get_or es i d).0 Greater (all_at e.0 es i d lt' h.0) is tt)) ∙ find_past es i d h.1 lt' is

  pub find_here : (es : List (Key × V)) (i : ℕ) (d : Key × V) → IsRising (keys_of es) → i < length es → cmp k (get_or es i d).0 ≡ Equal → find_key k es ≡ Some (get_or es i d).1
  unfolding IsStrictlySortedBy
  find_here [] i d h lt is = absurd (omega (arith, lt))
  find_here (e ∷ es) zero d h lt is = ap (λ b. if b then Some e.1 else find_key k es) (differs k e.0 Equal is)
  find_here (e ∷ es) (suc i) d h lt is =
      let lt' : i < length es = omega (arith, lt) in
      ap (λ b. if b then Some e.1 else find_key k es) (differs k e.0 Greater (above k e.0 (get_or es i d).0 Equal (all_at e.0 es i d lt' h.0) is tt)) ∙ find_here es i d h.1 lt' is

  -- how many fields stand before the key
  before : List (Key × V) → ℕ
  before es = position_or_len (λ (f : Key × V). bytes_eq f.0 k) es

  before_here : (es : List (Key × V)) (i : ℕ) (d : Key × V) → IsRising (keys_of es) → i < length es → cmp k (get_or es i d).0 ≡ Equal → before es ≡ i
  unfolding IsStrictlySortedBy before
  before_here [] i d h lt is = absurd (omega (arith, lt))
  before_here (e ∷ es) zero d h lt is = ap (λ b. cond (not b) (1 + before es) 0) (differs k e.0 Equal is)
  before_here (e ∷ es) (suc i) d h lt is =
      let lt' : i < length es = omega (arith, lt) in
      ap (λ b. cond (not b) (1 + before es) 0) (differs k e.0 Greater (above k e.0 (get_or es i d).0 Equal (all_at e.0 es i d lt' h.0) is tt))
      ∙ ap (λ n. 1 + n) (before_here es i d h.1 lt' is)
      ∙ (let r : 1 + i ≡ suc i = omega arith in r)

  before_all : (es : List (Key × V)) → find_key k es ≡ None → before es ≡ length es
  unfolding before
  before_all [] e = refl
  before_all (f ∷ es) e = step (bytes_eq f.0 k) (before_all es) e
    where
      step : (b : Bool) → (find_key k es ≡ None → before es ≡ length es) → (if b then Some f.1 else find_key k es) ≡ None → cond (not b) (1 + before es) 0 ≡ suc (length es)
      step true h e = absurd (cc)
      step false h e = let r = h e in omega (arith, r)

  pub index_here : (es : List (Key × V)) (i : ℕ) (d : Key × V) → IsRising (keys_of es) → i < length es → cmp k (get_or es i d).0 ≡ Equal → Some i ≡ key_index k es
  unfolding before
  index_here es i d h lt is =
      let e : before es ≡ i = before_here es i d h lt is in
      sym (ap (λ n. cond (nat_lt n (length es)) (Some n) None) e ∙ ap (λ b. cond b (Some i) None) (lt-ltb i (length es) lt))

  pub index_none : (es : List (Key × V)) → find_key k es ≡ None → None ≡ key_index k es
  unfolding before
  index_none es e =
      let k : before es ≡ length es = before_all es e in
      sym (ap (λ n. cond (nat_lt n (length es)) (Some n) None) k ∙ ap (λ b. cond b (Some (length es)) None) (le-ltb (length es) (length es) (omega arith)))

module _ {V : Type 0} (k : Key) (es : List (Key × V)) (i : ℕ) (d : Key × V) (h : IsRising (keys_of es)) (lt : i < length es) (is : cmp k (get_or es i d).0 ≡ Greater) where
  pub with_next : (v : V) → with_key k v es ≡ take (i + 1) es ++ with_key k v (drop (i + 1) es)
  with_next v = with_past k es i d v h lt is ∙ ap (λ n. take n es ++ with_key k v (drop n es)) (sym (add-one i))

  pub find_next : find_key k es ≡ find_key k (drop (i + 1) es)
  find_next = find_past k es i d h lt is ∙ ap (λ n. find_key k (drop n es)) (sym (add-one i))

pub same_at : {X : Type 0} (es : List X) (i : ℕ) (d e : X) → i < length es → get_or es i d ≡ get_or es i e
same_at [] i d e lt = absurd (omega (arith, lt))
same_at (x ∷ es) zero d e lt = refl
same_at (x ∷ es) (suc i) d e lt = same_at es i d e (omega (arith, lt))
