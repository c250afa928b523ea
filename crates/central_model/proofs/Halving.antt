-- What one comparison says of the answer at a place among answers whose places rise.
use Rattle.std.proofs.Common.{◌≡◌, ◌+◌, ◌<◌, List, [], ◌∷◌, ◌++◌, Result, Ok, Err, OnOk, OnErr, subst, ℕ, zero, suc, Less, Equal, Greater, Ordering, refl, sym, ap, ◌∙◌, length, drop, get_or, arith, add-one, Some, None, Bool, true, false, if◌then◌else◌}
use Rattle.std.specs.List.{AllByRecursion}
use Rattle.std.specs.List.Sorted.{IsStrictlySortedBy}
use Rattle.std.specs.Map.{keys_of}
use Rattle.std.specs.Ordering.{ordering_reverse}
use Rattle.place_name.specs.Same.{place_same}
use Rattle.place_name.proofs.Sameness.{place_decides}
use Rattle.place_name.proofs.OrderOfNames.{name_order_total, name_order_same, name_order_refl}
use Rattle.asl_model.specs.Data.{Outcome}
use Rattle.asl_model.specs.Names.{Place, Name, Task, answers_of}
use Rattle.central_model.specs.Places.{place_order, AreRising, IsBehind}

abbrev Given : Type 0
Given = List (Place × Outcome)

abbrev name_at : Place → Name
name_at p = record { place = p; kind = Task }

-- not below
abbrev Reaches : Ordering → Type 0
Reaches Less = ⊥
Reaches Equal = Unit {0}
Reaches Greater = Unit {0}

module _ (k : Place) where
  same_place : (x : Place) → place_order k x ≡ Equal → k ≡ x
  same_place x is = ap (λ (n : Name). n.place) (name_order_same (name_at k) (name_at x) is)

  above : (x y : Place) (o : Ordering) → place_order x y ≡ Less → place_order k y ≡ o → Reaches o → place_order k x ≡ Greater
  above x y Less lt is r = absurd r
  above x y Equal lt is r = ap (λ z. place_order z x) (same_place y is) ∙ name_order_total.antisymm (name_at y) (name_at x) ∙ ap ordering_reverse lt
  above x y Greater lt is r =
      name_order_total.antisymm (name_at k) (name_at x) ∙ ap ordering_reverse (name_order_total.trans (name_at x) (name_at y) (name_at k) lt (name_order_total.antisymm (name_at y) (name_at k) ∙ ap ordering_reverse is))

  apart_by : (x : Place) (t : Bool) → place_same x k ≡ t → (place_order k x ≡ Equal → ⊥) → place_same x k ≡ false
  apart_by x true e h = absurd (h (name_order_refl (name_at k) (name_at x) (sym (ap name_at ((place_decides x k).0 e)))))
  apart_by x false e h = e

  apart : (x : Place) (o : Ordering) → place_order k x ≡ o → (o ≡ Equal → ⊥) → place_same x k ≡ false
  apart x o is h = apart_by x (place_same x k) refl (λ e. h (sym is ∙ e))

  itself : (x : Place) → place_order k x ≡ Equal → place_same x k ≡ true
  itself x is = (place_decides x k).1 (sym (same_place x is))

  all_below : (y : Place) (ks : List Place) → place_order k y ≡ Less → AllByRecursion (λ z. place_order y z ≡ Less) ks → AllByRecursion (λ z. place_order k z ≡ Less) ks
  all_below y [] lt h = tt
  all_below y (z ∷ ks) lt h = (name_order_total.trans (name_at k) (name_at y) (name_at z) lt h.0, all_below y ks lt h.1)

all_at : (x : Place) (es : Given) (i : ℕ) (d : Place × Outcome) → i < length es → AllByRecursion (λ y. place_order x y ≡ Less) (keys_of es) → place_order x (get_or es i d).0 ≡ Less
all_at x [] i d lt h = absurd (omega (arith, lt))
all_at x (e ∷ es) zero d lt h = h.0
all_at x (e ∷ es) (suc i) d lt h = all_at x es i d (omega (arith, lt)) h.1

module _ (k : Place) where
  none_below : (es : Given) → AllByRecursion (λ y. place_order k y ≡ Less) (keys_of es) → answers_of es k ≡ None
  unfolding answers_of
  none_below [] h = refl
  none_below (e ∷ es) h = ap (λ b. if b then Some e.1 else answers_of es k) (apart k e.0 Less h.0 (λ q. absurd (cc))) ∙ none_below es h.1

  pub none_here : (es : Given) (i : ℕ) (d : Place × Outcome) → AreRising es → i < length es → place_order k (get_or es i d).0 ≡ Less → answers_of (drop i es) k ≡ None
  unfolding IsStrictlySortedBy
  none_here [] i d h lt is = absurd (omega (arith, lt))
  none_here (e ∷ es) zero d h lt is = none_below (e ∷ es) (is, all_below k e.0 (keys_of es) is h.0)
  none_here (e ∷ es) (suc i) d h lt is = none_here es i d h.1 (omega (arith, lt)) is

  find_past : (es : Given) (i : ℕ) (d : Place × Outcome) → AreRising es → i < length es → place_order k (get_or es i d).0 ≡ Greater → answers_of es k ≡ answers_of (drop (suc i) es) k
  unfolding IsStrictlySortedBy answers_of
  find_past [] i d h lt is = absurd (omega (arith, lt))
  find_past (e ∷ es) zero d h lt is = ap (λ b. if b then Some e.1 else answers_of es k) (apart k e.0 Greater is (λ q. absurd (cc)))
  find_past (e ∷ es) (suc i) d h lt is =
      let lt' : i < length es = omega (arith, lt) in
      ap (λ b. if b then Some e.1 else answers_of es k) (apart k e.0 Greater (above k e.0 (get_or es i d).0 Greater (all_at e.0 es i d lt' h.0) is tt) (λ q. absurd (cc))) ∙ find_past es i d h.1 lt' is

  pub find_here : (es : Given) (i : ℕ) (d : Place × Outcome) → AreRising es → i < length es → place_order k (get_or es i d).0 ≡ Equal → answers_of es k ≡ Some (get_or es i d).1
  unfolding IsStrictlySortedBy answers_of
  find_here [] i d h lt is = absurd (omega (arith, lt))
  find_here (e ∷ es) zero d h lt is = ap (λ b. if b then Some e.1 else answers_of es k) (itself k e.0 is)
  find_here (e ∷ es) (suc i) d h lt is =
      let lt' : i < length es = omega (arith, lt) in
      ap (λ b. if b then Some e.1 else answers_of es k) (apart k e.0 Greater (above k e.0 (get_or es i d).0 Equal (all_at e.0 es i d lt' h.0) is tt) (λ q. absurd (cc))) ∙ find_here es i d h.1 lt' is

  pub find_next : (es : Given) (i : ℕ) (d : Place × Outcome) → AreRising es → i < length es → place_order k (get_or es i d).0 ≡ Greater → answers_of es k ≡ answers_of (drop (i + 1) es) k
  find_next es i d h lt is = find_past es i d h lt is ∙ ap (λ n. answers_of (drop n es) k) (sym (add-one i))

pub past_end : (k : Place) (es : Given) → answers_of (drop (length es) es) k ≡ None
unfolding answers_of
past_end k [] = refl
past_end k (e ∷ es) = past_end k es

-- ---- a place behind all others

pub behind_none : (es : Given) (p : Place) → length es ≡ 0 → IsBehind es p
behind_none [] p e = tt
behind_none (x ∷ es) p e = absurd (omega arith)

pub behind_last : (es : Given) (i : ℕ) (d : Place × Outcome) (p : Place) → AreRising es → suc i ≡ length es → place_order (get_or es i d).0 p ≡ Less → IsBehind es p
unfolding IsStrictlySortedBy
behind_last [] i d p h e lt = absurd (omega arith)
behind_last (x ∷ []) zero d p h e lt = (lt, tt)
behind_last (x ∷ []) (suc i) d p h e lt = absurd (omega arith)
behind_last (x ∷ y ∷ es) zero d p h e lt = absurd (omega arith)
behind_last (x ∷ y ∷ es) (suc i) d p h e lt =
    let below : i < length (y ∷ es) = omega arith in
    (name_order_total.trans (name_at x.0) (name_at (get_or (y ∷ es) i d).0) (name_at p) (all_at x.0 (y ∷ es) i d below h.0) lt, behind_last (y ∷ es) i d p h.1 (omega arith) lt)

pub last_behind : (es : Given) (i : ℕ) (d : Place × Outcome) (p : Place) → i < length es → IsBehind es p → place_order (get_or es i d).0 p ≡ Less
last_behind [] i d p below h = absurd (omega arith)
last_behind (x ∷ es) zero d p below h = h.0
last_behind (x ∷ es) (suc i) d p below h = last_behind es i d p (omega arith) h.1

behind_head : (x p : Place) (o : Outcome) (es : Given) → place_order x p ≡ Less → AllByRecursion (λ y. place_order x y ≡ Less) (keys_of es) → AllByRecursion (λ y. place_order x y ≡ Less) (keys_of (es ++ (p, o) ∷ []))
behind_head x p o [] lt h = (lt, tt)
behind_head x p o (e ∷ es) lt h = (h.0, behind_head x p o es lt h.1)

pub rising_push : (es : Given) (p : Place) (o : Outcome) → AreRising es → IsBehind es p → AreRising (es ++ (p, o) ∷ [])
unfolding IsStrictlySortedBy
rising_push [] p o h k = (tt, tt)
rising_push (e ∷ es) p o h k = (behind_head e.0 p o es k.0 h.0, rising_push es p o h.1 k.1)

pub still_rising : {X E : Type 0} (r : Result X E) (old new : Given) (p : Place) (o : Outcome) → AreRising old → IsBehind old p → OnOk r (new ≡ old ++ (p, o) ∷ []) → OnErr r (new ≡ old) → AreRising new
still_rising (Ok x) old new p o h k ok err = subst AreRising (sym ok) (rising_push old p o h k)
still_rising (Err x) old new p o h k ok err = subst AreRising (sym err) h
