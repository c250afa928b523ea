-- Lists that rise, searched by halving.
use Rattle.std.proofs.Common.{ℕ, zero, suc, ◌<◌, ◌≤◌, ◌≡◌, ◌≢◌, ◌⊎◌, inl, inr, refl, sym, ap, ◌∙◌, Bool, true, false, cond, ◌||◌, nat_eq, nat_lt, List, [], ◌∷◌, length, get_or, slice_get, Some, None, Result, Ok, Err, is_ok, MatchResult, arith}
use Rattle.std.specs.List.Sorted.{IsNonDecreasingBy, IsPartitionPoint}
use Rattle.std.proofs.lemmas.Bool.{cases_eq, cases_lt, ltb-true, ltb-false}
use Rattle.std.proofs.lemmas.Bool.Decides.{eqb_tells}
use Rattle.std.proofs.lemmas.Option.{same_Some, get_or_from_slice_get, slice_get_within}
use Rattle.world_plans.specs.declared.planning.Mishap.{Mishap}
use Rattle.world_plans.specs.Plans.{script_step, has_number}
use Rattle.world_plans.proofs.Putting.{not_eq}
use Rattle.invoke_queue.specs.Plans.{IsRisingBy}

pub rises : {A : Type 0} (number : A → ℕ) (xs : List A) → IsRisingBy number xs → IsNonDecreasingBy number xs
rises number xs h i j d l m = elim (cases_lt i j) [
  | inl q ↦ let r : number (get_or xs i d) < number (get_or xs j d) = h i j d q m in omega (arith, r)
  | inr q ↦ let e : i ≡ j = omega (arith, l, q) in let r : number (get_or xs i d) ≡ number (get_or xs j d) = ap (λ k. number (get_or xs k d)) e in omega (arith, r)
]

is_eq : (m n : ℕ) → m ≡ n → nat_eq m n ≡ true
is_eq m n h = elim (eqb_tells m n) [ inl r ↦ r.0 | inr r ↦ absurd (r.1 h) ]

-- ---------------------------------------------------------------- the script

step_at : (n at : ℕ) (ms : List Mishap) (m : Mishap) → ((k : ℕ) (d : Mishap) → k < at → (get_or ms k d).attempt ≢ n) → slice_get ms at ≡ Some m → m.attempt ≡ n → script_step n ms ≡ Some m.step
step_at n at [] m h e q = absurd (cc)
step_at n zero (x ∷ ms) m h e q =
    let y : x ≡ m = same_Some x m e in
    ap (λ (b : Bool). cond b (Some x.step) (script_step n ms)) (is_eq x.attempt n (ap (λ (z : Mishap). z.attempt) y ∙ q)) ∙ ap (λ (z : Mishap). Some z.step) y
step_at n (suc at) (x ∷ ms) m h e q =
    ap (λ (b : Bool). cond b (Some x.step) (script_step n ms)) (not_eq x.attempt n (h 0 x (omega arith))) ∙ step_at n at ms m (λ k d l. h (suc k) d (omega (arith, l))) e q

step_none : (n : ℕ) (ms : List Mishap) → ((k : ℕ) (d : Mishap) → k < length ms → (get_or ms k d).attempt ≢ n) → script_step n ms ≡ None
step_none n [] h = refl
step_none n (x ∷ ms) h =
    ap (λ (b : Bool). cond b (Some x.step) (script_step n ms)) (not_eq x.attempt n (h 0 x (omega arith))) ∙ step_none n ms (λ k d l. h (suc k) d (omega (arith, l)))

module _ (n : ℕ) (ms : List Mishap) (at : ℕ) (h : IsPartitionPoint (λ (m : Mishap). nat_lt m.attempt n ≡ true) (λ m. nat_lt m.attempt n ≡ false) ms at) where
  before : (k : ℕ) (d : Mishap) → k < at → (get_or ms k d).attempt ≢ n
  before k d l e = let r : (get_or ms k d).attempt < n = ltb-true (get_or ms k d).attempt n (h.0 k d (omega arith) l) in omega (arith, r, e)

  pub step_here : (m : Mishap) → slice_get ms at ≡ Some m → m.attempt ≡ n → script_step n ms ≡ Some m.step
  step_here m e q = step_at n at ms m before e q

  pub step_past : slice_get ms at ≡ None → length ms ≤ at → script_step n ms ≡ None
  step_past e l = step_none n ms (λ k d m. before k d (omega (arith, l, m)))

  pub step_other : IsRisingBy (λ (m : Mishap). m.attempt) ms → (m : Mishap) → slice_get ms at ≡ Some m → m.attempt ≢ n → script_step n ms ≡ None
  step_other rising m e q = step_none n ms (λ k d l. by k d l (cases_lt k at) (cases_eq k at))
    where
      i : at < length ms
      i = slice_get_within ms at m e

      by : (k : ℕ) (d : Mishap) → k < length ms → (k < at) ⊎ (at ≤ k) → (k ≡ at) ⊎ (k ≡ at → ⊥) → (get_or ms k d).attempt ≢ n
      by k d l (inl z) y = before k d z
      by k d l (inr z) (inl y) = λ w. q (ap (λ (v : Mishap). v.attempt) (sym (get_or_from_slice_get ms at m d e) ∙ ap (λ j. get_or ms j d) (sym y)) ∙ w)
      by k d l (inr z) (inr y) = λ w.
          let r : (get_or ms at d).attempt < (get_or ms k d).attempt = rising at k d (omega (arith, z, y)) l in
          let s : n ≤ (get_or ms at d).attempt = ltb-false (get_or ms at d).attempt n (h.1 at d (omega arith) i) in
          omega (arith, r, s, w)

-- ---------------------------------------------------------------- the twins

or_true : (a b : Bool) → b ≡ true → (a || b) ≡ true
or_true true b e = refl
or_true false b e = e

has_at : (n i : ℕ) (xs : List ℕ) → i < length xs → get_or xs i 0 ≡ n → has_number n xs ≡ true
has_at n i [] l e = absurd (omega arith)
has_at n zero (x ∷ xs) l e = ap (λ (b : Bool). b || has_number n xs) (is_eq x n e)
has_at n (suc i) (x ∷ xs) l e = or_true (nat_eq x n) (has_number n xs) (has_at n i xs (omega arith) e)

has_none : (n : ℕ) (xs : List ℕ) → ((k : ℕ) → k < length xs → get_or xs k 0 ≢ n) → has_number n xs ≡ false
has_none n [] h = refl
has_none n (x ∷ xs) h = ap (λ (b : Bool). b || has_number n xs) (not_eq x n (h 0 (omega arith))) ∙ has_none n xs (λ k l. h (suc k) (omega (arith, l)))

pub has_found : (n : ℕ) (xs : List ℕ) (r : Result ℕ ℕ) → MatchResult r (λ i. (i < length xs) × (get_or xs i 0 ≡ n)) (λ i. (i ≤ length xs) × ((k : ℕ) → k < i → get_or xs k 0 < n) × ((k : ℕ) → i ≤ k → k < length xs → n < get_or xs k 0)) → is_ok r ≡ has_number n xs
has_found n xs (Ok i) h = sym (has_at n i xs h.0 h.1)
has_found n xs (Err i) h = sym (has_none n xs (λ k l e. elim (cases_lt k i) [
  | inl q ↦ let r : get_or xs k 0 < n = h.1 k q in omega (arith, r, e)
  | inr q ↦ let r : n < get_or xs k 0 = h.2 k q l in omega (arith, r, e)
]))
