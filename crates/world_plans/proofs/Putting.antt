-- A list of numbers that a test takes, where the test differs at one number.
use Rattle.std.proofs.Common.{ℕ, zero, suc, ◌+◌, ◌<◌, ◌≤◌, ◌≡◌, ◌≢◌, inl, inr, refl, sym, ap, ap₂, ◌∙◌, Bool, true, false, cond, nat_eq, nat_lt, List, [], ◌∷◌, length, slice_get, Option, Some, None, arith}
use Rattle.std.proofs.lemmas.Bool.Decides.{eqb_tells}
use Rattle.std.proofs.lemmas.Bool.{eqb-true, ltb-true, ltb-false}
use Rattle.world_plans.specs.Three.{numbers_from}
use Rattle.world_plans.specs.Changes.{numbers_without, numbers_with, numbers_set}

pub not_eq : (n i : ℕ) → n ≢ i → nat_eq n i ≡ false
not_eq n i h = by (nat_eq n i) refl
  where
    by : (b : Bool) → nat_eq n i ≡ b → b ≡ false
    by false e = refl
    by true e = absurd (h (eqb-true n i e))

is_eq : (n : ℕ) → nat_eq n n ≡ true
is_eq n = elim (eqb_tells n n) [ inl r ↦ r.0 | inr r ↦ absurd (r.1 refl) ]

is_lt : (n i : ℕ) → n < i → nat_lt n i ≡ true
is_lt n i h = by (nat_lt n i) refl
  where
    by : (b : Bool) → nat_lt n i ≡ b → b ≡ true
    by true e = refl
    by false e = absurd (let l : i ≤ n = ltb-false n i e in omega arith)

not_lt : (n i : ℕ) → i ≤ n → nat_lt n i ≡ false
not_lt n i h = by (nat_lt n i) refl
  where
    by : (b : Bool) → nat_lt n i ≡ b → b ≡ false
    by false e = refl
    by true e = absurd (let l : n < i = ltb-true n i e in omega arith)

-- all are above that
abbrev Above : ℕ → List ℕ → Type 0
Above i [] = Unit {0}
Above i (n ∷ ns) = (i < n) × Above i ns

above_less : (i k : ℕ) → i ≤ k → (ns : List ℕ) → Above k ns → Above i ns
above_less i k l [] h = tt
above_less i k l (n ∷ ns) (a, h) = (omega arith, above_less i k l ns h)

without_above : (i : ℕ) (ns : List ℕ) → Above i ns → numbers_without i ns ≡ ns
unfolding numbers_without
without_above i [] h = refl
without_above i (n ∷ ns) (a, h) =
    let q : n ≢ i = λ e. absurd (omega arith) in
    ap (λ (b : Bool). cond b (numbers_without i ns) (n ∷ numbers_without i ns)) (not_eq n i q) ∙ ap (λ xs. n ∷ xs) (without_above i ns h)

with_above : (i : ℕ) (ns : List ℕ) → Above i ns → numbers_with i ns ≡ i ∷ ns
unfolding numbers_with
with_above i [] h = refl
with_above i (n ∷ ns) (a, h) =
    let q : n ≢ i = λ e. absurd (omega arith) in
    ap (λ (b : Bool). cond b (n ∷ numbers_with i ns) (i ∷ cond (nat_eq n i) ns (n ∷ ns))) (not_lt n i (omega arith)) ∙ ap (λ (b : Bool). i ∷ cond b ns (n ∷ ns)) (not_eq n i q)

-- the number itself stands first
without_first : (i : ℕ) (ns : List ℕ) → Above i ns → numbers_without i (i ∷ ns) ≡ ns
unfolding numbers_without
without_first i ns h = ap (λ (b : Bool). cond b (numbers_without i ns) (i ∷ numbers_without i ns)) (is_eq i) ∙ without_above i ns h

with_first : (i : ℕ) (ns : List ℕ) → numbers_with i (i ∷ ns) ≡ i ∷ ns
unfolding numbers_with
with_first i ns =
    ap (λ (b : Bool). cond b (i ∷ numbers_with i ns) (i ∷ cond (nat_eq i i) ns (i ∷ ns))) (not_lt i i (omega arith)) ∙ ap (λ (b : Bool). i ∷ cond b ns (i ∷ ns)) (is_eq i)

-- put in first, or out
put_first : (b c : Bool) (i : ℕ) (ns : List ℕ) → Above i ns → cond b (i ∷ ns) ns ≡ numbers_set b i (cond c (i ∷ ns) ns)
put_first true true i ns h = sym (with_first i ns)
put_first true false i ns h = sym (with_above i ns h)
put_first false true i ns h = sym (without_first i ns h)
put_first false false i ns h = sym (without_above i ns h)

-- put in or out further on
put_past : (b c : Bool) (n i : ℕ) (ns : List ℕ) → n < i → cond c (n ∷ numbers_set b i ns) (numbers_set b i ns) ≡ numbers_set b i (cond c (n ∷ ns) ns)
unfolding numbers_with numbers_without
put_past true true n i ns l = sym (ap (λ (b : Bool). cond b (n ∷ numbers_with i ns) (i ∷ cond (nat_eq n i) ns (n ∷ ns))) (is_lt n i l))
put_past true false n i ns l = refl
put_past false true n i ns l = let q : n ≢ i = λ e. absurd (omega arith) in sym (ap (λ (b : Bool). cond b (numbers_without i ns) (n ∷ numbers_without i ns)) (not_eq n i q))
put_past false false n i ns l = refl

-- ---------------------------------------------------------------- tests

-- whether the test takes the element at that place, where elements are counted from k on
abbrev pub takes : {A : Type 0} → (test : ℕ → A → Bool) → (k j : ℕ) → Option A → Bool
takes test k j None = false
takes test k j (Some x) = test (k + j) x

abbrev rest_of : {A : Type 0} → List A → List A
rest_of [] = []
rest_of (x ∷ xs) = xs

numbers_above : {A : Type 0} (test : ℕ → A → Bool) (i k : ℕ) → i < k → (xs : List A) → Above i (numbers_from test k xs)
unfolding numbers_from
numbers_above test i k l [] = tt
numbers_above test i k l (x ∷ xs) = by (test k x) (numbers_above test i (suc k) (omega arith) xs)
  where
    by : (b : Bool) → Above i (numbers_from test (suc k) xs) → Above i (cond b (k ∷ numbers_from test (suc k) xs) (numbers_from test (suc k) xs))
    by true h = (l, h)
    by false h = h

-- a list of numbers by its first element
numbers_first : {A : Type 0} (test : ℕ → A → Bool) (k : ℕ) (xs : List A) → numbers_from test k xs ≡ cond (takes test k 0 (slice_get xs 0)) (k ∷ numbers_from test (suc k) (rest_of xs)) (numbers_from test (suc k) (rest_of xs))
unfolding numbers_from
numbers_first test k [] = refl
numbers_first test k (x ∷ xs) =
    let z : k ≡ k + 0 = omega arith in
    ap (λ n. cond (test n x) (k ∷ numbers_from test (suc k) xs) (numbers_from test (suc k) xs)) z

takes_next : {A : Type 0} (test : ℕ → A → Bool) (k j : ℕ) (xs : List A) → takes test k (suc j) (slice_get xs (suc j)) ≡ takes test (suc k) j (slice_get (rest_of xs) j)
takes_next test k j [] = refl
takes_next test k j (x ∷ xs) = let z : k + suc j ≡ suc k + j = omega arith in by (slice_get xs j) z
  where
    by : (y : Option _) → k + suc j ≡ suc k + j → takes test k (suc j) y ≡ takes test (suc k) j y
    by None e = refl
    by (Some y) e = ap (λ n. test n y) e

rest_short : {A : Type 0} (xs : List A) (n : ℕ) → length xs ≤ suc n → length (rest_of xs) ≤ n
rest_short [] n l = omega arith
rest_short (x ∷ xs) n l = omega arith

none_in : {A : Type 0} (test : ℕ → A → Bool) (k : ℕ) (xs : List A) → length xs ≤ 0 → numbers_from test k xs ≡ []
unfolding numbers_from
none_in test k [] l = refl
none_in test k (x ∷ xs) l = absurd (omega arith)

-- tests that take the same have the same numbers
numbers_same : {A : Type 0} (test other : ℕ → A → Bool) (n : ℕ) (k : ℕ) (xs ys : List A) → length xs ≤ n → length ys ≤ n → ((j : ℕ) → takes test k j (slice_get xs j) ≡ takes other k j (slice_get ys j)) → numbers_from test k xs ≡ numbers_from other k ys
numbers_same test other zero k xs ys l m h = none_in test k xs l ∙ sym (none_in other k ys m)
numbers_same test other (suc n) k xs ys l m h =
    let r : numbers_from test (suc k) (rest_of xs) ≡ numbers_from other (suc k) (rest_of ys) =
    numbers_same test other n (suc k) (rest_of xs) (rest_of ys) (rest_short xs n l) (rest_short ys n m) (λ j. sym (takes_next test k j xs) ∙ h (suc j) ∙ takes_next other k j ys) in
    numbers_first test k xs ∙ ap₂ (λ (b : Bool) ns. cond b (k ∷ ns) ns) (h 0) r ∙ sym (numbers_first other k ys)

none_takes : {A : Type 0} (test : ℕ → A → Bool) (k j : ℕ) (ys : List A) → length ys ≤ 0 → takes test k j (slice_get ys j) ≡ false
none_takes test k j [] l = refl
none_takes test k j (y ∷ ys) l = absurd (omega arith)

without_none : (i : ℕ) → numbers_without i [] ≡ []
unfolding numbers_without
without_none i = refl

-- and where they differ at one number, that is put in or out
pub numbers_change : {A : Type 0} (test other : ℕ → A → Bool) (n : ℕ) (k i : ℕ) (xs ys : List A) → length xs ≤ n → length ys ≤ n → ((j : ℕ) → j ≢ i → takes test k j (slice_get xs j) ≡ takes other k j (slice_get ys j)) →
    numbers_from other k ys ≡ numbers_set (takes other k i (slice_get ys i)) (k + i) (numbers_from test k xs)
numbers_change test other n k zero xs ys l m h =
    let ns = numbers_from test (suc k) (rest_of xs) in
    let r : ns ≡ numbers_from other (suc k) (rest_of ys) =
    numbers_same test other n (suc k) (rest_of xs) (rest_of ys) (rest_short xs n (omega arith)) (rest_short ys n (omega arith)) (λ j. sym (takes_next test k j xs) ∙ h (suc j) (λ e. absurd (cc)) ∙ takes_next other k j ys) in
    let a : Above k ns = numbers_above test k (suc k) (omega arith) (rest_of xs) in
    let z : k ≡ k + 0 = omega arith in
    numbers_first other k ys ∙ ap (λ ms. cond (takes other k 0 (slice_get ys 0)) (k ∷ ms) ms) (sym r)
    ∙ put_first (takes other k 0 (slice_get ys 0)) (takes test k 0 (slice_get xs 0)) k ns a
    ∙ ap₂ (λ j ms. numbers_set (takes other k 0 (slice_get ys 0)) j ms) z (sym (numbers_first test k xs))
numbers_change test other zero k (suc i) xs ys l m h =
    none_in other k ys m ∙ sym (ap₂ (λ (c : Bool) ns. numbers_set c (k + suc i) ns) (none_takes other k (suc i) ys m) (none_in test k xs l) ∙ without_none (k + suc i))
numbers_change test other (suc n) k (suc i) xs ys l m h =
    let ns = numbers_from test (suc k) (rest_of xs) in
    let r = numbers_change test other n (suc k) i (rest_of xs) (rest_of ys) (rest_short xs n l) (rest_short ys n m) (λ j q. sym (takes_next test k j xs) ∙ h (suc j) (λ e. q (let z : j ≡ i = omega arith in z)) ∙ takes_next other k j ys) in
    let z : suc k + i ≡ k + suc i = omega arith in
    let head : takes other k 0 (slice_get ys 0) ≡ takes test k 0 (slice_get xs 0) = sym (h 0 (λ e. absurd (cc))) in
    let b : Bool = takes other k (suc i) (slice_get ys (suc i)) in
    let r' : numbers_from other (suc k) (rest_of ys) ≡ numbers_set b (k + suc i) ns = r ∙ ap₂ (λ c j. numbers_set c j ns) (sym (takes_next other k i ys)) z in
    numbers_first other k ys ∙ ap₂ (λ (c : Bool) ms. cond c (k ∷ ms) ms) head r'
    ∙ put_past b (takes test k 0 (slice_get xs 0)) k (k + suc i) ns (omega arith)
    ∙ ap (numbers_set b (k + suc i)) (sym (numbers_first test k xs))
