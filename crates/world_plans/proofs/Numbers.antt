-- Lists by the numbers that a test takes.
use Rattle.std.proofs.Common.{ℕ, zero, suc, ◌+◌, ◌-◌, ◌<◌, ◌≤◌, ◌≡◌, inl, inr, refl, sym, ap, ◌∙◌, subst, Bool, true, false, cond, nat_lt, List, [], ◌∷◌, ◌++◌, length, map, slice_get, Some, arith}
use Rattle.std.proofs.lemmas.Option.{same_Some}
use Rattle.std.proofs.lemmas.Bool.{ltb-true, ltb-false}
use Rattle.asl_model.specs.Laws.{In}
use Rattle.world_model.specs.AnyCode.World.{Event}
use Rattle.world_plans.specs.Chooser.{one_if}
use Rattle.world_plans.specs.Three.{numbers_from}

get_left : {A : Type 0} (xs ys : List A) (k : ℕ) → k < length xs → slice_get (xs ++ ys) k ≡ slice_get xs k
get_left [] ys k l = absurd (omega arith)
get_left (x ∷ xs) ys zero l = refl
get_left (x ∷ xs) ys (suc k) l = get_left xs ys k (omega arith)

get_right : {A : Type 0} (xs ys : List A) (k : ℕ) → length xs ≤ k → slice_get (xs ++ ys) k ≡ slice_get ys (k - length xs)
get_right [] ys k l = let z : k ≡ k - 0 = omega arith in ap (slice_get ys) z
get_right (x ∷ xs) ys zero l = absurd (omega arith)
get_right (x ∷ xs) ys (suc k) l = let z : k - length xs ≡ suc k - suc (length xs) = omega arith in get_right xs ys k (omega arith) ∙ ap (slice_get ys) z

-- an element of two lists in a row, by its number
pub get_two : {A : Type 0} (xs ys : List A) (k : ℕ) → slice_get (xs ++ ys) k ≡ cond (nat_lt k (length xs)) (slice_get xs k) (slice_get ys (k - length xs))
get_two {A = A} xs ys k = by (nat_lt k (length xs)) refl
  where
    by : (b : Bool) → nat_lt k (length xs) ≡ b → slice_get (xs ++ ys) k ≡ cond b (slice_get xs k) (slice_get ys (k - length xs))
    by true e = get_left xs ys k (ltb-true k (length xs) e)
    by false e = get_right xs ys k (ltb-false k (length xs) e)

-- a number that the test takes is in the list
pub number_in : {A : Type 0} (test : ℕ → A → Bool) (k : ℕ) (xs : List A) (n : ℕ) (x : A) → slice_get xs n ≡ Some x → test (k + n) x ≡ true → In (k + n) (numbers_from test k xs)
unfolding numbers_from
number_in test k [] n x e q = absurd (cc)
number_in test k (y ∷ xs) zero x e q =
    let z : k + 0 ≡ k = omega arith in
    let h : test k y ≡ true = subst (λ u. test k u ≡ true) (sym (same_Some y x e)) (subst (λ m. test m x ≡ true) z q) in
    subst (λ b. In (k + 0) (cond b (k ∷ numbers_from test (suc k) xs) (numbers_from test (suc k) xs))) (sym h) (inl z)
number_in test k (y ∷ xs) (suc n) x e q =
    let z : k + suc n ≡ suc k + n = omega arith in
    let h : In (k + suc n) (numbers_from test (suc k) xs) = subst (λ m. In m (numbers_from test (suc k) xs)) (sym z) (number_in test (suc k) xs n x e (subst (λ m. test m x ≡ true) z q)) in
    by (test k y) h
  where
    by : (b : Bool) → In (k + suc n) (numbers_from test (suc k) xs) → In (k + suc n) (cond b (k ∷ numbers_from test (suc k) xs) (numbers_from test (suc k) xs))
    by true h = inr h
    by false h = h

-- and a number of the list is one that the test takes
pub in_number : {A : Type 0} (test : ℕ → A → Bool) (k : ℕ) (xs : List A) (m : ℕ) → In m (numbers_from test k xs) → (n : ℕ) × (x : A) × (m ≡ k + n) × (slice_get xs n ≡ Some x) × (test m x ≡ true)
unfolding numbers_from
in_number test k [] m h = absurd h
in_number {A = A} test k (y ∷ xs) m h = by (test k y) refl (λ i. let (n, x, e, f, q) = in_number test (suc k) xs m i in (suc n, x, omega arith, f, q)) h
  where
    by : (b : Bool) → test k y ≡ b → (In m (numbers_from test (suc k) xs) → (n : ℕ) × (x : A) × (m ≡ k + n) × (slice_get (y ∷ xs) n ≡ Some x) × (test m x ≡ true)) →
        In m (cond b (k ∷ numbers_from test (suc k) xs) (numbers_from test (suc k) xs)) → (n : ℕ) × (x : A) × (m ≡ k + n) × (slice_get (y ∷ xs) n ≡ Some x) × (test m x ≡ true)
    by true e more (inl z) = (0, y, omega arith, refl, subst (λ a. test a y ≡ true) (sym z) e)
    by true e more (inr i) = more i
    by false e more i = more i

pub in_map : {A B : Type 0} (f : A → B) (xs : List A) (x : A) → In x xs → In (f x) (map f xs)
in_map f [] x h = absurd h
in_map f (y ∷ xs) x (inl e) = inl (ap f e)
in_map f (y ∷ xs) x (inr h) = inr (in_map f xs x h)

-- a list with an element is not empty
pub not_none : {A : Type 0} (xs : List A) (x : A) → In x xs → xs ≡ [] → ⊥
not_none xs x h e = subst (In x) e h

-- a list and the same from its second element on, counted from k and from the next number
pub from_next : {A : Type 0} (all : List A) (k : ℕ) (x : A) (xs : List A) → ((j : ℕ) → slice_get all (k + j) ≡ slice_get (x ∷ xs) j) → (j : ℕ) → slice_get all (suc k + j) ≡ slice_get xs j
from_next all k x xs h j = let z : suc k + j ≡ k + suc j = omega arith in ap (slice_get all) z ∙ h (suc j)

pub here_is : {A : Type 0} (all : List A) (k : ℕ) (x : A) (xs : List A) → ((j : ℕ) → slice_get all (k + j) ≡ slice_get (x ∷ xs) j) → slice_get all k ≡ Some x
here_is all k x xs h = let z : k ≡ k + 0 = omega arith in ap (slice_get all) z ∙ h 0

pub from_zero : {A : Type 0} (all : List A) (j : ℕ) → slice_get all (0 + j) ≡ slice_get all j
from_zero all j = let z : 0 + j ≡ j = omega arith in ap (slice_get all) z

pub if_on : (b : Bool) (d e : Event) → In e (one_if b d) → (b ≡ true) × (e ≡ d)
if_on true d e (inl q) = (refl, q)
if_on true d e (inr q) = absurd q
if_on false d e q = absurd q
