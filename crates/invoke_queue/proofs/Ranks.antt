-- How many of the first so many flags are set, and the numbers that flags stand for.
use Rattle.std.proofs.Common.{ℕ, zero, suc, ◌+◌, ◌<◌, ◌≤◌, ◌≡◌, ◌≢◌, ◌⊎◌, inl, inr, refl, sym, ap, ap₂, ◌∙◌, Bool, true, false, cond, List, [], ◌∷◌, ◌++◌, length, slice_get, slice_set, Some, arith}
use Rattle.std.proofs.lemmas.Option.{same_Some}
use Rattle.std.proofs.lemmas.Bool.{cases_lt}
use Rattle.std.proofs.lemmas.List.{length-set}
use Rattle.world_model.proofs.Gets.{set_own}
use Rattle.world_plans.specs.Three.{numbers_from}
use Rattle.world_plans.specs.Changes.{numbers_set}
use Rattle.world_plans.proofs.Putting.{takes, numbers_change}
use Rattle.invoke_queue.specs.Numbers.{by_flag, rank}

-- ---------------------------------------------------------------- ranks

-- a flag that is set counts one
abbrev pub one : Bool → ℕ
one b = cond b 1 0

pub rank_zero : (flags : List Bool) → rank 0 flags ≡ 0
unfolding rank
rank_zero flags = refl

pub rank_none : (i : ℕ) → rank i [] ≡ 0
unfolding rank
rank_none zero = refl
rank_none (suc i) = refl

-- one flag more
pub rank_next : (i : ℕ) (flags : List Bool) (b : Bool) → slice_get flags i ≡ Some b → rank (suc i) flags ≡ rank i flags + one b
unfolding rank
rank_next i [] b e = absurd (cc)
rank_next zero (f ∷ fs) b e = let h : one f ≡ one b = ap one (same_Some f b e) in omega arith
rank_next (suc i) (f ∷ fs) b e = let r : rank (suc i) fs ≡ rank i fs + one b = rank_next i fs b e in omega (arith, r)

pub rank_within : (i j : ℕ) (flags : List Bool) → i ≤ j → rank i flags ≤ rank j flags
unfolding rank
rank_within zero j flags l = omega arith
rank_within (suc i) j [] l = omega arith
rank_within (suc i) zero (f ∷ fs) l = absurd (omega arith)
rank_within (suc i) (suc j) (f ∷ fs) l = let r : rank i fs ≤ rank j fs = rank_within i j fs (omega arith) in omega (arith, r)

pub rank_past : (i : ℕ) (flags : List Bool) → length flags ≤ i → rank i flags ≡ rank (length flags) flags
unfolding rank
rank_past i [] l = rank_none i
rank_past zero (f ∷ fs) l = absurd (omega arith)
rank_past (suc i) (f ∷ fs) l = ap (λ n. one f + n) (rank_past i fs (omega arith))

pub rank_top : (i : ℕ) (flags : List Bool) → rank i flags ≤ rank (length flags) flags
unfolding rank
rank_top zero flags = omega arith
rank_top (suc i) [] = omega arith
rank_top (suc i) (f ∷ fs) = let r : rank i fs ≤ rank (length fs) fs = rank_top i fs in omega (arith, r)

one_most : (b : Bool) → one b ≤ 1
one_most true = omega arith
one_most false = omega arith

pub rank_most : (flags : List Bool) → rank (length flags) flags ≤ length flags
unfolding rank
rank_most [] = omega arith
rank_most (f ∷ fs) = let r : rank (length fs) fs ≤ length fs = rank_most fs in let o : one f ≤ 1 = one_most f in omega (arith, r, o)

-- more flags are set before a later place only where the first place is within them
pub rank_less : (i j : ℕ) (flags : List Bool) → rank i flags < rank j flags → i < length flags
rank_less i j flags l = by (cases_lt i (length flags))
  where
    by : (i < length flags) ⊎ (length flags ≤ i) → i < length flags
    by (inl x) = x
    by (inr y) =
        let t : rank j flags ≤ rank (length flags) flags = rank_top j flags in
        let p : rank i flags ≡ rank (length flags) flags = rank_past i flags y in
        absurd (omega (arith, l, t, p))

-- a flag that is written counts after its place, and not before
pub rank_before : (i n : ℕ) (flags : List Bool) (c : Bool) → i ≤ n → rank i (slice_set flags n c) ≡ rank i flags
unfolding rank
rank_before zero n flags c l = refl
rank_before (suc i) n [] c l = refl
rank_before (suc i) zero (f ∷ fs) c l = absurd (omega arith)
rank_before (suc i) (suc n) (f ∷ fs) c l = ap (λ m. one f + m) (rank_before i n fs c (omega arith))

pub rank_after : (i n : ℕ) (flags : List Bool) (b c : Bool) → n < i → slice_get flags n ≡ Some b → rank i (slice_set flags n c) + one b ≡ rank i flags + one c
unfolding rank
rank_after zero n flags b c l e = absurd (omega arith)
rank_after (suc i) n [] b c l e = absurd (cc)
rank_after (suc i) zero (f ∷ fs) b c l e = let h : one f ≡ one b = ap one (same_Some f b e) in omega (arith, h)
rank_after (suc i) (suc n) (f ∷ fs) b c l e =
    let r : rank i (slice_set fs n c) + one b ≡ rank i fs + one c = rank_after i n fs b c (omega arith) e in omega (arith, r)

-- one more flag that is not set counts nothing
pub rank_push : (i : ℕ) (flags : List Bool) → rank i (flags ++ false ∷ []) ≡ rank i flags
unfolding rank
rank_push zero flags = refl
rank_push (suc zero) [] = refl
rank_push (suc (suc i)) [] = refl
rank_push (suc i) (f ∷ fs) = ap (λ n. one f + n) (rank_push i fs)

-- ---------------------------------------------------------------- the numbers of flags

-- the number whose flag is set stands at its rank
pub at_rank : (k i : ℕ) (flags : List Bool) → slice_get flags i ≡ Some true → slice_get (numbers_from by_flag k flags) (rank i flags) ≡ Some (k + i)
unfolding numbers_from rank
at_rank k i [] e = absurd (cc)
at_rank k zero (true ∷ fs) e = let z : k ≡ k + 0 = omega arith in ap (λ n. Some n) z
at_rank k zero (false ∷ fs) e = absurd (cc)
at_rank k (suc i) (true ∷ fs) e =
    let z : 1 + rank i fs ≡ suc (rank i fs) = omega arith in
    let y : suc k + i ≡ k + suc i = omega arith in
    ap (slice_get (k ∷ numbers_from by_flag (suc k) fs)) z ∙ at_rank (suc k) i fs e ∙ ap (λ n. Some n) y
at_rank k (suc i) (false ∷ fs) e =
    let z : 0 + rank i fs ≡ rank i fs = omega arith in
    let y : suc k + i ≡ k + suc i = omega arith in
    ap (slice_get (numbers_from by_flag (suc k) fs)) z ∙ at_rank (suc k) i fs e ∙ ap (λ n. Some n) y

pub numbers_count : (k : ℕ) (flags : List Bool) → length (numbers_from by_flag k flags) ≡ rank (length flags) flags
unfolding numbers_from rank
numbers_count k [] = refl
numbers_count k (true ∷ fs) = let r : length (numbers_from by_flag (suc k) fs) ≡ rank (length fs) fs = numbers_count (suc k) fs in omega (arith, r)
numbers_count k (false ∷ fs) = let r : length (numbers_from by_flag (suc k) fs) ≡ rank (length fs) fs = numbers_count (suc k) fs in omega (arith, r)

pub numbers_push : (k : ℕ) (flags : List Bool) → numbers_from by_flag k (flags ++ false ∷ []) ≡ numbers_from by_flag k flags
unfolding numbers_from
numbers_push k [] = refl
numbers_push k (true ∷ fs) = ap (λ ns. k ∷ ns) (numbers_push (suc k) fs)
numbers_push k (false ∷ fs) = numbers_push (suc k) fs

pub set_other : {A : Type 0} (xs : List A) (i : ℕ) (y : A) (j : ℕ) → j ≢ i → slice_get xs j ≡ slice_get (slice_set xs i y) j
set_other [] i y j h = refl
set_other (x ∷ xs) zero y zero h = absurd (h refl)
set_other (x ∷ xs) zero y (suc j) h = refl
set_other (x ∷ xs) (suc i) y zero h = refl
set_other (x ∷ xs) (suc i) y (suc j) h = set_other xs i y j (λ e. h (ap suc e))

-- with one element written, the numbers of a list are as before but for that place
pub numbers_written : {A : Type 0} (test : ℕ → A → Bool) (n : ℕ) (xs : List A) (x y : A) → slice_get xs n ≡ Some x →
    numbers_from test 0 (slice_set xs n y) ≡ numbers_set (test n y) n (numbers_from test 0 xs)
numbers_written test n xs x y e =
    let z : 0 + n ≡ n = omega arith in
    let here : takes test 0 n (slice_get (slice_set xs n y) n) ≡ test n y = ap (takes test 0 n) (set_own xs n x y e) ∙ ap (λ k. test k y) z in
    numbers_change test test (length xs) 0 n xs (slice_set xs n y) (omega arith) (let q : length (slice_set xs n y) ≡ length xs = length-set xs n y in omega (arith, q))
    (λ j q. ap (takes test 0 j) (set_other xs n y j q))
    ∙ ap₂ (λ (b : Bool) k. numbers_set b k (numbers_from test 0 xs)) here z

pub set_same : {A : Type 0} (xs : List A) (n : ℕ) (x : A) → slice_get xs n ≡ Some x → slice_set xs n x ≡ xs
set_same [] n x e = refl
set_same (y ∷ xs) zero x e = ap (λ z. z ∷ xs) (sym (same_Some y x e))
set_same (y ∷ xs) (suc n) x e = ap (λ zs. y ∷ zs) (set_same xs n x e)
