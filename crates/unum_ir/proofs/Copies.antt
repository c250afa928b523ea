-- How many copies there are.
use Rattle.std.proofs.Common.{◌≡◌, ℕ, zero, suc, ◌+◌, ◌*◌, ◌<◌, ◌≤◌, ◌⊎◌, inl, inr, min, nat_le, List, [], ◌∷◌, ◌++◌, map, length, refl, sym, ap, ◌∙◌, add-one, arith}
use Rattle.std.specs.Prelude.{sum, sum_by}
use Rattle.std.proofs.lemmas.List.Sums.{sum_by-cons, sum-map}
use Rattle.std.proofs.lemmas.Bool.{cases_lt}
use Rattle.std.proofs.lemmas.Bool.Decides.{nat_tests}
use Rattle.std.proofs.Math.Nat.{zero-mul, suc-mul, mul-suc, mul_comm, add_comm}
use Rattle.std.proofs.lemmas.List.{length_push}
use Rattle.unum_json.specs.declared.value.Json as json
use Rattle.unum_json.specs.Tree.{nodes}
use Rattle.unum_json.proofs.Laws.{nodes-Arr}
use Rattle.asl_model.specs.Data.{Json, repeat}

one_more : {X : Type 0} (n : ℕ) (x : X) → repeat n x ++ x ∷ [] ≡ repeat (suc n) x
one_more zero x = refl
one_more (suc n) x = ap (λ l. x ∷ l) (one_more n x)

-- one more copy of x
pub copied : {X : Type 0} (made more : List X) (x y : X) (count : ℕ) → more ≡ made ++ y ∷ [] → y ≡ x → made ≡ repeat (length made) x → length made < count → (more ≡ repeat (length more) x) × (length more ≤ count)
copied made more x y count e f g h =
    let l : length more ≡ suc (length made) = ap length e ∙ length_push made y ∙ add-one (length made) in (
      e ∙ ap (λ z. made ++ z ∷ []) f ∙ ap (λ z. z ++ x ∷ []) g ∙ one_more (length made) x ∙ ap (λ n. repeat n x) (sym l),
      omega arith,
    )

-- ---- how many nodes they have

by_copies : (n : ℕ) (x : Json) → sum_by nodes (repeat n x) ≡ n * nodes x
by_copies zero x = sym (zero-mul (nodes x))
by_copies (suc n) x = sum_by-cons nodes x (repeat n x) ∙ ap (λ k. nodes x + k) (by_copies n x) ∙ add_comm (nodes x) (n * nodes x) ∙ sym (suc-mul n (nodes x))

sum-copies : (n : ℕ) (x : Json) → sum (map nodes (repeat n x)) ≡ n * nodes x
sum-copies n x = sum-map nodes (repeat n x) ∙ by_copies n x

by_product : (p q product total : ℕ) → product ≡ min p 18446744073709551615 → total ≡ min (product + 1) 18446744073709551615 → (p ≡ q) ⊎ ((18446744073709551615 ≤ p) × (18446744073709551615 ≤ q)) → nat_le total 200000 ≡ nat_le (1 + q) 200000
by_product p q product total e f (inl same) = grind (arith, nat_tests)
by_product p q product total e f (inr large) = grind (arith, nat_tests)

product_cases : (n c each : ℕ) → each ≡ min n 18446744073709551615 → (each * c ≡ c * n) ⊎ ((18446744073709551615 ≤ each * c) × (18446744073709551615 ≤ c * n))
product_cases n zero each e = inl (omega arith)
product_cases n (suc c) each e = elim (cases_lt n 18446744073709551615) [
  | inl lt ↦ let same : each ≡ n = omega arith in inl (ap (λ z. z * suc c) same ∙ mul_comm n (suc c))
  | inr le ↦
      let top : each ≡ 18446744073709551615 = omega arith in
      inr (omega (arith, mul-suc each c), omega (arith, suc-mul c n))
]

-- the count of one, times their number
pub copies_count : (n : ℕ) (x : Json) (each product total : ℕ) → each ≡ min (nodes x) 18446744073709551615 → product ≡ min (each * n) 18446744073709551615 → total ≡ min (product + 1) 18446744073709551615
    → nat_le total 200000 ≡ nat_le (nodes (json.Arr (repeat n x))) 200000
copies_count n x each product total e f g =
    by_product (each * n) (n * nodes x) product total f g (product_cases (nodes x) n each e)
    ∙ ap (λ k. nat_le (1 + k) 200000) (sym (sum-copies n x))
    ∙ ap (λ k. nat_le k 200000) (sym (nodes-Arr (repeat n x)))
