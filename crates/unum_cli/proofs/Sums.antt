-- Numbers that are added up.
use Rattle.std.proofs.Common.{ℕ, ◌+◌, ◌<◌, ◌≡◌, sym, ap, ◌∙◌, List, ◌∷◌, length, drop, get_or, sum_by, arith}
use Rattle.std.proofs.lemmas.List.{drop_more}
use Rattle.std.proofs.lemmas.List.Sums.{sum_by-cons}

-- one more number is added
pub sum_next : {A : Type 0} (f : A → ℕ) (whole : ℕ) (all : List A) (i : ℕ) (item : A) (total sum : ℕ) → whole ≡ total + sum_by f (drop i all) → i < length all → item ≡ get_or all i item → sum ≡ total + f item
    → whole ≡ sum + sum_by f (drop (i + 1) all)
sum_next f whole all i item total sum so_far lt is added =
    let rest : drop i all ≡ item ∷ drop (i + 1) all = drop_more all i item lt ∙ ap (λ x. x ∷ drop (i + 1) all) (sym is) in
    let step : sum_by f (drop i all) ≡ f item + sum_by f (drop (i + 1) all) = ap (sum_by f) rest ∙ sum_by-cons f item (drop (i + 1) all) in
    omega arith
