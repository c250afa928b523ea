-- The count of the inputs that were made.
use Rattle.std.proofs.Common.{◌≡◌, refl, Result, Ok, Err, ℕ, ◌+◌, ◌-◌, ◌^◌, ◌<◌, ◌≤◌, min, map, List, [], ◌∷◌, ◌++◌, ap, ◌∙◌, arith}
use Rattle.std.specs.Prelude.{sum}
use Rattle.std.proofs.lemmas.List.Sums.{sum-map, sum_by-append, sum_by-cons}
use Rattle.unum_json.specs.declared.value.Json.{Json, Arr}
use Rattle.unum_json.specs.Tree.{nodes}
use Rattle.unum_json.proofs.Laws.{nodes-Arr}
use Rattle.unum_ir.specs.Kinds.{Keeps, more_inputs}

one_more : (made : List Json) (x : Json) → nodes (Arr (made ++ x ∷ [])) ≡ nodes (Arr made) + nodes x
one_more made x =
    omega (arith, nodes-Arr made, nodes-Arr (made ++ x ∷ []), sum-map nodes made, sum-map nodes (made ++ x ∷ []), sum_by-append nodes made (x ∷ []), sum_by-cons nodes x [], sum-map nodes [])

-- one more input is counted
counted_more : (made : List Json) (x : Json) (total n more : ℕ) → total ≡ min (nodes (Arr made)) (2 ^ 64 - 1) → n ≡ min (nodes x) (2 ^ 64 - 1) → more ≡ min (total + n) (2 ^ 64 - 1)
    → more ≡ min (nodes (Arr (made ++ x ∷ []))) (2 ^ 64 - 1)
counted_more made x total n more t e m = omega (arith, one_more made x, t, e, m)

-- and let go, since all are too many
pub let_go : (kept made : List Json) (x : Json) (total n more : ℕ) → Keeps kept total made → n ≡ min (nodes x) (2 ^ 64 - 1) → more ≡ min (total + n) (2 ^ 64 - 1) → 200000 < more → Keeps kept more (made ++ x ∷ [])
let_go kept made x total n more k e m over = (counted_more made x total n more k.0 e m, λ few. absurd (omega (arith, over, few)))

few_before : (total n more : ℕ) → more ≡ min (total + n) (2 ^ 64 - 1) → more ≤ 200000 → total ≤ 200000
few_before total n more m few = omega (arith, m, few)

-- and kept
pub kept_more : (kept new made : List Json) (x : Json) (total n more : ℕ) → Keeps kept total made → n ≡ min (nodes x) (2 ^ 64 - 1) → more ≡ min (total + n) (2 ^ 64 - 1) → new ≡ kept ++ x ∷ [] → Keeps new more (made ++ x ∷ [])
kept_more kept new made x total n more k e m pushed = (counted_more made x total n more k.0 e m, λ few. pushed ∙ ap (λ l. l ++ x ∷ []) (k.1 (few_before total n more m few)))

-- none was made
pub none_made : (new : List Json) → new ≡ [] → Keeps new 1 []
none_made new e = (omega (arith, nodes-Arr [], sum-map nodes []), λ few. e)

pub none_before : (made : Result (List Json) (List ℕ)) → more_inputs [] made ≡ made
none_before (Ok vs) = refl
none_before (Err e) = refl

pub all_counted : (vs : List Json) (total : ℕ) → total ≡ min (1 + sum (map nodes vs)) (2 ^ 64 - 1) → total ≡ min (nodes (Arr vs)) (2 ^ 64 - 1)
all_counted vs total e = omega (arith, nodes-Arr vs, e)
