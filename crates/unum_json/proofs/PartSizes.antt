-- A part of a value has no more nodes than its parts together.
use Rattle.std.proofs.Common.{◌≡◌, ℕ, zero, suc, ◌+◌, ◌*◌, ◌<◌, ◌≤◌, List, [], ◌∷◌, length, get_or, map, sum, arith, ap}
use Rattle.std.proofs.lemmas.List.Sums.{sum-map, sum_by-cons}
use Rattle.unum_json.specs.declared.value.Json.{Json, Arr, Obj}
use Rattle.unum_json.specs.Falls.{nodes-Arr, nodes-Obj}
use Rattle.unum_json.specs.Tree.{nodes, fields_sum, on_values}

within_items : (vs : List Json) (i : ℕ) (d : Json) → i < length vs → nodes (get_or vs i d) ≤ sum (map nodes vs)
within_items [] i d lt = absurd (omega (arith, lt))
within_items (v ∷ vs) zero d lt = omega (arith, sum-map nodes (v ∷ vs), sum_by-cons nodes v vs)
within_items (v ∷ vs) (suc i) d lt =
    let lt' : i < length vs = omega (arith, lt) in
    omega (arith, within_items vs i d lt', sum-map nodes vs, sum-map nodes (v ∷ vs), sum_by-cons nodes v vs)

within_fields : (fs : List (List ℕ × Json)) (i : ℕ) (d : List ℕ × Json) → i < length fs → nodes (get_or fs i d).1 ≤ fields_sum (on_values nodes fs)
within_fields [] i d lt = absurd (omega (arith, lt))
within_fields (f ∷ fs) zero d lt = omega arith
within_fields (f ∷ fs) (suc i) d lt =
    let lt' : i < length fs = omega (arith, lt) in
    omega (arith, within_fields fs i d lt')

-- the item at an index of the list that a slice shows
pub item_falls : (vs all : List Json) (i : ℕ) (x : Json) → all ≡ vs → i < length all → x ≡ get_or all i x → 2 * nodes x < 2 * sum (map nodes vs) + 1
item_falls vs all i x e lt is =
    let n : nodes x ≡ nodes (get_or all i x) = ap nodes is in
    let s : sum (map nodes all) ≡ sum (map nodes vs) = ap (λ l. sum (map nodes l)) e in
    omega (arith, within_items all i x lt, n, s)

pub field_falls : (fs all : List (List ℕ × Json)) (i : ℕ) (x : List ℕ × Json) → all ≡ fs → i < length all → x ≡ get_or all i x → 2 * nodes x.1 < 2 * fields_sum (on_values nodes fs) + 1
field_falls fs all i x e lt is =
    let n : nodes x.1 ≡ nodes (get_or all i x).1 = ap (λ (f : List ℕ × Json). nodes f.1) is in
    let s : fields_sum (on_values nodes all) ≡ fields_sum (on_values nodes fs) = ap (λ l. fields_sum (on_values nodes l)) e in
    omega (arith, within_fields all i x lt, n, s)

pub items_fall : (v : Json) (vs : List Json) → v ≡ Arr vs → 2 * sum (map nodes vs) + 1 < 2 * nodes v
items_fall v vs e =
    let n : nodes v ≡ nodes (Arr vs) = ap nodes e in
    omega (arith, n, nodes-Arr vs)

pub fields_fall : (v : Json) (fs : List (List ℕ × Json)) → v ≡ Obj fs → 2 * fields_sum (on_values nodes fs) + 1 < 2 * nodes v
fields_fall v fs e =
    let n : nodes v ≡ nodes (Obj fs) = ap nodes e in
    omega (arith, n, nodes-Obj fs)
