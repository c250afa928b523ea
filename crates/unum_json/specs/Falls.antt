-- The parts of a value have fewer nodes.
use Rattle.std.specs.Prelude.{◌≡◌, ℕ, ◌≤◌, ◌+◌, max, map, sum, List, [], ◌∷◌}
use Rattle.std.proofs.Common.{arith, rules}
use Rattle.std.proofs.lemmas.List.Sums.{sum-map, sum_by-cons}
use denote.Param.Weighed.{most}
use Rattle.unum_json.specs.declared.value.Json.{Json, the_lemmas, Arr, Obj}
use Rattle.unum_json.specs.declared.kept.Node.{Node}
use Rattle.unum_json.specs.declared.kept.Node.TheVariants as node
use Rattle.unum_json.specs.declared.kept.Json.TheDeep.{deep-Node}
use Rattle.unum_json.specs.Kept.{tree_of}
use Rattle.unum_json.specs.Tree.{nodes, fields_sum, on_values}

pub nodes-Arr : (vs : List Json) → nodes (Arr vs) ≡ 1 + sum (map nodes vs)
nodes-Arr vs = search (rules, the_lemmas)

pub nodes-Obj : (fs : List (List ℕ × Json)) → nodes (Obj fs) ≡ 1 + fields_sum (on_values nodes fs)
nodes-Obj fs = search (rules, the_lemmas)

most_items : (vs : List Json) → most (λ v. nodes v + 1) vs ≤ sum (map nodes vs) + 1
most_items [] = omega arith
most_items (v ∷ vs) = omega (arith, most_items vs, sum-map nodes vs, sum-map nodes (v ∷ vs), sum_by-cons nodes v vs)

most_fields : (fs : List (List ℕ × Json)) → most (λ f. max 0 (nodes f.1 + 1)) fs ≤ fields_sum (on_values nodes fs) + 1
most_fields [] = omega arith
most_fields (f ∷ fs) = omega (arith, most_fields fs)

pub falls : (a : Node) → max (deep-Node a) 0 ≤ nodes (tree_of a)
falls node.Null = omega arith
falls (node.Bool b) = omega arith
falls (node.Int i) = omega arith
falls (node.Str s) = omega arith
falls (node.Arr vs n d) = omega (arith, most_items vs, nodes-Arr vs)
falls (node.Obj fs n d) = omega (arith, most_fields fs, nodes-Obj fs)
