-- The numbers of a valid machine are small: there are at most as many blocks, and as many Tasks and fans, as states.
use Rattle.std.proofs.Common.{◌≡◌, ℕ, ◌≤◌, ◌<◌, List, [], ◌∷◌, Some, length, refl, sym, ap, ◌∙◌, inl, inr, arith, length-append}
use Rattle.std.proofs.lemmas.List.{length-map}
use Rattle.asl_model.specs.Machine.{States, no_state, and_state, State, Task, Pass, Choice, Succeed, Fail, Parallel, Map, find_state, states_of}
use Rattle.asl_model.specs.Laws.{In}
use Rattle.asl_model.specs.Blocks.{nodes as states_in}
use Rattle.continuation_gen.specs.Numbering.{size, calls, callers, count, Placed, placed, all_of, nodes_of, funcs_of, scope_of, enters, flat_form}
use Rattle.continuation_gen.specs.Laws.{name_in, SmallNumbers}
use Rattle.unum_ir.specs.WellFormed.{name_of}
use Rattle.continuation_gen.proofs.InBlock.{length-funcs_from, length-nodes_from}
use Rattle.continuation_gen.proofs.Stands.{block_listed, many, length-enters}
use Rattle.continuation_gen.proofs.Counted.{same_nodes}

one_call : (s : State) → calls s ≤ 1
one_call (Task shape resource after care) = omega arith
one_call (Pass shape result after) = omega arith
one_call (Choice shape rules default) = omega arith
one_call (Succeed shape) = omega arith
one_call (Fail error cause) = omega arith
one_call (Parallel shape bs after care) = omega arith
one_call (Map shape items selector b after care limit) = omega arith

few_callers : (states : States) → callers states ≤ count states
few_callers no_state = omega arith
few_callers (and_state name s rest) = omega (arith, one_call s, few_callers rest)

some_state : (states : States) (name : List ℕ) → (s : State) × (find_state states name ≡ Some s) → 0 < count states
some_state no_state name h = absurd (cc h.1)
some_state (and_state m s rest) name h = omega arith

-- how many nodes, at least as many as blocks and as functions
few_of : (ps : List Placed) → ((p : Placed) → In p ps → 0 < count (states_of p.block)) → (length ps ≤ length (all_of nodes_of ps)) × (length (all_of funcs_of ps) ≤ length (all_of nodes_of ps))
few_of [] h = (omega arith, omega arith)
few_of (p ∷ ps) h =
    let k = few_of ps (λ q i. h q (inr i)) in
    let m = h p (inl refl) in
    let l = few_callers (states_of p.block) in
    let n = length-nodes p in
    let f = length-funcs_from p.at.node (states_of p.block) in
    let a = length-append (nodes_of p) (all_of nodes_of ps) in
    let b = length-append (funcs_of p) (all_of funcs_of ps) in
    (omega (arith, k.0, m, n, a), omega (arith, k.1, l, n, f, a, b))
  where
    length-nodes : (p : Placed) → length (nodes_of p) ≡ count (states_of p.block)
    length-nodes p = length-nodes_from _ _ _ _ (states_of p.block)

pub small_numbers : SmallNumbers
small_numbers root valid =
    let k = few_of (placed root) (λ p i. some_state (states_of p.block) _ (valid.starts p.block (block_listed root p i))) in
    let n : length (flat_form root).nodes ≡ length (states_in root) = sym (length-map (flat_form root).nodes name_of) ∙ ap length (same_nodes root) ∙ length-map (states_in root) name_in in
    let s : length (flat_form root).scopes ≡ length (placed root) = length-map (placed root) scope_of in
    let f = length-append (enters 0 (size root).scope) (all_of funcs_of (placed root)) in
    let e = length-enters 0 (size root).scope in
    let m = many root in
    let v = valid.few in
    (omega (arith, n, v), omega (arith, k.0, n, s, v), omega (arith, k.0, k.1, n, f, e, m, v))
