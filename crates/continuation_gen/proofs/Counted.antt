-- The nodes and the functions of the flat form are those of the machine.
use Rattle.std.proofs.Common.{◌≡◌, ℕ, ◌+◌, List, [], ◌∷◌, ◌++◌, Some, None, map, flat_map, slice_get, refl, sym, ap, ap₂, ◌∙◌, subst, inl, inr}
use Rattle.std.proofs.lemmas.List.{map-append}
use Rattle.std.proofs.lemmas.Option.{same_Some}
use Rattle.asl_model.specs.Data.{Text}
use Rattle.asl_model.specs.Machine.{Block, States, no_state, and_state, State, state_of, states_of}
use Rattle.asl_model.specs.Central.{Entered, Called, Joined}
use Rattle.asl_model.specs.Laws.{In}
use Rattle.asl_model.specs.Blocks.{rows, rows_of, Function, function_at}
use Rattle.asl_model.specs.Walked.{HasRisingNames}
use Rattle.continuation_gen.specs.Tables.{Func, TaskFunc, JoinFunc}
use Rattle.continuation_gen.specs.Numbering.{At, plus, own, size_under, calls, Placed, first_at, placed, all_of, nodes_of, nodes_from, func_from, op_of, node_number}
use Rattle.continuation_gen.specs.Laws.{name_of, name_in, IsNodeOf, Means, SameNodes, SameFunctions}
use Rattle.continuation_gen.proofs.Place.{place_blocks}
use Rattle.continuation_gen.proofs.Stands.{block_at, all_flat, node_at, FuncIs, func_is, enter_number, call_number}
use Rattle.continuation_gen.proofs.Stops.{kind_of}
use Rattle.continuation_gen.proofs.Sites.{same_length}

-- ---------------------------------------------------------------- nodes

own_names : (g : Text → ℕ) (scope func : ℕ) (at : At) (states : States) → map name_of (nodes_from g scope func at states) ≡ map name_in (rows_of states)
own_names g scope func at no_state = refl
own_names g scope func at (and_state name s rest) = ap (λ l. name ∷ l) (own_names g scope (func + calls s) (plus at (size_under s)) rest)

all_names : (ps : List Placed) → map name_of (all_of nodes_of ps) ≡ map name_in (all_of (λ p. rows p.block) ps)
all_names [] = refl
all_names (p ∷ ps) =
    map-append name_of (nodes_of p) (all_of nodes_of ps)
    ∙ ap₂ (λ (x y : List Text). x ++ y) (own_names (node_number p) p.at.scope p.at.func (plus p.at (own p.block)) (states_of p.block)) (all_names ps)
    ∙ sym (map-append name_in (rows p.block) (all_of (λ q. rows q.block) ps))

pub same_nodes : SameNodes
same_nodes root = all_names (placed root) ∙ ap (map name_in) (all_flat rows (placed root) ∙ ap (flat_map rows) (place_blocks None (first_at root) root))

-- ---------------------------------------------------------------- functions

module _ (root : Block) (rise : HasRisingNames root) where
  its_node : (p : Placed) → In p (placed root) → (name : Text) (s : State) → state_of p.block name ≡ Some s → IsNodeOf root (node_number p name) p.block name
  its_node p h name s e =
      let t = node_at root p h name s e in
      record { node = record { name = name; scope = p.at.scope; op = op_of (node_number p) t.its_func t.its_at s }; found = t.found; named = refl; block = block_at root p h }

  meaning : (f : ℕ) (x : Func) → FuncIs root rise f x → (y : Function) × (function_at root f ≡ Some y) × Means root x y
  meaning f x w = elim (kind_of w.name w.s) [
    | inl k ↦ absurd (let none : slice_get (func_from (node_number w.p w.name) w.s) 0 ≡ None = ap (λ (l : List Func). slice_get l 0) (k.func (node_number w.p w.name)) in let bad : Some x ≡ None = sym w.is ∙ none in cc)
    | inr t ↦ elim t [
      | inl task ↦
          let (resource, k) = task in
          let y : Function = (w.p.block, Called w.name resource) in
          let z : Func = TaskFunc (node_number w.p w.name) resource in
          let same : z ≡ x = same_Some z x (sym (ap (λ (l : List Func). slice_get l 0) (k.func (node_number w.p w.name))) ∙ w.is) in
          (y, ap (function_at root) w.number ∙ call_number root w.p w.here w.name w.s (Called w.name resource) w.found k.visited, subst (λ (v : Func). Means root v y) same (w.name, its_node w.p w.here w.name w.s w.found, refl))
      | inr k ↦
          let y : Function = (w.p.block, Joined w.name) in
          let z : Func = JoinFunc (node_number w.p w.name) in
          let same : z ≡ x = same_Some z x (sym (ap (λ (l : List Func). slice_get l 0) (k.func (node_number w.p w.name))) ∙ w.is) in
          (y, ap (function_at root) w.number ∙ call_number root w.p w.here w.name w.s (Joined w.name) w.found k.visited, subst (λ (v : Func). Means root v y) same (w.name, its_node w.p w.here w.name w.s w.found, refl))
    ]
  ]

pub same_functions : SameFunctions
same_functions root rise = (
  same_length root,
  λ f x e. elim (func_is root rise f x e) [
    | inl a ↦
        let (p, h, same, is) = a in
        let y : Function = (p.block, Entered) in
        (y, ap (function_at root) same ∙ enter_number root p h, subst (λ (v : Func). Means root v y) (sym is) (block_at root p h, refl))
    | inr w ↦ meaning root rise f x w
  ],
)
