-- What stops by numbers say: the functions of the machine.
use Rattle.std.proofs.Common.{◌≡◌, ℕ, zero, suc, ◌⊎◌, List, [], ◌∷◌, Option, Some, length, slice_get, refl, sym, ap, ap₂, ◌∙◌, subst, subst₂, inl, inr}
use Rattle.std.proofs.lemmas.Option.{same_Some}
use Rattle.asl_model.specs.Data.{Text, Json, Outcome, repeat}
use Rattle.asl_model.specs.Head.{Used}
use Rattle.asl_model.specs.Machine.{Block, State, Task, Pass, Choice, Succeed, Fail, Parallel, Map, Blocks, no_block, and_block, blocks_in, state_of}
use Rattle.asl_model.specs.Step.{standard}
use Rattle.asl_model.specs.Central.{Visited, Entered, Called, Joined}
use Rattle.asl_model.specs.Stretch as model
use Rattle.asl_model.specs.Stretch.{pairs, children, stretch, after}
use Rattle.asl_model.specs.Laws.{In}
use Rattle.asl_model.specs.Blocks.{visited_at, blocks, Function, function_at}
use Rattle.asl_model.specs.Valid.{IsValid}
use Rattle.asl_model.proofs.Lists.{In-left, In-right}
use Rattle.asl_model.proofs.NumberLaw.{number_means_lem, one_number_lem}
use Rattle.unum_ir.specs.Flat as ir
use Rattle.unum_ir.specs.Flat.{flat, flat_after, after_func}
use Rattle.continuation_gen.specs.Tables.{Func, TaskFunc, JoinFunc, Stop, CallAt, FanAt, EndsWith}
use Rattle.continuation_gen.specs.Numbering.{At, plus, size, Placed, placed, place, place_all, place_under, scope_numbers, op_of, func_from, flat_form, node_number}
use Rattle.continuation_gen.specs.Laws.{SameChildren, SameStop, FlatIsStretch, FlatAfterIsAfter}
use Rattle.continuation_gen.proofs.Lists.{in_get}
use Rattle.continuation_gen.proofs.Place.{place_head}
use Rattle.continuation_gen.proofs.Stands.{func_number, block_at, placed_at, node_at, NumberOf, node_is, enter_at, enter_number, call_number}
use Rattle.continuation_gen.proofs.WalkStops.{CallIs, FanIs, StopIs, flat_same, node_after, enter_after}

-- ---------------------------------------------------------------- the kinds of states

pub record IsTask (name : Text) (s : State) (resource : Text) : Type 0 where
  pub visited : visited_at name s ≡ Called name resource ∷ []
  pub func : (node : ℕ) → func_from node s ≡ TaskFunc node resource ∷ []

pub record IsFan (name : Text) (s : State) : Type 0 where
  pub visited : visited_at name s ≡ Joined name ∷ []
  pub func : (node : ℕ) → func_from node s ≡ JoinFunc node ∷ []

pub record IsPlain (name : Text) (s : State) : Type 0 where
  pub visited : visited_at name s ≡ []
  pub func : (node : ℕ) → func_from node s ≡ []

pub kind_of : (name : Text) (s : State) → IsPlain name s ⊎ (((resource : Text) × IsTask name s resource) ⊎ IsFan name s)
kind_of name (Task shape resource after care) = inr (inl (resource, record { visited = refl; func = λ n. refl }))
kind_of name (Pass shape result after) = inl (record { visited = refl; func = λ n. refl })
kind_of name (Choice shape rules default) = inl (record { visited = refl; func = λ n. refl })
kind_of name (Succeed shape) = inl (record { visited = refl; func = λ n. refl })
kind_of name (Fail error cause) = inl (record { visited = refl; func = λ n. refl })
kind_of name (Parallel shape bs after care) = inr (inr (record { visited = refl; func = λ n. refl }))
kind_of name (Map shape items selector b after care limit) = inr (inr (record { visited = refl; func = λ n. refl }))

-- ---------------------------------------------------------------- stops

module _ (root : Block) where
  -- the branches of a fan are the Enters of its scopes
  all_children : (func : ℕ) (at : At) (bs : Blocks) → ((q : Placed) → In q (place_all func at bs) → In q (placed root)) → (inputs : List Json) → SameChildren root (pairs (blocks_in bs) inputs) (ir.children (scope_numbers at bs) inputs)
  all_children func at no_block h inputs = tt
  all_children func at (and_block b bs) h [] = tt
  all_children func at (and_block b bs) h (x ∷ xs) =
      let p : Placed = record { at = at; parent = Some func; block = b } in (
        enter_number root p (h p (In-left (place (Some func) at b) (place_all func (plus at (size b)) bs) p (place_head (Some func) at b))),
        refl,
        all_children func (plus at (size b)) bs (λ q i. h q (In-right (place (Some func) at b) (place_all func (plus at (size b)) bs) q i)) xs,
      )

  same_children : (n k : ℕ) (b : Block) → function_at root k ≡ Some (b, Entered) → (inputs : List Json) → SameChildren root (pairs (repeat n b) inputs) (ir.children (repeat n k) inputs)
  same_children zero k b h inputs = tt
  same_children (suc n) k b h [] = tt
  same_children (suc n) k b h (x ∷ xs) = (h, refl, same_children n k b h xs)

  fan_children : (g : Text → ℕ) (func : ℕ) (at : At) (s : State) → ((q : Placed) → In q (place_under func at s) → In q (placed root)) → (inputs : List Json) →
      SameChildren root (children s inputs) (ir.children (ir.branches_of (op_of g func at s) (length inputs)) inputs)
  fan_children g func at (Task shape resource after care) h inputs = tt
  fan_children g func at (Pass shape result after) h inputs = tt
  fan_children g func at (Choice shape rules default) h inputs = tt
  fan_children g func at (Succeed shape) h inputs = tt
  fan_children g func at (Fail error cause) h inputs = tt
  fan_children g func at (Parallel shape bs after care) h inputs = all_children func at bs h inputs
  fan_children g func at (Map shape items selector b after care limit) h inputs =
      let p : Placed = record { at = at; parent = Some func; block = b } in
      same_children (length inputs) at.scope b (enter_number root p (h p (place_head (Some func) at b))) inputs

  means_stop : (p : Placed) → In p (placed root) → (a : model.Stop) (z : Stop) → StopIs root p a z → SameStop root p.block a z
  means_stop p here (model.Call name hop raw used) (CallAt f h r u) w =
      let c : CallIs root p name f = w.0 in
      (c.resource, ap (function_at root) c.number ∙ call_number root p here name c.s (Called name c.resource) c.found c.visited, w.1, w.2, w.3)
  means_stop p here (model.Fan name hop raw used cs) (FanAt f h r u ks) w =
      let c : FanIs root p name f cs ks = w.0 in (
        ap (function_at root) c.number ∙ call_number root p here name c.s (Joined name) c.found c.visited,
        w.1,
        w.2,
        w.3,
        subst₂ (SameChildren root) (sym c.are) (sym c.by) (fan_children (node_number p) c.t.its_func c.t.its_at c.s c.t.inside c.inputs),
      )
  means_stop p here (model.Over o) (EndsWith q) w = w
  means_stop p here (model.Call name hop raw used) (FanAt f h r u ks) w = absurd w
  means_stop p here (model.Call name hop raw used) (EndsWith q) w = absurd w
  means_stop p here (model.Fan name hop raw used cs) (CallAt f h r u) w = absurd w
  means_stop p here (model.Fan name hop raw used cs) (EndsWith q) w = absurd w
  means_stop p here (model.Over o) (CallAt f h r u) w = absurd w
  means_stop p here (model.Over o) (FanAt f h r u ks) w = absurd w

  module _ (valid : IsValid root) where
    -- after a function that the table has as such
    pub enter_stop : (p : Placed) → In p (placed root) → (hop : ℕ) (raw : Json) (used : Used) (o : Outcome) → StopIs root p (after standard p.block Entered hop raw used o) (flat_after (flat_form root) p.at.scope hop raw used o)
    enter_stop p here hop raw used o =
        subst (λ (x : Option Func). StopIs root p (after standard p.block Entered hop raw used o) (after_func (flat_form root) x hop raw used o)) (sym (enter_at root p here)) (enter_after root p here valid hop raw used o)

    first_of : {X : Type 0} (xs : List X) (x : X) → xs ≡ x ∷ [] → slice_get xs 0 ≡ Some x
    first_of xs x e = ap (λ l. slice_get l 0) e

    pub task_stop : (p : Placed) → In p (placed root) → (name : Text) (s : State) → state_of p.block name ≡ Some s → (resource : Text) → IsTask name s resource → (any : Text) (hop : ℕ) (raw : Json) (used : Used) (o : Outcome) →
        StopIs root p (after standard p.block (Called name any) hop raw used o) (flat_after (flat_form root) (func_number p name) hop raw used o)
    task_stop p here name s found resource k any hop raw used o =
        let t = node_at root p here name s found in
        let x : Func = TaskFunc (node_number p name) resource in
        subst (λ (y : Option Func). StopIs root p (after standard p.block (Called name any) hop raw used o) (after_func (flat_form root) y hop raw used o))
        (sym (t.func_found x (first_of (func_from (node_number p name) s) x (k.func (node_number p name)))))
        (node_after root p here valid name (node_number p name) (s, found, refl) hop raw used o)

    pub fan_stop : (p : Placed) → In p (placed root) → (name : Text) (s : State) → state_of p.block name ≡ Some s → IsFan name s → (hop : ℕ) (raw : Json) (used : Used) (o : Outcome) →
        StopIs root p (after standard p.block (Joined name) hop raw used o) (flat_after (flat_form root) (func_number p name) hop raw used o)
    fan_stop p here name s found k hop raw used o =
        let t = node_at root p here name s found in
        let x : Func = JoinFunc (node_number p name) in
        subst (λ (y : Option Func). StopIs root p (after standard p.block (Joined name) hop raw used o) (after_func (flat_form root) y hop raw used o))
        (sym (t.func_found x (first_of (func_from (node_number p name) s) x (k.func (node_number p name)))))
        (node_after root p here valid name (node_number p name) (s, found, refl) hop raw used o)

-- ---------------------------------------------------------------- the two laws

pub flat_is_stretch : FlatIsStretch
flat_is_stretch root valid rise label b name h hop v again =
    let w = node_is root rise label h.node h.found in
    let same : w.p.block ≡ b = same_Some w.p.block b (sym (block_at root w.p w.here) ∙ ap (slice_get (blocks root)) (sym w.in_scope) ∙ h.block) in
    let number : NumberOf root w.p name label = subst (λ (z : Text). NumberOf root w.p z label) h.named (w.s, w.found, w.number) in
    subst (λ (z : Block). SameStop root z (stretch standard z name hop v again) (flat (flat_form root) label hop v again)) same
    (means_stop root w.p w.here (stretch standard w.p.block name hop v again) (flat (flat_form root) label hop v again) (flat_same root w.p w.here valid name label number hop v again))

in_one : {X : Type 0} (x y : X) (xs : List X) → xs ≡ y ∷ [] → In x xs → x ≡ y
in_one x y xs e i = elim (subst (In x) e i) [ inl s ↦ s | inr t ↦ absurd t ]

pub flat_after_is_after : FlatAfterIsAfter
flat_after_is_after root valid rise f b visited e hop raw used o =
    let (listed, is) = number_means_lem root rise f (b, visited) e in
    let (k, g) = in_get (blocks root) b listed in
    let (p, here, same, at_k) = placed_at root k b g in
    subst (λ (z : Block). SameStop root z (after standard z visited hop raw used o) (flat_after (flat_form root) f hop raw used o)) same
    (elim is [
      | inl entered ↦
          let x : Function = (b, visited) in
          let number : f ≡ p.at.scope = one_number_lem root valid rise f p.at.scope x e (enter_number root p here ∙ ap₂ (λ (z : Block) (v : Visited). let y : Function = (z, v) in Some y) same (sym entered)) in
          subst₂ (λ (v : Visited) (n : ℕ). SameStop root p.block (after standard p.block v hop raw used o) (flat_after (flat_form root) n hop raw used o)) (sym entered) (sym number)
          (means_stop root p here (after standard p.block Entered hop raw used o) (flat_after (flat_form root) p.at.scope hop raw used o) (enter_stop root valid p here hop raw used o))
      | inr state ↦
          let (name, s, found_b, i) = state in
          let found : state_of p.block name ≡ Some s = subst (λ (z : Block). state_of z name ≡ Some s) (sym same) found_b in
          let x : Function = (b, visited) in
          elim (kind_of name s) [
            | inl k ↦ absurd (subst (In visited) k.visited i)
            | inr t ↦ elim t [
              | inl task ↦
                  let (resource, k) = task in
                  let v_is : visited ≡ Called name resource = in_one visited (Called name resource) (visited_at name s) k.visited i in
                  let number : f ≡ func_number p name =
                  one_number_lem root valid rise f (func_number p name) x e (call_number root p here name s (Called name resource) found k.visited ∙ ap₂ (λ (z : Block) (v : Visited). let y : Function = (z, v) in Some y) same (sym v_is)) in
                  subst₂ (λ (v : Visited) (n : ℕ). SameStop root p.block (after standard p.block v hop raw used o) (flat_after (flat_form root) n hop raw used o)) (sym v_is) (sym number)
                  (means_stop root p here (after standard p.block (Called name resource) hop raw used o) (flat_after (flat_form root) (func_number p name) hop raw used o) (task_stop root valid p here name s found resource k resource hop raw used o))
              | inr k ↦
                  let v_is : visited ≡ Joined name = in_one visited (Joined name) (visited_at name s) k.visited i in
                  let number : f ≡ func_number p name =
                  one_number_lem root valid rise f (func_number p name) x e (call_number root p here name s (Joined name) found k.visited ∙ ap₂ (λ (z : Block) (v : Visited). let y : Function = (z, v) in Some y) same (sym v_is)) in
                  subst₂ (λ (v : Visited) (n : ℕ). SameStop root p.block (after standard p.block v hop raw used o) (flat_after (flat_form root) n hop raw used o)) (sym v_is) (sym number)
                  (means_stop root p here (after standard p.block (Joined name) hop raw used o) (flat_after (flat_form root) (func_number p name) hop raw used o) (fan_stop root valid p here name s found k hop raw used o))
            ]
          ]
    ])
