-- Each walk of the flat form is a walk of the machine: the same stop, by numbers.
use Rattle.std.proofs.Common.{◌≡◌, ℕ, zero, suc, ◌-◌, List, [], ◌∷◌, Option, Some, None, Result, Ok, Err, length, slice_get, refl, sym, ap, ◌∙◌, subst, subst₂}
use Rattle.asl_model.specs.Data.{Text, Json, Outcome, Done, Failed, failure, prepared, parallel_inputs, map_inputs, hop_limit_error}
use Rattle.asl_model.specs.Head.{Used, OnwardOf, Goes, Ends, BegunOf, On, Calls, Fans, begins, finishes, or_caught}
use Rattle.asl_model.specs.Machine.{Block, State, Task, Pass, Choice, Succeed, Fail, Parallel, Map, state_of, start_of, Care}
use Rattle.asl_model.specs.Step.{Onward, Begun, standard}
use Rattle.asl_model.specs.Central.{hop_limit, used_by, Entered, Called, Joined}
use Rattle.asl_model.specs.Stretch as model
use Rattle.asl_model.specs.Stretch.{pairs, children, stop_on, stop_at, stop_in, first_stop, stretch, after, after_in}
use Rattle.asl_model.specs.Laws.{In}
use Rattle.asl_model.specs.Blocks.{visited_at}
use Rattle.asl_model.specs.Valid.{IsValid}
use Rattle.unum_ir.specs.Flat as ir
use Rattle.unum_ir.specs.Flat.{flat_on, flat_by, flat_in, first_flat, flat, start_in, after_enter, after_node, after_func, name_in}
use Rattle.continuation_gen.specs.Tables.{Op, Node, Scope, Stop, CallAt, FanAt, EndsWith, Child}
use Rattle.continuation_gen.specs.Numbering.{At, Placed, placed, op_of, flat_form, node_number}
use Rattle.continuation_gen.proofs.Steps.{AlikeOn, AlikeBegun, begins_alike, finishes_alike}
use Rattle.continuation_gen.proofs.Stands.{func_number, NodeAt, node_at, NumberOf, nexts_number, start_number, scope_found}

-- ---------------------------------------------------------------- what a state visits

-- a state that calls its function is a Task, and one that fans out a Parallel or a Map
abbrev BeginsAt : Text → State → Begun → Type 0
BeginsAt name s (On o) = Unit {0}
BeginsAt name s (Calls resource x) = visited_at name s ≡ Called name resource ∷ []
BeginsAt name s (Fans inputs) = visited_at name s ≡ Joined name ∷ []

or_begins : {X : Type 0} (name : Text) (raw : Json) (s : State) (care : Care) (r : Result X Text) (go : X → Begun) → ((x : X) → BeginsAt name s (go x)) → BeginsAt name s (or_caught name raw care r go)
or_begins name raw s care (Ok x) go k = k x
or_begins name raw s care (Err e) go k = tt

pub begins_at : (name : Text) (s : State) (raw : Json) → BeginsAt name s (standard.begin name s raw)
unfolding standard
begins_at name (Task shape resource after care) raw = or_begins name raw (Task shape resource after care) care (prepared shape raw) (λ x. Calls resource x) (λ x. refl)
begins_at name (Pass shape result after) raw = tt
begins_at name (Choice shape choices default) raw = tt
begins_at name (Succeed shape) raw = tt
begins_at name (Fail error cause) raw = tt
begins_at name (Parallel shape bs after care) raw =
    or_begins name raw (Parallel shape bs after care) care (prepared shape raw) _ (λ x. or_begins name raw (Parallel shape bs after care) care (parallel_inputs _ x) (λ inputs. Fans inputs) (λ inputs. refl))
begins_at name (Map shape items selector b after care limit) raw =
    or_begins name raw (Map shape items selector b after care limit) care (prepared shape raw) _ (λ x. or_begins name raw (Map shape items selector b after care limit) care (map_inputs items selector x) (λ inputs. Fans inputs) (λ inputs. refl))

used_same : (g : Text → ℕ) (func : ℕ) (at : At) (s : State) (again : Option Used) → used_by standard s again ≡ ir.used_by (op_of g func at s) again
unfolding standard
used_same g func at s (Some u) = refl
used_same g func at (Task shape resource after care) None = refl
used_same g func at (Pass shape result after) None = refl
used_same g func at (Choice shape rules default) None = refl
used_same g func at (Succeed shape) None = refl
used_same g func at (Fail error cause) None = refl
used_same g func at (Parallel shape bs after care) None = refl
used_same g func at (Map shape items selector b after care limit) None = refl

-- a fan has a function
fan_func : (name : Text) (s : State) (g : Text → ℕ) (func : ℕ) (at : At) → visited_at name s ≡ Joined name ∷ [] → ir.or_zero (ir.func_of (op_of g func at s)) ≡ func
fan_func name (Task shape resource after care) g func at e = refl
fan_func name (Pass shape result after) g func at e = absurd (cc)
fan_func name (Choice shape rules default) g func at e = absurd (cc)
fan_func name (Succeed shape) g func at e = absurd (cc)
fan_func name (Fail error cause) g func at e = absurd (cc)
fan_func name (Parallel shape bs after care) g func at e = refl
fan_func name (Map shape items selector b after care limit) g func at e = refl

-- ---------------------------------------------------------------- stops by numbers

module _ (root : Block) where
  -- at the state of that name, with its function's number; a fan with its branches by scopes
  pub record CallIs (p : Placed) (name : Text) (f : ℕ) : Type 0 where
    pub s : State
    pub resource : Text
    pub found : state_of p.block name ≡ Some s
    pub visited : visited_at name s ≡ Called name resource ∷ []
    pub number : f ≡ func_number p name

  pub record FanIs (p : Placed) (name : Text) (f : ℕ) (cs : List (Block × Json)) (ks : List Child) : Type 0 where
    pub s : State
    pub inputs : List Json
    pub found : state_of p.block name ≡ Some s
    pub visited : visited_at name s ≡ Joined name ∷ []
    pub number : f ≡ func_number p name
    pub t : NodeAt root p name s
    pub are : cs ≡ children s inputs
    pub by : ks ≡ ir.children (ir.branches_of (op_of (node_number p) t.its_func t.its_at s) (length inputs)) inputs

  abbrev pub StopIs : Placed → model.Stop → Stop → Type 0
  StopIs p (model.Call name hop raw used) (CallAt f h r u) = CallIs p name f × (h ≡ hop) × (r ≡ raw) × (u ≡ used)
  StopIs p (model.Fan name hop raw used cs) (FanAt f h r u ks) = FanIs p name f cs ks × (h ≡ hop) × (r ≡ raw) × (u ≡ used)
  StopIs p (model.Over o) (EndsWith q) = q ≡ o
  StopIs p _ _ = ⊥

  module _ (p : Placed) (here : In p (placed root)) where
    on_same : (o : Onward) (w : OnwardOf ℕ) (go : Text → Json → Option Used → model.Stop) (go' : ℕ → Json → Option Used → Stop) → AlikeOn (NumberOf root p) o w →
        ((n : Text) (l : ℕ) → NumberOf root p n l → (v : Json) (a : Option Used) → StopIs p (go n v a) (go' l v a)) → StopIs p (stop_on o go) (flat_on w go')
    on_same (Goes n v a) (Goes l w b) go go' h k = subst₂ (λ y z. StopIs p (go n v a) (go' l y z)) h.1 h.2 (k n l h.0 v a)
    on_same (Goes n v a) (Ends q) go go' h k = absurd h
    on_same (Ends o) (Goes l w b) go go' h k = absurd h
    on_same (Ends o) (Ends q) go go' h k = sym h

    begun_same : (name : Text) (s : State) (found : state_of p.block name ≡ Some s) (t : NodeAt root p name s) (hop : ℕ) (raw : Json) (used u : Used) → used ≡ u → (b : Begun) (w : BegunOf ℕ ℕ) → BeginsAt name s b →
        AlikeBegun (NumberOf root p) t.its_func b w → (go : Text → Json → Option Used → model.Stop) (go' : ℕ → Json → Option Used → Stop) →
        ((n : Text) (l : ℕ) → NumberOf root p n l → (v : Json) (a : Option Used) → StopIs p (go n v a) (go' l v a)) →
        StopIs p (stop_at name s hop raw used b go) (flat_by (op_of (node_number p) t.its_func t.its_at s) hop raw u w go')
    begun_same name s found t hop raw used u same (On o) (On w) e h go go' k = on_same o w go go' h k
    begun_same name s found t hop raw used u same (On o) (Calls f y) e h go go' k = absurd h
    begun_same name s found t hop raw used u same (On o) (Fans ys) e h go go' k = absurd h
    begun_same name s found t hop raw used u same (Calls r x) (On w) e h go go' k = absurd h
    begun_same name s found t hop raw used u same (Calls r x) (Calls f y) e h go go' k =
        (record { s = s; resource = r; found = found; visited = e; number = h.0 ∙ t.func_is }, refl, refl, sym same)
    begun_same name s found t hop raw used u same (Calls r x) (Fans ys) e h go go' k = absurd h
    begun_same name s found t hop raw used u same (Fans xs) (On w) e h go go' k = absurd h
    begun_same name s found t hop raw used u same (Fans xs) (Calls f y) e h go go' k = absurd h
    begun_same name s found t hop raw used u same (Fans xs) (Fans ys) e h go go' k =
        let op : Op = op_of (node_number p) t.its_func t.its_at s in (
          record {
            s = s;
            inputs = xs;
            found = found;
            visited = e;
            number = fan_func name s (node_number p) t.its_func t.its_at e ∙ t.func_is;
            t = t;
            are = refl;
            by = ap (λ (z : List Json). ir.children (ir.branches_of op (length z)) z) (sym h);
          },
          refl,
          refl,
          sym same,
        )

    -- the node of a name
    abbrev node_by : (name : Text) (s : State) → NodeAt root p name s → Node
    node_by name s t = record { name = name; scope = p.at.scope; op = op_of (node_number p) t.its_func t.its_at s }

    module _ (valid : IsValid root) where
      first_same : (left : ℕ) (name : Text) (label : ℕ) → NumberOf root p name label → (hop : ℕ) (raw : Json) (again : Option Used) → StopIs p (first_stop standard p.block left name hop raw again) (first_flat (flat_form root) left label hop raw again)
      first_same zero name label r hop raw again =
          let t = node_at root p here name r.0 r.1 in
          ap (λ z. failure hop_limit_error (name_in (slice_get (flat_form root).nodes z))) r.2 ∙ ap (λ z. failure hop_limit_error (name_in z)) t.found
      first_same (suc left) name label r hop raw again =
          let s = r.0 in
          let t = node_at root p here name s r.1 in
          let op : Op = op_of (node_number p) t.its_func t.its_at s in
          let at_label : slice_get (flat_form root).nodes label ≡ Some (node_by name s t) = ap (slice_get (flat_form root).nodes) r.2 ∙ t.found in
          let go = λ (next : Text) (v : Json) (a : Option Used). first_stop standard p.block left next (suc hop) v a in
          let go' = λ (next : ℕ) (v : Json) (a : Option Used). first_flat (flat_form root) left next (suc hop) v a in
          subst₂ (λ (m : Option State) (o : Option Node). StopIs p (stop_in standard name m hop raw again go) (flat_in o hop raw again go')) (sym r.1) (sym at_label)
          (begun_same name s r.1 t hop raw (used_by standard s again) (ir.used_by op again) (used_same (node_number p) t.its_func t.its_at s again)
          (standard.begin name s raw)
          (begins name (ir.head_of op) raw)
          (begins_at name s raw)
          (begins_alike (NumberOf root p) (node_number p) name s raw t.its_func t.its_at (nexts_number root valid p here name s r.1))
          go go' (λ next l q v a. first_same left next l q (suc hop) v a))

      pub flat_same : (name : Text) (label : ℕ) → NumberOf root p name label → (hop : ℕ) (raw : Json) (again : Option Used) → StopIs p (stretch standard p.block name hop raw again) (flat (flat_form root) label hop raw again)
      flat_same name label r hop raw again = first_same (hop_limit - hop) name label r hop raw again

      -- after a Task or a Join
      pub node_after : (name : Text) (label : ℕ) → NumberOf root p name label → (hop : ℕ) (raw : Json) (used : Used) (o : Outcome) →
          StopIs p (after_in standard p.block name (state_of p.block name) hop raw used o) (after_node (flat_form root) label (slice_get (flat_form root).nodes label) hop raw used o)
      node_after name label r hop raw used o =
          let s = r.0 in
          let t = node_at root p here name s r.1 in
          let op : Op = op_of (node_number p) t.its_func t.its_at s in
          let at_label : slice_get (flat_form root).nodes label ≡ Some (node_by name s t) = ap (slice_get (flat_form root).nodes) r.2 ∙ t.found in
          subst₂ (λ (m : Option State) (k : Option Node). StopIs p (after_in standard p.block name m hop raw used o) (after_node (flat_form root) label k hop raw used o)) (sym r.1) (sym at_label)
          (on_same (standard.finish name s raw used o) (finishes name label (ir.head_of op) raw used o)
          (λ next v a. stretch standard p.block next (suc hop) v a) (λ next v a. flat (flat_form root) next (suc hop) v a)
          (finishes_alike (NumberOf root p) (node_number p) name label s t.its_func t.its_at raw used o r (nexts_number root valid p here name s r.1))
          (λ next l q v a. flat_same next l q (suc hop) v a))

      pub enter_after : (hop : ℕ) (raw : Json) (used : Used) (o : Outcome) → StopIs p (after standard p.block Entered hop raw used o) (after_enter (flat_form root) p.at.scope o)
      enter_after hop raw used (Failed f) = refl
      enter_after hop raw used (Done v) =
          subst (λ (m : Option Scope). StopIs p (stretch standard p.block (start_of p.block) 0 v None) (flat (flat_form root) (start_in m) 0 v None)) (sym (scope_found root p here))
          (flat_same (start_of p.block) (node_number p (start_of p.block)) (start_number root valid p here) 0 v None)
