-- Where the scopes of any block stop: at a Task or a fan that is there, or at the end.
use Rattle.std.proofs.Common.{ℕ, zero, suc, ◌≡◌, refl, List, [], ◌∷◌, Option, Some, None, Result, Ok, Err}
use Rattle.asl_model.specs.Data.{Text, Json, Outcome, Done, Failed, prepared, parallel_inputs, map_inputs}
use Rattle.asl_model.specs.Head.{Used, or_caught}
use Rattle.asl_model.specs.Machine.{Block, State, Task, Pass, Choice, Succeed, Fail, Parallel, Map, state_of, start_of, Care}
use Rattle.asl_model.specs.Step.{Onward, Goes, Ends, Begun, On, Calls, Fans, standard}
use Rattle.asl_model.specs.Central.{used_by, Visited, Entered, Called, Joined}
use Rattle.asl_model.specs.Stretch.{Stop, Call, Fan, Over, children, stop_on, stop_at, stop_in, first_stop, after_in, after}
use Rattle.asl_model.specs.Blocks.{visited_at}
use Rattle.world_model.specs.Sites.{rules}

abbrev pub Known : Block → Stop → Type 0
Known b (Call name hop raw used) = (s : State) × (resource : Text) × (state_of b name ≡ Some s) × (visited_at name s ≡ Called name resource ∷ [])
Known b (Fan name hop raw used cs) = (s : State) × (inputs : List Json) × (state_of b name ≡ Some s) × (visited_at name s ≡ Joined name ∷ []) × (cs ≡ children s inputs)
Known b (Over o) = Unit {0}

-- what a state begins with tells what is visited there
abbrev BeginsAt : Text → State → Begun → Type 0
BeginsAt name s (On o) = Unit {0}
BeginsAt name s (Calls resource x) = (r : Text) × (visited_at name s ≡ Called name r ∷ [])
BeginsAt name s (Fans inputs) = visited_at name s ≡ Joined name ∷ []

or_begins : {X : Type 0} (name : Text) (raw : Json) (s : State) (care : Care) (r : Result X Text) (go : X → Begun) → ((x : X) → BeginsAt name s (go x)) → BeginsAt name s (or_caught name raw care r go)
or_begins name raw s care (Ok x) go k = k x
or_begins name raw s care (Err e) go k = tt

begins_at : (name : Text) (s : State) (raw : Json) → BeginsAt name s (standard.begin name s raw)
unfolding standard
begins_at name (Task shape resource after care) raw = or_begins name raw (Task shape resource after care) care (prepared shape raw) (λ x. Calls resource x) (λ x. (resource, refl))
begins_at name (Pass shape result after) raw = tt
begins_at name (Choice shape choices default) raw = tt
begins_at name (Succeed shape) raw = tt
begins_at name (Fail error cause) raw = tt
begins_at name (Parallel shape bs after care) raw =
    or_begins name raw (Parallel shape bs after care) care (prepared shape raw) _ (λ x. or_begins name raw (Parallel shape bs after care) care (parallel_inputs _ x) (λ inputs. Fans inputs) (λ inputs. refl))
begins_at name (Map shape items selector b after care limit) raw =
    or_begins name raw (Map shape items selector b after care limit) care (prepared shape raw) _ (λ x. or_begins name raw (Map shape items selector b after care limit) care (map_inputs items selector x) (λ inputs. Fans inputs) (λ inputs. refl))

module _ (b : Block) where
  on_known : (o : Onward) (go : Text → Json → Option Used → Stop) → ((n : Text) (x : Json) (u : Option Used) → Known b (go n x u)) → Known b (stop_on o go)
  on_known (Goes n x u) go k = k n x u
  on_known (Ends o) go k = tt

  at_known : (name : Text) (s : State) (hop : ℕ) (raw : Json) (used : Used) (z : Begun) → state_of b name ≡ Some s → BeginsAt name s z → (go : Text → Json → Option Used → Stop) →
      ((n : Text) (x : Json) (u : Option Used) → Known b (go n x u)) → Known b (stop_at name s hop raw used z go)
  at_known name s hop raw used (On o) e f go k = on_known o go k
  at_known name s hop raw used (Calls r x) e f go k = (s, f.0, e, f.1)
  at_known name s hop raw used (Fans inputs) e f go k = (s, inputs, e, f, refl)

  in_known : (name : Text) (m : Option State) → state_of b name ≡ m → (hop : ℕ) (raw : Json) (again : Option Used) (go : Text → Json → Option Used → Stop) → ((n : Text) (x : Json) (u : Option Used) → Known b (go n x u)) →
      Known b (stop_in rules name m hop raw again go)
  unfolding rules
  in_known name None e hop raw again go k = tt
  in_known name (Some s) e hop raw again go k = at_known name s hop raw (used_by standard s again) (standard.begin name s raw) e (begins_at name s raw) go k

  first_known : (left : ℕ) (name : Text) (hop : ℕ) (raw : Json) (again : Option Used) → Known b (first_stop rules b left name hop raw again)
  first_known zero name hop raw again = tt
  first_known (suc left) name hop raw again = in_known name (state_of b name) refl hop raw again _ (λ n x u. first_known left n (suc hop) x u)

  after_in_known : (name : Text) (m : Option State) (hop : ℕ) (raw : Json) (used : Used) (o : Outcome) → Known b (after_in rules b name m hop raw used o)
  after_in_known name None hop raw used o = tt
  after_in_known name (Some s) hop raw used o = on_known (rules.finish name s raw used o) _ (λ n x u. first_known _ n (suc hop) x u)

  pub after_known : (v : Visited) (hop : ℕ) (raw : Json) (used : Used) (o : Outcome) → Known b (after rules b v hop raw used o)
  after_known Entered hop raw used (Done x) = first_known _ (start_of b) 0 x None
  after_known Entered hop raw used (Failed f) = tt
  after_known (Called name resource) hop raw used o = after_in_known name (state_of b name) hop raw used o
  after_known (Joined name) hop raw used o = after_in_known name (state_of b name) hop raw used o
