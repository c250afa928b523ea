-- Where a scope stops next: from a state on, and after a visit.
use Rattle.std.specs.Prelude.{ℕ, zero, suc, ◌-◌, List, [], ◌∷◌, Option, Some, None, length}
use Rattle.asl_model.specs.Data.{Text, Json, Outcome, Done, Failed, hop_limit_error, no_state_error, failure}
use Rattle.asl_model.specs.Machine.{Used, Block, State, start_of, state_of, branches_of}
use Rattle.asl_model.specs.Step.{Onward, Goes, Ends, Begun, On, Calls, Fans, Ways}
use Rattle.asl_model.specs.Central.{hop_limit, used_by, Visited, Entered, Called, Joined}

-- where a scope stops: a Task's visit, a fan with its branches and their inputs, or the scope's end
pub data Stop : Type 0 where
  Call : (state : Text) → (hop : ℕ) → (raw : Json) → Used → Stop
  Fan : (state : Text) → (hop : ℕ) → (raw : Json) → Used → List (Block × Json) → Stop
  Over : Outcome → Stop

abbrev pub pairs : List Block → List Json → List (Block × Json)
pairs [] xs = []
pairs (b ∷ bs) [] = []
pairs (b ∷ bs) (x ∷ xs) = (b, x) ∷ pairs bs xs

-- the branches of a fan, each with its input
abbrev pub children : State → List Json → List (Block × Json)
children s inputs = pairs (branches_of s (length inputs)) inputs

abbrev pub stop_on : Onward → (Text → Json → Option Used → Stop) → Stop
stop_on (Goes next v again) go = go next v again
stop_on (Ends o) go = Over o

abbrev pub stop_at : Text → State → ℕ → Json → Used → Begun → (Text → Json → Option Used → Stop) → Stop
stop_at name s hop raw used (On o) go = stop_on o go
stop_at name s hop raw used (Calls resource x) go = Call name hop raw used
stop_at name s hop raw used (Fans inputs) go = Fan name hop raw used (children s inputs)

module _ (W : Ways) where
  abbrev pub stop_in : Text → Option State → ℕ → Json → Option Used → (Text → Json → Option Used → Stop) → Stop
  stop_in name None hop raw again go = Over (failure no_state_error name)
  stop_in name (Some s) hop raw again go = stop_at name s hop raw (used_by W s again) (W.begin name s raw) go

  -- the first stop, where so many states may still be entered
  abbrev pub first_stop : Block → ℕ → Text → ℕ → Json → Option Used → Stop
  first_stop b zero name hop raw again = Over (failure hop_limit_error name)
  first_stop b (suc left) name hop raw again =
      stop_in name (state_of b name) hop raw again (λ next v again. first_stop b left next (suc hop) v again)

  abbrev pub stretch : Block → (state : Text) → (hop : ℕ) → Json → Option Used → Stop
  stretch b name hop v again = first_stop b (hop_limit - hop) name hop v again

  abbrev pub after_in : Block → Text → Option State → ℕ → Json → Used → Outcome → Stop
  after_in b name None hop raw used o = Over (failure no_state_error name)
  after_in b name (Some s) hop raw used o = stop_on (W.finish name s raw used o) (λ next v again. stretch b next (suc hop) v again)

  -- the stretch that follows a visit in that block at that hop with that answer and list
  abbrev pub after : Block → Visited → (hop : ℕ) → (raw : Json) → Used → Outcome → Stop
  after b Entered hop raw used (Done v) = stretch b (start_of b) 0 v None
  after b Entered hop raw used (Failed f) = Over (Failed f)
  after b (Called name resource) hop raw used o = after_in b name (state_of b name) hop raw used o
  after b (Joined name) hop raw used o = after_in b name (state_of b name) hop raw used o
