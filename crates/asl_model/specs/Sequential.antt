-- How large a run can grow, and the sequential run: its waiting Tasks are answered one after another.
use Rattle.std.specs.Prelude.{◌≡◌, ℕ, zero, suc, ◌+◌, ◌*◌, ◌≤◌, List, [], ◌∷◌, ◌++◌, Option, Some, None, length}
use Rattle.asl_model.specs.Data.{Text, Json, Outcome, item_limit}
use Rattle.asl_model.specs.Names.{Scope, Place, Answers, answers_of}
use Rattle.asl_model.specs.Machine.{Block, block, States, no_state, and_state, State, Task, Pass, Choice, Succeed, Fail, Parallel, Map, Blocks, no_block, and_block}
use Rattle.asl_model.specs.Step.{standard}
use Rattle.asl_model.specs.Central.{hop_limit, Visited, Entered, Called, Joined, Visit, Run, Ended, scope, central}

-- no run of a block has more visits
abbrev mutual
  pub size : Block → ℕ
  size (block start states) = suc (hop_limit * size_in states)

  pub size_in : States → ℕ
  size_in no_state = 0
  size_in (and_state name s rest) = suc (size_of s) + size_in rest

  pub size_of : State → ℕ
  size_of (Task shape resource after care) = 0
  size_of (Pass shape result after) = 0
  size_of (Choice shape rules default) = 0
  size_of (Succeed shape) = 0
  size_of (Fail error cause) = 0
  size_of (Parallel shape bs after care) = size_all bs
  size_of (Map shape items selector b after care limit) = item_limit * size b

  pub size_all : Blocks → ℕ
  size_all no_block = 0
  size_all (and_block b bs) = size b + size_all bs

abbrev pub Bounded : Type 0
Bounded = (A : Answers) (b : Block) (s : Scope) (x : Json) → length (scope standard A b s x).visits ≤ size b

-- the first visit with no answer, which is the Task of least name that waits
abbrev pub if_open : Visit → Option Outcome → Option Visit → Option Visit
if_open v None rest = Some v
if_open v (Some o) rest = rest

abbrev pub first_open : List Visit → Option Visit
first_open [] = None
first_open (v ∷ vs) = if_open v v.answer (first_open vs)

abbrev pub resource_in : Visited → Text
resource_in Entered = []
resource_in (Called name resource) = resource
resource_in (Joined name) = []

-- what the function of a resource answers for an input, where so many were answered before
abbrev pub Functions : Type 0
Functions = (resource : Text) → (input : Json) → (ticket : ℕ) → Outcome

module _ (root : Block) (session : ℕ) (input : Json) (call : Functions) where
  -- the central run on these answers
  abbrev pub so_far : List (Place × Outcome) → Run
  so_far es = central standard (answers_of es) root session input

  abbrev pub answer_first : List (Place × Outcome) → Option Visit → (List (Place × Outcome) → Run) → Run
  answer_first es None go = so_far es
  answer_first es (Some v) go = go (es ++ (v.place, call (resource_in v.visited) v.given (length es)) ∷ [])

  -- the least waiting Task is answered by its function, so many times at most
  abbrev pub answering : ℕ → List (Place × Outcome) → Run
  answering zero es = so_far es
  answering (suc n) es = answer_first es (first_open (so_far es).visits) (λ es. answering n es)

  -- the last run, which has ended
  abbrev pub sequential : Run
  sequential = answering (suc (size root)) []

-- so many answers are enough: the sequential run has ended
abbrev pub SequentialEnds : Type 0
SequentialEnds = (root : Block) (session : ℕ) (input : Json) (call : Functions) →
    (o : Outcome) × ((sequential root session input call).end ≡ Ended o)
