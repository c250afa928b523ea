-- The turns of a worker, by what its engine says of a pick and of an answer that is handed in.
use Rattle.std.specs.Prelude.{◌≡◌, ◌⊎◌, ℕ, List, Option, Some, None}
use mathlib.Core.List.{IsPrefix}
use Rattle.fn_table.specs.Answers.{Asked}
use Rattle.seat_lock.specs.Logs.{Follows}
use Rattle.worker_gate.specs.declared.pick.Pick.{Pick}
use Rattle.worker_gate.specs.declared.pick.Pick.TheVariants.{Mine, Free, Call, Idle, Spent, NoMemory}
use Rattle.worker_gate.specs.declared.worker.WorkEnd.{WorkEnd}
use Rattle.worker_gate.specs.declared.worker.WorkEnd.TheVariants as end

-- a turn: the log before goes on from what the seat has seen, and has at most one entry less than the log after
abbrev pub Turn : (List ℕ → Pick → List ℕ → Type 0) → List ℕ → Pick → List ℕ → Type 0
Turn tells seen answer after = (before : List ℕ) × IsPrefix seen before × Follows before after × tells before answer after

-- what comes after a pick: where it asks for a function, that is called and its answer is handed in, if memory lasts
abbrev pub Goes : (List ℕ → Asked → Pick → List ℕ → Type 0) → Pick → List ℕ → Pick → List ℕ → Type 0
Goes handed (Call kind input ticket) seen answer after =
    ((answer ≡ NoMemory) × (after ≡ seen))
    ⊎ Turn (λ before. handed before (record { kind = kind; input = input; ticket = ticket })) seen answer after
Goes handed pick seen answer after = (answer ≡ pick) × (after ≡ seen)

-- a step of a worker with this attempt
abbrev pub StepOf : (List ℕ → Option ℕ → Pick → List ℕ → Type 0) → (List ℕ → Asked → Pick → List ℕ → Type 0) → Option ℕ →
    List ℕ → Pick → List ℕ → Type 0
StepOf picked handed mine seen answer after =
    (pick : Pick) × (between : List ℕ) × Turn (λ before. picked before mine) seen pick between × Goes handed pick between answer after

-- the attempt that a worker has after a step that lets it go on: none where there was nothing to do, and it tries again later
abbrev pub Leaves : Pick → Option ℕ → Type 0
Leaves (Mine attempt) mine = mine ≡ Some attempt
Leaves Free mine = mine ≡ None
Leaves Idle mine = mine ≡ None
Leaves _ mine = ⊥

-- how far a worker can come from a log that its seat had seen: its attempt, and the log that its seat has seen then
pub data Reached (picked : List ℕ → Option ℕ → Pick → List ℕ → Type 0) (handed : List ℕ → Asked → Pick → List ℕ → Type 0)
    (first : List ℕ) : Option ℕ → List ℕ → Type 0 where
  start : Reached picked handed first None first
  next : (mine : Option ℕ) (seen : List ℕ) (answer : Pick) (after : List ℕ) (left : Option ℕ) →
      Reached picked handed first mine seen → StepOf picked handed mine seen answer after → Leaves answer left →
      Reached picked handed first left after

-- what the last step of a worker answered
abbrev pub last_of : WorkEnd → Pick
last_of end.Idle = Idle
last_of end.Spent = Spent
last_of end.NoMemory = NoMemory

-- the steps of a worker from a log that its seat had seen to the end
abbrev pub RunOf : (List ℕ → Option ℕ → Pick → List ℕ → Type 0) → (List ℕ → Asked → Pick → List ℕ → Type 0) → List ℕ → WorkEnd →
    List ℕ → Type 0
RunOf picked handed first ended after =
    (mine : Option ℕ) × (seen : List ℕ) × Reached picked handed first mine seen × StepOf picked handed mine seen (last_of ended) after
