-- Worked runs of small machines, with the numbers of their events.
use Rattle.std.specs.Prelude.{◌≡◌, ℕ, true, zero, suc, List, [], ◌∷◌, length, ◌++◌, map, slice_get, cond, Option, Some, None, codes}
use Rattle.fn_table.specs.declared.kind.FnKind.TheVariants as function
use Rattle.place_name.specs.declared.obj.Obj.TheVariants.{Out}
use Rattle.asl_model.specs.Data.{Text, Null, Outcome, Failed, all_errors, Shape}
use Rattle.asl_model.specs.Machine.{Block, block, no_state, and_state, Care, Task}
use Rattle.asl_model.specs.Head.{bare}
use Rattle.asl_model.specs.Central.{End, Ended}
use Rattle.world_model.specs.Operations.{root, OutcomeIs, Condition, Absent, Live}
use Rattle.world_model.specs.Program.{Doing, Do, Ask, Nothing, next_of}
use Rattle.world_model.specs.World.{Opening, Entry, InvState, Attempt, World, Event, Deliver, Crash, Step, Answer, start, next_world, run}
use Rattle.world_model.specs.Journals.{run_of}

-- the event by which an attempt does this
abbrev pub kind_event : ℕ → Doing → List Event
kind_event a (Do op) = Step a ∷ []
kind_event a (Ask r x) = Answer a ∷ []
kind_event a Nothing = []

-- the event of an attempt, if it lives
abbrev pub at_attempt : World → ℕ → Attempt → List Event
at_attempt w a t = cond t.live (elim (slice_get w.invs t.inv) [ None ↦ [] | Some i ↦ kind_event a (next_of i t.phase) ]) []

-- the first of the one, or else the other
abbrev pub first_of_two : List Event → List Event → List Event
first_of_two [] ys = ys
first_of_two (x ∷ xs) ys = x ∷ []

-- the first event of the attempts, from that number on
abbrev pub from_attempts : World → ℕ → List Attempt → List Event
from_attempts w a [] = []
from_attempts w a (t ∷ ts) = first_of_two (at_attempt w a t) (from_attempts w (suc a) ts)

-- the first delivery of the invocations, from that number on
abbrev pub from_states : ℕ → List InvState → List Event
from_states i [] = []
from_states i (s ∷ ss) = cond s.acked (from_states (suc i) ss) (Deliver i ∷ [])

-- a live attempt's event, or else the first delivery
abbrev pub next_events : World → List Event
next_events w = first_of_two (from_attempts w 0 w.atts) (from_states 0 w.states)

-- the next world, or else this one
abbrev pub or_stays : World → Option World → World
or_stays w None = w
or_stays w (Some v) = v

-- how many events there are, up to a bound, and the world then
unfoldable pub drain : ℕ → ℕ → World → ℕ × World
drain zero n w = (n, w)
drain (suc left) n w = elim (next_events w) [ [] ↦ (n, w) | e ∷ es ↦ drain left (suc n) (or_stays w (next_world w e)) ]

-- events, invocations, what the session's Out is, and the end of its central run
abbrev pub Shown : Type 0
Shown = ℕ × ℕ × Condition × End

-- what a run shows
abbrev pub shown_end : ℕ × World → Shown
shown_end r = (r.0, length r.1.invs, r.1.objects (Out (root 0)), (run_of r.1.opening r.1.journal 0).end)

-- how the function fails
abbrev pub failure : Outcome
failure = Failed (record { error = codes "E"; cause = codes "c" })

-- a session of that machine, whose function always fails
abbrev pub opening : Block → Opening
opening m = record {
  functions = (codes "f", function.Fail (record { error = codes "E"; cause = codes "c" })) ∷ [];
  sessions = record { machine = m; input = Null } ∷ [];
}

-- what the run shows that takes the first event again and again
abbrev pub drained_end : Block → Shown
drained_end m = shown_end (drain 120 0 (start (opening m)))

-- the name of the Task
unfoldable pub a_name : Text
a_name = codes "A"

-- no part of the input
abbrev pub no_input : Shape
no_input = record { input = None; parameters = None; selector = None; result = Some []; output = Some [] }

-- a machine of one Task
abbrev pub one_task : Care → Block
one_task care = block a_name (and_state a_name (Task no_input (codes "f") (record { next = None; end = true }) care) no_state)

-- two more tries after any error
abbrev pub two_retries : Care
two_retries = record { retry = record { errors = all_errors ∷ []; most = 2 } ∷ []; catch = [] }

-- so many events and invocations, and that outcome, in the store and of the central run
abbrev pub EndedAs : ℕ → ℕ → Outcome → Shown → Type 0
EndedAs events invs o s = (s.0 ≡ events) × (s.1 ≡ invs) × (s.2 ≡ Live (OutcomeIs o)) × (s.3 ≡ Ended o)

-- one Task takes 18 events
abbrev pub OneTask : Type 0
OneTask = EndedAs 18 2 failure (drained_end (one_task bare))

-- and 10 more for each further try
abbrev pub RetriedTask : Type 0
RetriedTask = EndedAs 38 4 failure (drained_end (one_task two_retries))

-- that many steps of an attempt
abbrev pub steps : ℕ → ℕ → List Event
steps a zero = []
steps a (suc n) = Step a ∷ steps a n

-- The first attempt crashes after its last act, so the Task is invoked twice.
abbrev pub twice_invoked : List Event
twice_invoked = Deliver 0 ∷ (steps 0 5 ++ (Crash 0 ∷ Deliver 0 ∷ steps 1 6))

-- Both of the Task's attempts call the function; the later one wins.
abbrev pub side_by_side : List Event
side_by_side = Deliver 1 ∷ (steps 2 2 ++ (Deliver 2 ∷ (steps 3 2 ++ (Answer 2 ∷ Answer 3 ∷ Step 3 ∷ Step 2 ∷ (steps 2 4 ++ steps 3 4)))))

-- the race
abbrev pub race : List Event
race = twice_invoked ++ side_by_side

-- the tickets of the journal
abbrev pub tickets_at : Option World → List ℕ
tickets_at None = []
tickets_at (Some w) = map (λ (e : Entry). e.ticket) w.journal

-- the outcome of the session
abbrev pub out_at : Option World → Condition
out_at None = Absent
out_at (Some w) = w.objects (Out (root 0))

-- how many invocations are not acknowledged
abbrev pub open_in : List InvState → ℕ
open_in [] = 0
open_in (s ∷ ss) = cond s.acked (open_in ss) (suc (open_in ss))

-- how many invocations are not acknowledged
abbrev pub open_at : Option World → ℕ
open_at None = 1
open_at (Some w) = open_in w.states

-- how many steps were a Mark
abbrev pub marks_at : Option World → ℕ
marks_at None = 0
marks_at (Some w) = w.marks

-- the world after the race
abbrev pub race_end : Option World
race_end = run (opening (one_task bare)) race

-- Each of the three attempts that come through marks two objects, though the last two mark the same. And all is acknowledged,
-- so there is nothing more to deliver.
abbrev pub Race : Type 0
Race =
    (out_at race_end ≡ Live (OutcomeIs failure)) × (tickets_at race_end ≡ 0 ∷ 3 ∷ []) × (marks_at race_end ≡ 6) × (open_at race_end ≡ 0)
    × (run (opening (one_task bare)) (race ++ Deliver 1 ∷ []) ≡ None)
