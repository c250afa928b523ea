-- What a worker's turn does to a trace: the event that is due in it, what it answers and what it makes. And the traces of a log.
use Rattle.std.specs.Prelude.{ℕ, ◌≡◌, ◌<◌, ◌≤◌, Bool, true, false, nat_eq, cond, List, map, length, slice_get, Option, Some, None, IsTrue}
use Rattle.std.specs.List.{find}
use Rattle.asl_model.specs.Laws.{In}
use Rattle.fn_table.specs.Answers.{Asked}
use Rattle.world_types.specs.declared.queue.Event.{Event}
use Rattle.world_types.specs.declared.queue.Event.TheVariants.{Deliver, Crash, Step, Answer, GiveUp}
use Rattle.world_model.specs.AnyCode.World.{Codes, lives}
use Rattle.world_model.specs.Numbered.{Numbered}
use Rattle.world_plans.specs.declared.planning.Plan.{Plan}
use Rattle.world_plans.specs.Chooser.{allowed_events}
use Rattle.invoke_queue.specs.Codes.{event_code}
use Rattle.worker_gate.specs.declared.pick.Pick.{Pick}
use Rattle.worker_gate.specs.declared.pick.Pick.TheVariants.{Mine, Free, Call, Idle, Spent, NoMemory}
use Rattle.unum_world.specs.declared.calls.FunctionCall.{FunctionCall}
use Rattle.unum_world.specs.declared.engine.Start.{Start}
use Rattle.unum_world.specs.Openings.{codes_of, Fits}
use Rattle.unum_world.specs.Calls.{awaited_call}
use Rattle.unum_world.specs.OneStep.{takes_memory}
use Rattle.unum_world.specs.Answers.{IsAwaited}
use Rattle.unum_world.specs.Traces.{Trace, now, after_event, IsFull, IsObeying}

-- ---------------------------------------------------------------- the event that is due

-- a delivery or a giving up, which is of no attempt
abbrev pub is_of_none : Event → Bool
is_of_none (Deliver i) = true
is_of_none (Crash a) = false
is_of_none (Step a) = false
is_of_none (Answer a) = false
is_of_none (GiveUp i) = true

-- an event of that attempt
abbrev pub is_of : (attempt : ℕ) → Event → Bool
is_of a (Deliver i) = false
is_of a (Crash b) = nat_eq a b
is_of a (Step b) = nat_eq a b
is_of a (Answer b) = nat_eq a b
is_of a (GiveUp i) = false

-- the events that a worker may make: those of its live attempt, and without one those of none
abbrev pub is_for : (own : Option ℕ) → Event → Bool
is_for None e = is_of_none e
is_for (Some a) e = is_of a e

-- a worker's attempt, where it lives
abbrev pub own_attempt : Numbered → (mine : Option ℕ) → Option ℕ
own_attempt w None = None
own_attempt w (Some a) = cond (lives (slice_get w.atts a)) (Some a) None

-- the first event that the plan allows of those that the worker may make
abbrev pub due_in : Plan → Codes ℕ → Numbered → (mine : Option ℕ) → Option Event
due_in p codes w mine = find (is_for (own_attempt w mine)) (allowed_events p codes w)

-- the events that the plan allows after a trace
abbrev pub allowed : Trace → List Event
allowed p = allowed_events p.opening.plan (codes_of p.opening) (now p)

-- the event that is due in the turn of a worker
abbrev pub due_event : Trace → (mine : Option ℕ) → Option Event
due_event p mine = due_in p.opening.plan (codes_of p.opening) (now p) mine

-- ---------------------------------------------------------------- what is made

-- the history has room for one event more
abbrev pub HasRoom : Trace → Type 0
HasRoom p = length p.history < p.limit

-- the attempt lives
abbrev pub is_living : Trace → (attempt : ℕ) → Bool
is_living p a = lives (slice_get (now p).atts a)

-- what the worker is told of an event that was made: its attempt, where that lives on, and after a delivery the new one
abbrev pub told_after : Trace → Event → Pick
told_after p (Deliver i) = Mine (length (now p).atts)
told_after p (Crash a) = Free
told_after p (Step a) = cond (is_living (after_event p (Step a)) a) (Mine a) Free
told_after p (Answer a) = Mine a
told_after p (GiveUp i) = Free

-- an event that is to be made is made where the history has room, if memory lasts, and else the answer is Spent
abbrev pub Makes : Trace → Event → Pick → Trace → Type 0
Makes p e Spent q = IsFull p × (q ≡ p)
Makes p e NoMemory q = HasRoom p × IsTrue (takes_memory (codes_of p.opening) (now p) e) × (q ≡ p)
Makes p e answer q = HasRoom p × (answer ≡ told_after p e) × (q ≡ after_event p e)

-- ---------------------------------------------------------------- a pick

-- a call, with the attempt's number as ticket
abbrev pub asked_by : (attempt : ℕ) → FunctionCall → Asked
asked_by a c = record { kind = c.kind; input = c.input; ticket = a }

-- the worker is asked to call a function, and no event is made
abbrev pub AsksFor : Trace → Asked → Pick → Trace → Type 0
AsksFor p c (Call kind input ticket) q = (record { kind = kind; input = input; ticket = ticket } ≡ c) × (q ≡ p)
AsksFor p c _ q = ⊥

-- an Answer that is due is for the worker to get; where the table has no such function, it is made, and changes nothing; and memory
-- may run out as the call is looked for
abbrev pub AsksOrMakes : Trace → (attempt : ℕ) → Option Asked → Pick → Trace → Type 0
AsksOrMakes p a c NoMemory q = q ≡ p
AsksOrMakes p a (Some c) answer q = AsksFor p c answer q
AsksOrMakes p a None answer q = Makes p (Answer a) answer q

-- a turn in which that event is due; where none is, the worker has no live attempt and is idle
abbrev pub TurnWith : Trace → (mine : Option ℕ) → Option Event → Pick → Trace → Type 0
TurnWith p mine None answer q = (answer ≡ Idle) × (q ≡ p) × (own_attempt (now p) mine ≡ None)
TurnWith p mine (Some (Answer a)) answer q = AsksOrMakes p a (awaited_call (codes_of p.opening) (now p) a) answer q
TurnWith p mine (Some e) answer q = Makes p e answer q

-- what a pick answers a worker, and the trace after it
abbrev pub Picks : Trace → (mine : Option ℕ) → Pick → Trace → Type 0
Picks p mine answer q = TurnWith p mine (due_event p mine) answer q

-- neither a delivery nor a giving up is allowed
abbrev pub IsIdle : Trace → Type 0
IsIdle p = (e : Event) → In e (allowed p) → is_of_none e ≡ false

-- ---------------------------------------------------------------- an answer that is handed in

-- the attempt waits for that call, and the plan allows the Answer
abbrev pub MayHand : Trace → Asked → Type 0
MayHand p c = IsAwaited p c × In (Answer c.ticket) (allowed p)

-- what it is answered that the answer to a call is handed in, and the trace after it
abbrev pub Hands : Trace → Asked → Pick → Trace → Type 0
Hands p c (Mine a) q = MayHand p c × HasRoom p × (a ≡ c.ticket) × (q ≡ after_event p (Answer c.ticket))
Hands p c Free q = ¬ (MayHand p c) × (q ≡ p)
Hands p c Spent q = MayHand p c × IsFull p × (q ≡ p)
Hands p c NoMemory q = In (Answer c.ticket) (allowed p) × (q ≡ p)
Hands p c _ q = ⊥

-- ---------------------------------------------------------------- logs

-- what a trace began with
abbrev pub start_of : Trace → Start
start_of p = record { opening = p.opening; limit = p.limit }

-- the codes of its events
abbrev pub log_of : Trace → List ℕ
log_of p = map event_code p.history

-- the trace began so and its codes are the log, and each of its events was allowed by the plan in its turn
pub record IsTraceOf (s : Start) (log : List ℕ) (p : Trace) : Type 0 where
  pub start_is : start_of p ≡ s
  pub log_is : log_of p ≡ log
  pub obeying : IsObeying p

-- of the trace of that log, this holds
abbrev pub OnTrace : Start → List ℕ → (Trace → Type 0) → Type 0
OnTrace s log P = (p : Trace) × IsTraceOf s log p × P p

-- of the traces of these logs, this holds
abbrev pub OnTraces : Start → (before after : List ℕ) → (Trace → Trace → Type 0) → Type 0
OnTraces s before after R = OnTrace s before (λ p. OnTrace s after (λ q. R p q))

-- A log has one trace at most.
abbrev pub EveryLogHasOneTrace : Type 0
EveryLogHasOneTrace =
    (s : Start) (log : List ℕ) (p q : Trace) → Fits s.opening → length log ≤ 10000000 → IsTraceOf s log p → IsTraceOf s log q → p ≡ q
