-- Small machines, and what their central runs are.
use Rattle.std.specs.Prelude.{◌≡◌, ℕ, List, [], ◌∷◌, Option, Some, None, Ok, Err, Bool, true, false, suc, length, nat_lt, codes}
use Rattle.place_name.specs.Order.{numbers_of}
use Rattle.unum_json.specs.declared.value.Json as json
use Rattle.asl_model.specs.declared.validity.VRule.TheVariants.{V2, V5}
use Rattle.asl_model.specs.Data.{Text, Json, Outcome, Done, Failed, Fault, failure, Shape, hop_limit_error, repeat, combine, prepared, match_error, put_error}
use Rattle.asl_model.specs.Names.{Place, Answers, answers_of}
use Rattle.asl_model.specs.Machine.{Block, block, no_state, and_state, State, Task, Pass, Choice, Succeed, Fail, Parallel, Map, After, Care, Used, no_block, and_block, blocks_in, care_of}
use Rattle.asl_model.specs.Head.{Retrier, CatcherOf, CareOf, HTask, bare, leaves, again_or, retried, caught, settled, begins, zeros}
use Rattle.asl_model.specs.Step.{Ways, Onward, Begun, Goes, Ends, On, Calls, Fans}
use Rattle.asl_model.specs.Central.{Visit, name_of, Ended, Waits, central}
use Rattle.asl_model.specs.Valid.{broken}

-- the shape of a state that names no path and no template
abbrev pub whole : Shape
whole = record { input = Some []; parameters = None; selector = None; result = Some []; output = Some [] }

abbrev pub at_end : After
at_end = record { next = None; end = true }

abbrev pub goes_to : Text → After
goes_to name = record { next = Some name; end = false }

abbrev pub null : Json
null = json.Null

-- a block of one Task that ends
abbrev pub one_task : Text → Block
one_task name = block name (and_state name (Task whole (codes "f") at_end bare) no_state)

-- a block of one Map, whose body is one Task
abbrev pub each_task : ℕ → Block
each_task n = block (codes "C") (and_state (codes "C") (Map whole [] None (one_task (codes "D")) at_end bare n) no_state)

-- a Parallel of a Task and of a Map, then a Succeed
abbrev pub fan : Block
fan = block (codes "A")
    (and_state (codes "A") (Parallel whole (and_block (one_task (codes "B")) (and_block (each_task 2) no_block)) (goes_to (codes "E")) bare)
    (and_state (codes "E") (Succeed whole) no_state))

-- a Parallel whose one branch is a Pass that enters itself again
abbrev pub loop : Block
loop = block (codes "A") (and_state (codes "A")
    (Parallel whole
    (and_block (block (codes "L") (and_state (codes "L") (Pass whole None (goes_to (codes "L"))) no_state)) no_block)
    at_end bare)
    no_state)

abbrev pub twice : Care
twice = record { retry = record { errors = codes "States.TaskFailed" ∷ []; most = 2 } ∷ []; catch = [] }

-- a Task that is retried twice
abbrev pub cared : Block
cared = block (codes "A") (and_state (codes "A") (Task whole (codes "f") at_end twice) no_state)

-- a Parallel with neither Next nor End, whose branch goes to a state beside the Parallel
abbrev pub astray : Block
astray = block (codes "P")
    (and_state (codes "P")
    (Parallel whole
    (and_block (block (codes "X") (and_state (codes "X") (Pass whole None (goes_to (codes "Q"))) no_state)) no_block)
    (record { next = None; end = false }) bare)
    (and_state (codes "Q") (Succeed whole) no_state))

abbrev pub here : ℕ → Place
here hop = record { session = 0; trail = []; hop = hop }

abbrev pub below : (hop index count : ℕ) → (at : ℕ) → Place
below hop index count at = record { session = 0; trail = record { hop = hop; index = index; count = count } ∷ []; hop = at }

-- the numbers of the names of a run's visits, with the answers
abbrev pub shown : List Visit → List (List ℕ × Option Outcome)
shown [] = []
shown (v ∷ vs) = (numbers_of (name_of v), v.answer) ∷ shown vs

-- their places, with the lists used
abbrev pub lists : List Visit → List (Place × List ℕ × Option Outcome)
lists [] = []
lists (v ∷ vs) = (v.place, v.used, v.answer) ∷ lists vs

abbrev pub nothing : Answers
nothing = answers_of []

abbrev pub failed : Outcome
failed = failure (codes "x") (codes "c")

abbrev pub empty : Json
empty = json.Arr []

-- states that hand their data on as they are, where a Map has as many copies of it as its limit says: with them a run
-- computes whatever the sizes of values are
abbrev pub begin_plainly : Text → State → Json → Begun
begin_plainly name (Task shape resource after care) raw = Calls resource raw
begin_plainly name (Pass shape result after) raw = On (leaves after.next raw)
begin_plainly name (Choice shape rules default) raw = On (Ends (Done raw))
begin_plainly name (Succeed shape) raw = On (Ends (Done raw))
begin_plainly name (Fail error cause) raw = On (Ends (failure error cause))
begin_plainly name (Parallel shape bs after care) raw = Fans (repeat (length (blocks_in bs)) raw)
begin_plainly name (Map shape items selector b after care limit) raw = Fans (repeat limit raw)

abbrev pub finish_plainly : Text → State → Json → Used → Outcome → Onward
finish_plainly name (Task shape resource after care) raw used (Done v) = leaves after.next v
finish_plainly name (Task shape resource after care) raw used (Failed f) =
    again_or name raw (retried f.error true care.retry used) (Ends (Failed f))
finish_plainly name _ raw used o = Ends o

abbrev pub plainly : Ways
plainly = record { begin = begin_plainly; finish = finish_plainly; fresh = λ s. zeros (care_of s).retry }

-- a Task with no answer waits
abbrev pub WaitingTask : Type 0
WaitingTask = (central plainly nothing (one_task (codes "A")) 0 null).end ≡ Waits (here 0 ∷ [])

-- with its answer it ends
abbrev pub AnsweredTask : Type 0
AnsweredTask = (central plainly (answers_of ((here 0, Done empty) ∷ [])) (one_task (codes "A")) 0 null).end ≡ Ended (Done empty)

-- a fan in a fan: both branches run, the Map of two items waits, and all stands in the order of names
abbrev pub FanWaits : Type 0
FanWaits = shown (central plainly (answers_of ((below 0 0 2 0, Done null) ∷ [])) fan 0 null).visits
    ≡ (0 ∷ [], Some (Done null))
    ∷ (0 ∷ 0 ∷ 2 ∷ 0 ∷ [], Some (Done null))
    ∷ (0 ∷ 0 ∷ 2 ∷ 0 ∷ [], Some (Done null))
    ∷ (0 ∷ 1 ∷ 2 ∷ 0 ∷ [], Some (Done null))
    ∷ (0 ∷ 1 ∷ 2 ∷ 0 ∷ 0 ∷ 2 ∷ 0 ∷ [], Some (Done null))
    ∷ (0 ∷ 1 ∷ 2 ∷ 0 ∷ 0 ∷ 2 ∷ 0 ∷ [], None)
    ∷ (0 ∷ 1 ∷ 2 ∷ 0 ∷ 1 ∷ 2 ∷ 0 ∷ [], Some (Done null))
    ∷ (0 ∷ 1 ∷ 2 ∷ 0 ∷ 1 ∷ 2 ∷ 0 ∷ [], None)
    ∷ []

-- an empty Map joins at once
abbrev pub EmptyMap : Type 0
EmptyMap = shown (central plainly nothing (each_task 0) 0 null).visits
    ≡ (0 ∷ [], Some (Done null)) ∷ (0 ∷ [], Some (combine (codes "C") [])) ∷ []

-- two failures are retried, and the third ends the scope: the Tasks stand at hops 0, 1 and 2, each with its list
abbrev pub RetriedTask : Type 0
RetriedTask = lists (central plainly (answers_of ((here 0, failed) ∷ (here 1, failed) ∷ (here 2, failed) ∷ [])) cared 0 null).visits
    ≡ (here 0, [], Some (Done null))
    ∷ (here 0, 0 ∷ [], Some failed)
    ∷ (here 1, 1 ∷ [], Some failed)
    ∷ (here 2, 2 ∷ [], Some failed)
    ∷ []

-- a branch that would enter a state at hop 2,000 fails, and the fan is joined with that
abbrev pub LoopEnds : Type 0
LoopEnds = shown (central plainly nothing loop 0 null).visits
    ≡ (0 ∷ [], Some (Done null))
    ∷ (0 ∷ [], Some (combine (codes "A") (failure hop_limit_error (codes "L") ∷ [])))
    ∷ (0 ∷ 0 ∷ 1 ∷ 0 ∷ [], Some (Done null))
    ∷ []

-- the Next of the branch and the state with neither Next nor End are what it breaks
abbrev pub AstrayBreaks : Type 0
AstrayBreaks = broken astray ≡ record { rule = V2; state = codes "X" } ∷ record { rule = V5; state = codes "P" } ∷ []

-- ---- what a failure does

-- the first retrier that matches is taken while it may be, before any catcher
abbrev pub RetriesFirst : Type 0
RetriesFirst = (name label : Text) (shape : Shape) (after : Option Text) (care : CareOf Text) (answered : Bool) (raw : Json)
    (r : Retrier) (rs : List Retrier) (u : ℕ) (us : Used) (f : Fault) →
    care.retry ≡ r ∷ rs → match_error r.errors f.error answered ≡ true → nat_lt u r.most ≡ true →
    settled name label shape after care answered raw (u ∷ us) (Failed f) ≡ Goes label raw (Some (suc u ∷ us))

-- where it was taken often enough the failure goes to the catchers, whatever retriers follow
abbrev pub SpentIsCaught : Type 0
SpentIsCaught = (name label : Text) (shape : Shape) (after : Option Text) (care : CareOf Text) (answered : Bool) (raw : Json)
    (r : Retrier) (rs : List Retrier) (u : ℕ) (us : Used) (f : Fault) →
    care.retry ≡ r ∷ rs → match_error r.errors f.error answered ≡ true → nat_lt u r.most ≡ false →
    settled name label shape after care answered raw (u ∷ us) (Failed f) ≡ caught name raw f.error f.cause answered care.catch

-- the first catcher that matches puts the error into the raw data and goes to its next state as a new entry
abbrev pub FirstCatches : Type 0
FirstCatches = (name : Text) (raw v : Json) (error cause : Text) (answered : Bool) (c : CatcherOf Text) (cs : List (CatcherOf Text)) →
    match_error c.errors error answered ≡ true → put_error c.result raw error cause ≡ Ok v →
    caught name raw error cause answered (c ∷ cs) ≡ Goes c.next v None

-- an error of a Task's data flow goes to its catchers at once, and States.TaskFailed does not match it
abbrev pub OwnErrorIsCaught : Type 0
OwnErrorIsCaught = (name resource : Text) (shape : Shape) (after : Option Text) (care : CareOf Text) (raw : Json) (error : Text) →
    prepared shape raw ≡ Err error → begins name (HTask shape resource after care) raw ≡ On (caught name raw error name false care.catch)

-- States.TaskFailed matches what a Task's function answered, and nothing else but an error of that name
abbrev pub TaskFailedMatches : Type 0
TaskFailedMatches =
    (match_error (codes "States.TaskFailed" ∷ []) (codes "x") true ≡ true)
    × (match_error (codes "States.TaskFailed" ∷ []) (codes "x") false ≡ false)
    × (match_error (codes "States.TaskFailed" ∷ []) (codes "States.TaskFailed") false ≡ true)
    × (match_error (codes "States.ALL" ∷ []) (codes "x") false ≡ true)

-- the failure of lowest index is what a fan comes to
abbrev pub LowestFails : Type 0
LowestFails = (name : Text) (v w : Json) (f g : Fault) (os : List Outcome) →
    combine name (Done v ∷ Failed f ∷ Done w ∷ Failed g ∷ os) ≡ Failed f
