-- The world, its events, and a run of them.
use Rattle.std.specs.Prelude.{ℕ, suc, ◌-◌, Bool, true, false, not, ◌&&◌, List, [], ◌∷◌, ◌++◌, slice_get, slice_set, nat_lt, nat_eq, cond, Option, Some, None}
use Rattle.unum_json.specs.Keys.{find_key}
use Rattle.fn_table.specs.declared.kind.FnKind.{FnKind}
use Rattle.fn_table.specs.Answers.{answer}
use Rattle.place_name.specs.declared.obj.Obj.{Obj}
use Rattle.place_name.specs.declared.obj.Obj.TheVariants.{Check, Bits, Arg}
use Rattle.place_name.specs.Same.{object_same}
use Rattle.world_model.specs.AnyCode.Names as names
use Rattle.world_model.specs.AnyCode.Names.{Place, Name, name_at, root}
use Rattle.world_model.specs.AnyCode.Code.{Text, Json, Code, Bitmaps}
use Rattle.world_model.specs.AnyCode.Operations.{Held, KeptAs, BitsAre, ArgIs, Condition, Absent, Live, Tombstone, Invocation, Op, Look, Create, Set, Invoke, Mark, Ack, Reply, WasAbsent, WasLive, WasTombstone, Won, Had, HadTombstone, BitFull, BitNotFull, BitTombstone, Invoked, Finished}
use Rattle.world_model.specs.AnyCode.Program.{Phase, Looking, Doing, Do, Ask, next_of, absorb, called_phase}
pub use Rattle.world_types.specs.declared.queue.Entry.{Entry}
pub use Rattle.world_types.specs.declared.queue.InvState.{InvState}
pub use Rattle.world_types.specs.declared.queue.Attempt.{Attempt}
pub use Rattle.world_types.specs.declared.queue.Event.{Event}
pub use Rattle.world_types.specs.declared.queue.Event.TheVariants.{Deliver, Crash, Step, Answer, GiveUp}

-- ---------------------------------------------------------------- worlds

-- a session: the machine that it runs, and its input
pub record Session (M : Type 0) : Type 0 where
  pub machine : M
  pub input : Json

-- functions by their resources
abbrev pub Table : Type 0
Table = List (Text × FnKind)

-- what a world is opened with
pub record Opening (M : Type 0) : Type 0 where
  pub functions : Table
  pub sessions : List (Session M)

-- a world of machines M, whose code has the sites S, with bitmaps B; the journal is in the order of winning, and marks is how
-- many steps were a Mark
pub record World (M S B : Type 0) : Type 0 where
  pub opening : Opening M
  pub objects : Obj → Condition B
  pub invs : List (Invocation S)
  pub states : List InvState
  pub atts : List Attempt
  pub journal : List Entry
  pub marks : ℕ

-- ---------------------------------------------------------------- the opening world

-- the instance that a session begins with
abbrev pub root_name : (session : ℕ) → Name
root_name s = name_at (root s) 0 names.Enter

-- its Enter is the first site of the session's machine
abbrev pub root_inv : {M S : Type 0} → (first : M → S) → (session : ℕ) → Session M → Invocation S
root_inv first s x = record { name = root_name s; site = first x.machine }

-- an invocation that was never delivered
abbrev pub fresh_state : InvState
fresh_state = record { tries = 0; live = 0; acked = false; dead = false }

-- the first instances of the sessions, from that number on
unfoldable pub root_invs : {M S : Type 0} → (first : M → S) → (session : ℕ) → List (Session M) → List (Invocation S)
root_invs first s [] = []
root_invs first s (x ∷ xs) = root_inv first s x ∷ root_invs first (suc s) xs

-- none of them delivered yet
unfoldable pub root_states : {M : Type 0} → List (Session M) → List InvState
root_states [] = []
root_states (x ∷ xs) = fresh_state ∷ root_states xs

-- the objects with one of them changed
unfoldable pub objects_with : {B : Type 0} → Obj → Condition B → (Obj → Condition B) → Obj → Condition B
objects_with o c objects x = cond (object_same x o) c (objects x)

-- at opening the Arg of each session's first Enter holds the session's input
unfoldable pub start_objects : {M B : Type 0} → (session : ℕ) → List (Session M) → Obj → Condition B
start_objects s [] = λ x. Absent
start_objects s (y ∷ ys) = objects_with (Arg (root_name s)) (Live (ArgIs y.input [])) (start_objects (suc s) ys)

-- each session has its first Enter invoked, and all else is empty
abbrev pub start : {M S B : Type 0} → (first : M → S) → Opening M → World M S B
start first o = record {
  opening = o;
  objects = start_objects 0 o.sessions;
  invs = root_invs first 0 o.sessions;
  states = root_states o.sessions;
  atts = [];
  journal = [];
  marks = 0;
}

-- the function of a resource
unfoldable pub function_of : Table → Text → Option FnKind
function_of table resource = find_key resource table

-- ---------------------------------------------------------------- replies

-- what a Look finds
abbrev pub look_reply : {B : Type 0} → Condition B → Reply B
look_reply Absent = WasAbsent
look_reply (Live h) = WasLive h
look_reply Tombstone = WasTombstone

-- whether a Create wins: only where nothing ever was
abbrev pub create_reply : {B : Type 0} → Condition B → Reply B
create_reply Absent = Won
create_reply (Live h) = Had h
create_reply Tombstone = HadTombstone

-- the bitmap in an object; else the one without a bit
abbrev pub bits_or : {B : Type 0} → B → Held B → B
bits_or none (BitsAre b) = b
bits_or none _ = none

-- whether the bitmap is full with that index
abbrev pub set_reply : {B : Type 0} → Bitmaps B → (index count : ℕ) → Condition B → Reply B
set_reply bits index count Absent = cond (bits.is_full count (bits.set index (bits.none count))) BitFull BitNotFull
set_reply bits index count (Live h) = cond (bits.is_full count (bits.set index (bits_or (bits.none count) h))) BitFull BitNotFull
set_reply bits index count Tombstone = BitTombstone

-- what a Mark finds
abbrev pub mark_reply : {B : Type 0} → Condition B → Reply B
mark_reply Absent = WasAbsent
mark_reply _ = Finished

-- what an operation answers
abbrev pub reply_to : {S B : Type 0} → Bitmaps B → (Obj → Condition B) → Op S B → Reply B
reply_to bits objects (Look o) = look_reply (objects o)
reply_to bits objects (Create o h) = create_reply (objects o)
reply_to bits objects (Set p index count) = set_reply bits index count (objects (Bits p count))
reply_to bits objects (Invoke i) = Invoked
reply_to bits objects (Mark o) = mark_reply (objects o)
reply_to bits objects Ack = Finished

-- ---------------------------------------------------------------- operations

-- each part of a world after an operation

-- an absent object is made live, and any other stays as it is
abbrev pub created_objects : {B : Type 0} → (Obj → Condition B) → Obj → Held B → Condition B → Obj → Condition B
created_objects objects o h Absent = objects_with o (Live h) objects
created_objects objects o h _ = objects

-- an object that is there becomes a tombstone, from which nothing leads away
abbrev pub marked_objects : {B : Type 0} → (Obj → Condition B) → Obj → Condition B → Obj → Condition B
marked_objects objects o Absent = objects
marked_objects objects o _ = objects_with o Tombstone objects

-- the bit is set, in a bitmap that is made where there is none
abbrev pub bit_objects : {B : Type 0} → Bitmaps B → (Obj → Condition B) → Place → (index count : ℕ) → Condition B → Obj → Condition B
bit_objects bits objects p index count Absent = objects_with (Bits p count) (Live (BitsAre (bits.set index (bits.none count)))) objects
bit_objects bits objects p index count (Live h) =
    objects_with (Bits p count) (Live (BitsAre (bits.set index (bits_or (bits.none count) h)))) objects
bit_objects bits objects p index count Tombstone = objects

-- the objects
abbrev pub objects_after : {S B : Type 0} → Bitmaps B → (Obj → Condition B) → Op S B → Obj → Condition B
objects_after bits objects (Look o) = objects
objects_after bits objects (Create o h) = created_objects objects o h (objects o)
objects_after bits objects (Set p index count) = bit_objects bits objects p index count (objects (Bits p count))
objects_after bits objects (Invoke i) = objects
objects_after bits objects (Mark o) = marked_objects objects o (objects o)
objects_after bits objects Ack = objects

-- the messages: one more after an Invoke
abbrev pub invs_after : {S B : Type 0} → List (Invocation S) → Op S B → List (Invocation S)
invs_after invs (Invoke i) = invs ++ i ∷ []
invs_after invs _ = invs

-- one attempt less lives
abbrev pub state_after_crash : InvState → InvState
state_after_crash s = record s { live = s.live - 1 }

-- one attempt less lives, and the invocation is acknowledged
abbrev pub state_after_ack : InvState → InvState
state_after_ack s = record s { live = s.live - 1; acked = true }

-- what the queue knows, with that invocation changed
abbrev pub states_with : List InvState → ℕ → (InvState → InvState) → Option InvState → List InvState
states_with states i f None = states
states_with states i f (Some s) = slice_set states i (f s)

-- what the queue knows, after an operation of an attempt of that invocation
abbrev pub states_after : {S B : Type 0} → List InvState → (inv : ℕ) → Op S B → List InvState
states_after states inv (Invoke i) = states ++ fresh_state ∷ []
states_after states inv Ack = states_with states inv state_after_ack (slice_get states inv)
states_after states inv _ = states

-- the journal's entry for a Create that won
abbrev pub entries_of : {B : Type 0} → Obj → Held B → ℕ → List Entry
entries_of (Check n) (KeptAs k) a = record { name = n; answer = k.answer; ticket = a } ∷ []
entries_of _ _ a = []

-- the journal after a Create
abbrev pub won_journal : {B : Type 0} → List Entry → (attempt : ℕ) → Obj → Held B → Condition B → List Entry
won_journal journal a o h Absent = journal ++ entries_of o h a
won_journal journal a o h _ = journal

-- the journal: one more entry where a Check was created
abbrev pub journal_after : {S B : Type 0} → (Obj → Condition B) → List Entry → (attempt : ℕ) → Op S B → List Entry
journal_after objects journal a (Create o h) = won_journal journal a o h (objects o)
journal_after objects journal a _ = journal

-- one more step was a Mark
abbrev pub marks_after : {S B : Type 0} → ℕ → Op S B → ℕ
marks_after marks (Mark o) = suc marks
marks_after marks _ = marks

-- the world after an operation
abbrev pub performed_world : {M S B : Type 0} → Bitmaps B → World M S B → (attempt : ℕ) → Attempt → Op S B → World M S B
performed_world bits w a t op =
    record w {
      objects = objects_after bits w.objects op;
      invs = invs_after w.invs op;
      states = states_after w.states t.inv op;
      journal = journal_after w.objects w.journal a op;
      marks = marks_after w.marks op;
    }

-- the same, for each operation on objects

-- after a Create
abbrev pub created_world : {M S B : Type 0} → World M S B → (attempt : ℕ) → Obj → Held B → Condition B → World M S B
created_world w a o h c = record w { objects = created_objects w.objects o h c; journal = won_journal w.journal a o h c }

-- after a Mark
abbrev pub marked_world : {M S B : Type 0} → World M S B → Obj → Condition B → World M S B
marked_world w o c = record w { objects = marked_objects w.objects o c }

-- with one Mark more counted
abbrev pub counted_world : {M S B : Type 0} → World M S B → World M S B
counted_world w = record w { marks = suc w.marks }

-- after a Set
abbrev pub with_bit : {M S B : Type 0} → Bitmaps B → World M S B → Place → (index count : ℕ) → Condition B → World M S B
with_bit bits w p index count c = record w { objects = bit_objects bits w.objects p index count c }

-- after a change of what the queue knows of an invocation
abbrev pub with_state : {M S B : Type 0} → World M S B → ℕ → (InvState → InvState) → Option InvState → World M S B
with_state w i f s = record w { states = states_with w.states i f s }

-- an attempt lives on after each operation but Ack
abbrev pub lives_on : {S B : Type 0} → Op S B → Bool
lives_on Ack = false
lives_on _ = true

-- the attempt has had one more event
abbrev pub moved_world : {M S B : Type 0} → World M S B → (attempt : ℕ) → Attempt → Bool → Phase → World M S B
moved_world w a t lives phase =
    record w { atts = slice_set w.atts a (record { inv = t.inv; live = lives; steps = suc t.steps; phase = phase }) }

-- ---------------------------------------------------------------- events

-- the code of each session
abbrev pub Codes : Type 0 → Type 0
Codes S = (session : ℕ) → Code S

-- the code that an invocation runs
abbrev pub code_of : {S : Type 0} → Codes S → Invocation S → Code S
code_of codes i = codes i.name.place.session

-- the world after a step: the operation is done, and its reply leads to the next phase
abbrev pub stepped_world : {M S B : Type 0} → Bitmaps B → Codes S → World M S B → (attempt : ℕ) → Attempt → Invocation S → Phase →
    Doing S B → World M S B
stepped_world bits codes w a t i ph (Do op) =
    moved_world (performed_world bits w a t op) a t (lives_on op) (absorb (code_of codes i) i a ph (reply_to bits w.objects op))
stepped_world bits codes w a t i ph _ = w

-- the answer of the function to the input, with the attempt's number as ticket
abbrev pub answered_world : {M S B : Type 0} → World M S B → (attempt : ℕ) → Attempt → Json → Option FnKind → World M S B
answered_world w a t input None = w
answered_world w a t input (Some kind) = moved_world w a t true (called_phase a t.phase (answer kind input a))

-- the world after an answer
abbrev pub asked_world : {M S B : Type 0} → World M S B → (attempt : ℕ) → Attempt → Doing S B → World M S B
asked_world w a t (Ask resource input) = answered_world w a t input (function_of w.opening.functions resource)
asked_world w a t _ = w

-- the world by the attempt's invocation
abbrev pub with_inv : {M S B : Type 0} → World M S B → Attempt → (Invocation S → World M S B) → Option (Invocation S) → World M S B
with_inv w t f None = w
with_inv w t f (Some i) = f i

-- the world by the attempt
abbrev pub with_att : {M S B : Type 0} → World M S B → (Attempt → World M S B) → Option Attempt → World M S B
with_att w f None = w
with_att w f (Some t) = f t

-- the world after a delivery: one more attempt, at its first look
abbrev pub delivered_world : {M S B : Type 0} → World M S B → ℕ → Option InvState → World M S B
delivered_world w i None = w
delivered_world w i (Some s) =
    record w {
      states = slice_set w.states i (record s { tries = suc s.tries; live = suc s.live });
      atts = w.atts ++ record { inv = i; live = true; steps = 0; phase = Looking } ∷ [];
    }

-- the world after a crash: all else stays as it is
abbrev pub crashed_world : {M S B : Type 0} → World M S B → ℕ → Attempt → World M S B
crashed_world w a t =
    with_state (record w { atts = slice_set w.atts a (record t { live = false }) }) t.inv state_after_crash (slice_get w.states t.inv)

-- the world after an event
unfoldable pub effect : {M S B : Type 0} → Bitmaps B → Codes S → World M S B → Event → World M S B
effect bits codes w (Deliver i) = delivered_world w i (slice_get w.states i)
effect bits codes w (Crash a) = with_att w (λ t. crashed_world w a t) (slice_get w.atts a)
effect bits codes w (Step a) =
    with_att w
    (λ t. with_inv w t (λ i. stepped_world bits codes w a t i t.phase (next_of (code_of codes i) i t.phase)) (slice_get w.invs t.inv))
    (slice_get w.atts a)
effect bits codes w (Answer a) =
    with_att w
    (λ t. with_inv w t (λ i. asked_world w a t (next_of (code_of codes i) i t.phase)) (slice_get w.invs t.inv))
    (slice_get w.atts a)
effect bits codes w (GiveUp i) = with_state w i (λ s. record s { dead = true }) (slice_get w.states i)

-- what the queue knows of an invocation passes the test
abbrev pub state_lets : (InvState → Bool) → Option InvState → Bool
state_lets p None = false
state_lets p (Some s) = p s

-- it is an operation
abbrev pub is_do : {S B : Type 0} → Doing S B → Bool
is_do (Do op) = true
is_do _ = false

-- it is a call
abbrev pub is_ask : {S B : Type 0} → Doing S B → Bool
is_ask (Ask r x) = true
is_ask _ = false

-- the attempt is there and lives
abbrev pub lives : Option Attempt → Bool
lives None = false
lives (Some t) = t.live

-- the attempt lives, and what it does next passes the test
abbrev pub att_lets : {M S B : Type 0} → Codes S → World M S B → (Doing S B → Bool) → Option Attempt → Bool
att_lets codes w p None = false
att_lets codes w p (Some t) = t.live && elim (slice_get w.invs t.inv) [ None ↦ false | Some i ↦ p (next_of (code_of codes i) i t.phase) ]

-- Where an event may happen: the queue delivers 8 times at most, and gives up what it has delivered so often and is neither
-- acknowledged nor being tried.
unfoldable pub enabled : {M S B : Type 0} → Codes S → World M S B → Event → Bool
enabled codes w (Deliver i) = state_lets (λ s. not s.acked && (not s.dead && nat_lt s.tries 8)) (slice_get w.states i)
enabled codes w (Crash a) = lives (slice_get w.atts a)
enabled codes w (Step a) = att_lets codes w is_do (slice_get w.atts a)
enabled codes w (Answer a) = att_lets codes w is_ask (slice_get w.atts a)
enabled codes w (GiveUp i) = state_lets (λ s. not s.acked && (not s.dead && (nat_eq s.tries 8 && nat_eq s.live 0))) (slice_get w.states i)

-- the world after an event, if it may happen
abbrev pub next_world : {M S B : Type 0} → Bitmaps B → Codes S → World M S B → Event → Option (World M S B)
next_world bits codes w e = cond (enabled codes w e) (Some (effect bits codes w e)) None

-- the same, where the world may not be there
abbrev pub then_event : {M S B : Type 0} → Bitmaps B → Codes S → Option (World M S B) → Event → Option (World M S B)
then_event bits codes None e = None
then_event bits codes (Some w) e = next_world bits codes w e

-- the world after these events in turn, where each is enabled in its turn
unfoldable pub run_from : {M S B : Type 0} → Bitmaps B → Codes S → Option (World M S B) → List Event → Option (World M S B)
run_from bits codes w [] = w
run_from bits codes w (e ∷ es) = run_from bits codes (then_event bits codes w e) es

-- a run from an opening
abbrev pub run : {M S B : Type 0} → Bitmaps B → Codes S → (first : M → S) → Opening M → List Event → Option (World M S B)
run bits codes first o es = run_from bits codes (Some (start first o)) es
