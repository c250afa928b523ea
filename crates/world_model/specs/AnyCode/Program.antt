-- The program of an instance, as two tables: what its next is in each phase, and the phase that follows a reply.
--
-- Where an attempt stands. It looks at its own Check. If that is absent, a Join looks at Saved and gathers the outcomes of
-- its branches, and an Enter or a Task reads its data; a Task calls its function. Then it creates its Check, does its acts,
-- after a full bitmap invokes the Join, marks what is due, and acknowledges its invocation. At the end it is known whether
-- it came through its acts and marks, or met a tombstone of one that had.
use Rattle.std.specs.Prelude.{ℕ, true, false, suc, List, [], ◌∷◌, ◌++◌, length, slice_get, nat_lt, cond, Option, Some, None}
use Rattle.place_name.specs.declared.obj.Obj.{Obj}
use Rattle.place_name.specs.declared.obj.Obj.TheVariants.{Check, Out, Saved, Arg}
use Rattle.world_model.specs.AnyCode.Names as names
use Rattle.world_model.specs.AnyCode.Names.{Parent, Kind, Name, scope_of, child, parent_of}
use Rattle.world_model.specs.AnyCode.Code.{Text, Used, Json, Null, Outcome, Done, Code}
use Rattle.world_model.specs.AnyCode.Operations.{Kept, Held, KeptAs, OutcomeIs, SavedAs, ArgIs, Invocation, Op, Look, Create, Invoke, Mark, Ack, Reply, WasAbsent, WasLive, Won, Had, BitFull, BitNotFull, BitTombstone}
use Rattle.world_model.specs.AnyCode.Acts.{join_at, acts, due_objects}
pub use Rattle.world_types.specs.declared.phase.Phase.{Phase}
pub use Rattle.world_types.specs.declared.phase.Phase.TheVariants.{Looking, Saving, Gathering, Reading, Calling, Creating, Acting, Joining, Marking, Acking, Over as AttemptOver}
pub use Rattle.world_types.specs.declared.phase.Doing.{Doing}
pub use Rattle.world_types.specs.declared.phase.Doing.TheVariants.{Do, Ask, Nothing}

-- ---------------------------------------------------------------- what is next in a phase

-- the call of a function, if there is one
abbrev pub asking : {S B : Type 0} → Option (Text × Json) → Doing S B
asking (Some c) = Ask c.0 c.1
asking None = Nothing

-- the operation, if there is one
abbrev pub doing : {S B : Type 0} → Option (Op S B) → Doing S B
doing (Some op) = Do op
doing None = Nothing

-- the Mark of an object, if there is one
abbrev pub marking : {S B : Type 0} → Option Obj → Doing S B
marking (Some o) = Do (Mark o)
marking None = Nothing

-- the Join of the fan whose branch the scope is
abbrev pub joining : {S B : Type 0} → Option Parent → Option S → Doing S B
joining None j = Nothing
joining (Some q) None = Nothing
joining (Some q) (Some j) = Do (Invoke (join_at j q.place))

-- where an Enter or a Task reads its data: a branch's Enter where its fan saved it, any other its own Arg
abbrev pub source_in : Name → Kind → Option Parent → Obj
source_in n names.Enter (Some q) = Saved q.place
source_in n names.Enter None = Arg n
source_in n names.Task q = Arg n
source_in n names.Join q = Arg n

-- where an Enter or a Task reads its data, by its name
abbrev pub source : Name → Obj
source n = source_in n n.kind (parent_of (scope_of n.place))

-- the input of a branch, by what its fan saved
abbrev pub branch_input : {S : Type 0} → Code S → Option S → Json → Option Parent → Option Json
branch_input code None raw q = None
branch_input code (Some j) raw None = None
branch_input code (Some j) raw (Some q) = code.input_of j q.index raw

-- what an attempt of an invocation does next
unfoldable pub next_of : {S B : Type 0} → Code S → Invocation S → Phase → Doing S B
next_of code i Looking = Do (Look (Check i.name))
next_of code i Saving = Do (Look (Saved i.name.place))
next_of code i (Gathering count raw used outs) = Do (Look (Out (child i.name.place (length outs) count)))
next_of code i Reading = Do (Look (source i.name))
next_of code i (Calling raw used) = asking (code.call_of i.site raw)
next_of code i (Creating k) = Do (Create (Check i.name) (KeptAs k))
next_of code i (Acting k m) = doing (slice_get (acts code i k) m)
next_of code i (Joining k) = joining (parent_of (scope_of i.name.place)) (code.join_around i.site)
next_of code i (Marking k m) = marking (slice_get (due_objects i.name k.count) m)
next_of code i (Acking finished) = Do Ack
next_of code i (AttemptOver finished) = Nothing

-- ---------------------------------------------------------------- the phase after a reply

-- a checkpoint of these parts
abbrev pub kept_of : (raw : Json) → Used → (ticket : ℕ) → Outcome → (count : ℕ) → Kept
kept_of raw used ticket o count = record { raw = raw; used = used; answer = o; ticket = ticket; count = count }

-- where the own Check is absent
abbrev pub gathering_phase : Kind → Phase
gathering_phase names.Enter = Reading
gathering_phase names.Task = Reading
gathering_phase names.Join = Saving

-- what the outcomes of branches come to
abbrev pub Combine : Type 0
Combine = List Outcome → Outcome

-- a Join has all outcomes of its branches, or looks for the next
abbrev pub gathered_phase : Combine → ℕ → ℕ → Json → Used → List Outcome → Phase
gathered_phase combine ticket count raw used outs =
    cond (nat_lt (length outs) count) (Gathering count raw used outs) (Creating (kept_of raw used ticket (combine outs) count))

-- what a Check keeps is adopted, whoever created it
abbrev pub adopted_phase : {B : Type 0} → Held B → Phase
adopted_phase (KeptAs k) = Acting k 0
adopted_phase _ = Acking false

-- a Join has read what its fan saved
abbrev pub saved_phase : {B : Type 0} → Combine → ℕ → Held B → Phase
saved_phase combine ticket (SavedAs count raw used) = gathered_phase combine ticket count raw used []
saved_phase combine ticket _ = Looking

-- a Join has read one more outcome
abbrev pub next_gathered_phase : {B : Type 0} → Combine → ℕ → ℕ → Json → Used → List Outcome → Held B → Phase
next_gathered_phase combine ticket count raw used outs (OutcomeIs o) = gathered_phase combine ticket count raw used (outs ++ o ∷ [])
next_gathered_phase combine ticket count raw used outs _ = Looking

-- the data that was read: an Enter has its answer, a Task calls its function
abbrev pub entered_phase : ℕ → Option Json → Phase
entered_phase ticket (Some x) = Creating (kept_of Null [] ticket (Done x) 0)
entered_phase ticket None = Looking

-- an Enter or a Task has read its data
abbrev pub read_phase : {S B : Type 0} → Code S → Invocation S → ℕ → Kind → Held B → Phase
read_phase code i ticket names.Enter (ArgIs x used) = entered_phase ticket (Some x)
read_phase code i ticket names.Enter (SavedAs count raw used) =
    entered_phase ticket (branch_input code (code.join_around i.site) raw (parent_of (scope_of i.name.place)))
read_phase code i ticket names.Task (ArgIs x used) = Calling x used
read_phase code i ticket _ _ = Looking

-- after the look at its data
abbrev pub after_read : {S B : Type 0} → Code S → Invocation S → ℕ → Reply B → Phase
after_read code i ticket (WasLive h) = read_phase code i ticket i.name.kind h
after_read code i ticket _ = Looking

-- after the look at the own Check: absent, adopted, or a tombstone, of which nothing is left to do
abbrev pub after_look : {B : Type 0} → Kind → Reply B → Phase
after_look kind WasAbsent = gathering_phase kind
after_look kind (WasLive h) = adopted_phase h
after_look kind _ = Acking false

-- after the look at what the fan saved
abbrev pub after_saved : {B : Type 0} → Combine → ℕ → Reply B → Phase
after_saved combine ticket (WasLive h) = saved_phase combine ticket h
after_saved combine ticket _ = Looking

-- after the look at the next outcome
abbrev pub after_out : {B : Type 0} → Combine → ℕ → ℕ → Json → Used → List Outcome → Reply B → Phase
after_out combine ticket count raw used outs (WasLive h) = next_gathered_phase combine ticket count raw used outs h
after_out combine ticket count raw used outs _ = Looking

-- after the Create of the own Check: whoever lost the race goes on with the winner's answer
abbrev pub after_create : {B : Type 0} → Kept → Reply B → Phase
after_create k Won = Acting k 0
after_create k (Had h) = adopted_phase h
after_create k _ = Acking false

-- Set is the last act: where the bitmap is full, the Join is invoked
abbrev pub after_act : {B : Type 0} → Kept → (done all : ℕ) → Reply B → Phase
after_act k m all BitFull = Joining k
after_act k m all BitNotFull = Marking k 0
after_act k m all BitTombstone = Marking k 0
after_act k m all _ = cond (nat_lt (suc m) all) (Acting k (suc m)) (Marking k 0)

-- the phase of an attempt after a reply; the ticket is the attempt's number. What is not there although it was expected sends
-- it back to its first look.
unfoldable pub absorb : {S B : Type 0} → Code S → Invocation S → (ticket : ℕ) → Phase → Reply B → Phase
absorb code i ticket Looking r = after_look i.name.kind r
absorb code i ticket Saving r = after_saved (code.combine i.site) ticket r
absorb code i ticket (Gathering count raw used outs) r = after_out (code.combine i.site) ticket count raw used outs r
absorb code i ticket Reading r = after_read code i ticket r
absorb code i ticket (Calling raw used) r = Calling raw used
absorb code i ticket (Creating k) r = after_create k r
absorb {B = B} code i ticket (Acting k m) r = after_act k m (length (acts {B = B} code i k)) r
absorb code i ticket (Joining k) r = Marking k 0
absorb code i ticket (Marking k m) r = cond (nat_lt (suc m) (length (due_objects i.name k.count))) (Marking k (suc m)) (Acking true)
absorb code i ticket (Acking finished) r = AttemptOver finished
absorb code i ticket (AttemptOver finished) r = AttemptOver finished

-- the phase after the function's answer
abbrev pub called_phase : (ticket : ℕ) → Phase → Outcome → Phase
called_phase ticket (Calling raw used) o = Creating (kept_of raw used ticket o 0)
called_phase ticket ph o = ph
