-- Attempts with what their instances run, and what is taken as given of them.
use Rattle.std.specs.Prelude.{ℕ, ◌≡◌, ◌<◌, Bool, true, IsTrue, List, slice_get}
use Rattle.std.specs.Prelude.{Option, Some, None, is_some, length}
use Rattle.place_name.specs.declared.obj.Obj.TheVariants.{Check}
use Rattle.unum_ir.specs.declared.ir.Ir.{Ir}
use Rattle.unum_json.specs.declared.outcome.Outcome.{Outcome}
use Rattle.world_model.specs.AnyCode.Code.{Stop, flags}
use Rattle.world_model.specs.AnyCode.Operations.{Invocation, Reply}
use Rattle.world_model.specs.AnyCode.Program.{Doing, Nothing, next_of, absorb, called_phase}
use Rattle.world_model.specs.AnyCode.World.{Attempt, Table, is_do, reply_to}
use Rattle.world_model.specs.Flat.{block_of}
use Rattle.continuation_gen.specs.Numbering.{flat_form}
use Rattle.continuation_gen.specs.Coded.{code_of_ir}
use Rattle.checkpoint_store.specs.Entries.{objects_of}
use Rattle.invoke_queue.specs.Queue.{Lists, with_attempt, attempt_after_move}
use Rattle.unum_hub.specs.declared.hub.Hub.{Hub}
use Rattle.unum_hub.specs.Holding.{NumberedOp, queue_after}
use Rattle.fn_wrapper.specs.Actions.{IsCountOfActs}
use Rattle.fn_wrapper.specs.Ready.{IsReady, IsStopOf, ReadsData, HasInput}
use Rattle.unum_world.specs.declared.opening.Opening.{Opening}
use Rattle.unum_world.specs.declared.world_state.WorldState.{WorldState}
use Rattle.unum_world.specs.declared.prepared.Prepared.{Prepared}
use Rattle.unum_world.specs.Openings.{opening_as}
use Rattle.unum_world.specs.Calls.{call_in, outcome_of}
use Rattle.unum_world.specs.OneStep.{stop_for, entry_of, one_mark, inv_of_op}
use Rattle.unum_world.specs.Kept.{stop_in}

-- ---------------------------------------------------------------- messages

-- the attempt is there, and so is its invocation
pub record IsPlaced (q : Lists) (attempt : ℕ) (t : Attempt) (i : Invocation ℕ) : Type 0 where
  pub attempt_is : slice_get q.atts attempt ≡ Some t
  pub invocation_is : slice_get q.invs t.inv ≡ Some i

-- the attempt and its invocation are there
abbrev pub HasMessage : Lists → (attempt : ℕ) → Type 0
HasMessage q a = (t : Attempt) × (i : Invocation ℕ) × IsPlaced q a t i

-- the invocation of an attempt: its number, and the message
pub record IsMessageOf (q : Lists) (attempt inv : ℕ) (i : Invocation ℕ) : Type 0 where
  pub att : Attempt
  pub inv_is : inv ≡ att.inv
  pub placed : IsPlaced q attempt att i

-- ---------------------------------------------------------------- instances

-- the attempt lives, its invocation has that number, and its session runs that flat form
pub record Runs (o : Opening) (m : WorldState) (attempt inv : ℕ) (i : Invocation ℕ) (ir : Ir) : Type 0 where
  pub att : Attempt
  pub inv_is : inv ≡ att.inv
  pub placed : IsPlaced m.hub.queue attempt att i
  pub alive : att.live ≡ true
  pub form : ir ≡ flat_form (block_of (opening_as o) i.name.place.session)

-- what is taken as given of an attempt so that what it does next is found
pub record CanRun (ir : Ir) (i : Invocation ℕ) (m : WorldState) (attempt : ℕ) : Type 0 where
  pub att : Attempt
  pub attempt_is : slice_get m.hub.queue.atts attempt ≡ Some att
  pub ready : IsReady (code_of_ir ir) i att.phase
  pub stop : IsStopOf (code_of_ir ir) i att.phase (stop_in (slice_get m.stops.items attempt))

-- what is taken as given of an attempt so that it takes a reply: it lives, and one step more is counted in 32 bits
pub record CanMove (ir : Ir) (i : Invocation ℕ) (q : Lists) (attempt acts : ℕ) : Type 0 where
  pub att : Attempt
  pub attempt_is : slice_get q.atts attempt ≡ Some att
  pub alive : att.live ≡ true
  pub steps : att.steps < 4294967295
  pub ready : IsReady (code_of_ir ir) i att.phase
  pub acts_are : IsCountOfActs (code_of_ir ir) i att.phase acts

-- and that reply gives it its input, where it is a branch's Enter that reads what its fan saved
abbrev pub IsGiven : Ir → Invocation ℕ → Option Attempt → Reply (List Bool) → Type 0
IsGiven ir i None r = Unit {0}
IsGiven ir i (Some t) r = HasInput (code_of_ir ir) i t.phase r

-- what is taken as given of an attempt so that it takes an answer
pub record CanAnswer (q : Lists) (attempt : ℕ) : Type 0 where
  pub att : Attempt
  pub attempt_is : slice_get q.atts attempt ≡ Some att
  pub alive : att.live ≡ true
  pub steps : att.steps < 4294967295

-- ---------------------------------------------------------------- what they do

-- what an attempt does next, if it is there
abbrev pub doing_at : Ir → Invocation ℕ → Option Attempt → Doing ℕ (List Bool)
doing_at ir i None = Nothing
doing_at ir i (Some t) = next_of (code_of_ir ir) i t.phase

-- the same, by the queue
abbrev pub next_at : Ir → Invocation ℕ → Lists → (attempt : ℕ) → Doing ℕ (List Bool)
next_at ir i q a = doing_at ir i (slice_get q.atts a)

-- what its function answers, if it makes a call of one that the table has
abbrev pub outcome_at : Table → Ir → Invocation ℕ → Lists → (attempt : ℕ) → Option Outcome
outcome_at table ir i q a = outcome_of (call_in table a (next_at ir i q a))

-- it is an operation
abbrev pub IsDo : Doing ℕ (List Bool) → Type 0
IsDo d = is_do d ≡ true

-- the queue after a reply: the attempt has one step more, and stands where the reply leads
abbrev pub queue_moved : Ir → Invocation ℕ → Lists → (attempt : ℕ) → Reply (List Bool) → Option Attempt → Lists
queue_moved ir i q a r None = q
queue_moved ir i q a r (Some t) = with_attempt q a (attempt_after_move (absorb (code_of_ir ir) i a t.phase r))

-- the same, by the queue
abbrev pub queue_replied : Ir → Invocation ℕ → Lists → (attempt : ℕ) → Reply (List Bool) → Lists
queue_replied ir i q a r = queue_moved ir i q a r (slice_get q.atts a)

-- the queue after an operation and its reply
abbrev pub queue_operated : Ir → Invocation ℕ → Hub → (attempt : ℕ) → NumberedOp → Lists
queue_operated ir i h a op =
    queue_moved ir i (queue_after h.queue a op) a (reply_to flags (objects_of h.store) op) (slice_get h.queue.atts a)

-- the queue after a function's answer
abbrev pub queue_answered : Lists → (attempt : ℕ) → Outcome → Option Attempt → Lists
queue_answered q a o None = q
queue_answered q a o (Some t) = with_attempt q a (attempt_after_move (called_phase a t.phase o))

-- the attempt reads its data, or the outcomes of its branches
abbrev pub ReadsAt : Option Attempt → Type 0
ReadsAt None = ⊥
ReadsAt (Some t) = ReadsData t.phase

-- ---------------------------------------------------------------- what a step has made first

-- where the scope stops after the checkpoint that the attempt adopts, if it adopts one
abbrev pub adopted_stop : Ir → Invocation ℕ → WorldState → Option Attempt → Option (Stop ℕ)
adopted_stop ir i m None = None
adopted_stop ir i m (Some t) = stop_for ir i t.phase (objects_of m.hub.store (Check i.name))

-- the attempt adopts a checkpoint
abbrev pub MayAdopt : Ir → Invocation ℕ → (attempt : ℕ) → WorldState → Type 0
MayAdopt ir i a m = IsTrue (is_some (adopted_stop ir i m (slice_get m.hub.queue.atts a)))

-- the stop that it adopts, the entry that it may win, 1 for a Mark, and the invocation that the step is of
pub record IsPrepared (ir : Ir) (i : Invocation ℕ) (attempt inv : ℕ) (op : NumberedOp) (m : WorldState) (p : Prepared) : Type 0 where
  pub stop_is : p.stop ≡ adopted_stop ir i m (slice_get m.hub.queue.atts attempt)
  pub entry_is : p.entry ≡ entry_of op attempt
  pub marks_are : p.marks ≡ one_mark op
  pub inv_is : p.inv ≡ inv_of_op (length m.hub.queue.invs) inv op
