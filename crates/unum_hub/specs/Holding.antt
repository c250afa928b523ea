-- What an operation asks for, and what it does to the queue. What it does to the objects, and what it answers, are the world's own
-- `objects_after` and `reply_to`.
use Rattle.std.specs.Prelude.{ℕ, ◌<◌, ◌≤◌, ◌≡◌, Bool, true, List, length, slice_get}
use Rattle.place_name.specs.declared.limits.TheConstants.{MOST_BRANCHES}
use Rattle.place_name.specs.declared.obj.Obj.{Obj}
use Rattle.place_name.specs.declared.obj.Obj.TheVariants.{Bits}
use Rattle.world_model.specs.AnyCode.Operations.{Condition, Absent, Op, Look, Create, Set, Invoke, Mark, Ack}
use Rattle.world_model.specs.AnyCode.World.{lives, state_after_ack}
use Rattle.checkpoint_store.specs.Entries.{IsOfKind}
use Rattle.invoke_queue.specs.Queue.{Lists, with_invocation, with_end}

-- an operation of functions' numbers, with a flag for each branch in a bitmap
abbrev pub NumberedOp : Type 0
NumberedOp = Op ℕ (List Bool)

-- What is created is of the object's kind, a bit is one of its bitmap's, there is a number left for one more message, and who
-- acknowledges lives.
abbrev pub IsFit : Lists → (attempt : ℕ) → NumberedOp → Type 0
IsFit q a (Create o h) = IsOfKind o h
IsFit q a (Set p index count) = (index < count) × (count ≤ MOST_BRANCHES)
IsFit q a (Invoke i) = length q.invs < 4294967295
IsFit q a Ack = lives (slice_get q.atts a) ≡ true
IsFit q a _ = Unit {0}

-- the queue after an operation of an attempt: one message more, or the attempt has ended and its message is acknowledged
abbrev pub queue_after : Lists → (attempt : ℕ) → NumberedOp → Lists
queue_after q a (Invoke i) = with_invocation q i
queue_after q a Ack = with_end q a state_after_ack (slice_get q.atts a)
queue_after q a _ = q

-- A Mark and an Ack take no memory, and a Set takes some only where there is no bitmap yet.
abbrev pub MayTakeMemory : (Obj → Condition (List Bool)) → NumberedOp → Type 0
MayTakeMemory objects (Set p index count) = objects (Bits p count) ≡ Absent
MayTakeMemory objects (Mark o) = ⊥
MayTakeMemory objects Ack = ⊥
MayTakeMemory objects _ = Unit {0}
