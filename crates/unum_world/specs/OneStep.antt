-- What a step comes to beside objects and queue: the checkpoint that it adopts, stops, journal, marks, and what takes memory.
use Rattle.std.specs.Prelude.{ℕ, suc, Bool, true, false, List, [], ◌∷◌, Option, Some, None, slice_get, slice_set, option_map}
use Rattle.place_name.specs.declared.obj.Obj.TheVariants.{Check}
use Rattle.world_types.specs.declared.queue.Event.{Event}
use Rattle.world_types.specs.declared.queue.Event.TheVariants.{Deliver, Crash, Step, Answer, GiveUp}
use Rattle.world_model.specs.AnyCode.Operations.{Kept, KeptAs, Condition, Absent, Live, Invocation}
use Rattle.world_model.specs.AnyCode.Operations.{Create, Invoke, Mark, Ack, Reply, Won}
use Rattle.unum_ir.specs.declared.ir.Ir.{Ir}
use Rattle.continuation_gen.specs.Coded.{code_of_ir}
use Rattle.world_model.specs.AnyCode.Acts.{stop_of}
use Rattle.world_model.specs.AnyCode.Code.{Stop}
use Rattle.world_model.specs.AnyCode.Program.{Phase, Looking, Creating, Acting, Doing, Do, Ask, Nothing, next_of}
use Rattle.world_model.specs.AnyCode.World.{Entry, Attempt, Codes, code_of}
use Rattle.world_model.specs.Numbered.{Numbered}
use Rattle.checkpoint_store.specs.Entries.{Entries, objects_of}
use Rattle.unum_hub.specs.Holding.{NumberedOp}

-- ---------------------------------------------------------------- checkpoints

-- the checkpoint that an object holds
abbrev pub kept_in : Condition (List Bool) → Option Kept
kept_in (Live (KeptAs k)) = Some k
kept_in _ = None

-- the checkpoint that is there, or the attempt's own where nothing ever was
abbrev pub kept_or : Kept → Condition (List Bool) → Option Kept
kept_or k Absent = Some k
kept_or k c = kept_in c

-- the checkpoint that an attempt in that phase adopts with its next operation, by what its own Check is
abbrev pub adopted_kept : Phase → Condition (List Bool) → Option Kept
adopted_kept Looking c = kept_in c
adopted_kept (Creating k) c = kept_or k c
adopted_kept _ c = None

-- what the own Check of a message is
abbrev pub own_of : Invocation ℕ → Entries → Condition (List Bool)
own_of i es = objects_of es (Check i.name)

-- where the scope stops after that checkpoint
abbrev pub stop_for : Ir → Invocation ℕ → Phase → Condition (List Bool) → Option (Stop ℕ)
stop_for ir i p c = option_map (stop_of (code_of_ir ir) i) (adopted_kept p c)

-- ---------------------------------------------------------------- journal and marks

-- the entry of the journal that an operation may win
abbrev pub entry_of : NumberedOp → (attempt : ℕ) → Option Entry
entry_of (Create (Check n) (KeptAs k)) a = Some (record { name = n; answer = k.answer; ticket = a })
entry_of _ a = None

-- the operation won
abbrev pub is_won : Reply (List Bool) → Bool
is_won Won = true
is_won _ = false

-- the entry, if it is won
abbrev pub entries_won : Bool → Option Entry → List Entry
entries_won true (Some e) = e ∷ []
entries_won _ _ = []

-- 1 for a Mark
abbrev pub one_mark : NumberedOp → ℕ
one_mark (Mark o) = 1
one_mark _ = 0

-- ---------------------------------------------------------------- messages

-- an Invoke is of the message that it sends, which is the next one, and any other operation of the attempt's own
abbrev pub inv_of_op : (messages inv : ℕ) → NumberedOp → ℕ
inv_of_op n inv (Invoke i) = n
inv_of_op n inv _ = inv

-- how many messages there are after an operation
abbrev pub messages_after : NumberedOp → (messages : ℕ) → ℕ
messages_after (Invoke i) n = suc n
messages_after _ n = n

-- ---------------------------------------------------------------- stops

-- it stands among its acts
abbrev pub is_acting : Phase → Bool
is_acting (Acting k m) = true
is_acting _ = false

-- an attempt that is there does
abbrev pub phase_acts : Option Attempt → Bool
phase_acts None = false
phase_acts (Some t) = is_acting t.phase

-- the stops with that of an attempt: the one that it adopted, or the one before while it still acts
abbrev pub stops_with : List (Option (Stop ℕ)) → (attempt : ℕ) → Option (Stop ℕ) → (acts : Bool) → List (Option (Stop ℕ))
stops_with stops a (Some s) acts = slice_set stops a (Some s)
stops_with stops a None true = stops
stops_with stops a None false = slice_set stops a None

-- ---------------------------------------------------------------- memory

-- all operations but a Mark and an Ack may take memory
abbrev pub op_takes_memory : NumberedOp → Bool
op_takes_memory (Mark o) = false
op_takes_memory Ack = false
op_takes_memory _ = true

-- what is next may take memory
abbrev pub doing_takes_memory : Doing ℕ (List Bool) → Bool
doing_takes_memory (Do op) = op_takes_memory op
doing_takes_memory (Ask resource input) = true
doing_takes_memory Nothing = false

module _ (codes : Codes ℕ) (w : Numbered) where
  -- the same, by the attempt's invocation
  abbrev pub inv_takes_memory : Attempt → Option (Invocation ℕ) → Bool
  inv_takes_memory t None = false
  inv_takes_memory t (Some i) = doing_takes_memory (next_of (code_of codes i) i t.phase)

  -- and by the attempt
  abbrev pub att_takes_memory : Option Attempt → Bool
  att_takes_memory None = false
  att_takes_memory (Some t) = inv_takes_memory t (slice_get w.invs t.inv)

  -- Deliveries and answers may take memory, and so may steps other than a Mark or an Ack.
  abbrev pub takes_memory : Event → Bool
  takes_memory (Deliver k) = true
  takes_memory (Crash a) = false
  takes_memory (Step a) = att_takes_memory (slice_get w.atts a)
  takes_memory (Answer a) = true
  takes_memory (GiveUp k) = false
