-- What the queue knows of messages and their attempts, and what the journal has of checkpoints, in worlds of any code.
use Rattle.std.specs.Prelude.{ℕ, suc, ◌+◌, ◌≤◌, ◌≡◌, Bool, true, false, ◌&&◌, nat_eq, cond, List, [], ◌∷◌, count_by, slice_get, Option, Some, None, is_some}
use Rattle.fn_table.specs.declared.kind.FnKind.{FnKind}
use Rattle.place_name.specs.declared.obj.Obj.TheVariants.{Check}
use Rattle.place_name.specs.Same.{name_same}
use Rattle.world_model.specs.AnyCode.Names.{Name}
use Rattle.world_model.specs.AnyCode.Code.{Bitmaps}
use Rattle.world_model.specs.AnyCode.Operations.{Condition, Absent, Live, Tombstone, Invocation, Ack}
use Rattle.world_model.specs.AnyCode.Program.{Phase, Looking, Creating, Acking, AttemptOver, Doing, Do, Ask, Nothing, next_of}
use Rattle.world_model.specs.AnyCode.Counted.{live_count}
use Rattle.world_model.specs.AnyCode.World.{Opening, Entry, InvState, Attempt, World, Event, Deliver, Crash, Step, Answer, GiveUp, Codes, code_of, function_of, effect, start, run}

-- ---------------------------------------------------------------- messages

-- how many attempts an invocation has
abbrev pub attempt_count : (invocation : ℕ) → List Attempt → ℕ
attempt_count k atts = count_by (λ (t : Attempt). nat_eq t.inv k) atts

-- its tries are the number of its attempts, and at most 8; and as many of them live as the queue has
pub record IsTallied (atts : List Attempt) (k : ℕ) (s : InvState) : Type 0 where
  pub tries : s.tries ≡ attempt_count k atts
  pub most : s.tries ≤ 8
  pub live : s.live ≡ live_count k atts

-- it was tried 8 times, none of its attempts lives, and none has acknowledged it
pub record IsExhausted (s : InvState) : Type 0 where
  pub tries : s.tries ≡ 8
  pub live : s.live ≡ 0
  pub acked : s.acked ≡ false

-- ---------------------------------------------------------------- attempts

module _ {M S B : Type 0} (codes : Codes S) (w : World M S B) where
  -- the function that is called, if the table has it
  abbrev pub function_asked : Doing S B → Option FnKind
  function_asked (Ask resource input) = function_of w.opening.functions resource
  function_asked _ = None

  -- the same, by its invocation
  abbrev pub function_by : Attempt → Option (Invocation S) → Option FnKind
  function_by t None = None
  function_by t (Some i) = function_asked (next_of (code_of codes i) i t.phase)

  -- the function that an attempt waits for, if the table has it
  abbrev pub function_at : Option Attempt → Option FnKind
  function_at None = None
  function_at (Some t) = function_by t (slice_get w.invs t.inv)

  -- the event is a step of that attempt, or the answer of its function; an Answer that no function gives changes nothing
  abbrev pub is_turn : (attempt : ℕ) → Event → Bool
  is_turn a (Deliver k) = false
  is_turn a (Crash b) = false
  is_turn a (Step b) = nat_eq b a
  is_turn a (Answer b) = nat_eq b a && is_some (function_at (slice_get w.atts b))
  is_turn a (GiveUp k) = false

-- how many of these events in turn are steps and answers of that attempt
unfoldable pub turn_count : {M S B : Type 0} → Bitmaps B → Codes S → (attempt : ℕ) → World M S B → List Event → ℕ
turn_count bits codes a w [] = 0
turn_count bits codes a w (e ∷ es) = cond (is_turn codes w a e) 1 0 + turn_count bits codes a (effect bits codes w e) es

-- it looks for its own checkpoint, or is to create it
abbrev pub IsAtOwnCheck : Phase → Type 0
IsAtOwnCheck Looking = Unit {0}
IsAtOwnCheck (Creating k) = Unit {0}
IsAtOwnCheck _ = ⊥

-- the attempt with one more step, and now it is to acknowledge
abbrev pub acking_attempt : Attempt → Attempt
acking_attempt t = record { inv = t.inv; live = true; steps = suc t.steps; phase = Acking false }

-- ---------------------------------------------------------------- checkpoints

-- how many entries have that name
abbrev pub entry_count : Name → List Entry → ℕ
entry_count n journal = count_by (λ (e : Entry). name_same n e.name) journal

-- 1 where an object was created, be it collected or not
abbrev pub created_count : {B : Type 0} → Condition B → ℕ
created_count Absent = 0
created_count _ = 1

-- ---------------------------------------------------------------- the law

-- An invocation's tries are its attempts, at most 8. It is given up only after 8 tries, where none lives and it is not
-- acknowledged. An attempt's steps are its Step and Answer events. One that has acknowledged does not live. Each checkpoint that
-- won has one entry, and no other name has any. And an attempt that meets a tombstone of its own checkpoint acknowledges next.
pub record QueueIsRight {M S B : Type 0} (bits : Bitmaps B) (codes : Codes S) (opened w : World M S B) (es : List Event) : Type 0 where
  pub tallied : (k : ℕ) (s : InvState) → slice_get w.states k ≡ Some s → IsTallied w.atts k s
  pub given_up : (k : ℕ) (s : InvState) → slice_get w.states k ≡ Some s → s.dead ≡ true → IsExhausted s
  pub steps : (a : ℕ) (t : Attempt) → slice_get w.atts a ≡ Some t → t.steps ≡ turn_count bits codes a opened es
  pub over : (a : ℕ) (t : Attempt) (finished : Bool) → slice_get w.atts a ≡ Some t → t.phase ≡ AttemptOver finished → t.live ≡ false
  pub entries : (n : Name) → entry_count n w.journal ≡ created_count (w.objects (Check n))
  pub tombstones :
      (a : ℕ) (t : Attempt) (i : Invocation S) → slice_get w.atts a ≡ Some t → slice_get w.invs t.inv ≡ Some i →
      IsAtOwnCheck t.phase → w.objects (Check i.name) ≡ Tombstone →
      (slice_get (effect bits codes w (Step a)).atts a ≡ Some (acking_attempt t))
      × (next_of {B = B} (code_of codes i) i (Acking false) ≡ Do Ack)

-- After every list of events that may happen in turn, that is so.
abbrev pub EveryQueueIsRight : (M S B : Type 0) → Type 0
EveryQueueIsRight M S B =
    (bits : Bitmaps B) (codes : Codes S) (first : M → S) (o : Opening M) (events : List Event) (w : World M S B) →
    run bits codes first o events ≡ Some w → QueueIsRight bits codes (start first o) w events
