-- The queue as its callers see it, and what each of its calls makes of it.
use Rattle.std.specs.Prelude.{ℕ, suc, ◌≤◌, ◌<◌, ◌≡◌, Bool, true, false, List, [], ◌∷◌, ◌++◌, length, slice_get, slice_set, Option, Some, None, cond}
use Rattle.world_types.specs.declared.operation.Invocation.{Invocation}
use Rattle.world_types.specs.declared.phase.Phase.{Phase}
use Rattle.world_types.specs.declared.phase.Phase.TheVariants.{Looking}
use Rattle.world_types.specs.declared.queue.InvState.{InvState}
use Rattle.world_types.specs.declared.queue.Attempt.{Attempt}
use Rattle.world_model.specs.AnyCode.World.{World, fresh_state, states_with, state_after_crash, state_after_ack}
use Rattle.world_plans.specs.Chooser.{latest}
use Rattle.world_plans.specs.Three.{numbers_from, is_open}

-- ---------------------------------------------------------------- the queue

-- the messages that were sent, what the queue knows of each, and their attempts
pub record Lists : Type 0 where
  pub invs : List (Invocation ℕ)
  pub states : List InvState
  pub atts : List Attempt

-- the queue of a world
abbrev pub queue_of : {M B : Type 0} → World M ℕ B → Lists
queue_of w = record { invs = w.invs; states = w.states; atts = w.atts }

-- the attempts that live, rising
abbrev pub live_numbers : List Attempt → List ℕ
live_numbers atts = numbers_from (λ a (t : Attempt). t.live) 0 atts

-- the invocations that are open, rising: neither acknowledged nor given up, and without a live attempt
abbrev pub open_numbers : List InvState → List ℕ
open_numbers states = numbers_from (λ k s. is_open s) 0 states

-- ---------------------------------------------------------------- changes

-- one message more, which was never delivered
abbrev pub with_invocation : Lists → Invocation ℕ → Lists
with_invocation q i = record q { invs = q.invs ++ i ∷ []; states = q.states ++ fresh_state ∷ [] }

-- one try more, and one live attempt more
abbrev pub state_after_delivery : InvState → InvState
state_after_delivery s = record s { tries = suc s.tries; live = suc s.live }

-- a new attempt lives, and is at its first look
abbrev pub first_attempt : (inv : ℕ) → Attempt
first_attempt i = record { inv = i; live = true; steps = 0; phase = Looking }

-- one attempt more
abbrev pub with_delivery : Lists → (inv : ℕ) → Option InvState → Lists
with_delivery q i None = q
with_delivery q i (Some s) = record q { states = slice_set q.states i (state_after_delivery s); atts = q.atts ++ first_attempt i ∷ [] }

-- the attempts, with one of them changed
abbrev pub atts_with : List Attempt → ℕ → (Attempt → Attempt) → Option Attempt → List Attempt
atts_with atts a f None = atts
atts_with atts a f (Some t) = slice_set atts a (f t)

-- it lives no more
abbrev pub attempt_after_end : Attempt → Attempt
attempt_after_end t = record t { live = false }

-- an attempt ends, and what the queue knows of its invocation changes
abbrev pub with_end : Lists → (attempt : ℕ) → (InvState → InvState) → Option Attempt → Lists
with_end q a f None = q
with_end q a f (Some t) =
    record q { states = states_with q.states t.inv f (slice_get q.states t.inv); atts = slice_set q.atts a (attempt_after_end t) }

-- what the queue knows of an invocation after an attempt of it acknowledged it, or crashed
abbrev pub state_after_attempt : (acks : Bool) → InvState → InvState
state_after_attempt true = state_after_ack
state_after_attempt false = state_after_crash

-- it is given up
abbrev pub state_after_end : InvState → InvState
state_after_end s = record s { dead = true }

-- a message is given up
abbrev pub with_giving_up : Lists → (inv : ℕ) → Lists
with_giving_up q i = record q { states = states_with q.states i state_after_end (slice_get q.states i) }

-- it made one step more
abbrev pub attempt_after_step : Attempt → Attempt
attempt_after_step t = record t { steps = suc t.steps }

-- it made one step more, and stands elsewhere in the program
abbrev pub attempt_after_move : Phase → Attempt → Attempt
attempt_after_move p t = record t { steps = suc t.steps; phase = p }

-- it stands elsewhere in the program
abbrev pub attempt_at : Phase → Attempt → Attempt
attempt_at p t = record t { phase = p }

-- one of the attempts is changed
abbrev pub with_attempt : Lists → (attempt : ℕ) → (Attempt → Attempt) → Lists
with_attempt q a f = record q { atts = atts_with q.atts a f (slice_get q.atts a) }

-- the invocation of an attempt that lives
abbrev pub live_inv : Option Attempt → Option ℕ
live_inv None = None
live_inv (Some t) = cond t.live (Some t.inv) None

-- ---------------------------------------------------------------- what it keeps

-- each message has its state and its latest attempt, each attempt its message, and no more attempts live than were made
pub record IsQueue (invs : List (Invocation ℕ)) (states : List InvState) (atts : List Attempt) (last : List (Option ℕ)) : Type 0 where
  pub paired : length states ≡ length invs
  pub last_paired : length last ≡ length states
  pub last_are : (k : ℕ) (x : Option ℕ) → slice_get last k ≡ Some x → x ≡ latest 0 k atts
  pub placed : (a : ℕ) (t : Attempt) → slice_get atts a ≡ Some t → t.inv < length states
  pub tried : (k : ℕ) (s : InvState) → slice_get states k ≡ Some s → s.live ≤ s.tries
