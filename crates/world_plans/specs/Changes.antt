-- How an event changes the three lists: at one number each.
use Rattle.std.specs.Prelude.{ℕ, ◌≡◌, Bool, true, false, nat_eq, nat_lt, List, [], ◌∷◌, length, cond, Option, Some, None, slice_get}
use Rattle.world_model.specs.AnyCode.Code.{Bitmaps}
use Rattle.world_model.specs.AnyCode.Operations.{Invocation, Invoke}
use Rattle.world_model.specs.AnyCode.Program.{Doing, Do, next_of}
use Rattle.world_model.specs.AnyCode.World.{Attempt, Event, Deliver, Crash, Step, Answer, GiveUp, World, Codes, code_of, effect, enabled, lives, state_lets}
use Rattle.world_plans.specs.declared.planning.Plan.{Plan}
use Rattle.world_plans.specs.Chooser.{wants_twin}
use Rattle.world_plans.specs.Three.{is_open, twin_numbers, living_numbers, waiting_numbers}

-- ---------------------------------------------------------------- a list of numbers with one put in or out

-- without that number
unfoldable pub numbers_without : ℕ → List ℕ → List ℕ
numbers_without i [] = []
numbers_without i (n ∷ ns) = cond (nat_eq n i) (numbers_without i ns) (n ∷ numbers_without i ns)

-- with that number, in order
unfoldable pub numbers_with : ℕ → List ℕ → List ℕ
numbers_with i [] = i ∷ []
numbers_with i (n ∷ ns) = cond (nat_lt n i) (n ∷ numbers_with i ns) (i ∷ cond (nat_eq n i) ns (n ∷ ns))

-- with that number, or without it
abbrev pub numbers_set : Bool → ℕ → List ℕ → List ℕ
numbers_set true i ns = numbers_with i ns
numbers_set false i ns = numbers_without i ns

-- ---------------------------------------------------------------- what an event is of

module _ {M S B : Type 0} (codes : Codes S) (w : World M S B) where
  -- the invocation of an attempt
  abbrev pub inv_at : Option Attempt → ℕ
  inv_at None = length w.states
  inv_at (Some t) = t.inv

  -- a step that invokes is of the new invocation
  abbrev pub inv_of_step : Attempt → Doing S B → ℕ
  inv_of_step t (Do (Invoke i)) = length w.states
  inv_of_step t _ = t.inv

  -- the invocation that a step is of
  abbrev pub inv_of_next : Attempt → Option (Invocation S) → ℕ
  inv_of_next t None = t.inv
  inv_of_next t (Some i) = inv_of_step t (next_of (code_of codes i) i t.phase)

  -- the same, by the attempt
  abbrev pub stepped_inv : Option Attempt → ℕ
  stepped_inv None = length w.states
  stepped_inv (Some t) = inv_of_next t (slice_get w.invs t.inv)

  -- the invocation that an event is of
  abbrev pub inv_of : Event → ℕ
  inv_of (Deliver k) = k
  inv_of (Crash a) = inv_at (slice_get w.atts a)
  inv_of (Step a) = stepped_inv (slice_get w.atts a)
  inv_of (Answer a) = inv_at (slice_get w.atts a)
  inv_of (GiveUp k) = k

  -- the attempt that it is of: of a delivery the new one, and of a giving up none
  abbrev pub att_of : Event → ℕ
  att_of (Deliver k) = length w.atts
  att_of (Crash a) = a
  att_of (Step a) = a
  att_of (Answer a) = a
  att_of (GiveUp k) = length w.atts

-- After an event each list is as before, but for the number that the event is of: that is in it where the world now has it
-- so, and else out of it.
pub record ChangesLists {M S B : Type 0} (p : Plan) (codes : Codes S) (w v : World M S B) (inv att : ℕ) : Type 0 where
  pub living_is : living_numbers p codes v ≡ numbers_set (lives (slice_get v.atts att)) att (living_numbers p codes w)
  pub waiting_is :
      waiting_numbers p codes v ≡ numbers_set (state_lets (λ s. is_open s) (slice_get v.states inv)) inv (waiting_numbers p codes w)
  pub to_twin_is :
      twin_numbers p codes v ≡ numbers_set (state_lets (wants_twin p v.atts inv) (slice_get v.states inv)) inv (twin_numbers p codes w)

-- Each event that may happen does so.
abbrev pub EveryEventChangesLists : (M S B : Type 0) → Type 0
EveryEventChangesLists M S B =
    (p : Plan) (bits : Bitmaps B) (codes : Codes S) (w : World M S B) (e : Event) → enabled codes w e ≡ true →
    ChangesLists p codes w (effect bits codes w e) (inv_of codes w e) (att_of codes w e)
