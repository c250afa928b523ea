-- What a plan allows, by three lists of numbers: the invocations that are to have a twin, the attempts that live, and the
-- invocations that are open.
use Rattle.std.specs.Prelude.{ℕ, suc, ◌+◌, ◌-◌, ◌≡◌, ◌⊎◌, Bool, true, not, ◌&&◌, nat_eq, nat_lt, List, [], ◌∷◌, ◌++◌, map, length, cond, Option, Some, None, option_map, slice_get}
use Rattle.world_model.specs.AnyCode.Counted.{IsCounted}
use Rattle.world_model.specs.AnyCode.World.{InvState, Attempt, Event, Deliver, Crash, Step, Answer, GiveUp, World, Codes, enabled}
use Rattle.world_plans.specs.declared.planning.Plan.{Plan}
use Rattle.world_plans.specs.Plans.{crash_step}
use Rattle.world_plans.specs.Chooser.{is_step, wants_twin, allowed_events}

-- ---------------------------------------------------------------- three lists

-- the numbers, from k on, of the elements that the test takes
unfoldable pub numbers_from : {A : Type 0} → (test : ℕ → A → Bool) → (k : ℕ) → List A → List ℕ
numbers_from test k [] = []
numbers_from test k (x ∷ xs) = cond (test k x) (k ∷ numbers_from test (suc k) xs) (numbers_from test (suc k) xs)

-- neither acknowledged nor given up, and no attempt of it lives
abbrev pub is_open : InvState → Bool
is_open s = not s.acked && (not s.dead && nat_eq s.live 0)

module _ {M S B : Type 0} (p : Plan) (codes : Codes S) (w : World M S B) where
  -- the invocations that are to have a twin
  abbrev pub twin_numbers : List ℕ
  twin_numbers = numbers_from (wants_twin p w.atts) 0 w.states

  -- the attempts that live
  abbrev pub living_numbers : List ℕ
  living_numbers = numbers_from (λ a (t : Attempt). t.live) 0 w.atts

  -- the invocations that are open
  abbrev pub waiting_numbers : List ℕ
  waiting_numbers = numbers_from (λ k s. is_open s) 0 w.states

  -- the event of a live attempt
  abbrev pub move_at : (attempt : ℕ) → Option Attempt → Event
  move_at a None = Step a
  move_at a (Some t) = cond (is_step (crash_step p a) t.steps) (Crash a) (cond (enabled codes w (Step a)) (Step a) (Answer a))

  -- the event of a live attempt: its crash, its step or its answer
  abbrev pub move : (attempt : ℕ) → Event
  move a = move_at a (slice_get w.atts a)

  -- the event of an open invocation
  abbrev pub rest_at : (inv : ℕ) → Option InvState → Event
  rest_at k None = GiveUp k
  rest_at k (Some s) = cond (nat_lt s.tries 8) (Deliver k) (GiveUp k)

  -- the event of an open invocation: its delivery, and after 8 tries that it is given up
  abbrev pub rest : (inv : ℕ) → Event
  rest k = rest_at k (slice_get w.states k)

  -- the event of that number: of a twin, or else of a live attempt, or else of an open invocation
  abbrev pub event_at : ℕ → Option Event
  event_at k =
      cond (nat_lt k (length twin_numbers)) (option_map Deliver (slice_get twin_numbers k))
      (cond (nat_lt (k - length twin_numbers) (length living_numbers))
      (option_map move (slice_get living_numbers (k - length twin_numbers)))
      (option_map rest (slice_get waiting_numbers (k - length twin_numbers - length living_numbers))))

  -- the allowed events are one for each number of the three lists, so there are as many as these have in all, and each is
  -- found by its number
  pub record IsInThree : Type 0 where
    pub lists : allowed_events p codes w ≡ map Deliver twin_numbers ++ (map move living_numbers ++ map rest waiting_numbers)
    pub count : length (allowed_events p codes w) ≡ length twin_numbers + (length living_numbers + length waiting_numbers)
    pub at : (k : ℕ) → slice_get (allowed_events p codes w) k ≡ event_at k

-- ---------------------------------------------------------------- what it takes

-- an attempt that lives has a step or an answer to take: it is never over, and never waits for what is not there
abbrev pub GoesOn : {M S B : Type 0} → Codes S → World M S B → Type 0
GoesOn codes w =
    (a : ℕ) (t : Attempt) → slice_get w.atts a ≡ Some t → t.live ≡ true →
    (enabled codes w (Step a) ≡ true) ⊎ (enabled codes w (Answer a) ≡ true)

-- what it takes: the queue's counts are right, and attempts that live go on
pub record IsRunning {M S B : Type 0} (codes : Codes S) (w : World M S B) : Type 0 where
  pub counted : IsCounted w.states w.atts
  pub goes_on : GoesOn codes w
