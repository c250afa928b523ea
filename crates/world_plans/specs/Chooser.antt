-- The events that a plan allows in a world of any code, and the one that the chooser takes.
use Rattle.std.specs.Prelude.{ℕ, zero, suc, ◌≡◌, Bool, true, false, not, ◌&&◌, nat_eq, nat_lt, List, [], ◌∷◌, ◌++◌, length, cond, Option, Some, None, slice_get}
use Rattle.asl_model.specs.Laws.{In}
use Rattle.world_model.specs.AnyCode.Code.{Bitmaps}
use Rattle.world_model.specs.AnyCode.World.{InvState, Attempt, Event, Deliver, Crash, Step, Answer, GiveUp, World, Codes, effect, enabled, lives}
use Rattle.world_plans.specs.declared.planning.Plan.{Plan}
use Rattle.world_plans.specs.Plans.{crash_step, twin, pick}

-- the queue may deliver the message once more
abbrev pub can_deliver : InvState → Bool
can_deliver s = not s.acked && (not s.dead && nat_lt s.tries 8)

-- the queue may give it up
abbrev pub can_give_up : InvState → Bool
can_give_up s = not s.acked && (not s.dead && (nat_eq s.tries 8 && nat_eq s.live 0))

-- that event, if the test holds
abbrev pub one_if : Bool → Event → List Event
one_if true e = e ∷ []
one_if false e = []

-- ---------------------------------------------------------------- twins

-- a later one, or else this attempt
abbrev pub or_here : (inv number : ℕ) → Attempt → Option ℕ → Option ℕ
or_here i k t (Some n) = Some n
or_here i k t None = cond (nat_eq t.inv i) (Some k) None

-- the last attempt of an invocation, where attempts are counted from k on
unfoldable pub latest : (k inv : ℕ) → List Attempt → Option ℕ
latest k i [] = None
latest k i (t ∷ ts) = or_here i k t (latest (suc k) i ts)

-- the attempt lives and is to have a twin
abbrev pub twin_of : Plan → List Attempt → Option ℕ → Bool
twin_of p atts None = false
twin_of p atts (Some n) = lives (slice_get atts n) && twin p n

-- the invocation has one live attempt, which is its latest, and that one is to have a twin
abbrev pub wants_twin : Plan → List Attempt → (inv : ℕ) → InvState → Bool
wants_twin p atts i s = can_deliver s && (nat_eq s.live 1 && twin_of p atts (latest 0 i atts))

-- first the deliveries of twins
unfoldable pub twins_from : Plan → List Attempt → (k : ℕ) → List InvState → List Event
twins_from p atts k [] = []
twins_from p atts k (s ∷ ss) = one_if (wants_twin p atts k s) (Deliver k) ++ twins_from p atts (suc k) ss

-- ---------------------------------------------------------------- live attempts

-- the crash is due after that many steps
abbrev pub is_step : Option ℕ → (steps : ℕ) → Bool
is_step None steps = false
is_step (Some n) steps = nat_eq n steps

-- the step or the answer that an attempt may take
abbrev pub turn_of : {M S B : Type 0} → Codes S → World M S B → (attempt : ℕ) → List Event
turn_of codes w a = one_if (enabled codes w (Step a)) (Step a) ++ one_if (enabled codes w (Answer a)) (Answer a)

-- a live attempt crashes where its steps are those of the plan, and else makes its step or takes its answer
abbrev pub move_of : {M S B : Type 0} → Plan → Codes S → World M S B → (attempt : ℕ) → Attempt → List Event
move_of p codes w a t = cond t.live (cond (is_step (crash_step p a) t.steps) (Crash a ∷ []) (turn_of codes w a)) []

-- then each live attempt
unfoldable pub moves_from : {M S B : Type 0} → Plan → Codes S → World M S B → (k : ℕ) → List Attempt → List Event
moves_from p codes w k [] = []
moves_from p codes w k (t ∷ ts) = move_of p codes w k t ++ moves_from p codes w (suc k) ts

-- ---------------------------------------------------------------- invocations with no live attempt

-- the event of an invocation with no live attempt
abbrev pub rest_of : (inv : ℕ) → InvState → List Event
rest_of i s = one_if (nat_eq s.live 0 && can_deliver s) (Deliver i) ++ one_if (can_give_up s) (GiveUp i)

-- last the invocations with no live attempt, which are delivered or given up
unfoldable pub rests_from : (k : ℕ) → List InvState → List Event
rests_from k [] = []
rests_from k (s ∷ ss) = rest_of k s ++ rests_from (suc k) ss

-- ---------------------------------------------------------------- what is allowed, and what is taken

-- the events that the plan allows, in order
abbrev pub allowed_events : {M S B : Type 0} → Plan → Codes S → World M S B → List Event
allowed_events p codes w = twins_from p w.atts 0 w.states ++ (moves_from p codes w 0 w.atts ++ rests_from 0 w.states)

-- each event is allowed in its turn
abbrev pub Obeys : {M S B : Type 0} → Plan → Bitmaps B → Codes S → World M S B → List Event → Type 0
Obeys p bits codes w [] = Unit {0}
Obeys p bits codes w (e ∷ es) = In e (allowed_events p codes w) × Obeys p bits codes (effect bits codes w e) es

-- the event that the chooser takes after so many others: of those that are allowed, the one that the plan picks
abbrev pub chosen_event : {M S B : Type 0} → Plan → Codes S → World M S B → (len : ℕ) → Option Event
chosen_event p codes w n = slice_get (allowed_events p codes w) (pick p n (length (allowed_events p codes w)))

-- each event is the one that the chooser takes in its turn
abbrev pub AreChosen : {M S B : Type 0} → Plan → Bitmaps B → Codes S → World M S B → (len : ℕ) → List Event → Type 0
AreChosen p bits codes w n [] = Unit {0}
AreChosen p bits codes w n (e ∷ es) = (chosen_event p codes w n ≡ Some e) × AreChosen p bits codes (effect bits codes w e) (suc n) es

-- a choice, and those after it
abbrev pub choices_then : {M S B : Type 0} → Bitmaps B → Codes S → World M S B → (World M S B → List Event) → Option Event → List Event
choices_then bits codes w more None = []
choices_then bits codes w more (Some e) = e ∷ more (effect bits codes w e)

-- so many choices in turn, or as many as there are
unfoldable pub choices : {M S B : Type 0} → Plan → Bitmaps B → Codes S → (left : ℕ) → World M S B → (len : ℕ) → List Event
choices p bits codes zero w n = []
choices p bits codes (suc left) w n = choices_then bits codes w (λ v. choices p bits codes left v (suc n)) (chosen_event p codes w n)
