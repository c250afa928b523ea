-- What holds of plans, in worlds of any code; and which worlds are running.
use Rattle.std.specs.Prelude.{ℕ, ◌≡◌, true, false, List, [], length, Some}
use Rattle.asl_model.specs.Laws.{In}
use Rattle.world_model.specs.AnyCode.Code.{Bitmaps, in_order, flags}
use Rattle.world_model.specs.AnyCode.World as any_code
use Rattle.world_model.specs.AnyCode.World.{Event, Codes, enabled}
use Rattle.world_model.specs.Sites.{Site}
use Rattle.world_model.specs.World.{Opening, World, codes as machines, start, run}
use Rattle.world_model.specs.Numbered.{Numbered, first_number, StandsFor}
use Rattle.world_model.specs.Flat.{flat_codes}
use Rattle.world_plans.specs.declared.planning.Plan.{Plan}
use Rattle.world_plans.specs.Chooser.{allowed_events, Obeys, AreChosen, choices}
use Rattle.world_plans.specs.Three.{IsInThree, IsRunning}

-- ---------------------------------------------------------------- in worlds of any code

-- What a plan allows may happen.
abbrev pub EveryAllowedEventMayHappen : (M S B : Type 0) → Type 0
EveryAllowedEventMayHappen M S B =
    (p : Plan) (codes : Codes S) (w : any_code.World M S B) (e : Event) → In e (allowed_events p codes w) → enabled codes w e ≡ true

-- Where a world is running, a plan allows nothing only where nothing may happen.
abbrev pub EveryPlanGoesOn : (M S B : Type 0) → Type 0
EveryPlanGoesOn M S B =
    (p : Plan) (codes : Codes S) (w : any_code.World M S B) → IsRunning codes w → allowed_events p codes w ≡ [] → (e : Event) →
    enabled codes w e ≡ false

-- And what it allows is by the three lists.
abbrev pub EveryPlanIsInThree : (M S B : Type 0) → Type 0
EveryPlanIsInThree M S B = (p : Plan) (codes : Codes S) (w : any_code.World M S B) → IsRunning codes w → IsInThree p codes w

-- What the chooser takes is allowed, and there is only one list of its choices of each length.
abbrev pub EveryChoiceIsAllowed : (M S B : Type 0) → Type 0
EveryChoiceIsAllowed M S B =
    (p : Plan) (bits : Bitmaps B) (codes : Codes S) (w : any_code.World M S B) (n : ℕ) (es : List Event) → AreChosen p bits codes w n es →
    Obeys p bits codes w es

-- the chooser makes that list and no other
abbrev pub EveryChoiceIsOne : (M S B : Type 0) → Type 0
EveryChoiceIsOne M S B =
    (p : Plan) (bits : Bitmaps B) (codes : Codes S) (w : any_code.World M S B) (n : ℕ) (es : List Event) → AreChosen p bits codes w n es →
    choices p bits codes (length es) w n ≡ es

-- ---------------------------------------------------------------- worlds that are running

-- After every list of events that may happen in turn, a world of machines is running;
abbrev pub EveryMachineWorldRuns : Type 0
EveryMachineWorldRuns = (o : Opening) (events : List Event) (w : World) → run o events ≡ Some w → IsRunning machines w

-- and so is one that runs other code by numbers, where that is the machines' code;
abbrev pub EveryNumberedWorldRuns : Type 0
EveryNumberedWorldRuns =
    (o : Opening) (codes : Codes ℕ) (sites : ℕ → ℕ → Site) (size : ℕ → ℕ) → StandsFor o codes sites size →
    (events : List Event) (w : Numbered) → any_code.run flags codes first_number o events ≡ Some w → IsRunning codes w

-- and so one that runs its machines by numbers.
abbrev pub EveryFlatWorldRuns : Type 0
EveryFlatWorldRuns =
    (o : Opening) (events : List Event) (w : Numbered) → any_code.run flags (flat_codes o) first_number o events ≡ Some w →
    IsRunning (flat_codes o) w

-- ---------------------------------------------------------------- by numbers

-- A world that runs machines' code by numbers has the same allowed events as the world of machines after the same events,
abbrev pub EveryNumberedPlanAllowsAlike : Type 0
EveryNumberedPlanAllowsAlike =
    (o : Opening) (codes : Codes ℕ) (sites : ℕ → ℕ → Site) (size : ℕ → ℕ) → StandsFor o codes sites size →
    (events : List Event) (w : Numbered) (v : World) → any_code.run flags codes first_number o events ≡ Some w → run o events ≡ Some v →
    (p : Plan) → allowed_events p codes w ≡ allowed_events p machines v

-- so the chooser takes the same events in both.
abbrev pub EveryNumberedChoiceIsAlike : Type 0
EveryNumberedChoiceIsAlike =
    (o : Opening) (codes : Codes ℕ) (sites : ℕ → ℕ → Site) (size : ℕ → ℕ) → StandsFor o codes sites size →
    (p : Plan) (left : ℕ) → choices p flags codes left (any_code.start first_number o) 0 ≡ choices p in_order machines left (start o) 0
