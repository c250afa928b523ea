-- A world without mishaps in which something may happen can go on without one; and a plan of no mishaps allows none.
use Rattle.std.specs.Prelude.{◌≡◌, true, List, Some}
use Rattle.asl_model.specs.Laws.{In}
use Rattle.world_model.specs.AnyCode.Code.{in_order}
use Rattle.world_model.specs.AnyCode.Counted.{IsCounted}
use Rattle.world_model.specs.AnyCode.World as any_code
use Rattle.world_model.specs.AnyCode.World.{Codes}
use Rattle.world_model.specs.World.{Opening, World, Event, codes as machines, enabled, start, run}
use Rattle.world_plans.specs.declared.planning.Plan.{Plan}
use Rattle.world_plans.specs.Plans.{HasNoMishap}
use Rattle.world_plans.specs.Chooser.{allowed_events, Obeys}
use Rattle.calm_worlds.specs.Calm.{IsCalm, AreCalm}

-- After every list of events without a mishap, where some event may happen, one that is no mishap may.
abbrev pub EveryCalmWorldGoesOn : Type 0
EveryCalmWorldGoesOn =
    (o : Opening) (events : List Event) (w : World) → run o events ≡ Some w → AreCalm (start o) events → (e : Event) → enabled w e ≡ true →
    (d : Event) × (enabled w d ≡ true) × IsCalm w d

-- Where the queue's counts are right, each event that a plan of no mishaps allows is no mishap.
abbrev pub EveryAllowedEventIsCalm : (M S B : Type 0) → Type 0
EveryAllowedEventIsCalm M S B =
    (p : Plan) → HasNoMishap p → (codes : Codes S) (w : any_code.World M S B) → IsCounted w.states w.atts → (e : Event) →
    In e (allowed_events p codes w) → IsCalm w e

-- So events that obey such a plan are without one.
abbrev pub EveryObeyingRunIsCalm : Type 0
EveryObeyingRunIsCalm =
    (p : Plan) → HasNoMishap p → (o : Opening) (events : List Event) (w : World) → run o events ≡ Some w →
    Obeys p in_order machines (start o) events → AreCalm (start o) events
