-- What holds of worlds of machines without mishaps holds of those that run machines' code by functions' numbers.
use Rattle.std.specs.Prelude.{ℕ, ◌≤◌, ◌≡◌, true, false, List, length, Some}
use Rattle.place_name.specs.declared.obj.Obj.{Obj}
use Rattle.asl_model.specs.Sequential.{Functions}
use Rattle.world_model.specs.AnyCode.Code.{flags}
use Rattle.world_model.specs.AnyCode.World as any_code
use Rattle.world_model.specs.AnyCode.World.{Codes}
use Rattle.world_model.specs.AnyCode.Maps.{AreFlagsOf, ObjectsAlike, image}
use Rattle.world_model.specs.Sites.{Site}
use Rattle.world_model.specs.Operations.{Condition}
use Rattle.world_model.specs.World.{Opening, Event, start, run}
use Rattle.world_model.specs.Numbered.{Numbered, first_number, StandsFor}
use Rattle.world_model.specs.Flat.{flat_codes, flat_sites}
use Rattle.world_model.specs.Steady.{AllSteady, AnswerAs}
use Rattle.world_plans.specs.declared.planning.Plan.{Plan}
use Rattle.world_plans.specs.Plans.{HasNoMishap}
use Rattle.world_plans.specs.Chooser.{Obeys}
use Rattle.calm_worlds.specs.Calm.{IsCalm, StaysCalm, AreCalm, IsSingle}
use Rattle.calm_worlds.specs.Cost.{cost, marks, total_cost, total_marks, HasFunctions}
use Rattle.calm_worlds.specs.Whole.{IsComplete}
use Rattle.calm_worlds.specs.Alone.{AreSequential, total_alone, StaysWithin}

-- no event may happen
abbrev pub IsSpent : {M S B : Type 0} → Codes S → any_code.World M S B → Type 0
IsSpent codes w = (e : Event) → any_code.enabled codes w e ≡ false

-- the same world by sites, with the objects the same but for the order in which bits were set, is the run of the same events,
-- which are no mishaps there either; so all laws of such worlds hold of it
pub record IsCalmlySound (o : Opening) (codes : Codes ℕ) (sites : ℕ → ℕ → Site) (events : List Event) (w : Numbered) : Type 0 where
  pub objects : Obj → Condition
  pub alike : ObjectsAlike AreFlagsOf w.objects objects
  pub is_run : run o events ≡ Some (image sites w objects)
  pub calm : AreCalm (start o) events
  pub single : IsSingle w
  pub within : HasFunctions o → (length events ≤ total_cost w) × (w.marks ≤ total_marks w)
  pub complete : IsSpent codes w → IsComplete (image sites w objects)
  pub exact : IsSpent codes w → (length events ≡ total_cost w) × (w.marks ≡ total_marks w)
  pub sequential : IsSpent codes w → AllSteady o.functions → (call : Functions) → AnswerAs o.functions call → AreSequential w call
  pub exact_alone :
      IsSpent codes w → AllSteady o.functions → (call : Functions) → AnswerAs o.functions call →
      (length events ≡ total_alone cost call 0 o.sessions) × (w.marks ≡ total_alone marks call 0 o.sessions)
  pub stays_within :
      HasFunctions o → AllSteady o.functions → (call : Functions) → AnswerAs o.functions call → StaysWithin codes w events call
  pub goes_on : (e : Event) → any_code.enabled codes w e ≡ true → (d : Event) × (any_code.enabled codes w d ≡ true) × IsCalm w d

-- After every list of events without a mishap that may happen in turn in such a world, that is so;
abbrev pub EveryCalmNumberedRunIsSound : Type 0
EveryCalmNumberedRunIsSound =
    (o : Opening) (codes : Codes ℕ) (sites : ℕ → ℕ → Site) (size : ℕ → ℕ) → StandsFor o codes sites size →
    (events : List Event) (w : Numbered) → any_code.run flags codes first_number o events ≡ Some w →
    StaysCalm flags codes (any_code.start first_number o) events → IsCalmlySound o codes sites events w

-- and also where machines run by their own functions' numbers.
abbrev pub EveryCalmFlatRunIsSound : Type 0
EveryCalmFlatRunIsSound =
    (o : Opening) (events : List Event) (w : Numbered) → any_code.run flags (flat_codes o) first_number o events ≡ Some w →
    StaysCalm flags (flat_codes o) (any_code.start first_number o) events →
    IsCalmlySound o (flat_codes o) (flat_sites o) events w

-- There too events that obey a plan of no mishaps are without one.
abbrev pub EveryObeyingNumberedRunIsCalm : Type 0
EveryObeyingNumberedRunIsCalm =
    (p : Plan) → HasNoMishap p → (o : Opening) (codes : Codes ℕ) (sites : ℕ → ℕ → Site) (size : ℕ → ℕ) → StandsFor o codes sites size →
    (events : List Event) (w : Numbered) → any_code.run flags codes first_number o events ≡ Some w →
    Obeys p flags codes (any_code.start first_number o) events → StaysCalm flags codes (any_code.start first_number o) events
