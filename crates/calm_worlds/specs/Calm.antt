-- Worlds to which no mishap happens: no attempt crashes, and no message is delivered while an attempt of it lives.
use Rattle.std.specs.Prelude.{ℕ, ◌≡◌, false, List, [], ◌∷◌, slice_get, Some}
use Rattle.world_model.specs.AnyCode.Code.{Bitmaps, in_order}
use Rattle.world_model.specs.AnyCode.Operations.{Invocation}
use Rattle.world_model.specs.AnyCode.World as any_code
use Rattle.world_model.specs.AnyCode.World.{InvState, Attempt, Event, Deliver, Crash, Step, Answer, GiveUp, Codes}
use Rattle.world_model.specs.World.{Opening, World, codes as machines, start, run}

module _ {M S B : Type 0} where
  -- no attempt of the invocation lives
  abbrev pub IsIdle : any_code.World M S B → (invocation : ℕ) → Type 0
  IsIdle w k = (a : ℕ) (t : Attempt) → slice_get w.atts a ≡ Some t → t.inv ≡ k → t.live ≡ false

  -- the event is no mishap
  abbrev pub IsCalm : any_code.World M S B → Event → Type 0
  IsCalm w (Deliver k) = IsIdle w k
  IsCalm w (Crash a) = ⊥
  IsCalm w (Step a) = Unit {0}
  IsCalm w (Answer a) = Unit {0}
  IsCalm w (GiveUp k) = Unit {0}

  -- none of these events in turn is one
  abbrev pub StaysCalm : Bitmaps B → Codes S → any_code.World M S B → List Event → Type 0
  StaysCalm bits codes w [] = Unit {0}
  StaysCalm bits codes w (e ∷ es) = IsCalm w e × StaysCalm bits codes (any_code.effect bits codes w e) es

  -- each name has at most one invocation and at most one attempt, and no invocation is given up
  pub record IsSingle (w : any_code.World M S B) : Type 0 where
    pub invocations : (k l : ℕ) (i v : Invocation S) → slice_get w.invs k ≡ Some i → slice_get w.invs l ≡ Some v → i.name ≡ v.name → k ≡ l
    pub attempts :
        (a b : ℕ) (t u : Attempt) (i v : Invocation S) → slice_get w.atts a ≡ Some t → slice_get w.atts b ≡ Some u →
        slice_get w.invs t.inv ≡ Some i → slice_get w.invs u.inv ≡ Some v → i.name ≡ v.name → a ≡ b
    pub alive : (k : ℕ) (q : InvState) → slice_get w.states k ≡ Some q → q.dead ≡ false

-- the same of a world of machines
abbrev pub AreCalm : World → List Event → Type 0
AreCalm w es = StaysCalm in_order machines w es

-- After every list of events without a mishap that may happen in turn, that is so.
abbrev pub EveryCalmWorldIsSingle : Type 0
EveryCalmWorldIsSingle = (o : Opening) (events : List Event) (w : World) → run o events ≡ Some w → AreCalm (start o) events → IsSingle w
