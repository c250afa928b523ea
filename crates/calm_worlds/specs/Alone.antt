-- Where no function looks at its ticket, what a world without mishaps costs is what the sequential runs cost.
use Rattle.std.specs.Prelude.{ℕ, suc, ◌+◌, ◌<◌, ◌≤◌, ◌≡◌, true, List, [], ◌∷◌, length, slice_get, Some}
use Rattle.asl_model.specs.Central.{Visit}
use Rattle.asl_model.specs.Sequential.{Functions, sequential}
use Rattle.asl_model.specs.Machine.{Block}
use Rattle.world_model.specs.AnyCode.World as any_code
use Rattle.world_model.specs.AnyCode.World.{Codes}
use Rattle.world_model.specs.World.{Opening, Session, World, Event, codes as machines, start, run}
use Rattle.world_model.specs.Journals.{run_of}
use Rattle.world_model.specs.Drained.{IsDrained}
use Rattle.world_model.specs.Steady.{AllSteady, AnswerAs}
use Rattle.calm_worlds.specs.Calm.{AreCalm}
use Rattle.calm_worlds.specs.Cost.{cost, marks, sum_of, HasFunctions}

-- each session's central run is its sequential run
abbrev pub AreSequential : {S B : Type 0} → any_code.World Block S B → Functions → Type 0
AreSequential w call =
    (s : ℕ) (x : Session) → slice_get w.opening.sessions s ≡ Some x → run_of w.opening w.journal s ≡ sequential x.machine s x.input call

-- over the visits of the sequential runs of these sessions
abbrev pub total_alone : (List Visit → Visit → ℕ) → Functions → (session : ℕ) → List Session → ℕ
total_alone f call s [] = 0
total_alone f call s (x ∷ xs) =
    sum_of (f (sequential x.machine s x.input call).visits) (sequential x.machine s x.input call).visits + total_alone f call (suc s) xs

-- After every list of events without a mishap, in a world in which nothing more may happen, each session's run is its
-- sequential run.
abbrev pub EveryCalmEndIsSequential : Type 0
EveryCalmEndIsSequential =
    (o : Opening) (events : List Event) (w : World) → run o events ≡ Some w → AreCalm (start o) events → IsDrained w →
    AllSteady o.functions → (call : Functions) → AnswerAs o.functions call →
    AreSequential w call

-- So there are exactly as many events, and marks among them, as the visits of the sequential runs cost.
abbrev pub EveryCalmEndCostsAlike : Type 0
EveryCalmEndCostsAlike =
    (o : Opening) (events : List Event) (w : World) → run o events ≡ Some w → AreCalm (start o) events → IsDrained w →
    AllSteady o.functions → (call : Functions) → AnswerAs o.functions call →
    (length events ≡ total_alone cost call 0 o.sessions) × (w.marks ≡ total_alone marks call 0 o.sessions)

-- After every list of events without a mishap there are at most so many, and fewer where an event may happen.
pub record StaysWithin {S B : Type 0} (codes : Codes S) (w : any_code.World Block S B) (es : List Event) (call : Functions) : Type 0 where
  pub events_within : length es ≤ total_alone cost call 0 w.opening.sessions
  pub marks_within : w.marks ≤ total_alone marks call 0 w.opening.sessions
  pub room : (e : Event) → any_code.enabled codes w e ≡ true → length es < total_alone cost call 0 w.opening.sessions

-- where each Task has a function, and none looks at its ticket
abbrev pub EveryCalmWorldStaysWithin : Type 0
EveryCalmWorldStaysWithin =
    (o : Opening) (events : List Event) (w : World) → run o events ≡ Some w → AreCalm (start o) events → HasFunctions o →
    AllSteady o.functions → (call : Functions) → AnswerAs o.functions call → StaysWithin machines w events call
