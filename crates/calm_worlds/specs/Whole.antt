-- A world without mishaps in which nothing more may happen.
use Rattle.std.specs.Prelude.{ℕ, ◌≡◌, List, length, slice_get, Some}
use Rattle.asl_model.specs.Central.{Visit, name_of}
use Rattle.asl_model.specs.Laws.{In}
use Rattle.world_model.specs.Operations.{Invocation}
use Rattle.world_model.specs.World.{Opening, Session, Entry, Attempt, World, Event, start, run}
use Rattle.world_model.specs.Journals.{run_of}
use Rattle.world_model.specs.Quiet.{HasEnded, IsSwept}
use Rattle.world_model.specs.Drained.{IsDrained}
use Rattle.calm_worlds.specs.Calm.{AreCalm}
use Rattle.calm_worlds.specs.Cost.{total_cost, total_marks}

-- the visit has exactly one entry, one invocation and one attempt
pub record IsWhole (w : World) (v : Visit) : Type 0 where
  pub entry : Entry
  pub entry_in : In entry w.journal
  pub entry_name : entry.name ≡ name_of v
  pub entry_only : (e : Entry) → In e w.journal → e.name ≡ name_of v → e ≡ entry
  pub number : ℕ
  pub invocation : Invocation
  pub invocation_is : slice_get w.invs number ≡ Some invocation
  pub name_is : invocation.name ≡ name_of v
  pub invocation_only : (k : ℕ) (i : Invocation) → slice_get w.invs k ≡ Some i → i.name ≡ name_of v → k ≡ number
  pub attempt_number : ℕ
  pub attempt : Attempt
  pub attempt_is : slice_get w.atts attempt_number ≡ Some attempt
  pub inv_is : attempt.inv ≡ number
  pub attempt_only : (a : ℕ) (t : Attempt) → slice_get w.atts a ≡ Some t → t.inv ≡ number → a ≡ attempt_number

-- each session has ended and is swept, and each visit of its central run is whole
pub record IsComplete (w : World) : Type 0 where
  pub sessions : (s : ℕ) (x : Session) → slice_get w.opening.sessions s ≡ Some x → HasEnded w s × IsSwept w s
  pub visits : (s : ℕ) (v : Visit) → In v (run_of w.opening w.journal s).visits → IsWhole w v

-- After every list of events without a mishap, a world in which nothing more may happen is complete.
abbrev pub EveryCalmEndIsComplete : Type 0
EveryCalmEndIsComplete =
    (o : Opening) (events : List Event) (w : World) → run o events ≡ Some w → AreCalm (start o) events → IsDrained w → IsComplete w

-- There are then exactly as many events, and marks among them, as the visits of all sessions' central runs cost.
abbrev pub EveryCalmEndCosts : Type 0
EveryCalmEndCosts =
    (o : Opening) (events : List Event) (w : World) → run o events ≡ Some w → AreCalm (start o) events → IsDrained w →
    (length events ≡ total_cost w) × (w.marks ≡ total_marks w)
