-- How a session stands in a world of any code, and the totals.
use Rattle.std.specs.Prelude.{ℕ, suc, ◌+◌, ◌≡◌, ◌≢◌, Bool, true, false, not, ◌&&◌, ◌||◌, nat_eq, List, [], ◌∷◌, length, slice_get, Option, Some, None}
use Rattle.place_name.specs.declared.obj.Obj.TheVariants.{Out}
use Rattle.world_model.specs.AnyCode.Code.{Outcome, flags}
use Rattle.world_model.specs.AnyCode.Counted.{IsCounted}
use Rattle.world_model.specs.AnyCode.Names.{root}
use Rattle.world_model.specs.AnyCode.Operations.{Condition, Live, OutcomeIs, Invocation}
use Rattle.world_model.specs.AnyCode.World as any_code
use Rattle.world_model.specs.AnyCode.World.{InvState, Session, Event, Crash, Codes, World, enabled}
use Rattle.world_model.specs.Sites.{Site}
use Rattle.world_model.specs.World.{Opening, run}
use Rattle.world_model.specs.World as of_machines
use Rattle.world_model.specs.Drained.{HasGivenUp}
use Rattle.world_model.specs.Numbered.{Numbered, first_number, StandsFor}
use Rattle.world_plans.specs.declared.totals.Counts.{Counts}
use Rattle.world_plans.specs.declared.totals.Totals.{Totals}

-- how a session stands
pub data SessionStatus : Type 0 where
  Ended : Outcome → SessionStatus
  Abandoned : SessionStatus
  StillOpen : SessionStatus

-- the outcome in a session's own Out
abbrev pub outcome_in : {B : Type 0} → Condition B → Option Outcome
outcome_in (Live (OutcomeIs o)) = Some o
outcome_in _ = None

-- an invocation is acknowledged or given up, and none of its attempts lives
abbrev pub is_over : InvState → Bool
is_over s = (s.acked || s.dead) && nat_eq s.live 0

-- each invocation of the session is over
unfoldable pub all_over : {S : Type 0} → (session : ℕ) → List (Invocation S) → List InvState → Bool
all_over s [] ts = true
all_over s (i ∷ is) [] = true
all_over s (i ∷ is) (t ∷ ts) = (not (nat_eq i.name.place.session s) || is_over t) && all_over s is ts

-- by its outcome, or else by whether all its invocations are over
abbrev pub unless_ended : Bool → Option Outcome → SessionStatus
unless_ended b (Some o) = Ended o
unless_ended true None = Abandoned
unless_ended false None = StillOpen

-- a session is ended where its own Out is live, and abandoned where it is not ended and all its invocations are over
unfoldable pub standing : {M S B : Type 0} → World M S B → (session : ℕ) → SessionStatus
standing w s = unless_ended (all_over s w.invs w.states) (outcome_in (w.objects (Out (root s))))

-- how a session stands, if there is one
abbrev pub standing_at : {M S B : Type 0} → World M S B → (session : ℕ) → Option (Session M) → Option SessionStatus
standing_at w s None = None
standing_at w s (Some x) = Some (standing w s)

-- how the session of that number stands, where there is one
abbrev pub session_of : {M S B : Type 0} → World M S B → (session : ℕ) → Option SessionStatus
session_of w s = standing_at w s (slice_get w.opening.sessions s)

-- ---------------------------------------------------------------- totals

-- one more session stands so
abbrev pub counts_with : SessionStatus → Counts → Counts
counts_with (Ended o) c = record { ended = c.ended + 1; abandoned = c.abandoned; still_open = c.still_open }
counts_with Abandoned c = record { ended = c.ended; abandoned = c.abandoned + 1; still_open = c.still_open }
counts_with StillOpen c = record { ended = c.ended; abandoned = c.abandoned; still_open = c.still_open + 1 }

-- how many sessions from number k on stand in each way, added to c
unfoldable pub count_from : {M S B : Type 0} → World M S B → (k : ℕ) → List (Session M) → Counts → Counts
count_from w k [] c = c
count_from w k (x ∷ xs) c = count_from w (suc k) xs (counts_with (standing w k) c)

-- 1 for a crash
abbrev pub crash_in : Event → ℕ
crash_in (Crash a) = 1
crash_in _ = 0

-- how many crashes there are
unfoldable pub crashes_in : List Event → ℕ
crashes_in [] = 0
crashes_in (e ∷ es) = crash_in e + crashes_in es

-- none yet
abbrev pub no_counts : Counts
no_counts = record { ended = 0; abandoned = 0; still_open = 0 }

-- the totals, by the counts of sessions
abbrev pub totals_by : {M S B : Type 0} → World M S B → List Event → Counts → Totals
totals_by w history c = record {
  sessions = length w.opening.sessions;
  ended = c.ended;
  abandoned = c.abandoned;
  still_open = c.still_open;
  entries = length w.journal;
  events = length history;
  invocations = length w.invs;
  attempts = length w.atts;
  crashes = crashes_in history;
  marks = w.marks;
}

-- the totals of a world with that history
abbrev pub totals_of : {M S B : Type 0} → World M S B → (history : List Event) → Totals
totals_of w history = totals_by w history (count_from w 0 w.opening.sessions no_counts)

-- ---------------------------------------------------------------- laws

-- Where nothing may happen, each session has ended or is abandoned.
abbrev pub EveryDrainedSessionIsSettled : (M S B : Type 0) → Type 0
EveryDrainedSessionIsSettled M S B =
    (codes : Codes S) (w : World M S B) → IsCounted w.states w.atts → ((e : Event) → enabled codes w e ≡ false) → (s : ℕ) →
    standing w s ≢ StillOpen

-- Each session stands in one way, so there are as many sessions as stand in each way.
abbrev pub EverySessionIsCounted : (M S B : Type 0) → Type 0
EverySessionIsCounted M S B =
    (w : World M S B) (history : List Event) →
    (totals_of w history).sessions ≡ (totals_of w history).ended + ((totals_of w history).abandoned + (totals_of w history).still_open)

-- A world that runs machines' code by numbers has the totals, and each session stands, as in the world of machines after the same events.
abbrev pub EveryNumberedSessionStandsAlike : Type 0
EveryNumberedSessionStandsAlike =
    (o : Opening) (codes : Codes ℕ) (sites : ℕ → ℕ → Site) (size : ℕ → ℕ) → StandsFor o codes sites size →
    (events : List Event) (w : Numbered) (v : of_machines.World) → any_code.run flags codes first_number o events ≡ Some w →
    run o events ≡ Some v →
    ((s : ℕ) → standing w s ≡ standing v s) × (totals_of w events ≡ totals_of v events)

-- After every list of events that may happen in turn in the world of machines, an invocation of each abandoned session was given up.
abbrev pub EveryAbandonedSessionGaveUp : Type 0
EveryAbandonedSessionGaveUp =
    (o : Opening) (events : List Event) (w : of_machines.World) → run o events ≡ Some w → (s : ℕ) (x : of_machines.Session) →
    slice_get o.sessions s ≡ Some x → standing w s ≡ Abandoned → HasGivenUp w.invs w.states s
