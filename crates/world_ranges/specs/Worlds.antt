-- Worlds of code that stays in range are in range.
use Rattle.std.specs.Prelude.{ℕ, ◌≡◌, ◌<◌, ◌≤◌, Bool, List, length, slice_get, Option, Some}
use Rattle.place_name.specs.declared.kind.Kind.TheVariants as kinds
use Rattle.place_name.specs.declared.limits.TheConstants.{SESSIONS}
use Rattle.world_model.specs.AnyCode.Code.{flags}
use Rattle.world_model.specs.AnyCode.Operations.{Invocation}
use Rattle.world_model.specs.AnyCode.World.{Session, Opening, Attempt, World, Event, Codes, code_of, effect, start, run}
use Rattle.world_ranges.specs.Roles.{Role, IsSite, StaysInRange}
use Rattle.world_ranges.specs.Ranges.{IsInvocation, IsInRange, NextInRange, DoesFew}

-- the code of each session stays in range
abbrev pub AllStay : {S : Type 0} → (sessions : ℕ) → (roles : (session : ℕ) → S → Option Role) → Codes S → Type 0
AllStay sessions roles codes = (s : ℕ) → s < sessions → StaysInRange (roles s) (codes s)

-- there are at most 1,000 sessions, and each begins at an Enter with no fan round it
pub record OpensInRange {M S : Type 0} (roles : (session : ℕ) → S → Option Role) (first : M → S) (o : Opening M) : Type 0 where
  pub few : length o.sessions ≤ SESSIONS
  pub begins : (s : ℕ) (x : Session M) → slice_get o.sessions s ≡ Some x → IsSite (roles s) (first x.machine) kinds.Enter 0

-- A world opens in range.
abbrev pub EveryStartIsInRange : (M S : Type 0) → Type 0
EveryStartIsInRange M S =
    (roles : (session : ℕ) → S → Option Role) (codes : Codes S) (first : M → S) (o : Opening M) → OpensInRange roles first o →
    IsInRange (length o.sessions) roles codes (start first o)

-- Whatever happens next, a world in range stays so.
abbrev pub EveryEventKeepsRange : (M S : Type 0) → Type 0
EveryEventKeepsRange M S =
    (sessions : ℕ) (roles : (session : ℕ) → S → Option Role) (codes : Codes S) → AllStay sessions roles codes →
    (w : World M S (List Bool)) → IsInRange sessions roles codes w → (e : Event) → IsInRange sessions roles codes (effect flags codes w e)

-- And what each attempt does next is in range.
abbrev pub EveryNextIsInRange : (M S : Type 0) → Type 0
EveryNextIsInRange M S =
    (sessions : ℕ) (roles : (session : ℕ) → S → Option Role) (codes : Codes S) → AllStay sessions roles codes →
    (w : World M S (List Bool)) → IsInRange sessions roles codes w → (a : ℕ) (t : Attempt) → slice_get w.atts a ≡ Some t →
    (i : Invocation S) → slice_get w.invs t.inv ≡ Some i → NextInRange sessions roles (code_of codes i) i t.phase

-- And each instance does few things.
abbrev pub EveryInstanceDoesFew : (S : Type 0) → Type 0
EveryInstanceDoesFew S =
    (sessions : ℕ) (roles : (session : ℕ) → S → Option Role) (codes : Codes S) → AllStay sessions roles codes →
    (i : Invocation S) → IsInvocation sessions roles i → DoesFew (code_of codes i) i

-- So after every list of events that may happen in turn a world is in range.
abbrev pub EveryRunIsInRange : (M S : Type 0) → Type 0
EveryRunIsInRange M S =
    (roles : (session : ℕ) → S → Option Role) (codes : Codes S) (first : M → S) (o : Opening M) →
    AllStay (length o.sessions) roles codes → OpensInRange roles first o →
    (events : List Event) (w : World M S (List Bool)) → run flags codes first o events ≡ Some w →
    IsInRange (length o.sessions) roles codes w
