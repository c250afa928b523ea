-- What the code of a world keeps: it is the run of its trace, where attempts that act stop is kept beside them, and the invocations
-- that are to have a twin are listed.
use Rattle.std.specs.Prelude.{ℕ, ◌≡◌, ◌≤◌, true, List, length, slice_get, Option, Some, None}
use Rattle.world_types.specs.declared.queue.Event.{Event}
use Rattle.world_model.specs.AnyCode.Code.{Stop}
use Rattle.world_model.specs.AnyCode.Operations.{Invocation}
use Rattle.world_model.specs.AnyCode.World.{Attempt, code_of, state_lets}
use Rattle.world_model.specs.Numbered.{Numbered}
use Rattle.world_plans.specs.declared.planning.Plan.{Plan}
use Rattle.world_plans.specs.Chooser.{wants_twin}
use Rattle.world_plans.specs.Three.{twin_numbers, IsRunning}
use Rattle.world_plans.specs.Changes.{numbers_set}
use Rattle.invoke_queue.specs.Numbers.{NumberSet}
use Rattle.invoke_queue.specs.Queue.{Lists}
use Rattle.continuation_gen.specs.Laws.{AreValid}
use Rattle.world_ranges.specs.Flat.{IsInRangeOfForms}
use Rattle.fn_wrapper.specs.Ready.{IsStopOf}
use Rattle.fn_wrapper.specs.Laws.{AllAreReady, AllHaveInputs}
use Rattle.unum_world.specs.declared.opening.Opening.{Opening}
use Rattle.unum_world.specs.declared.world_state.WorldState.{WorldState}
use Rattle.unum_world.specs.Openings.{opening_as, codes_of, Fits}
use Rattle.unum_world.specs.Traces.{world_of, run_of}

-- ---------------------------------------------------------------- beside the world

-- the stop in a place of the list, if the place is there
abbrev pub stop_in : Option (Option (Stop ℕ)) → Option (Stop ℕ)
stop_in None = None
stop_in (Some s) = s

-- there is a place for each attempt, and the stop of each that lives and acts is in its place
pub record HasStops (o : Opening) (m : WorldState) : Type 0 where
  pub places : length m.stops.items ≡ length m.hub.queue.atts
  pub stops :
      (a : ℕ) (t : Attempt) (i : Invocation ℕ) → slice_get m.hub.queue.atts a ≡ Some t → t.live ≡ true →
      slice_get m.hub.queue.invs t.inv ≡ Some i →
      IsStopOf (code_of (codes_of o) i) i t.phase (stop_in (slice_get m.stops.items a))

-- the invocations that are to have a twin are in the set, which has room for each invocation
pub record HasTwins (o : Opening) (m : WorldState) : Type 0 where
  pub numbers : m.twins.numbers ≡ twin_numbers o.plan (codes_of o) (world_of o m)
  pub room : length m.hub.queue.invs ≤ m.twins.room

-- both
pub record Keeps (o : Opening) (m : WorldState) : Type 0 where
  pub stops : HasStops o m
  pub twins : HasTwins o m

-- a set of twins with an invocation put in or out, by whether it is to have a twin now
abbrev pub twins_with : Plan → Lists → NumberSet → (inv : ℕ) → NumberSet
twins_with p q s inv = record s { numbers = numbers_set (state_lets (wants_twin p q.atts inv) (slice_get q.states inv)) inv s.numbers }

-- all is as it was, but for room in lists
pub record ChangesRoom (m n : WorldState) : Type 0 where
  pub hub : n.hub ≡ m.hub
  pub journal : n.journal.items ≡ m.journal.items
  pub marks : n.marks ≡ m.marks
  pub stops : n.stops.items ≡ m.stops.items
  pub numbers : n.twins.numbers ≡ m.twins.numbers
  pub room : length m.hub.queue.invs ≤ n.twins.room

-- ---------------------------------------------------------------- what events take as given

-- there are no more messages than that, and no more attempts; none made more steps, and no more steps were a Mark
pub record IsBounded (n : ℕ) (w : Numbered) : Type 0 where
  pub invs : length w.invs ≤ n
  pub atts : length w.atts ≤ n
  pub steps : (a : ℕ) (t : Attempt) → slice_get w.atts a ≡ Some t → t.steps ≤ n
  pub marks : w.marks ≤ n

-- The world is in range, each attempt has what its instance's calls take as given and each branch its input, the queue's counts are
-- right and attempts that live go on, and one event more keeps all numbers in 32 bits.
pub record Holds (o : Opening) (m : WorldState) : Type 0 where
  pub fits : Fits o
  pub range : IsInRangeOfForms (opening_as o) (world_of o m)
  pub ready : AllAreReady (opening_as o) (world_of o m)
  pub inputs : AllHaveInputs (opening_as o) (world_of o m)
  pub running : IsRunning (codes_of o) (world_of o m)
  pub bounded : IsBounded 4294967294 (world_of o m)
  pub kept : Keeps o m

-- ---------------------------------------------------------------- the world

-- the code is the run of its opening and history, which has room for all its events
pub record Stands (o : Opening) (most : ℕ) (history : List Event) (room : ℕ) (m : WorldState) : Type 0 where
  pub is_run : run_of o history ≡ Some (world_of o m)
  pub valid : AreValid (opening_as o)
  pub fits : Fits o
  pub limit : most ≤ 10000000
  pub within : length history ≤ most
  pub reserved : most ≤ room
  pub kept : Keeps o m
