-- A world's trace, which is all that callers see of it; the world that it is; and the world that the code's lists stand for.
use Rattle.std.specs.Prelude.{ℕ, Bool, false, ◌≡◌, ◌≤◌, ◌<◌, List, [], ◌∷◌, ◌++◌, length}
use Rattle.std.specs.Prelude.{Option, Some, None, Result, Ok, Err, IsTrue, IsFalse}
use Rattle.world_types.specs.declared.queue.Event.{Event}
use Rattle.world_model.specs.AnyCode.Code.{flags}
use Rattle.world_model.specs.AnyCode.World.{enabled, start, run}
use Rattle.world_model.specs.Numbered.{Numbered, first_number}
use Rattle.world_plans.specs.Chooser as chooser
use Rattle.world_plans.specs.Chooser.{Obeys, AreChosen}
use Rattle.checkpoint_store.specs.Entries.{objects_of}
use Rattle.unum_world.specs.declared.opening.Opening.{Opening}
use Rattle.unum_world.specs.declared.world_state.WorldState.{WorldState}
use Rattle.unum_world.specs.declared.refusal.ApplyError.{ApplyError}
use Rattle.unum_world.specs.declared.refusal.ApplyError.TheVariants as refusal
use Rattle.unum_world.specs.Openings.{opening_as, codes_of}

-- ---------------------------------------------------------------- the trace

-- how a world began, how many events it may have, and those that it had
pub record Trace : Type 0 where
  pub opening : Opening
  pub limit : ℕ
  pub history : List Event

-- the world that opens so
abbrev pub opened_world : Opening → Numbered
opened_world o = start first_number (opening_as o)

-- the run of a trace
abbrev pub run_of : Opening → List Event → Option Numbered
run_of o history = run flags (codes_of o) first_number (opening_as o) history

-- the world of a run, or else the one at opening
abbrev pub world_or : Opening → Option Numbered → Numbered
world_or o None = opened_world o
world_or o (Some w) = w

-- the world after that trace
abbrev pub now : Trace → Numbered
now p = world_or p.opening (run_of p.opening p.history)

-- each event of the history could happen in its turn, and the world now is what their run came to
abbrev pub IsRun : Trace → Type 0
IsRun p = run_of p.opening p.history ≡ Some (now p)

-- the trace with one more event
abbrev pub after_event : Trace → Event → Trace
after_event p e = record p { history = p.history ++ e ∷ [] }

-- a trace without an event
abbrev pub opening_trace : Opening → (limit : ℕ) → Trace
opening_trace o limit = record { opening = o; limit = limit; history = [] }

-- the event may happen now
abbrev pub is_enabled : Trace → Event → Bool
is_enabled p e = enabled (codes_of p.opening) (now p) e

-- no event may happen
abbrev pub IsDrained : Trace → Type 0
IsDrained p = (e : Event) → is_enabled p e ≡ false

-- the history has as many events as it may
abbrev pub IsFull : Trace → Type 0
IsFull p = p.limit ≤ length p.history

-- the event may happen, and the history has no room for it
abbrev pub IsSpent : Trace → Event → Type 0
IsSpent p e = IsTrue (is_enabled p e) × IsFull p

-- what a refusal says
abbrev pub Why : Trace → Event → Result (Unit {0}) ApplyError → Type 0
Why p e (Ok u) = Unit {0}
Why p e (Err (refusal.NotEnabled f)) = (f ≡ e) × IsFalse (is_enabled p e)
Why p e (Err (refusal.Spent n)) = (n ≡ length p.history) × IsSpent p e
Why p e (Err refusal.NoMemory) = IsTrue (is_enabled p e) × (length p.history < p.limit)

-- ---------------------------------------------------------------- the chooser

-- the event that the chooser takes next
abbrev pub chosen_event : Trace → Option Event
chosen_event p = chooser.chosen_event p.opening.plan (codes_of p.opening) (now p) (length p.history)

-- each event of the history was the one that the chooser took
abbrev pub IsChosen : Trace → Type 0
IsChosen p = AreChosen p.opening.plan flags (codes_of p.opening) (opened_world p.opening) 0 p.history

-- each event of the history was allowed by the plan in its turn
abbrev pub IsObeying : Trace → Type 0
IsObeying p = Obeys p.opening.plan flags (codes_of p.opening) (opened_world p.opening) p.history

-- ---------------------------------------------------------------- the code's lists

-- the world that the lists of the code stand for
abbrev pub world_of : Opening → WorldState → Numbered
world_of o m = record {
  opening = opening_as o;
  objects = objects_of m.hub.store;
  invs = m.hub.queue.invs;
  states = m.hub.queue.states;
  atts = m.hub.queue.atts;
  journal = m.journal.items;
  marks = m.marks;
}
