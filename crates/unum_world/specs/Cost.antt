-- What a world without mishaps costs: its events and its marks, counted by visits, and when its limit is spent.
use Rattle.std.specs.Prelude.{ℕ, ◌≡◌, ◌≤◌, ◌<◌, length}
use Rattle.asl_model.specs.Sequential.{Functions}
use Rattle.world_model.specs.Flat.{flat_sites}
use Rattle.world_model.specs.Steady.{AllSteady, AnswerAs}
use Rattle.calm_worlds.specs.Cost.{cost, marks, total_cost, total_marks}
use Rattle.calm_worlds.specs.Alone.{total_alone}
use Rattle.calm_worlds.specs.Numbered.{IsCalmlySound}
use Rattle.unum_world.specs.declared.opening.Opening.{Opening}
use Rattle.unum_world.specs.Openings.{opening_as, codes_of}
use Rattle.unum_world.specs.Traces.{Trace, now, IsDrained, IsFull}
use Rattle.unum_world.specs.Answers.{IsEnabledSome}

-- ---------------------------------------------------------------- sums

-- what the visits of all central runs cost so far, in events
abbrev pub events_so_far : Trace → ℕ
events_so_far p = total_cost (now p)

-- and in marks
abbrev pub marks_so_far : Trace → ℕ
marks_so_far p = total_marks (now p)

-- what the visits of all sequential runs cost, where functions answer so
abbrev pub events_alone : Opening → Functions → ℕ
events_alone o call = total_alone cost call 0 (opening_as o).sessions

-- and in marks
abbrev pub marks_alone : Opening → Functions → ℕ
marks_alone o call = total_alone marks call 0 (opening_as o).sessions

-- ---------------------------------------------------------------- where no function looks at its ticket

-- no function of the table does, and these answer as they do
pub record AnswerSteadily (o : Opening) (call : Functions) : Type 0 where
  pub all : AllSteady o.table
  pub answers : AnswerAs o.table call

-- There are at most as many events and marks as the visits of the sequential runs cost, and fewer events where one may happen.
-- Where none may, there are exactly as many. So the limit is spent only where that is above it, and the world comes to rest only
-- where it is not.
pub record CostsAlone (p : Trace) (call : Functions) : Type 0 where
  pub events : length p.history ≤ events_alone p.opening call
  pub marks : (now p).marks ≤ marks_alone p.opening call
  pub room : IsEnabledSome p → length p.history < events_alone p.opening call
  pub exact : IsDrained p → (length p.history ≡ events_alone p.opening call) × ((now p).marks ≡ marks_alone p.opening call)
  pub spent : IsEnabledSome p → IsFull p → p.limit < events_alone p.opening call
  pub drained : IsDrained p → events_alone p.opening call ≤ p.limit

-- ---------------------------------------------------------------- any functions

-- Each name has at most one invocation and at most one attempt, none of them is given up, and where no event may happen each session
-- has ended and is swept, and each visit has one entry, one invocation and one attempt. There are at most as many events and marks as
-- the visits of all central runs cost so far, and exactly as many where no event may happen. So the limit is spent only where that
-- reaches it.
pub record HasItsCost (p : Trace) : Type 0 where
  pub laws : IsCalmlySound (opening_as p.opening) (codes_of p.opening) (flat_sites (opening_as p.opening)) p.history (now p)
  pub within : (length p.history ≤ events_so_far p) × ((now p).marks ≤ marks_so_far p)
  pub exact : IsDrained p → (length p.history ≡ events_so_far p) × ((now p).marks ≡ marks_so_far p)
  pub spent : IsFull p → p.limit ≤ events_so_far p
  pub alone : (call : Functions) → AnswerSteadily p.opening call → CostsAlone p call
