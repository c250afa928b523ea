-- Plans, how sessions stand, and totals, by examples.
use Rattle.std.specs.Prelude.{◌≡◌, ℕ, ◌<◌, List, Bool, [], ◌∷◌, true, false, Some, None}
use Rattle.unum_json.specs.declared.outcome.Outcome.{Outcome}
use Rattle.place_name.specs.declared.obj.Obj.{Obj}
use Rattle.place_name.specs.declared.obj.Obj.TheVariants.{Out}
use Rattle.world_types.specs.declared.queue.Event.TheVariants.{Deliver, Crash, Step}
use Rattle.world_model.specs.AnyCode.Names.{root}
use Rattle.world_model.specs.AnyCode.Operations.{Condition, Absent, Live, OutcomeIs}
use Rattle.world_model.specs.AnyCode.World.{Attempt, Codes, InvState, objects_with, root_name}
use Rattle.world_model.specs.Numbered.{Numbered}
use Rattle.world_model.specs.World.{Opening}
use Rattle.world_plans.specs.declared.planning.Plan.{Plan}
use Rattle.world_plans.specs.Plans.{draw, crash_step, twin, pick}
use Rattle.world_plans.specs.Chooser.{move_of, turn_of}
use Rattle.world_plans.specs.Sessions.{Ended, Abandoned, StillOpen, standing, totals_of}

-- ---------------------------------------------------------------- plans

-- a plan with that seed and rates, and no list
abbrev pub rates : (seed crash repeat : ℕ) → Plan
rates seed crash repeat = record { seed = seed; crash = crash; repeat = repeat; script = []; twins = [] }

-- attempt 0 is to crash after step 3 by the script, and each attempt by the rate
abbrev pub scripted : Plan
scripted = record { seed = 1; crash = 1000; repeat = 0; script = record { attempt = 0; step = 3 } ∷ []; twins = 5 ∷ [] }

abbrev pub Draws : Type 0
Draws = (draw 1 0 1 ≡ 37853) × (draw 1 0 2 ≡ 38011) × (draw 1 0 3 ≡ 26156)

-- Attempt 0 has drawn 853 for its crash, and 7 for the steps before it. The rate is what the draw has to be below.
abbrev pub CrashesByRate : Type 0
CrashesByRate = (crash_step (rates 1 854 0) 0 ≡ Some 7) × (crash_step (rates 1 853 0) 0 ≡ None)

-- it has drawn 156 for its twin
abbrev pub TwinsByRate : Type 0
TwinsByRate = (twin (rates 1 0 157) 0 ≡ true) × (twin (rates 1 0 156) 0 ≡ false)

-- a listed step stands before a drawn one, and a listed twin needs no rate
abbrev pub ListsFirst : Type 0
ListsFirst =
    (crash_step scripted 0 ≡ Some 3) × (crash_step (rates 1 1000 0) 0 ≡ Some 7) × (twin scripted 5 ≡ true) × (twin scripted 4 ≡ false)

-- with seed 0 the first event is picked, and else a drawn one
abbrev pub Picks : Type 0
Picks = ((len of : ℕ) → pick (rates 0 1000 1000) len of ≡ 0) × (draw 1 0 0 ≡ 13608) × (pick (rates 1 0 0) 0 10 ≡ 8)

-- A live attempt crashes where it has made just the steps of the plan. Where it has made more, it goes on.
abbrev pub CrashesInTime : Type 0
CrashesInTime = (p : Plan) (codes : Codes ℕ) (w : Numbered) (a n : ℕ) (t : Attempt) → t.live ≡ true → crash_step p a ≡ Some n →
    (t.steps ≡ n → move_of p codes w a t ≡ Crash a ∷ []) × (n < t.steps → move_of p codes w a t ≡ turn_of codes w a)

-- ---------------------------------------------------------------- sessions

abbrev pub Objects : Type 0
Objects = Obj → Condition (List Bool)

-- no object is there
abbrev pub nothing : Objects
nothing x = Absent

-- a world with one invocation, of session 0
abbrev pub with_one : Opening → Objects → InvState → Numbered
with_one o objects s = record {
  opening = o;
  objects = objects;
  invs = record { name = root_name 0; site = 0 } ∷ [];
  states = s ∷ [];
  atts = [];
  journal = [];
  marks = 0;
}

abbrev pub acknowledged : (live : ℕ) → InvState
acknowledged live = record { tries = 2; live = live; acked = true; dead = false }

abbrev pub given_up : (live : ℕ) → InvState
given_up live = record { tries = 8; live = live; acked = false; dead = true }

abbrev pub waiting : InvState
waiting = record { tries = 2; live = 0; acked = false; dead = false }

-- a session is abandoned where its invocation is acknowledged or given up and no attempt of it lives; another's do not count
abbrev pub Abandons : Type 0
Abandons = (o : Opening) →
    (standing (with_one o nothing (acknowledged 0)) 0 ≡ Abandoned) × (standing (with_one o nothing (given_up 0)) 0 ≡ Abandoned)
    × (standing (with_one o nothing waiting) 1 ≡ Abandoned)

-- it is open where an attempt lives, or its invocation may still be delivered
abbrev pub StaysOpen : Type 0
StaysOpen = (o : Opening) →
    (standing (with_one o nothing (acknowledged 1)) 0 ≡ StillOpen) × (standing (with_one o nothing (given_up 1)) 0 ≡ StillOpen)
    × (standing (with_one o nothing waiting) 0 ≡ StillOpen)

-- and it has ended where its outcome is there, whatever lives
abbrev pub Ends : Type 0
Ends =
    (o : Opening) (outcome : Outcome) → standing (with_one o (objects_with (Out (root 0)) (Live (OutcomeIs outcome)) nothing) waiting) 0 ≡ Ended outcome

-- crashes are the Crash events, and marks the steps that were a Mark
abbrev pub CrashesAndMarks : Type 0
CrashesAndMarks = (w : Numbered) →
    ((totals_of w (Deliver 0 ∷ Crash 0 ∷ Deliver 0 ∷ Step 1 ∷ Crash 1 ∷ [])).crashes ≡ 2)
    × ((totals_of w (Deliver 0 ∷ Crash 0 ∷ Deliver 0 ∷ Step 1 ∷ Crash 1 ∷ [])).marks ≡ w.marks)
