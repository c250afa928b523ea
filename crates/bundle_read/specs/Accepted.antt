-- Accepted bundles: what one is made of, and how it comes of what its text says.
use Rattle.std.specs.Prelude.{◌≡◌, ℕ, ◌<◌, ◌≤◌, IsFalse, List, [], ◌∷◌, length, map}
use Rattle.std.specs.List.{AllByRecursion}
use Rattle.asl_model.specs.declared.machine.Machine.{Machine}
use Rattle.asl_model.specs.Tree.{tree_of}
use Rattle.asl_model.specs.Valid.{broken}
use Rattle.world_plans.specs.declared.planning.Mishap.{Mishap}
use Rattle.world_plans.specs.declared.planning.Plan.{Plan}
use Rattle.invoke_queue.specs.Plans.{IsRisingPlan}
use Rattle.unum_world.specs.declared.opening.Session.{Session}
use Rattle.unum_world.specs.declared.opening.Opening.{Opening}
use Rattle.bundle_read.specs.declared.draft.Draft.{Draft}
use Rattle.bundle_read.specs.declared.draft.DraftPlan.{DraftPlan}
use Rattle.bundle_read.specs.declared.draft.DraftSession.{DraftSession}
use Rattle.bundle_read.specs.Bounds.{Text, Functions, Machines, calls_others, number_of}

-- machines by rising names, functions by theirs, sessions with the numbers of their machines, and a plan
pub record Accepted : Type 0 where
  pub machines : Machines
  pub functions : Functions
  pub sessions : List Session
  pub plan : Plan

-- Every machine is valid, each Task calls one of the functions, there are at most 1,000 sessions, each session's machine is there,
-- and the plan's lists rise.
pub record IsAccepted (b : Accepted) : Type 0 where
  pub valid : AllByRecursion (λ (m : Text × Machine). broken (tree_of m.1) ≡ []) b.machines
  pub called : AllByRecursion (λ (m : Text × Machine). IsFalse (calls_others b.functions (tree_of m.1))) b.machines
  pub few : length b.sessions ≤ 1000
  pub placed : AllByRecursion (λ (s : Session). s.machine < length b.machines) b.sessions
  pub rising : IsRisingPlan b.plan

abbrev pub session_of : Machines → DraftSession → Session
session_of machines s = record { machine = number_of machines s.machine; input = s.input }

-- a crash of the script
abbrev pub mishap_of : List ℕ → Mishap
mishap_of (attempt ∷ step ∷ []) = record { attempt = attempt; step = step }
mishap_of _ = record { attempt = 0; step = 0 }

abbrev pub plan_of : DraftPlan → Plan
plan_of p = record { seed = p.seed; crash = p.crash; repeat = p.repeat; script = map mishap_of p.script; twins = p.twins }

abbrev pub accepted_of : Draft → Accepted
accepted_of d =
    record { machines = d.machines; functions = d.functions; sessions = map (session_of d.machines) d.sessions; plan = plan_of d.plan }

-- how the world of a bundle begins
abbrev pub opening_of : Accepted → Opening
opening_of b = record { machines = b.machines; table = b.functions; sessions = b.sessions; plan = b.plan }
