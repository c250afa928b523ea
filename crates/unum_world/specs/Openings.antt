-- How a world begins, as the definitions of worlds see it: functions, and sessions each with its machine.
use Rattle.std.specs.Prelude.{ℕ, ◌<◌, ◌≤◌, List, [], map, length, slice_get, Option, Some, None}
use Rattle.std.specs.List.{AllByRecursion}
use Rattle.place_name.specs.declared.limits.TheConstants.{SESSIONS}
use Rattle.asl_model.specs.declared.machine.Machine.{Machine}
use Rattle.asl_model.specs.Machine.{Block, block, no_state}
use Rattle.asl_model.specs.Tree.{tree_of}
use Rattle.asl_model.specs.Valid.{IsValid}
use Rattle.asl_model.specs.Walked.{HasRisingNames}
use Rattle.world_model.specs.AnyCode.World.{Codes}
use Rattle.world_model.specs.World as model
use Rattle.calm_worlds.specs.Cost.{HasFunctions}
use Rattle.continuation_gen.specs.Laws.{ir_codes}
use Rattle.invoke_queue.specs.Plans.{IsRisingPlan}
use Rattle.unum_world.specs.declared.opening.Session.{Session}
use Rattle.unum_world.specs.declared.opening.Opening.{Opening}

-- machines by their names
abbrev pub Machines : Type 0
Machines = List (List ℕ × Machine)

-- the block of a machine that is there; a block without a state where none is
abbrev pub block_in : Option (List ℕ × Machine) → Block
block_in None = block [] no_state
block_in (Some m) = tree_of m.1

-- a session with its machine
abbrev pub session_as : Machines → Session → model.Session
session_as machines s = record { machine = block_in (slice_get machines s.machine); input = s.input }

-- functions and sessions
abbrev pub opening_as : Opening → model.Opening
opening_as o = record { functions = o.table; sessions = map (session_as o.machines) o.sessions }

-- each session runs the flat form of its machine
abbrev pub codes_of : Opening → Codes ℕ
codes_of o = ir_codes (opening_as o)

-- each machine is valid, and its names rise
abbrev pub AreAllValid : Machines → Type 0
AreAllValid = AllByRecursion (λ (m : List ℕ × Machine). IsValid (tree_of m.1) × HasRisingNames (tree_of m.1))

-- the session's machine is there
abbrev pub HasMachine : Opening → Session → Type 0
HasMachine o s = s.machine < length o.machines

-- There are at most 1,000 sessions, each session's machine is there, each Task of it has a function in the table, and the plan's
-- lists rise.
pub record Fits (o : Opening) : Type 0 where
  pub sessions : length o.sessions ≤ SESSIONS
  pub machines : AllByRecursion (HasMachine o) o.sessions
  pub functions : HasFunctions (opening_as o)
  pub plan : IsRisingPlan o.plan
