-- Generated bundles: a price is found, and then it is paid and each item is packed, side by side.
use Rattle.std.specs.Prelude.{ℕ, ◌%◌, true, false, List, [], ◌∷◌, map, codes, Some, None, pos}
use Rattle.std.specs.List.{range_with_len}
use Rattle.unum_json.specs.declared.value.Json.{Json}
use Rattle.unum_json.specs.declared.value.Json.TheVariants as json
use Rattle.asl_paths.specs.declared.path.PathStep.{PathStep}
use Rattle.asl_paths.specs.declared.path.PathStep.TheVariants.{Field}
use Rattle.asl_shape.specs.Stages.{Stages}
use Rattle.asl_model.specs.declared.machine.After.{After}
use Rattle.asl_model.specs.declared.machine.Care.{Care}
use Rattle.asl_model.specs.declared.machine.State.{State}
use Rattle.asl_model.specs.declared.machine.State.TheVariants as state
use Rattle.asl_model.specs.declared.machine.Block.{Block}
use Rattle.asl_model.specs.declared.machine.Machine.{Machine}
use Rattle.fn_table.specs.declared.kind.FnKind.TheVariants.{Echo, Const}
use Rattle.world_plans.specs.declared.planning.Plan.{Plan}
use Rattle.unum_world.specs.declared.opening.Session.{Session}
use Rattle.bundle_read.specs.Accepted.{Accepted}
use Rattle.bundle_read.specs.Bounds.{Text, Functions}

-- ---------------------------------------------------------------- the machine

-- the whole input is given, and the result takes its place
abbrev pub whole : Stages
whole = record { input = Some []; parameters = None; selector = None; result = Some []; output = Some [] }

abbrev pub to_end : After
to_end = record { next = None; end = true }

abbrev pub to_state : Text → After
to_state name = record { next = Some name; end = false }

abbrev pub careless : Care
careless = record { retry = []; catch = [] }

abbrev pub task : (resource : Text) → After → State
task resource after = state.Task whole resource after careless

abbrev pub one_state : (name : Text) → State → Block
one_state name s = record { start = name; states = (name, s) ∷ [] }

-- the path $.items
abbrev pub items_path : List PathStep
items_path = Field (codes "items") ∷ []

-- each item is packed
abbrev pub each : State
each = state.Map whole items_path None (one_state (codes "Pack") (task (codes "keep") to_end)) to_end careless 0

-- it is paid beside that
abbrev pub ship : State
ship = state.Parallel whole (one_state (codes "Pay") (task (codes "pay") to_end) ∷ one_state (codes "Each") each ∷ []) to_end careless

abbrev pub gen : Machine
gen = record { root = record { start = codes "Price"; states = (codes "Price", task (codes "keep") (to_state (codes "Ship"))) ∷ (codes "Ship", ship) ∷ [] } }

-- ---------------------------------------------------------------- the bundle

abbrev pub functions : Functions
functions = (codes "keep", Echo) ∷ (codes "pay", Const (json.Str (codes "paid"))) ∷ []

-- so many items, which are the numbers from 0 on
abbrev pub items_of : (count : ℕ) → Json
items_of count = json.Obj ((codes "items", json.Arr (map (λ k. json.Int (pos k)) (range_with_len 0 count))) ∷ [])

-- from one session to the next there is one item more, from none to four
abbrev pub session : (number : ℕ) → Session
session i = record { machine = 0; input = items_of (i % 5) }

abbrev pub calm_plan : (seed : ℕ) → Plan
calm_plan n = record { seed = n; crash = 0; repeat = 0; script = []; twins = [] }

-- the generated bundle of n sessions
abbrev pub generated : (n : ℕ) → Accepted
generated n =
    record { machines = (codes "gen", gen) ∷ []; functions = functions; sessions = map session (range_with_len 0 n); plan = calm_plan n }
