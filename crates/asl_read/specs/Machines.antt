-- The machine that a value spells.
-- Source: Amazon States Language, "Structure of a State Machine", "State Types", "Parallel State" and "Map State".
use Rattle.std.specs.Prelude.{List, [], ◌∷◌, map, codes, Option, Some, None, option_map, unwrap_or}
use Rattle.serde_json.specs.Data.{Data, null, boolean, number, string, array, object, Items, no_items, item, Members, no_members, member}
use Rattle.serde_json.specs.Find.{get}
use Rattle.unum_json.specs.Keys.{find_key}
use Rattle.asl_model.specs.declared.machine.Machine.{Machine}
use Rattle.asl_model.specs.declared.machine.Block.{Block}
use Rattle.asl_model.specs.declared.machine.State.{State}
use Rattle.asl_model.specs.declared.machine.State.TheVariants as state
use Rattle.asl_read.specs.Objects.{Key}
use Rattle.asl_read.specs.Tables.{state_types}
use Rattle.asl_read.specs.Found.{find}
use Rattle.asl_read.specs.Parts.{text_if, text_in, list_in, path_in, json_of, number_in, shape_in, pass_shape_in, path_shape_in, map_shape_in, item_template_in, after_in, care_in}
use Rattle.asl_read.specs.Rules.{top_rule_of}
use Rattle.asl_read.specs.declared.table.StateType.{StateType}
use Rattle.asl_read.specs.declared.table.StateType.TheVariants.{Task, Pass, Choice, Succeed, Fail, Parallel, Map}

abbrev pub block_by : Data → (states : Option (List (Key × State))) → Block
block_by d states = record { start = text_in (codes "StartAt") d; states = unwrap_or states [] }

abbrev pub no_block : Block
no_block = record { start = []; states = [] }

-- the type of a state
abbrev pub type_of : Data → StateType
type_of d = unwrap_or (find_key (text_in (codes "Type") d) state_types) Fail

-- a state of this type, by what stands at its Branches, and at its ItemProcessor or Iterator
abbrev pub state_by : StateType → Data → (branches : Option (List Block)) → (body : Option Block) → State
state_by Task d branches body = state.Task (shape_in d) (text_in (codes "Resource") d) (after_in d) (care_in d)
state_by Pass d branches body = state.Pass (pass_shape_in d) (option_map json_of (get (codes "Result") d)) (after_in d)
state_by Choice d branches body =
    state.Choice (path_shape_in d) (map top_rule_of (list_in (codes "Choices") d)) (text_if (codes "Default") d)
state_by Succeed d branches body = state.Succeed (path_shape_in d)
state_by Fail d branches body = state.Fail (text_in (codes "Error") d) (text_in (codes "Cause") d)
state_by Parallel d branches body = state.Parallel (shape_in d) (unwrap_or branches []) (after_in d) (care_in d)
state_by Map d branches body =
    state.Map (map_shape_in d) (path_in (codes "ItemsPath") d) (item_template_in d) (unwrap_or body no_block) (after_in d) (care_in d)
    (number_in (codes "MaxConcurrency") 1000000 0 d)

-- a value as a block and as a state, its items as blocks, and its members as states
pub record Blocked : Type 0 where
  pub block : Block
  pub blocks : List Block
  pub state : State
  pub states : List (Key × State)

abbrev pub states_at : Key → List (Key × Blocked) → Option (List (Key × State))
states_at k members = option_map (λ (b : Blocked). b.states) (find k members)

abbrev pub blocks_at : Key → List (Key × Blocked) → Option (List Block)
blocks_at k members = option_map (λ (b : Blocked). b.blocks) (find k members)

abbrev pub block_at : Key → List (Key × Blocked) → Option Block
block_at k members = option_map (λ (b : Blocked). b.block) (find k members)

abbrev pub or_else : {A : Type 0} → Option A → Option A → Option A
or_else (Some x) other = Some x
or_else None other = other

abbrev pub blocked_by : Data → (items : List Blocked) → (members : List (Key × Blocked)) → Blocked
blocked_by d items members = record {
  block = block_by d (states_at (codes "States") members);
  blocks = map (λ (b : Blocked). b.block) items;
  state = state_by (type_of d) d (blocks_at (codes "Branches") members)
      (or_else (block_at (codes "ItemProcessor") members) (block_at (codes "Iterator") members));
  states = map (λ (m : Key × Blocked). (m.0, m.1.state)) members;
}

abbrev mutual
  pub blocked : Data → Blocked
  blocked null = blocked_by null [] []
  blocked (boolean b) = blocked_by (boolean b) [] []
  blocked (number n) = blocked_by (number n) [] []
  blocked (string s) = blocked_by (string s) [] []
  blocked (array ds) = blocked_by (array ds) (blocked_items ds) []
  blocked (object ms) = blocked_by (object ms) [] (blocked_members ms)

  pub blocked_items : Items → List Blocked
  blocked_items no_items = []
  blocked_items (item d ds) = blocked d ∷ blocked_items ds

  pub blocked_members : Members → List (Key × Blocked)
  blocked_members no_members = []
  blocked_members (member k d ms) = (k, blocked d) ∷ blocked_members ms

-- the block that a value spells
abbrev pub block_of : Data → Block
block_of d = (blocked d).block

-- the blocks that an array's items spell
abbrev pub blocks_of : Data → List Block
blocks_of d = (blocked d).blocks

-- the state that a value spells
abbrev pub state_of : Data → State
state_of d = (blocked d).state

-- the states that an object's members spell
abbrev pub states_of : Data → List (Key × State)
states_of d = (blocked d).states

-- the machine that a value spells
abbrev pub machine_of : Data → Machine
machine_of d = record { root = block_of d }
