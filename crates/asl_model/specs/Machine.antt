-- Machines as plain trees.
-- Source: Amazon States Language, "Structure of a State Machine", "State Types", "Parallel State" and "Map State".
use Rattle.std.specs.Prelude.{ℕ, suc, max, map, List, [], ◌∷◌, length, Option, Some, None, if◌then◌else◌}
use Rattle.asl_model.specs.Data.{Text, Json, Shape, Path, Template, same_text, repeat}
pub use Rattle.asl_model.specs.declared.machine.After.{After}
pub use Rattle.asl_model.specs.declared.machine.TopRule.{TopRule}
pub use Rattle.asl_model.specs.Head.{Retrier, Used, CatcherOf, CareOf}
use Rattle.asl_model.specs.Head.{Head, HTask, HPass, HChoice, HSucceed, HFail, HParallel, HMap, bare}

abbrev pub Catcher : Type 0
Catcher = CatcherOf Text

abbrev pub Care : Type 0
Care = CareOf Text

mutual
  pub data Block : Type 0 where
    block : (start : Text) → States → Block

  pub data States : Type 0 where
    no_state : States
    and_state : Text → State → States → States

  pub data State : Type 0 where
    Task : Shape → (resource : Text) → After → Care → State
    Pass : Shape → (result : Option Json) → After → State
    Choice : Shape → List TopRule → (default : Option Text) → State
    Succeed : Shape → State
    Fail : (error cause : Text) → State
    Parallel : Shape → Blocks → After → Care → State
    Map : Shape → (items : Path) → (selector : Option Template) → Block → After → Care → (limit : ℕ) → State

  pub data Blocks : Type 0 where
    no_block : Blocks
    and_block : Block → Blocks → Blocks

abbrev pub start_of : Block → Text
start_of (block start states) = start

abbrev pub states_of : Block → States
states_of (block start states) = states

abbrev pub find_state : States → Text → Option State
find_state no_state name = None
find_state (and_state n s rest) name = if same_text n name then Some s else find_state rest name

-- the state of that name in a block
abbrev pub state_of : Block → Text → Option State
state_of b name = find_state (states_of b) name

abbrev pub blocks_in : Blocks → List Block
blocks_in no_block = []
blocks_in (and_block b bs) = b ∷ blocks_in bs

-- the blocks of a state's branches, for that many inputs
abbrev pub branches_of : State → ℕ → List Block
branches_of (Parallel shape bs after care) n = blocks_in bs
branches_of (Map shape items selector b after care limit) n = repeat n b
branches_of _ n = []

abbrev pub care_of : State → Care
care_of (Task shape resource after care) = care
care_of (Parallel shape bs after care) = care
care_of (Map shape items selector b after care limit) = care
care_of _ = bare

-- MaxConcurrency: how many branches run at once, 0 where there is no such limit
abbrev pub limit_of : State → ℕ
limit_of (Map shape items selector b after care limit) = limit
limit_of _ = 0

-- the state without the blocks inside it
abbrev pub head_of : State → Head Text Text
head_of (Task shape resource after care) = HTask shape resource after.next care
head_of (Pass shape result after) = HPass shape result after.next
head_of (Choice shape rules default) = HChoice shape (map (λ (r : TopRule). r.rule) rules) (map (λ (r : TopRule). r.next) rules) default
head_of (Succeed shape) = HSucceed shape
head_of (Fail error cause) = HFail error cause
head_of (Parallel shape bs after care) = HParallel shape (length (blocks_in bs)) after.next care
head_of (Map shape items selector b after care limit) = HMap shape items selector after.next care

-- how deep blocks nest: 1 for a block with none inside
abbrev mutual
  pub depth : Block → ℕ
  depth (block start states) = suc (depth_in states)

  pub depth_in : States → ℕ
  depth_in no_state = 0
  depth_in (and_state name s rest) = max (depth_of s) (depth_in rest)

  pub depth_of : State → ℕ
  depth_of (Task shape resource after care) = 0
  depth_of (Pass shape result after) = 0
  depth_of (Choice shape rules default) = 0
  depth_of (Succeed shape) = 0
  depth_of (Fail error cause) = 0
  depth_of (Parallel shape bs after care) = depth_all bs
  depth_of (Map shape items selector b after care limit) = depth b

  pub depth_all : Blocks → ℕ
  depth_all no_block = 0
  depth_all (and_block b bs) = max (depth b) (depth_all bs)
