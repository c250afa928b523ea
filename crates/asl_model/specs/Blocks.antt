-- The blocks and the states of a machine in their order, and the numbers of its functions.
use Rattle.std.specs.Prelude.{ℕ, suc, map, flat_map, List, [], ◌∷◌, ◌++◌, Option, slice_get}
use Rattle.asl_model.specs.Data.{Text}
use Rattle.asl_model.specs.Machine.{Block, block, States, no_state, and_state, State, Task, Pass, Choice, Succeed, Fail, Parallel, Map, Blocks, no_block, and_block, states_of}
use Rattle.asl_model.specs.Central.{Visited, Entered, Called, Joined}

-- a block, and how deep it stands: 1 for the root
pub record Nested : Type 0 where
  pub depth : ℕ
  pub block : Block

-- a block, and then for each of its states by name those inside: branches by index or the body, each with its own
abbrev mutual
  pub nested_at : ℕ → Block → List Nested
  nested_at d (block start states) = record { depth = d; block = block start states } ∷ nested_within (suc d) states

  pub nested_within : ℕ → States → List Nested
  nested_within d no_state = []
  nested_within d (and_state name s rest) = nested_under d s ++ nested_within d rest

  pub nested_under : ℕ → State → List Nested
  nested_under d (Task shape resource after care) = []
  nested_under d (Pass shape result after) = []
  nested_under d (Choice shape rules default) = []
  nested_under d (Succeed shape) = []
  nested_under d (Fail error cause) = []
  nested_under d (Parallel shape bs after care) = nested_all d bs
  nested_under d (Map shape items selector b after care limit) = nested_at d b

  pub nested_all : ℕ → Blocks → List Nested
  nested_all d no_block = []
  nested_all d (and_block b bs) = nested_at d b ++ nested_all d bs

-- the blocks of a machine in their order, each with its depth
abbrev pub nested : Block → List Nested
nested root = nested_at 1 root

-- the blocks of a machine: scope s is the block with index s
abbrev pub blocks : Block → List Block
blocks root = map (λ (n : Nested). n.block) (nested root)

-- a state with its name
abbrev pub Row : Type 0
Row = Text × State

abbrev pub rows_of : States → List Row
rows_of no_state = []
rows_of (and_state name s rest) = (name, s) ∷ rows_of rest

-- the states of a block by name
abbrev pub rows : Block → List Row
rows b = rows_of (states_of b)

-- the states of a machine, block by block and by name: node n is the state with index n
abbrev pub nodes : Block → List Row
nodes root = flat_map rows (blocks root)

-- what is visited at a state: a Task itself, and the end of a fan
abbrev pub visited_at : Text → State → List Visited
visited_at name (Task shape resource after care) = Called name resource ∷ []
visited_at name (Parallel shape bs after care) = Joined name ∷ []
visited_at name (Map shape items selector b after care limit) = Joined name ∷ []
visited_at name _ = []

-- what a function stands for: what is visited, and the block that it is in
abbrev pub Function : Type 0
Function = Block × Visited

abbrev pub calls_of : Block → List Function
calls_of b = map (λ v. (b, v)) (flat_map (λ (r : Row). visited_at r.0 r.1) (rows b))

-- function s is the Enter of scope s, and after these each Task and each fan has one, in the order of the nodes
abbrev pub functions : Block → List Function
functions root = map (λ b. (b, Entered)) (blocks root) ++ flat_map calls_of (blocks root)

-- what the function with this number stands for
abbrev pub function_at : Block → ℕ → Option Function
function_at root f = slice_get (functions root) f
