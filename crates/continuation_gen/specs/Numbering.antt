-- The flat form of a machine: where each block stands, and the three tables.
use Rattle.std.specs.Prelude.{ℕ, zero, suc, ◌+◌, ◌^◌, ◌<◌, List, [], ◌∷◌, ◌++◌, map, Option, Some, None, option_map, if◌then◌else◌}
use Rattle.asl_model.specs.Data.{Text, same_text}
use Rattle.asl_model.specs.Machine.{Block, block, States, no_state, and_state, State, Task, Pass, Choice, Succeed, Fail, Parallel, Map, Blocks, no_block, and_block, Care, Catcher, start_of, states_of}
-- numbers of a scope, of a node and of a function: the next free ones, or how many are taken
pub use Rattle.continuation_gen.specs.declared.at.At.{At}
use Rattle.continuation_gen.specs.Tables.{TopRule, Ir, Node, NodeRule, NodeCare, NodeCatcher, Scope, Op, PassOp, ChoiceOp, SucceedOp, FailOp, TaskOp, ParallelOp, MapOp, Func, EnterFunc, TaskFunc, JoinFunc}

-- ---------------------------------------------------------------- numbers

abbrev pub plus : At → At → At
plus a b = record { scope = a.scope + b.scope; node = a.node + b.node; func = a.func + b.func }

abbrev pub none_at : At
none_at = record { scope = 0; node = 0; func = 0 }

-- each of the numbers fits 32 bits
abbrev pub IsSmall : At → Type 0
IsSmall a = (a.scope < 2 ^ 32) × (a.node < 2 ^ 32) × (a.func < 2 ^ 32)

-- a Task and a fan have a function
abbrev pub calls : State → ℕ
calls (Task shape resource after care) = 1
calls (Parallel shape bs after care) = 1
calls (Map shape items selector b after care limit) = 1
calls _ = 0

abbrev pub count : States → ℕ
count no_state = 0
count (and_state name s rest) = suc (count rest)

abbrev pub callers : States → ℕ
callers no_state = 0
callers (and_state name s rest) = calls s + callers rest

-- what a block takes itself
abbrev pub own : Block → At
own b = record { scope = 1; node = count (states_of b); func = callers (states_of b) }

-- what it takes with all inside it
abbrev mutual
  pub size : Block → At
  size (block start states) = plus (own (block start states)) (size_within states)

  pub size_within : States → At
  size_within no_state = none_at
  size_within (and_state name s rest) = plus (size_under s) (size_within rest)

  pub size_under : State → At
  size_under (Task shape resource after care) = none_at
  size_under (Pass shape result after) = none_at
  size_under (Choice shape rules default) = none_at
  size_under (Succeed shape) = none_at
  size_under (Fail error cause) = none_at
  size_under (Parallel shape bs after care) = size_all bs
  size_under (Map shape items selector b after care limit) = size b

  pub size_all : Blocks → At
  size_all no_block = none_at
  size_all (and_block b bs) = plus (size b) (size_all bs)

-- ---------------------------------------------------------------- where blocks stand

-- a block with its scope, its first node and the first function of its states, and the Join of the fan that holds it
pub record Placed : Type 0 where
  pub at : At
  pub parent : Option ℕ
  pub block : Block

-- Each block is followed by those inside its states. Here func is the function of the next state, and at is where the next
-- block inside stands.
abbrev mutual
  pub place : Option ℕ → At → Block → List Placed
  place parent at (block start states) =
      record { at = at; parent = parent; block = block start states } ∷ place_within at.func (plus at (own (block start states))) states

  pub place_within : (func : ℕ) → At → States → List Placed
  place_within func at no_state = []
  place_within func at (and_state name s rest) = place_under func at s ++ place_within (func + calls s) (plus at (size_under s)) rest

  pub place_under : (func : ℕ) → At → State → List Placed
  place_under func at (Task shape resource after care) = []
  place_under func at (Pass shape result after) = []
  place_under func at (Choice shape rules default) = []
  place_under func at (Succeed shape) = []
  place_under func at (Fail error cause) = []
  place_under func at (Parallel shape bs after care) = place_all func at bs
  place_under func at (Map shape items selector b after care limit) = place (Some func) at b

  pub place_all : (func : ℕ) → At → Blocks → List Placed
  place_all func at no_block = []
  place_all func at (and_block b bs) = place (Some func) at b ++ place_all func (plus at (size b)) bs

-- the Enters come first, so the first Task or fan has as number how many scopes there are
abbrev pub first_at : Block → At
first_at root = record { scope = 0; node = 0; func = (size root).scope }

-- the blocks of a machine, each with its numbers
abbrev pub placed : Block → List Placed
placed root = place None (first_at root) root

-- ---------------------------------------------------------------- the tables

-- the scopes of these blocks, where the first stands there
abbrev pub scope_numbers : At → Blocks → List ℕ
scope_numbers at no_block = []
scope_numbers at (and_block b bs) = at.scope ∷ scope_numbers (plus at (size b)) bs

abbrev pub index_of : States → Text → ℕ
index_of no_state name = 0
index_of (and_state m s rest) name = if same_text m name then 0 else suc (index_of rest name)

abbrev pub number_rule : (Text → ℕ) → TopRule → NodeRule
number_rule g r = record { rule = r.rule; next = g r.next }

abbrev pub number_catcher : (Text → ℕ) → Catcher → NodeCatcher
number_catcher g c = record { errors = c.errors; result = c.result; next = g c.next }

abbrev pub number_care : (Text → ℕ) → Care → NodeCare
number_care g c = record { retry = c.retry; catch = map (number_catcher g) c.catch }

-- a state by the nodes of names, its function's number, and where the first block inside it stands
abbrev pub op_of : (Text → ℕ) → (func : ℕ) → At → State → Op
op_of g func at (Task shape resource after care) = TaskOp shape func (option_map g after.next) (number_care g care)
op_of g func at (Pass shape result after) = PassOp shape result (option_map g after.next)
op_of g func at (Choice shape rules default) = ChoiceOp shape (map (number_rule g) rules) (option_map g default)
op_of g func at (Succeed shape) = SucceedOp shape
op_of g func at (Fail error cause) = FailOp error cause
op_of g func at (Parallel shape bs after care) = ParallelOp shape func (option_map g after.next) (number_care g care) (scope_numbers at bs)
op_of g func at (Map shape items selector b after care limit) =
    MapOp shape func (option_map g after.next) (number_care g care) at.scope items selector limit

abbrev pub nodes_from : (Text → ℕ) → (scope func : ℕ) → At → States → List Node
nodes_from g scope func at no_state = []
nodes_from g scope func at (and_state name s rest) =
    record { name = name; scope = scope; op = op_of g func at s } ∷ nodes_from g scope (func + calls s) (plus at (size_under s)) rest

abbrev pub func_from : (node : ℕ) → State → List Func
func_from node (Task shape resource after care) = TaskFunc node resource ∷ []
func_from node (Parallel shape bs after care) = JoinFunc node ∷ []
func_from node (Map shape items selector b after care limit) = JoinFunc node ∷ []
func_from node _ = []

abbrev pub funcs_from : (node : ℕ) → States → List Func
funcs_from node no_state = []
funcs_from node (and_state name s rest) = func_from node s ++ funcs_from (suc node) rest

-- the node of the state of that name
abbrev pub node_number : Placed → Text → ℕ
node_number p name = p.at.node + index_of (states_of p.block) name

abbrev pub nodes_of : Placed → List Node
nodes_of p = nodes_from (node_number p) p.at.scope p.at.func (plus p.at (own p.block)) (states_of p.block)

abbrev pub funcs_of : Placed → List Func
funcs_of p = funcs_from p.at.node (states_of p.block)

abbrev pub scope_of : Placed → Scope
scope_of p = record { parent = p.parent; start = node_number p (start_of p.block) }

abbrev pub all_of : {X : Type 0} → (Placed → List X) → List Placed → List X
all_of f [] = []
all_of f (p ∷ ps) = f p ++ all_of f ps

abbrev pub enters : (from n : ℕ) → List Func
enters k zero = []
enters k (suc n) = EnterFunc k ∷ enters (suc k) n

-- the flat form of a machine
abbrev pub flat_form : Block → Ir
flat_form root = record {
  nodes = all_of nodes_of (placed root);
  funcs = enters 0 (size root).scope ++ all_of funcs_of (placed root);
  scopes = map scope_of (placed root);
}
