-- On the flat form of a machine every walk is the machine's own.
use Rattle.std.specs.Prelude.{◌≡◌, ℕ, ◌<◌, ◌≤◌, map, length, slice_get, List, [], ◌∷◌, Option, Some, option_map}
use Rattle.asl_model.specs.Data.{Text, Json, Outcome, combine}
use Rattle.asl_model.specs.Machine.{Block, state_of}
use Rattle.asl_model.specs.Head.{Used}
use Rattle.asl_model.specs.Step.{standard}
use Rattle.asl_model.specs.Central.{Visited, Entered, Called, Joined}
use Rattle.asl_model.specs.Stretch as model
use Rattle.asl_model.specs.Stretch.{stretch, after}
use Rattle.asl_model.specs.Blocks.{Row, Function, blocks, nodes, functions, function_at}
use Rattle.asl_model.specs.Walked.{HasRisingNames}
use Rattle.asl_model.specs.Valid.{IsValid}
use Rattle.continuation_gen.specs.Tables.{Ir, Node, Func, EnterFunc, TaskFunc, JoinFunc, Stop, CallAt, FanAt, EndsWith, Child}
use Rattle.unum_ir.specs.Flat.{node_at, flat, flat_after}
use Rattle.unum_ir.specs.Calls.{effective, resource_of, input_of, width, combined}
use Rattle.unum_ir.specs.WellFormed.{IsWellFormed}
use Rattle.world_model.specs.AnyCode.Code.{flags}
use Rattle.world_model.specs.AnyCode.World as coded
use Rattle.world_model.specs.AnyCode.World.{Codes}
use Rattle.world_model.specs.AnyCode.Maps.{Maps}
use Rattle.world_model.specs.Sites.{spot_of, call_at, input_in, width_at, machine_code}
use Rattle.world_model.specs.World.{Session, Opening, World, Event, run}
use Rattle.world_model.specs.Numbered.{Numbered, first_number, IsSoundWorld}
use Rattle.world_model.specs.Flat.{flat_site, flat_sites, block_of}
use Rattle.continuation_gen.specs.Numbering.{flat_form}
use Rattle.continuation_gen.specs.Coded.{code_of_ir}

-- ---------------------------------------------------------------- numbers

abbrev pub name_of : Node → Text
name_of n = n.name

abbrev pub name_in : Row → Text
name_in r = r.0

-- The nodes are the states of the machine, in their order.
abbrev pub SameNodes : Type 0
SameNodes = (root : Block) → map name_of (flat_form root).nodes ≡ map name_in (nodes root)

-- a node's block, and that it is a state of it
pub record IsNodeOf (root : Block) (label : ℕ) (b : Block) (name : Text) : Type 0 where
  pub node : Node
  pub found : node_at (flat_form root) label ≡ Some node
  pub named : node.name ≡ name
  pub block : slice_get (blocks root) node.scope ≡ Some b

-- what a function of the table is of: a block with what is visited there
abbrev pub Means : Block → Func → Function → Type 0
Means root (EnterFunc scope) x = (slice_get (blocks root) scope ≡ Some x.0) × (x.1 ≡ Entered)
Means root (TaskFunc node resource) x = (name : Text) × IsNodeOf root node x.0 name × (x.1 ≡ Called name resource)
Means root (JoinFunc node) x = (name : Text) × IsNodeOf root node x.0 name × (x.1 ≡ Joined name)

-- the functions of the table are those that the machine has, by their numbers
abbrev pub HasItsFunctions : Block → Type 0
HasItsFunctions root =
    (length (flat_form root).funcs ≡ length (functions root))
    × ((f : ℕ) (x : Func) → slice_get (flat_form root).funcs f ≡ Some x → (y : Function) × (function_at root f ≡ Some y) × Means root x y)

-- The functions of the table are those that the machine has.
abbrev pub SameFunctions : Type 0
SameFunctions = (root : Block) → HasRisingNames root → HasItsFunctions root

-- ---------------------------------------------------------------- stops

-- each child is the Enter of its block, with the same input
abbrev pub SameChildren : Block → List (Block × Json) → List Child → Type 0
SameChildren root [] [] = Unit {0}
SameChildren root (c ∷ cs) (k ∷ ks) = (function_at root k.func ≡ Some (c.0, Entered)) × (k.input ≡ c.1) × SameChildren root cs ks
SameChildren root _ _ = ⊥

-- the same kind of stop, function, hop, raw data, used list and inputs
abbrev pub SameStop : Block → Block → model.Stop → Stop → Type 0
SameStop root b (model.Call name hop raw used) (CallAt f h r u) =
    (resource : Text) × (function_at root f ≡ Some (b, Called name resource)) × (h ≡ hop) × (r ≡ raw) × (u ≡ used)
SameStop root b (model.Fan name hop raw used cs) (FanAt f h r u ks) =
    (function_at root f ≡ Some (b, Joined name)) × (h ≡ hop) × (r ≡ raw) × (u ≡ used) × SameChildren root cs ks
SameStop root b (model.Over o) (EndsWith p) = p ≡ o
SameStop root b _ _ = ⊥

-- from each node the flat form stops where the machine does from the node's state
abbrev pub WalksAlike : Block → Type 0
WalksAlike root =
    (label : ℕ) (b : Block) (name : Text) → IsNodeOf root label b name →
    (hop : ℕ) (v : Json) (again : Option Used) →
    SameStop root b (stretch standard b name hop v again) (flat (flat_form root) label hop v again)

-- after each function it stops where the machine does after what the function's number stands for
abbrev pub ResumesAlike : Block → Type 0
ResumesAlike root =
    (f : ℕ) (b : Block) (visited : Visited) → function_at root f ≡ Some (b, visited) →
    (hop : ℕ) (raw : Json) (used : Used) (o : Outcome) →
    SameStop root b (after standard b visited hop raw used o) (flat_after (flat_form root) f hop raw used o)

-- Every walk on the flat form of a valid machine is the machine's own.
abbrev pub FlatIsStretch : Type 0
FlatIsStretch = (root : Block) → IsValid root → HasRisingNames root → WalksAlike root

abbrev pub FlatAfterIsAfter : Type 0
FlatAfterIsAfter = (root : Block) → IsValid root → HasRisingNames root → ResumesAlike root

-- ---------------------------------------------------------------- what else is read

abbrev pub input_in_call : Text × Json → Json
input_in_call c = c.1

-- a Task is given what the machine gives it, and a Join's inputs, limit and outcome are the machine's
abbrev pub GivesAlike : Block → Type 0
GivesAlike root =
    (f : ℕ) (b : Block) →
    ((name resource : Text) → function_at root f ≡ Some (b, Called name resource) →
    (resource_of (slice_get (flat_form root).funcs f) ≡ Some resource)
    × ((raw : Json) → effective (flat_form root) f raw ≡ option_map input_in_call (call_at name (state_of b name) raw)))
    × ((name : Text) → function_at root f ≡ Some (b, Joined name) →
    ((index : ℕ) (raw : Json) → input_of (flat_form root) f index raw ≡ input_in name (state_of b name) raw index)
    × (width (flat_form root) f ≡ width_at (state_of b name))
    × ((outs : List Outcome) → combined (flat_form root) f outs ≡ combine name outs))

abbrev pub ReadsAlike : Type 0
ReadsAlike = (root : Block) → IsValid root → HasRisingNames root → GivesAlike root

-- ---------------------------------------------------------------- well-formedness

abbrev pub FormIsWellFormed : Type 0
FormIsWellFormed = (root : Block) → IsValid root → HasRisingNames root → IsWellFormed (flat_form root)

-- the tables are short
abbrev pub IsShort : Ir → Type 0
IsShort ir = (length ir.nodes ≤ 1000) × (length ir.scopes ≤ 1000) × (length ir.funcs ≤ 2000)

abbrev pub SmallNumbers : Type 0
SmallNumbers = (root : Block) → IsValid root → IsShort (flat_form root)

-- ---------------------------------------------------------------- sites

abbrev pub ir_size : Block → ℕ
ir_size root = length (flat_form root).funcs

-- at each number the flat form does what the machine does at the site that the number stands for
abbrev pub MapsToSites : Block → Type 0
MapsToSites root = Maps (λ f. f < ir_size root) (code_of_ir (flat_form root)) machine_code (flat_site root)

abbrev pub IrMaps : Type 0
IrMaps = (root : Block) → IsValid root → HasRisingNames root → MapsToSites root

-- the site of a number has the block of what it stands for, and visits what that visits
abbrev pub HasItsSites : Block → Type 0
HasItsSites root = (f : ℕ) (b : Block) (visited : Visited) → function_at root f ≡ Some (b, visited) →
    ((flat_site root f).block ≡ b) × ((flat_site root f).spot ≡ spot_of visited)

-- ---------------------------------------------------------------- of one machine

-- The flat form keeps what the machine means.
pub record KeepsMachine (root : Block) : Type 0 where
  pub functions : HasItsFunctions root
  pub walks : WalksAlike root
  pub resumes : ResumesAlike root
  pub gives : GivesAlike root
  pub sites : HasItsSites root
  pub maps : MapsToSites root

-- ---------------------------------------------------------------- worlds

-- each session runs the flat form of its machine
abbrev pub ir_codes : Opening → Codes ℕ
ir_codes o s = code_of_ir (flat_form (block_of o s))

-- each machine is valid, and its names rise
abbrev pub AreValid : Opening → Type 0
AreValid o = (s : ℕ) (x : Session) → slice_get o.sessions s ≡ Some x → IsValid x.machine × HasRisingNames x.machine

-- A world that runs the flat forms of its machines is sound.
abbrev pub EveryIrRunIsSound : Type 0
EveryIrRunIsSound =
    (o : Opening) → AreValid o → (events : List Event) (w : Numbered) →
    coded.run flags (ir_codes o) first_number o events ≡ Some w → IsSoundWorld o (ir_codes o) (flat_sites o) events w

-- And what may happen in turn in the world of machines may happen there.
abbrev pub EveryRunIsOfIr : Type 0
EveryRunIsOfIr = (o : Opening) → AreValid o → (events : List Event) (v : World) → run o events ≡ Some v →
    (w : Numbered) × (coded.run flags (ir_codes o) first_number o events ≡ Some w)
