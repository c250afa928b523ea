-- What a walk of a well formed flat form rests on: every number that it meets is in its table.
use Rattle.std.specs.Prelude.{◌≡◌, ℕ, ◌<◌, length, slice_get, [], ◌∷◌, Some}
use Rattle.asl_model.specs.Laws.{In}
use Rattle.asl_model.specs.Valid.{labels}
use Rattle.unum_ir.specs.Flat.{Ir, Node, Scope, Func, EnterFunc, TaskFunc, JoinFunc, head_of, func_of, node_at}
use Rattle.unum_ir.specs.WellFormed.{IsWellFormed, scopes_of, Calls, Joins, op_tag}

-- there is a node with that number, in that scope
abbrev pub HasNode : Ir → (scope label : ℕ) → Type 0
HasNode ir scope label = (n : Node) × (node_at ir label ≡ Some n) × (n.scope ≡ scope)

-- where a node may go is a node of its scope
abbrev pub NextsThere : Type 0
NextsThere = (ir : Ir) → IsWellFormed ir → (label : ℕ) (n : Node) → node_at ir label ≡ Some n → (l : ℕ) →
    In l (labels (head_of n.op)) → HasNode ir n.scope l

-- a scope starts at a node of its own
abbrev pub StartsThere : Type 0
StartsThere = (ir : Ir) → IsWellFormed ir → (k : ℕ) (s : Scope) → slice_get ir.scopes k ≡ Some s → HasNode ir k s.start

-- a function is the Enter of the scope with its number, or that of a Task's or a fan's node, which has its number
abbrev pub IsFunc : Ir → (f : ℕ) → Func → Type 0
IsFunc ir f (EnterFunc scope) = (scope ≡ f) × (f < length ir.scopes)
IsFunc ir f (TaskFunc node resource) = (n : Node) × (node_at ir node ≡ Some n) × (op_tag node n.op ≡ Calls node ∷ [])
    × (func_of n.op ≡ Some f)
IsFunc ir f (JoinFunc node) = (n : Node) × (node_at ir node ≡ Some n) × (op_tag node n.op ≡ Joins node ∷ []) × (func_of n.op ≡ Some f)

abbrev pub FuncsThere : Type 0
FuncsThere = (ir : Ir) → IsWellFormed ir → (f : ℕ) (x : Func) → slice_get ir.funcs f ≡ Some x → IsFunc ir f x

-- a scope that a fan holds is there, and the fan's function is its parent
abbrev pub ScopesThere : Type 0
ScopesThere =
    (ir : Ir) → IsWellFormed ir → (label : ℕ) (n : Node) → node_at ir label ≡ Some n →
    (n.scope < length ir.scopes) × ((k : ℕ) → In k (scopes_of n.op) →
    (s : Scope) × (slice_get ir.scopes k ≡ Some s) × (s.parent ≡ func_of n.op))
