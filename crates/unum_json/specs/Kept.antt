-- The plain tree of a value that knows its sizes, and what it keeps beside each list.
use Rattle.std.specs.Prelude.{◌≡◌, ℕ, ◌^◌, ◌-◌, min}
use Rattle.unum_json.specs.declared.value.Json.{Json}
use Rattle.unum_json.specs.declared.value.Json as json
use Rattle.unum_json.specs.declared.kept.Node.{Node}
use Rattle.unum_json.specs.declared.kept.Node.TheVariants as node
use Rattle.unum_json.specs.Tree.{nodes, depth}

abbrev pub tree_of : Node → Json
tree_of node.Null = json.Null
tree_of (node.Bool b) = json.Bool b
tree_of (node.Int i) = json.Int i
tree_of (node.Str s) = json.Str s
tree_of (node.Arr vs n d) = json.Arr vs
tree_of (node.Obj fs n d) = json.Obj fs

-- the sizes of a value, each capped as its type wants
abbrev pub AreSizesOf : Json → ℕ → ℕ → Type 0
AreSizesOf v n d = (n ≡ min (nodes v) (2 ^ 64 - 1)) × (d ≡ min (depth v) (2 ^ 32 - 1))

-- beside each list stand the sizes of the value
abbrev pub IsKept : Node → Type 0
IsKept node.Null = Unit {0}
IsKept (node.Bool b) = Unit {0}
IsKept (node.Int i) = Unit {0}
IsKept (node.Str s) = Unit {0}
IsKept (node.Arr vs n d) = AreSizesOf (json.Arr vs) n d
IsKept (node.Obj fs n d) = AreSizesOf (json.Obj fs) n d
