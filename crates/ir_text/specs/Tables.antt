-- The table of the fields of a flat form: for each kind of object its keys, which of them have to be there, and how their values
-- are read.
-- Source: Amazon States Language, the table of fields in "State Types", for what a state of each type has.
use Rattle.std.specs.Prelude.{ℕ, List, [], ◌∷◌, ◌++◌, codes, Option, Some, None}
use Rattle.std.specs.Borrow.{Bor}
use Rattle.asl_read.specs.Objects.{Key, Row, must, may}
use Rattle.asl_read.specs.declared.table.How.TheVariants.{Unread, Text, Data, Path, PathOrNull, Template, ItemTemplate, Texts}
use Rattle.ir_text.specs.declared.kinds.Number.TheVariants as number
use Rattle.ir_text.specs.declared.kinds.NodeKind.{NodeKind}
use Rattle.ir_text.specs.declared.kinds.NodeKind.TheVariants as node
use Rattle.ir_text.specs.declared.kinds.FuncKind.{FuncKind}
use Rattle.ir_text.specs.declared.kinds.FuncKind.TheVariants as func
use Rattle.ir_text.specs.declared.kinds.Object.{Object}
use Rattle.ir_text.specs.declared.kinds.Object.TheVariants as object
use Rattle.ir_text.specs.declared.kinds.Part.{Part}
use Rattle.ir_text.specs.declared.kinds.Part.TheVariants as part

abbrev pub Fields : Type 0
Fields = List (Row Part)

-- ---------------------------------------------------------------- groups of fields

-- the paths into and out of a state
abbrev pub in_out : Fields
in_out = may (codes "InputPath") (part.Field PathOrNull) ∷ may (codes "OutputPath") (part.Field PathOrNull) ∷ []

abbrev pub result_path : Fields
result_path = may (codes "ResultPath") (part.Field PathOrNull) ∷ []

abbrev pub parameters : Fields
parameters = may (codes "Parameters") (part.Field Template) ∷ []

abbrev pub selector : Fields
selector = may (codes "ResultSelector") (part.Field Template) ∷ []

abbrev pub care : Fields
care = may (codes "catch") (part.Each object.Catcher) ∷ may (codes "retry") (part.Each object.Retrier) ∷ []

abbrev pub func_field : Fields
func_field = must (codes "func") (part.Number number.Func) ∷ []

abbrev pub name_field : Fields
name_field = must (codes "name") (part.Field Text) ∷ []

abbrev pub next_field : Fields
next_field = must (codes "next") (part.NumberOrNull number.Node) ∷ []

-- the op was read before
abbrev pub op_and_scope : Fields
op_and_scope = may (codes "op") (part.Field Unread) ∷ must (codes "scope") (part.Number number.Scope) ∷ []

abbrev pub scopes_field : Fields
scopes_field = must (codes "scopes") (part.Numbers number.Scope) ∷ []

-- ---------------------------------------------------------------- objects

-- in byte order of their keys
abbrev pub node_fields : NodeKind → Fields
node_fields node.Pass = in_out ++ parameters ++ (may (codes "Result") (part.Field Data) ∷ []) ++ result_path ++ name_field ++ next_field
    ++ op_and_scope
node_fields node.Choice =
    in_out ++ (must (codes "default") (part.NumberOrNull number.Node) ∷ []) ++ name_field
    ++ (may (codes "op") (part.Field Unread) ∷ must (codes "rules") part.Rules ∷ must (codes "scope") (part.Number number.Scope) ∷ [])
node_fields node.Succeed = in_out ++ name_field ++ op_and_scope
node_fields node.Fail = must (codes "cause") (part.Field Text) ∷ must (codes "error") (part.Field Text) ∷ name_field ++ op_and_scope
node_fields node.Task = in_out ++ parameters ++ result_path ++ selector ++ care ++ func_field ++ name_field ++ next_field ++ op_and_scope
node_fields node.Parallel = in_out ++ parameters ++ result_path ++ selector ++ care ++ func_field ++ name_field ++ next_field
    ++ op_and_scope ++ scopes_field
node_fields node.Map =
    in_out ++ result_path ++ selector ++ care ++ func_field
    ++ (must (codes "items") (part.Field Path) ∷ may (codes "limit") (part.Number number.Limit) ∷ [])
    ++ name_field ++ next_field ++ op_and_scope ++ scopes_field ++ (may (codes "selector") (part.Field ItemTemplate) ∷ [])

-- the kind was read before
abbrev pub func_fields : FuncKind → Fields
func_fields func.Enter = may (codes "kind") (part.Field Unread) ∷ must (codes "scope") (part.Number number.Scope) ∷ []
func_fields func.Task = may (codes "kind") (part.Field Unread) ∷ must (codes "node") (part.Number number.Node)
    ∷ must (codes "resource") (part.Field Text) ∷ []
func_fields func.Join = may (codes "kind") (part.Field Unread) ∷ must (codes "node") (part.Number number.Node) ∷ []

abbrev pub fields : Object → Fields
fields object.Ir = must (codes "funcs") part.Funcs ∷ must (codes "nodes") part.Nodes ∷ must (codes "scopes") (part.Each object.Scope) ∷ []
fields object.Scope = must (codes "parent") (part.NumberOrNull number.Func) ∷ must (codes "start") (part.Number number.Node) ∷ []
fields (object.Func kind) = func_fields kind
fields (object.Node kind) = node_fields kind
fields object.Retrier = must (codes "errors") (part.Field Texts) ∷ must (codes "most") (part.Number number.Most) ∷ []
fields object.Catcher =
    must (codes "errors") (part.Field Texts) ∷ must (codes "next") (part.Number number.Node)
    ∷ may (codes "result") (part.Field PathOrNull) ∷ []

-- how the items of an array are read, if it is an array that is read
abbrev pub item_part : Part → Option Part
item_part (part.Numbers number) = Some (part.Number number)
item_part part.Rules = Some part.Rule
item_part (part.Each kind) = Some (part.Object kind)
item_part part.Nodes = Some part.Node
item_part part.Funcs = Some part.Func
item_part _ = None

-- ---------------------------------------------------------------- tags

-- what a node is, by its op
abbrev pub ops : List (Key × Object)
ops =
    (codes "pass", object.Node node.Pass) ∷ (codes "choice", object.Node node.Choice) ∷ (codes "succeed", object.Node node.Succeed)
    ∷ (codes "fail", object.Node node.Fail) ∷ (codes "task", object.Node node.Task) ∷ (codes "parallel", object.Node node.Parallel)
    ∷ (codes "map", object.Node node.Map) ∷ []

-- what a function is, by its kind
abbrev pub kinds : List (Key × Object)
kinds = (codes "enter", object.Func func.Enter) ∷ (codes "task", object.Func func.Task) ∷ (codes "join", object.Func func.Join) ∷ []

-- a row of the code
abbrev pub named_object : Bor (List ℕ) × Object → Key × Object
named_object row = (row.0.now, row.1)
