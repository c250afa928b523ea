-- The flat form that a value spells.
--
-- Each definition gives some part also where the value is of another type. No such part is ever handed out, since the value
-- breaks a rule.
use Rattle.std.specs.Prelude.{ℕ, true, List, [], ◌∷◌, map, codes, Option, Some, None, option_map}
use Rattle.serde_json.specs.Data.{Data}
use Rattle.serde_json.specs.Find.{get, as_null}
use Rattle.unum_json.specs.Keys.{find_key}
use Rattle.asl_model.specs.declared.machine.Retrier.{Retrier}
use Rattle.asl_read.specs.Objects.{Key}
use Rattle.asl_read.specs.Parts.{text_of, text_in, whole_of, json_of, list_in, path_in, path_if, template_at, shape_in, pass_shape_in, path_shape_in, map_shape_in, within, number_in}
use Rattle.asl_read.specs.Rules.{rule_of}
use Rattle.ir_text.specs.declared.kinds.FuncKind.TheVariants as func
use Rattle.ir_text.specs.declared.kinds.NodeKind.TheVariants as node
use Rattle.ir_text.specs.declared.kinds.Object.{Object}
use Rattle.ir_text.specs.declared.kinds.Object.TheVariants as object
use Rattle.ir_text.specs.Tables.{ops, kinds}
use Rattle.ir_text.specs.Flat.{Ir, Node, NodeRule, NodeCare, NodeCatcher, Scope, Op, PassOp, ChoiceOp, SucceedOp, FailOp, TaskOp, ParallelOp, MapOp, Func, EnterFunc, TaskFunc, JoinFunc}

-- ---------------------------------------------------------------- numbers

-- a number that fits 32 bits, and for any other the greatest that does
abbrev pub number_of : Data → ℕ
number_of d = within 4294967295 (whole_of d)

abbrev pub number : Key → Data → ℕ
number k d = number_in k 4294967295 0 d

abbrev pub number_or_null_of : Data → Option ℕ
number_or_null_of d = elim (as_null d) [ None ↦ Some (number_of d) | Some u ↦ None ]

abbrev pub number_or_null_at : Option Data → Option ℕ
number_or_null_at None = None
number_or_null_at (Some v) = number_or_null_of v

-- none where it is null, or missing
abbrev pub number_or_null : Key → Data → Option ℕ
number_or_null k d = number_or_null_at (get k d)

abbrev pub numbers : Key → Data → List ℕ
numbers k d = map number_of (list_in k d)

abbrev pub first_or_zero : List ℕ → ℕ
first_or_zero [] = 0
first_or_zero (n ∷ ns) = n

-- ---------------------------------------------------------------- parts of a node

abbrev pub node_rule_of : Data → NodeRule
node_rule_of d = record { rule = rule_of d; next = number (codes "Next") d }

abbrev pub retrier_of : Data → Retrier
retrier_of d = record { errors = map text_of (list_in (codes "errors") d); most = number (codes "most") d }

abbrev pub catcher_of : Data → NodeCatcher
catcher_of d =
    record { errors = map text_of (list_in (codes "errors") d); result = path_if (codes "result") d; next = number (codes "next") d }

abbrev pub care_of : Data → NodeCare
care_of d = record { retry = map retrier_of (list_in (codes "retry") d); catch = map catcher_of (list_in (codes "catch") d) }

-- ---------------------------------------------------------------- nodes, functions and scopes

abbrev pub op_by : Option Object → Data → Op
op_by (Some (object.Node node.Pass)) d =
    PassOp (pass_shape_in d) (option_map json_of (get (codes "Result") d)) (number_or_null (codes "next") d)
op_by (Some (object.Node node.Choice)) d =
    ChoiceOp (path_shape_in d) (map node_rule_of (list_in (codes "rules") d)) (number_or_null (codes "default") d)
op_by (Some (object.Node node.Fail)) d = FailOp (text_in (codes "error") d) (text_in (codes "cause") d)
op_by (Some (object.Node node.Task)) d = TaskOp (shape_in d) (number (codes "func") d) (number_or_null (codes "next") d) (care_of d)
op_by (Some (object.Node node.Parallel)) d =
    ParallelOp (shape_in d) (number (codes "func") d) (number_or_null (codes "next") d) (care_of d) (numbers (codes "scopes") d)
op_by (Some (object.Node node.Map)) d =
    MapOp (map_shape_in d) (number (codes "func") d) (number_or_null (codes "next") d) (care_of d)
    (first_or_zero (numbers (codes "scopes") d)) (path_in (codes "items") d)
    (option_map (template_at true) (get (codes "selector") d)) (number (codes "limit") d)
op_by _ d = SucceedOp (path_shape_in d)

abbrev pub node_of : Data → Node
node_of d =
    record { name = text_in (codes "name") d; scope = number (codes "scope") d; op = op_by (find_key (text_in (codes "op") d) ops) d }

abbrev pub func_by : Option Object → Data → Func
func_by (Some (object.Func func.Task)) d = TaskFunc (number (codes "node") d) (text_in (codes "resource") d)
func_by (Some (object.Func func.Join)) d = JoinFunc (number (codes "node") d)
func_by _ d = EnterFunc (number (codes "scope") d)

abbrev pub func_of : Data → Func
func_of d = func_by (find_key (text_in (codes "kind") d) kinds) d

abbrev pub scope_of : Data → Scope
scope_of d = record { parent = number_or_null (codes "parent") d; start = number (codes "start") d }

-- the flat form that a value spells
abbrev pub ir_of : Data → Ir
ir_of d = record {
  nodes = map node_of (list_in (codes "nodes") d);
  funcs = map func_of (list_in (codes "funcs") d);
  scopes = map scope_of (list_in (codes "scopes") d);
}
