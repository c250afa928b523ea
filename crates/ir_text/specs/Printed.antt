-- The value that a flat form is printed as: which field each part of it has. What has its default is left out.
-- The names of fields, operators and texts of paths are those of the public standard. Source: Amazon States Language, "Input and
-- Output Processing", "Choice State" and "Errors".
use Rattle.std.specs.Prelude.{ℕ, zero, suc, ◌++◌, List, [], ◌∷◌, map, codes, Option, Some, None, pos}
use Rattle.std.specs.Option.{option_map}
use Rattle.unum_json.specs.declared.value.Json.{Json}
use Rattle.unum_json.specs.declared.value.Json as json
use Rattle.unum_json.specs.Keys.{with_key}
use Rattle.asl_paths.specs.declared.path.Path.{Path}
use Rattle.asl_paths.specs.declared.template.Template.{Template}
use Rattle.asl_paths.specs.Grammar.{path_text}
use Rattle.asl_shape.specs.Stages.{Stages}
use Rattle.asl_model.specs.declared.machine.Retrier.{Retrier}
use Rattle.choice_rules.specs.PatternTexts.{pattern_text}
use Rattle.choice_rules.specs.declared.comparison.OpKind.{OpKind}
use Rattle.choice_rules.specs.declared.comparison.OpKind.TheVariants as kind
use Rattle.choice_rules.specs.declared.comparison.Rel.{Rel}
use Rattle.choice_rules.specs.declared.comparison.Rel.TheVariants.{Equal, Less, LessEqual, Greater, GreaterEqual}
use Rattle.choice_rules.specs.declared.comparison.Operand.{Operand}
use Rattle.choice_rules.specs.declared.comparison.Operand.TheVariants.{Constant, Found}
use Rattle.choice_rules.specs.declared.rule.Op as rule_op
use Rattle.choice_rules.specs.declared.rule.Op.TheVariants as ops
use Rattle.choice_rules.specs.declared.rule.Rule.{Rule, fold-Rule}
use Rattle.choice_rules.specs.declared.rule.Rule.TheOpen.{Rule-F}
use Rattle.ir_text.specs.Flat.{Ir, Node, NodeRule, NodeCare, NodeCatcher, Scope, Op, PassOp, ChoiceOp, SucceedOp, FailOp, TaskOp, ParallelOp, MapOp, Func, EnterFunc, TaskFunc, JoinFunc}

-- ---------------------------------------------------------------- objects

abbrev pub Fields : Type 0
Fields = List (List ℕ × Json)

-- a field, or nothing where it is left out
abbrev pub Row : Type 0
Row = List ℕ × Option Json

abbrev pub put_row : List ℕ → Option Json → Fields → Fields
put_row k None fs = fs
put_row k (Some v) fs = with_key k v fs

-- the fields and these, in rising byte order of their keys
abbrev pub with_rows : Fields → List Row → Fields
with_rows fs [] = fs
with_rows fs (r ∷ rs) = with_rows (put_row r.0 r.1 fs) rs

abbrev pub object_of : List Row → Json
object_of rs = json.Obj (with_rows [] rs)

abbrev pub there : List ℕ → Json → Row
there k v = (k, Some v)

-- ---------------------------------------------------------------- values

abbrev pub number_value : ℕ → Json
number_value n = json.Int (pos n)

abbrev pub number_or_null : Option ℕ → Json
number_or_null None = json.Null
number_or_null (Some n) = number_value n

-- left out where it is 0
abbrev pub unless_zero : ℕ → Option Json
unless_zero zero = None
unless_zero (suc n) = Some (number_value (suc n))

abbrev pub texts_value : List (List ℕ) → Json
texts_value ts = json.Arr (map json.Str ts)

-- left out where there is none
abbrev pub unless_none : List Json → Option Json
unless_none [] = None
unless_none (v ∷ vs) = Some (json.Arr (v ∷ vs))

abbrev pub path_value : Path → Json
path_value path = json.Str (path_text path)

-- left out where it is `$`
abbrev pub unless_root : Option Path → Option Json
unless_root None = Some json.Null
unless_root (Some []) = None
unless_root (Some (s ∷ ss)) = Some (path_value (s ∷ ss))

abbrev pub template_value : Option Template → Option Json
template_value t = option_map (λ (t : Template). t.source) t

-- ---------------------------------------------------------------- choice rules

abbrev pub kind_name : OpKind → List ℕ
kind_name kind.Text = codes "String"
kind_name kind.Number = codes "Numeric"
kind_name kind.Truth = codes "Boolean"

abbrev pub rel_name : Rel → List ℕ
rel_name Equal = codes "Equals"
rel_name Less = codes "LessThan"
rel_name LessEqual = codes "LessThanEquals"
rel_name Greater = codes "GreaterThan"
rel_name GreaterEqual = codes "GreaterThanEquals"

abbrev pub operand_name : Operand → List ℕ
operand_name (Constant v) = []
operand_name (Found path) = codes "Path"

abbrev pub operand_value : Operand → Json
operand_value (Constant v) = v
operand_value (Found path) = path_value path

abbrev pub op_key : rule_op.Op → List ℕ
op_key (ops.Compare c) = kind_name c.kind ++ rel_name c.rel ++ operand_name c.operand
op_key (ops.Matches pattern) = codes "StringMatches"
op_key (ops.IsNull flag) = codes "IsNull"
op_key (ops.IsPresent flag) = codes "IsPresent"
op_key (ops.IsNumeric flag) = codes "IsNumeric"
op_key (ops.IsString flag) = codes "IsString"
op_key (ops.IsBoolean flag) = codes "IsBoolean"

abbrev pub op_value : rule_op.Op → Json
op_value (ops.Compare c) = operand_value c.operand
op_value (ops.Matches pattern) = json.Str (pattern_text pattern)
op_value (ops.IsNull flag) = json.Bool flag
op_value (ops.IsPresent flag) = json.Bool flag
op_value (ops.IsNumeric flag) = json.Bool flag
op_value (ops.IsString flag) = json.Bool flag
op_value (ops.IsBoolean flag) = json.Bool flag

abbrev pub rule_step : Rule-F Fields → Fields
rule_step (Rule-F.Test variable op) = with_rows [] (there (op_key op) (op_value op) ∷ there (codes "Variable") (path_value variable) ∷ [])
rule_step (Rule-F.And rules) = (codes "And", json.Arr (map json.Obj rules)) ∷ []
rule_step (Rule-F.Or rules) = (codes "Or", json.Arr (map json.Obj rules)) ∷ []
rule_step (Rule-F.Not rule) = (codes "Not", json.Obj rule) ∷ []

abbrev pub rule_fields : Rule → Fields
rule_fields = fold-Rule Fields rule_step

-- a rule with the number of the node that it leads to
abbrev pub node_rule_value : NodeRule → Json
node_rule_value r = json.Obj (with_key (codes "Next") (number_value r.next) (rule_fields r.rule))

-- ---------------------------------------------------------------- parts of a node

abbrev pub flow : Stages → List Row
flow s =
    (codes "InputPath", unless_root s.input) ∷ (codes "OutputPath", unless_root s.output) ∷ (codes "ResultPath", unless_root s.result)
    ∷ (codes "Parameters", template_value s.parameters) ∷ (codes "ResultSelector", template_value s.selector) ∷ []

abbrev pub retrier_value : Retrier → Json
retrier_value r = object_of (there (codes "errors") (texts_value r.errors) ∷ there (codes "most") (number_value r.most) ∷ [])

abbrev pub catcher_value : NodeCatcher → Json
catcher_value c =
    object_of (there (codes "errors") (texts_value c.errors) ∷ there (codes "next") (number_value c.next)
    ∷ (codes "result", unless_root c.result) ∷ [])

abbrev pub care_rows : NodeCare → List Row
care_rows c = (codes "retry", unless_none (map retrier_value c.retry)) ∷ (codes "catch", unless_none (map catcher_value c.catch)) ∷ []

-- the function of a Task or a fan, what follows it, and its care
abbrev pub called : (func : ℕ) → (next : Option ℕ) → NodeCare → List Row
called func next c = there (codes "func") (number_value func) ∷ there (codes "next") (number_or_null next) ∷ care_rows c

abbrev pub scopes_value : List ℕ → Json
scopes_value ks = json.Arr (map number_value ks)

-- ---------------------------------------------------------------- nodes, functions and scopes

abbrev pub op_name : Op → List ℕ
op_name (PassOp shape result next) = codes "pass"
op_name (ChoiceOp shape rules default) = codes "choice"
op_name (SucceedOp shape) = codes "succeed"
op_name (FailOp error cause) = codes "fail"
op_name (TaskOp shape func next care) = codes "task"
op_name (ParallelOp shape func next care scopes) = codes "parallel"
op_name (MapOp shape func next care scope items selector limit) = codes "map"

-- it is a Parallel or a Map
abbrev pub IsFan : Op → Type 0
IsFan (ParallelOp shape func next care scopes) = Unit {0}
IsFan (MapOp shape func next care scope items selector limit) = Unit {0}
IsFan _ = ⊥

abbrev pub op_rows : Op → List Row
op_rows (PassOp shape result next) = flow shape ++ ((codes "Result", result) ∷ there (codes "next") (number_or_null next) ∷ [])
op_rows (ChoiceOp shape rules default) = flow shape
    ++ (there (codes "rules") (json.Arr (map node_rule_value rules)) ∷ there (codes "default") (number_or_null default) ∷ [])
op_rows (SucceedOp shape) = flow shape
op_rows (FailOp error cause) = there (codes "error") (json.Str error) ∷ there (codes "cause") (json.Str cause) ∷ []
op_rows (TaskOp shape func next care) = flow shape ++ called func next care
op_rows (ParallelOp shape func next care scopes) = flow shape ++ called func next care
    ++ (there (codes "scopes") (scopes_value scopes) ∷ [])
op_rows (MapOp shape func next care scope items selector limit) =
    flow shape ++ called func next care
    ++ (there (codes "scopes") (scopes_value (scope ∷ [])) ∷ there (codes "items") (path_value items)
    ∷ (codes "selector", template_value selector) ∷ (codes "limit", unless_zero limit) ∷ [])

abbrev pub node_value : Node → Json
node_value n =
    object_of (there (codes "name") (json.Str n.name) ∷ there (codes "op") (json.Str (op_name n.op))
    ∷ there (codes "scope") (number_value n.scope) ∷ op_rows n.op)

abbrev pub func_rows : Func → List Row
func_rows (EnterFunc scope) = there (codes "kind") (json.Str (codes "enter")) ∷ there (codes "scope") (number_value scope) ∷ []
func_rows (TaskFunc node resource) = there (codes "kind") (json.Str (codes "task")) ∷ there (codes "node") (number_value node)
    ∷ there (codes "resource") (json.Str resource) ∷ []
func_rows (JoinFunc node) = there (codes "kind") (json.Str (codes "join")) ∷ there (codes "node") (number_value node) ∷ []

abbrev pub func_value : Func → Json
func_value f = object_of (func_rows f)

abbrev pub scope_value : Scope → Json
scope_value s = object_of (there (codes "parent") (number_or_null s.parent) ∷ there (codes "start") (number_value s.start) ∷ [])

-- the whole: the three tables, in full
abbrev pub ir_value : Ir → Json
ir_value ir =
    object_of (there (codes "funcs") (json.Arr (map func_value ir.funcs)) ∷ there (codes "nodes") (json.Arr (map node_value ir.nodes))
    ∷ there (codes "scopes") (json.Arr (map scope_value ir.scopes)) ∷ [])
