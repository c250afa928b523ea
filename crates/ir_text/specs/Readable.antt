-- Flat forms whose parts can be spelled and read, as the types of the code keep them.
use Rattle.std.specs.Prelude.{◌≡◌, ℕ, ◌≤◌, Bool, true, false, nat_lt, ◌&&◌, IsTrue, List, [], ◌∷◌, length, Option, Some, None}
use Rattle.std.specs.List.{AllByRecursion, list_all, flat_map}
use Rattle.asl_paths.specs.declared.path.Path.{Path}
use Rattle.asl_paths.specs.declared.template.Template.{Template}
use Rattle.asl_paths.specs.Canonical.{IsTemplate}
use Rattle.asl_paths.specs.Steps.{IsPath}
use Rattle.asl_shape.specs.Stages.{Stages}
use Rattle.asl_model.specs.Shapes.{HasNoSelector, HasPathsOnly, HasNoParameters}
use Rattle.asl_model.specs.declared.machine.Retrier.{Retrier}
use Rattle.choice_rules.specs.Compared.{is_sound}
use Rattle.choice_rules.specs.PatternTexts.{IsPattern}
use Rattle.choice_rules.specs.declared.comparison.Operand.{Operand}
use Rattle.choice_rules.specs.declared.comparison.Operand.TheVariants.{Constant, Found}
use Rattle.choice_rules.specs.declared.rule.Op as rule_op
use Rattle.choice_rules.specs.declared.rule.Op.TheVariants as ops
use Rattle.choice_rules.specs.declared.rule.Rule.{Rule, fold-Rule}
use Rattle.choice_rules.specs.declared.rule.Rule.TheOpen.{Rule-F}
use Rattle.ir_text.specs.Flat.{Ir, Node, NodeRule, NodeCare, NodeCatcher, Scope, Op, PassOp, ChoiceOp, SucceedOp, FailOp, TaskOp, ParallelOp, MapOp, Func, EnterFunc, TaskFunc, JoinFunc}

-- ---------------------------------------------------------------- parts

-- a number of 32 bits
abbrev pub Fits : ℕ → Type 0
Fits n = n ≤ 4294967295

abbrev pub FitsIfAny : Option ℕ → Type 0
FitsIfAny None = Unit {0}
FitsIfAny (Some n) = Fits n

abbrev pub IsPathIfAny : Option Path → Type 0
IsPathIfAny None = Unit {0}
IsPathIfAny (Some path) = IsPath path

-- the template was read from its source, with the paths into an item or without them
pub record IsRead (item : Bool) (t : Template) : Type 0 where
  pub kind : t.item ≡ item
  pub back : IsTemplate t.fields item t.source

abbrev pub IsReadIfAny : (item : Bool) → Option Template → Type 0
IsReadIfAny item None = Unit {0}
IsReadIfAny item (Some t) = IsRead item t

pub record IsReadableShape (s : Stages) : Type 0 where
  pub input : IsPathIfAny s.input
  pub parameters : IsReadIfAny false s.parameters
  pub selector : IsReadIfAny false s.selector
  pub result : IsPathIfAny s.result
  pub output : IsPathIfAny s.output

-- ---------------------------------------------------------------- choice rules

-- a variable, and what is asked of it
abbrev pub Test : Type 0
Test = Path × rule_op.Op

abbrev pub tests_step : Rule-F (List Test) → List Test
tests_step (Rule-F.Test variable op) = (variable, op) ∷ []
tests_step (Rule-F.And tests) = flat_map (λ ts. ts) tests
tests_step (Rule-F.Or tests) = flat_map (λ ts. ts) tests
tests_step (Rule-F.Not tests) = tests

-- the tests of a rule
abbrev pub tests_of : Rule → List Test
tests_of = fold-Rule (List Test) tests_step

abbrev pub is_filled_step : Rule-F Bool → Bool
is_filled_step (Rule-F.Test variable op) = true
is_filled_step (Rule-F.And filled) = nat_lt 0 (length filled) && list_all (λ b. b) filled
is_filled_step (Rule-F.Or filled) = nat_lt 0 (length filled) && list_all (λ b. b) filled
is_filled_step (Rule-F.Not filled) = filled

-- each And and each Or has a rule
abbrev pub is_filled : Rule → Bool
is_filled = fold-Rule Bool is_filled_step

abbrev pub IsReadableOperand : Operand → Type 0
IsReadableOperand (Constant v) = Unit {0}
IsReadableOperand (Found path) = IsPath path

abbrev pub IsReadableTest : rule_op.Op → Type 0
IsReadableTest (ops.Compare c) = IsTrue (is_sound c.kind c.rel c.operand) × IsReadableOperand c.operand
IsReadableTest (ops.Matches pattern) = IsPattern pattern
IsReadableTest op = Unit {0}

pub record IsReadableRule (rule : Rule) : Type 0 where
  pub tests : AllByRecursion (λ (t : Test). IsPath t.0 × IsReadableTest t.1) (tests_of rule)
  pub filled : is_filled rule ≡ true

-- ---------------------------------------------------------------- nodes

pub record IsReadableNext (r : NodeRule) : Type 0 where
  pub rule : IsReadableRule r.rule
  pub next : Fits r.next

pub record IsReadableCatcher (c : NodeCatcher) : Type 0 where
  pub result : IsPathIfAny c.result
  pub next : Fits c.next

pub record IsReadableCare (care : NodeCare) : Type 0 where
  pub retry : AllByRecursion (λ (r : Retrier). Fits r.most) care.retry
  pub catch : AllByRecursion IsReadableCatcher care.catch

-- the function of a Task or a fan, what follows it, and its care
pub record IsReadableCall (number : ℕ) (after : Option ℕ) (c : NodeCare) : Type 0 where
  pub func : Fits number
  pub next : FitsIfAny after
  pub care : IsReadableCare c

pub record IsReadableMap (body : ℕ) (path : Path) (template : Option Template) (most : ℕ) : Type 0 where
  pub scope : Fits body
  pub items : IsPath path
  pub selector : IsReadIfAny true template
  pub limit : Fits most

abbrev pub IsReadableOp : Op → Type 0
IsReadableOp (PassOp shape result next) = IsReadableShape shape × HasNoSelector shape × FitsIfAny next
IsReadableOp (ChoiceOp shape rules default) = IsReadableShape shape × HasPathsOnly shape × AllByRecursion IsReadableNext rules
    × FitsIfAny default
IsReadableOp (SucceedOp shape) = IsReadableShape shape × HasPathsOnly shape
IsReadableOp (FailOp error cause) = Unit {0}
IsReadableOp (TaskOp shape func next care) = IsReadableShape shape × IsReadableCall func next care
IsReadableOp (ParallelOp shape func next care scopes) = IsReadableShape shape × IsReadableCall func next care × AllByRecursion Fits scopes
IsReadableOp (MapOp shape func next care scope items selector limit) =
    IsReadableShape shape × HasNoParameters shape × IsReadableCall func next care × IsReadableMap scope items selector limit

pub record IsReadableNode (n : Node) : Type 0 where
  pub scope : Fits n.scope
  pub op : IsReadableOp n.op

abbrev pub IsReadableFunc : Func → Type 0
IsReadableFunc (EnterFunc scope) = Fits scope
IsReadableFunc (TaskFunc node resource) = Fits node
IsReadableFunc (JoinFunc node) = Fits node

pub record IsReadableScope (s : Scope) : Type 0 where
  pub parent : FitsIfAny s.parent
  pub start : Fits s.start

-- Numbers have 32 bits, paths, templates and patterns can be read, rules hold rules, and a state has what its type may have.
pub record IsReadable (ir : Ir) : Type 0 where
  pub nodes : AllByRecursion IsReadableNode ir.nodes
  pub funcs : AllByRecursion IsReadableFunc ir.funcs
  pub scopes : AllByRecursion IsReadableScope ir.scopes
