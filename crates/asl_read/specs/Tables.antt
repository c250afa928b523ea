-- The table of fields: for each kind of object its keys, which of them have to be there, and how their values are read.
-- Source: Amazon States Language, "Structure of a State Machine", the table of fields in "State Types", "Errors" and "Choice State".
use Rattle.std.specs.Prelude.{List, [], ◌∷◌, ◌++◌, map, codes}
use Rattle.asl_read.specs.Objects.{Key, Row, required_unless, not_beside, must, may, how_at}
use Rattle.asl_read.specs.Choices.{operators, joins}
use Rattle.asl_read.specs.declared.objects.LeftOut.{LeftOut}
use Rattle.asl_read.specs.declared.objects.LeftOut.TheVariants as left
use Rattle.asl_read.specs.declared.table.How.{How}
use Rattle.asl_read.specs.declared.table.How.TheVariants.{Unread, Text, Truth, Whole, Data, Language, Mode, Path, PathOrNull, Template, ItemTemplate, Texts, Object, Each, States}
use Rattle.asl_read.specs.declared.table.Kind.{Kind}
use Rattle.asl_read.specs.declared.table.Kind.TheVariants.{Machine, Branch, ItemBody, ProcessorConfig, State, Retrier, Catcher, TopRule, InnerRule, FlatRule}
use Rattle.asl_read.specs.declared.table.StateType.{StateType}
use Rattle.asl_read.specs.declared.table.StateType.TheVariants as state
use Rattle.asl_read.specs.declared.table.Operator.{Operator}
use Rattle.asl_read.specs.declared.table.Operator.TheVariants as op

abbrev pub Fields : Type 0
Fields = List (Row How)

-- ---------------------------------------------------------------- groups of fields

abbrev pub block : Fields
block = must (codes "StartAt") Text ∷ must (codes "States") States ∷ may (codes "Comment") Unread ∷ []

-- of every state; the Type was read before
abbrev pub common : Fields
common = may (codes "Type") Unread ∷ may (codes "Comment") Unread ∷ may (codes "QueryLanguage") Language ∷ []

abbrev pub in_out : Fields
in_out = may (codes "InputPath") PathOrNull ∷ may (codes "OutputPath") PathOrNull ∷ []

abbrev pub result_path : Fields
result_path = may (codes "ResultPath") PathOrNull ∷ []

abbrev pub parameters : Fields
parameters = may (codes "Parameters") Template ∷ []

abbrev pub selector : Fields
selector = may (codes "ResultSelector") Template ∷ []

abbrev pub onward : Fields
onward = may (codes "Next") Text ∷ may (codes "End") Truth ∷ []

abbrev pub care : Fields
care = may (codes "Retry") (Each Retrier) ∷ may (codes "Catch") (Each Catcher) ∷ []

-- ---------------------------------------------------------------- states

abbrev pub state_fields : StateType → Fields
state_fields state.Task =
    common ++ (must (codes "Resource") Text ∷ []) ++ in_out ++ parameters ++ selector ++ result_path ++ onward ++ care
    ++ (may (codes "TimeoutSeconds") Unread ∷ may (codes "HeartbeatSeconds") Unread ∷ [])
state_fields state.Pass = common ++ (may (codes "Result") Data ∷ []) ++ in_out ++ parameters ++ result_path ++ onward
state_fields state.Choice = common ++ (must (codes "Choices") (Each TopRule) ∷ may (codes "Default") Text ∷ []) ++ in_out
state_fields state.Succeed = common ++ in_out
state_fields state.Fail = common ++ (may (codes "Error") Text ∷ may (codes "Cause") Text ∷ [])
state_fields state.Parallel = common ++ (must (codes "Branches") (Each Branch) ∷ []) ++ in_out ++ parameters ++ selector
    ++ result_path ++ onward ++ care
state_fields state.Map =
    common
    ++ (record { key = codes "ItemProcessor"; need = required_unless (codes "Iterator" ∷ []); how = Object ItemBody } ∷ [])
    ++ (record { key = codes "Iterator"; need = not_beside (codes "ItemProcessor"); how = Object ItemBody } ∷ [])
    ++ (may (codes "ItemsPath") Path ∷ may (codes "ItemSelector") ItemTemplate ∷ [])
    ++ (record { key = codes "Parameters"; need = not_beside (codes "ItemSelector"); how = ItemTemplate } ∷ [])
    ++ (may (codes "MaxConcurrency") Whole ∷ []) ++ in_out ++ selector ++ result_path ++ onward ++ care

-- ---------------------------------------------------------------- choice rules

-- how the value of an operator is read
abbrev pub operand : Operator → How
operand (op.Text rel) = Text
operand (op.TextAt rel) = Path
operand (op.Number rel) = Whole
operand (op.NumberAt rel) = Path
operand op.Truth = Truth
operand op.TruthAt = Path
operand op.Matches = Text
operand _ = Truth

abbrev pub rule : Fields
rule =
    (may (codes "And") (Each InnerRule) ∷ may (codes "Or") (Each InnerRule) ∷ may (codes "Not") (Object InnerRule) ∷ [])
    ++ (record { key = codes "Variable"; need = required_unless joins; how = Path } ∷ may (codes "Comment") Unread ∷ [])
    ++ map (λ (o : Key × Operator). may o.0 (operand o.1)) operators

-- ---------------------------------------------------------------- the table

abbrev pub table : Kind → Fields
table Machine = block ++ (may (codes "QueryLanguage") Language ∷ may (codes "TimeoutSeconds") Unread ∷ may (codes "Version") Unread ∷ [])
table Branch = block
table ItemBody = block ++ (may (codes "ProcessorConfig") (Object ProcessorConfig) ∷ [])
table ProcessorConfig = may (codes "Mode") Mode ∷ []
table (State type) = state_fields type
table Retrier =
    (must (codes "ErrorEquals") Texts ∷ may (codes "MaxAttempts") Whole ∷ may (codes "IntervalSeconds") Unread
    ∷ may (codes "BackoffRate") Unread ∷ [])
    ++ (may (codes "MaxDelaySeconds") Unread ∷ may (codes "JitterStrategy") Unread ∷ may (codes "Comment") Unread ∷ [])
table Catcher = must (codes "ErrorEquals") Texts ∷ must (codes "Next") Text ∷ may (codes "ResultPath") PathOrNull
    ∷ may (codes "Comment") Unread ∷ []
table TopRule = must (codes "Next") Text ∷ rule
table InnerRule = may (codes "Next") Text ∷ rule
table FlatRule = must (codes "Next") Whole ∷ rule

-- which other fields are left out by name
abbrev pub others : Kind → LeftOut
others ProcessorConfig = left.Everything
others TopRule = left.Operators
others InnerRule = left.Operators
others FlatRule = left.Operators
others _ = left.Names

-- how the value of a field is read; nothing depends on a key that is not in the table
abbrev pub how_in : Kind → Key → How
how_in kind = how_at (table kind) Unread

-- the state types, by their names
abbrev pub state_types : List (Key × StateType)
state_types =
    (codes "Task", state.Task) ∷ (codes "Pass", state.Pass) ∷ (codes "Choice", state.Choice) ∷ (codes "Succeed", state.Succeed)
    ∷ (codes "Fail", state.Fail) ∷ (codes "Parallel", state.Parallel) ∷ (codes "Map", state.Map) ∷ []
