-- The rule of a Choice that a value spells.
-- Source: Amazon States Language, "Choice State".
use Rattle.std.specs.Prelude.{ℕ, true, List, [], ◌∷◌, map, codes, Option, Some, None, option_map, unwrap_or}
use Rattle.std.specs.Borrow.{Bor}
use Rattle.serde_json.specs.Data.{Data, null, boolean, number, string, array, object, Items, no_items, item, Members, no_members, member}
use Rattle.serde_json.specs.Find.{get}
use Rattle.unum_json.specs.declared.value.Json as json
use Rattle.asl_model.specs.declared.machine.TopRule.{TopRule}
use Rattle.choice_rules.specs.Patterns.{pattern_of}
use Rattle.choice_rules.specs.declared.comparison.OpKind.TheVariants as kind
use Rattle.choice_rules.specs.declared.comparison.Rel.TheVariants.{Equal}
use Rattle.choice_rules.specs.declared.comparison.Operand.TheVariants.{Constant, Found}
use Rattle.choice_rules.specs.declared.rule.Op.{Op}
use Rattle.choice_rules.specs.declared.rule.Op.TheVariants as ops
use Rattle.choice_rules.specs.declared.rule.Rule.{Rule}
use Rattle.choice_rules.specs.declared.rule.Rule as rules
use Rattle.asl_read.specs.Objects.{Key}
use Rattle.asl_read.specs.Choices.{Operators, operators}
use Rattle.asl_read.specs.Parts.{text_of, truth_of, whole_of, path_at, path_in, text_in}
use Rattle.asl_read.specs.Found.{find}
use Rattle.asl_read.specs.declared.table.Operator.{Operator}
use Rattle.asl_read.specs.declared.table.Operator.TheVariants.{Text, TextAt, Number, NumberAt, Truth, TruthAt, Matches, IsNull, IsPresent, IsNumeric, IsString, IsBoolean}

-- what an operator asks for, by the value at its key
abbrev pub op_by : Operator → Data → Op
op_by (Text rel) v = ops.Compare (record { kind = kind.Text; rel = rel; operand = Constant (json.Str (text_of v)) })
op_by (TextAt rel) v = ops.Compare (record { kind = kind.Text; rel = rel; operand = Found (path_at v) })
op_by (Number rel) v = ops.Compare (record { kind = kind.Number; rel = rel; operand = Constant (json.Int (whole_of v)) })
op_by (NumberAt rel) v = ops.Compare (record { kind = kind.Number; rel = rel; operand = Found (path_at v) })
op_by Truth v = ops.Compare (record { kind = kind.Truth; rel = Equal; operand = Constant (json.Bool (truth_of v)) })
op_by TruthAt v = ops.Compare (record { kind = kind.Truth; rel = Equal; operand = Found (path_at v) })
op_by Matches v = ops.Matches (unwrap_or (pattern_of (text_of v)) [])
op_by IsNull v = ops.IsNull (truth_of v)
op_by IsPresent v = ops.IsPresent (truth_of v)
op_by IsNumeric v = ops.IsNumeric (truth_of v)
op_by IsString v = ops.IsString (truth_of v)
op_by IsBoolean v = ops.IsBoolean (truth_of v)

-- a row of the code
abbrev pub named_operator : Bor (List ℕ) × Operator → Key × Operator
named_operator row = (row.0.now, row.1)

-- the operator that stands in a rule
abbrev pub op_in : Operators → Data → Op
op_in [] d = ops.IsPresent true
op_in (o ∷ os) d = elim (get o.0 d) [ Some v ↦ op_by o.1 v | None ↦ op_in os d ]

-- what stands for a rule that is malformed
abbrev pub no_rule : Rule
no_rule = rules.Test [] (ops.IsPresent true)

abbrev pub one_or_more : (List Rule → Rule) → List Rule → Rule
one_or_more make [] = no_rule
one_or_more make (r ∷ rs) = make (r ∷ rs)

-- the rule of an object, by what stands at its And, Or and Not
abbrev pub rule_by : Data → (every some : Option (List Rule)) → (other : Option Rule) → Rule
rule_by d (Some rs) some other = one_or_more rules.And rs
rule_by d None (Some rs) other = one_or_more rules.Or rs
rule_by d None None (Some r) = rules.Not r
rule_by d None None None = rules.Test (path_in (codes "Variable") d) (op_in operators d)

-- a value as a rule, and its items as rules
pub record Ruled : Type 0 where
  pub rule : Rule
  pub rules : List Rule

abbrev pub rules_at : Key → List (Key × Ruled) → Option (List Rule)
rules_at k members = option_map (λ (r : Ruled). r.rules) (find k members)

abbrev pub rule_at : Key → List (Key × Ruled) → Option Rule
rule_at k members = option_map (λ (r : Ruled). r.rule) (find k members)

abbrev pub ruled_by : Data → (items : List Ruled) → (members : List (Key × Ruled)) → Ruled
ruled_by d items members = record {
  rule = rule_by d (rules_at (codes "And") members) (rules_at (codes "Or") members) (rule_at (codes "Not") members);
  rules = map (λ (r : Ruled). r.rule) items;
}

abbrev mutual
  pub ruled : Data → Ruled
  ruled null = ruled_by null [] []
  ruled (boolean b) = ruled_by (boolean b) [] []
  ruled (number n) = ruled_by (number n) [] []
  ruled (string s) = ruled_by (string s) [] []
  ruled (array ds) = ruled_by (array ds) (ruled_items ds) []
  ruled (object ms) = ruled_by (object ms) [] (ruled_members ms)

  pub ruled_items : Items → List Ruled
  ruled_items no_items = []
  ruled_items (item d ds) = ruled d ∷ ruled_items ds

  pub ruled_members : Members → List (Key × Ruled)
  ruled_members no_members = []
  ruled_members (member k d ms) = (k, ruled d) ∷ ruled_members ms

-- the rule that a value spells
abbrev pub rule_of : Data → Rule
rule_of d = (ruled d).rule

-- the rules that an array's items spell
abbrev pub rules_of : Data → List Rule
rules_of d = (ruled d).rules

-- a rule of Choices, with the state that it leads to
abbrev pub top_rule_of : Data → TopRule
top_rule_of d = record { rule = rule_of d; next = text_in (codes "Next") d }
