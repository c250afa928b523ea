-- The operators of choice rules, and which rules are malformed.
-- Source: Amazon States Language, "Choice State".
use Rattle.std.specs.Prelude.{ℕ, ◌==◌, Bool, true, false, not, ◌&&◌, ◌||◌, if◌then◌else◌, suc, List, [], ◌∷◌, codes, Option, Some, is_some}
use Rattle.std.specs.Str.{bytes_eq}
use Rattle.serde_json.specs.Data.{Data, array, string, no_items}
use Rattle.serde_json.specs.Find.{get}
use Rattle.choice_rules.specs.declared.comparison.Rel.TheVariants.{Equal, Less, LessEqual, Greater, GreaterEqual}
use Rattle.choice_rules.specs.Patterns.{pattern_of}
use Rattle.asl_read.specs.Objects.{Key, has, has_any, keys}
use Rattle.asl_read.specs.declared.table.Operator.{Operator}
use Rattle.asl_read.specs.declared.table.Operator.TheVariants.{Text, TextAt, Number, NumberAt, Truth, TruthAt, Matches, IsNull, IsPresent, IsNumeric, IsString, IsBoolean}

abbrev pub Operators : Type 0
Operators = List (Key × Operator)

abbrev pub operators : Operators
operators =
    (codes "StringEquals", Text Equal) ∷ (codes "StringLessThan", Text Less) ∷ (codes "StringLessThanEquals", Text LessEqual)
    ∷ (codes "StringGreaterThan", Text Greater) ∷ (codes "StringGreaterThanEquals", Text GreaterEqual)
    ∷ (codes "StringEqualsPath", TextAt Equal) ∷ (codes "StringLessThanPath", TextAt Less)
    ∷ (codes "StringLessThanEqualsPath", TextAt LessEqual)
    ∷ (codes "StringGreaterThanPath", TextAt Greater) ∷ (codes "StringGreaterThanEqualsPath", TextAt GreaterEqual)
    ∷ (codes "NumericEquals", Number Equal) ∷ (codes "NumericLessThan", Number Less) ∷ (codes "NumericLessThanEquals", Number LessEqual)
    ∷ (codes "NumericGreaterThan", Number Greater) ∷ (codes "NumericGreaterThanEquals", Number GreaterEqual)
    ∷ (codes "NumericEqualsPath", NumberAt Equal) ∷ (codes "NumericLessThanPath", NumberAt Less)
    ∷ (codes "NumericLessThanEqualsPath", NumberAt LessEqual)
    ∷ (codes "NumericGreaterThanPath", NumberAt Greater) ∷ (codes "NumericGreaterThanEqualsPath", NumberAt GreaterEqual)
    ∷ (codes "BooleanEquals", Truth) ∷ (codes "BooleanEqualsPath", TruthAt) ∷ (codes "StringMatches", Matches)
    ∷ (codes "IsNull", IsNull) ∷ (codes "IsPresent", IsPresent) ∷ (codes "IsNumeric", IsNumeric) ∷ (codes "IsString", IsString)
    ∷ (codes "IsBoolean", IsBoolean) ∷ []

-- a rule that joins others
abbrev pub joins : List Key
joins = codes "And" ∷ codes "Or" ∷ codes "Not" ∷ []

-- a field beside what the rule says: each other known key is And, Or, Not or an operator
abbrev pub is_beside : Key → Bool
is_beside k = bytes_eq k (codes "Comment") || bytes_eq k (codes "Next") || bytes_eq k (codes "Variable")

-- how many keys say what the rule is
abbrev pub count_heads : List Key → ℕ
count_heads [] = 0
count_heads (k ∷ ks) = if is_beside k then count_heads ks else suc (count_heads ks)

abbrev pub is_empty_array : Option Data → Bool
is_empty_array (Some (array no_items)) = true
is_empty_array _ = false

-- a text whose last backslash has no character that it makes literal
abbrev pub has_lone_backslash : Option Data → Bool
has_lone_backslash (Some (string t)) = not (is_some (pattern_of t))
has_lone_backslash _ = false

-- Not exactly one of And, Or, Not and the operators; an empty And or Or; Next in an inner rule; Variable beside And, Or
-- or Not; a lone backslash.
abbrev pub is_malformed : (inner : Bool) → Data → Bool
is_malformed inner d =
    not (count_heads (keys d) == 1)
    || is_empty_array (get (codes "And") d)
    || is_empty_array (get (codes "Or") d)
    || (inner && has (codes "Next") d)
    || (has_any joins d && has (codes "Variable") d)
    || has_lone_backslash (get (codes "StringMatches") d)
