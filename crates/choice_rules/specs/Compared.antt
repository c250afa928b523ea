-- A comparison with its operand, and which of them there may be.
use Rattle.std.specs.Prelude.{Bool, true, false, ◌&&◌}
use Rattle.unum_json.specs.declared.value.Json.{Json, out-Json}
use Rattle.unum_json.specs.declared.value.Json.TheOpen.{Json-F}
use Rattle.choice_rules.specs.declared.comparison.OpKind.{OpKind}
use Rattle.choice_rules.specs.declared.comparison.OpKind.TheVariants.{Text, Number, Truth}
use Rattle.choice_rules.specs.declared.comparison.Rel.{Rel}
use Rattle.choice_rules.specs.declared.comparison.Rel.TheVariants.{Equal}
use Rattle.choice_rules.specs.declared.comparison.Operand.{Operand}
use Rattle.choice_rules.specs.declared.comparison.Operand.TheVariants.{Constant, Found}

pub record Compared : Type 0 where
  pub kind : OpKind
  pub rel : Rel
  pub operand : Operand

-- a truth value stands with Equal alone
abbrev pub is_allowed : OpKind → Rel → Bool
is_allowed Truth Equal = true
is_allowed Truth _ = false
is_allowed _ _ = true

-- a text, a number or a truth value
abbrev pub is_of_kind : OpKind → Json-F Json → Bool
is_of_kind Text (Json-F.Str s) = true
is_of_kind Number (Json-F.Int n) = true
is_of_kind Truth (Json-F.Bool b) = true
is_of_kind _ _ = false

-- an operand that is a value has the type of its kind
abbrev pub is_operand_of : OpKind → Operand → Bool
is_operand_of kind (Constant v) = is_of_kind kind (out-Json v)
is_operand_of kind (Found path) = true

abbrev pub is_sound : OpKind → Rel → Operand → Bool
is_sound kind rel operand = is_allowed kind rel && is_operand_of kind operand
