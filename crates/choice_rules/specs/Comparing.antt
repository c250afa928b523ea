-- How two values are compared.
-- Source: Amazon States Language, "Choice State".
use Rattle.std.specs.Prelude.{Bool, false}
use Rattle.std.specs.Bool.{beq}
use Rattle.std.specs.Cmp.Lexicographic.{slice_cmp}
use Rattle.std.specs.Ordering.{nat_cmp, int_cmp, is_eq, is_lt, is_le, is_gt, is_ge}
use Rattle.std.specs.declared.cmp.Ordering.{Ordering}
use Rattle.unum_json.specs.declared.value.Json.{Json, out-Json}
use Rattle.unum_json.specs.declared.value.Json.TheOpen.{Json-F}
use Rattle.choice_rules.specs.declared.comparison.OpKind.{OpKind}
use Rattle.choice_rules.specs.declared.comparison.OpKind.TheVariants.{Text, Number, Truth}
use Rattle.choice_rules.specs.declared.comparison.Rel.{Rel}
use Rattle.choice_rules.specs.declared.comparison.Rel.TheVariants.{Equal, Less, LessEqual, Greater, GreaterEqual}

-- whether two values in this order stand so
abbrev pub holds : Rel → Ordering → Bool
holds Equal = is_eq
holds Less = is_lt
holds LessEqual = is_le
holds Greater = is_gt
holds GreaterEqual = is_ge

-- Both have the operator's type and stand so. Texts are ordered by their UTF-8 bytes. Truth values are equal or not.
abbrev pub relates_at : OpKind → Rel → Json-F Json → Json-F Json → Bool
relates_at Text rel (Json-F.Str a) (Json-F.Str b) = holds rel (slice_cmp nat_cmp a b)
relates_at Number rel (Json-F.Int a) (Json-F.Int b) = holds rel (int_cmp a b)
relates_at Truth rel (Json-F.Bool a) (Json-F.Bool b) = beq a b
relates_at _ _ _ _ = false

abbrev pub relates : OpKind → Rel → Json → Json → Bool
relates kind rel a b = relates_at kind rel (out-Json a) (out-Json b)
