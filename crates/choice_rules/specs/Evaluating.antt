-- What a rule answers for a value. A path that finds nothing is a failure.
-- Source: Amazon States Language, "Choice State".
use Rattle.std.specs.Prelude.{ℕ, ◌+◌, Bool, true, false, not, List, [], ◌∷◌, Option, Some, None, Result, Ok, Err}
use Rattle.std.specs.Bool.{beq}
use Rattle.std.specs.Str.{chars}
use Rattle.unum_json.specs.declared.value.Json.{Json, out-Json}
use Rattle.unum_json.specs.declared.value.Json.TheOpen.{Json-F}
use Rattle.asl_paths.specs.Lookup.{get}
use Rattle.choice_rules.specs.declared.comparison.Operand.{Operand}
use Rattle.choice_rules.specs.declared.comparison.Operand.TheVariants.{Constant, Found}
use Rattle.choice_rules.specs.declared.failure.PathFailure.{PathFailure}
use Rattle.choice_rules.specs.declared.pattern.Piece.{Piece}
use Rattle.choice_rules.specs.declared.rule.Op.{Op}
use Rattle.choice_rules.specs.declared.rule.Op.TheVariants.{Compare, Matches, IsNull, IsPresent, IsNumeric, IsString, IsBoolean}
use Rattle.choice_rules.specs.declared.rule.Rule.{Rule, fold-Rule}
use Rattle.choice_rules.specs.declared.rule.Rule.TheOpen.{Rule-F}
use Rattle.choice_rules.specs.Compared.{Compared}
use Rattle.choice_rules.specs.Comparing.{relates}
use Rattle.choice_rules.specs.Matching.{is_match}

abbrev pub Answer : Type 0
Answer = Result Bool PathFailure

abbrev pub failure : PathFailure
failure = record {}

abbrev pub is_null : Json-F Json → Bool
is_null Json-F.Null = true
is_null _ = false

abbrev pub is_numeric : Json-F Json → Bool
is_numeric (Json-F.Int n) = true
is_numeric _ = false

abbrev pub is_string : Json-F Json → Bool
is_string (Json-F.Str s) = true
is_string _ = false

abbrev pub is_boolean : Json-F Json → Bool
is_boolean (Json-F.Bool b) = true
is_boolean _ = false

abbrev pub is_text_of : List Piece → Json-F Json → Bool
is_text_of pattern (Json-F.Str s) = is_match pattern (chars s)
is_text_of pattern _ = false

-- what stands on the right of a comparison
abbrev pub operand_in : Json → Operand → Option Json
operand_in value (Constant v) = Some v
operand_in value (Found path) = get path value

abbrev pub compared : Compared → Json → Option Json → Answer
compared c x (Some y) = Ok (relates c.kind c.rel x y)
compared c x None = Err failure

-- what an operator answers for what the variable finds, where the path of an operand leads into the whole value
abbrev pub asked : Op → Json → Json → Answer
asked (Compare c) value x = compared c x (operand_in value c.operand)
asked (Matches pattern) value x = Ok (is_text_of pattern (out-Json x))
asked (IsNull flag) value x = Ok (beq (is_null (out-Json x)) flag)
asked (IsPresent flag) value x = Ok flag
asked (IsNumeric flag) value x = Ok (beq (is_numeric (out-Json x)) flag)
asked (IsString flag) value x = Ok (beq (is_string (out-Json x)) flag)
asked (IsBoolean flag) value x = Ok (beq (is_boolean (out-Json x)) flag)

-- where the variable finds nothing, IsPresent answers whether its flag is false, and each other operator fails
abbrev pub tested : Op → Json → Option Json → Answer
tested op value (Some x) = asked op value x
tested (IsPresent flag) value None = Ok (not flag)
tested op value None = Err failure

-- from the left up to the first that is false or fails
abbrev pub all_hold : List Answer → Answer
all_hold [] = Ok true
all_hold (Ok true ∷ answers) = all_hold answers
all_hold (Ok false ∷ answers) = Ok false
all_hold (Err e ∷ answers) = Err e

-- from the left up to the first that is true or fails
abbrev pub some_holds : List Answer → Answer
some_holds [] = Ok false
some_holds (Ok true ∷ answers) = Ok true
some_holds (Ok false ∷ answers) = some_holds answers
some_holds (Err e ∷ answers) = Err e

abbrev pub turned : Answer → Answer
turned (Ok b) = Ok (not b)
turned (Err e) = Err e

abbrev pub matches_step : Json → Rule-F Answer → Answer
matches_step value (Rule-F.Test variable op) = tested op value (get variable value)
matches_step value (Rule-F.And answers) = all_hold answers
matches_step value (Rule-F.Or answers) = some_holds answers
matches_step value (Rule-F.Not answer) = turned answer

-- whether a rule matches a value
abbrev pub matches : Rule → Json → Answer
matches rule value = fold-Rule Answer (matches_step value) rule

abbrev pub matches_in : Json → Rule → Answer
matches_in value rule = matches rule value

abbrev pub Choice : Type 0
Choice = Result (Option ℕ) PathFailure

abbrev pub chosen : Answer → ℕ → Choice → Choice
chosen (Ok true) i later = Ok (Some i)
chosen (Ok false) i later = later
chosen (Err e) i later = Err e

-- rules are tried in order, where the first has this index
abbrev pub choose_from : ℕ → List Rule → Json → Choice
choose_from i [] value = Ok None
choose_from i (rule ∷ rules) value = chosen (matches rule value) i (choose_from (i + 1) rules value)

-- the index of the first rule that matches, unless an earlier one fails
abbrev pub choose : List Rule → Json → Choice
choose rules value = choose_from 0 rules value

-- a fact of the index that was chosen
abbrev pub OnChosen : Choice → (ℕ → Type 0) → Type 0
OnChosen (Ok (Some i)) P = P i
OnChosen _ P = Unit {0}
