use Rattle.std.proofs.Common.{◌≡◌, ℕ, List, Bool, IsTrue, refl, ap, sym, subst, ◌∙◌}
use Rattle.std.specs.Prelude.{ℤ}
use Rattle.unum_json.specs.declared.value.Json.{Json, Str, Int, out-Json}
use Rattle.unum_json.specs.declared.value.Json as json
use Rattle.unum_json.proofs.Laws.{out-Str, out-Int, out-Bool}
use Rattle.choice_rules.specs.Compared.{is_of_kind}
use Rattle.choice_rules.specs.declared.comparison.OpKind.TheVariants as kind
use Rattle.asl_read.proofs.rules.op_by.Goals as goal

of_text : (v : Json) (t : List ℕ) → v ≡ Str t → IsTrue (is_of_kind kind.Text (out-Json v))
of_text v t e = subst (λ z. IsTrue (is_of_kind kind.Text z)) (sym (ap out-Json e ∙ out-Str t)) refl

of_number : (v : Json) (n : ℤ) → v ≡ Int n → IsTrue (is_of_kind kind.Number (out-Json v))
of_number v n e = subst (λ z. IsTrue (is_of_kind kind.Number z)) (sym (ap out-Json e ∙ out-Int n)) refl

of_truth : (v : Json) (b : Bool) → v ≡ json.Bool b → IsTrue (is_of_kind kind.Truth (out-Json v))
of_truth v b e = subst (λ z. IsTrue (is_of_kind kind.Truth z)) (sym (ap out-Json e ∙ out-Bool b)) refl

pub compared-requires : goal.compared-requires
compared-requires c = of_text _ _ c.string.ensures

pub compared-requires-in-Number : goal.compared-requires-in-Number
compared-requires-in-Number c = of_number _ _ c.whole.ensures

pub compared-requires-in-Truth : goal.compared-requires-in-Truth
compared-requires-in-Truth c = of_truth _ _ c.truth.ensures
