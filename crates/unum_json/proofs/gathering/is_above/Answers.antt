use Rattle.std.proofs.Common.{◌≡◌, ◌-◌, List, [], ◌∷◌, ◌++◌, length, slice_get, Some, None, nat_cmp, Less, ap₂, sym, ◌∙◌, subst, arith}
use Rattle.std.specs.Cmp.Lexicographic.{slice_cmp}
use Rattle.std.specs.Map.{keys_of}
use Rattle.unum_json.specs.Keys.{IsRising}
use Rattle.unum_json.proofs.Pairs.{rising_last, rising_first}
use Rattle.unum_json.proofs.Views.{Entry}
use Rattle.unum_json.proofs.gathering.is_above.Goals as goal

pub returns-in_default-clause-above : goal.returns-in_default-clause-above
returns-in_default-clause-above c so =
    let es : List Entry = c.as_slice.result.now in
    let none : slice_get es (length es - 1) ≡ None = grind arith in
    subst (λ (es : List Entry). IsRising (keys_of es ++ c.args.key.now ∷ [])) c.as_slice.ensures.value (rising_first es c.args.key.now none)

pub returns-in-Less-clause-above : goal.returns-in-Less-clause-above
returns-in-Less-clause-above c so =
    let es : List Entry = c.as_slice.result.now in
    let last : slice_get es (length es - 1) ≡ Some c.in-Some.last.now = grind arith in
    let lt : slice_cmp nat_cmp c.in-Some.last.now.0 c.args.key.now ≡ Less = sym (ap₂ (slice_cmp nat_cmp) c.as_bytes.ensures c.as_bytes-2.ensures.value) ∙ sym c.cmp.ensures ∙ c.in-Less.is in
    subst (λ (es : List Entry). IsRising (keys_of es ++ c.args.key.now ∷ [])) c.as_slice.ensures.value (rising_last es c.in-Some.last.now c.args.key.now (subst (λ (es : List Entry). IsRising (keys_of es)) (sym c.as_slice.ensures.value) c.as_slice.ensures.rising) last lt)
