-- Flat code is judged in one way.
use Rattle.std.proofs.Common.{◌≡◌, ℕ, Bool, true, false, List, [], length, nat_lt, Option, Some, None, Result, Ok, Err, sym, ap, subst, ◌∙◌}
use Rattle.serde_json.specs.Data.{Data}
use Rattle.unum_json.specs.Reading.{reading}
use Rattle.unum_json.specs.Whole.{Place}
use Rattle.asl_read.specs.Objects.{Broken}
use Rattle.unum_ir.specs.declared.ir.Ir.{Ir}
use Rattle.ir_text.specs.Reads.{IsPrinted, IsFirst, first_place, malformed, not_canonical, out_of_range}
use Rattle.ir_text.specs.declared.fault.IRule.{IRule}
use Rattle.ir_text.specs.declared.fault.IRule.TheVariants.{I1, I2, I3, I4}
use Rattle.bundle_read.specs.declared.refusal.RuleCode.TheVariants.{Flat}
use Rattle.bundle_read.specs.declared.refusal.Refusal.{Refusal}
use Rattle.bundle_read.specs.declared.refusal.Refusal.TheVariants.{One}
use Rattle.unum_cli.specs.FlatCode.{JudgesValue, JudgesParsed, JudgesBytes, JudgesFlat, JudgesOnce}

none_first : (bs : List Broken) (at : Place) → bs ≡ [] → first_place bs ≡ Some at → ⊥
none_first bs at e h =
    let none : Option Place = None in
    let g : none ≡ Some at = subst (λ x. first_place x ≡ Some at) e h in cc

one_place : (bs : List Broken) (a b : Place) → first_place bs ≡ Some a → first_place bs ≡ Some b → a ≡ b
one_place bs a b h g = let e : Some a ≡ Some b = sym h ∙ g in cc

first_once : (r s : IRule) (a b : Place) (d : Data) → IsFirst r a d → IsFirst s b d → One (Flat r) a ≡ One (Flat s) b
first_once I1 I1 a b d h g = ap (λ p. One (Flat I1) p) (one_place (malformed d) a b h g)
first_once I1 I2 a b d h g = absurd (none_first (malformed d) a g.0 h)
first_once I1 I3 a b d h g = absurd (none_first (malformed d) a g.0 h)
first_once I1 I4 a b d h g = absurd (none_first (malformed d) a g.0 h)
first_once I2 I1 a b d h g = absurd (none_first (malformed d) b h.0 g)
first_once I2 I2 a b d h g = ap (λ p. One (Flat I2) p) (one_place (not_canonical d) a b h.1 g.1)
first_once I2 I3 a b d h g = absurd (none_first (not_canonical d) a g.1 h.1)
first_once I2 I4 a b d h g = absurd (none_first (not_canonical d) a g.1 h.1)
first_once I3 I1 a b d h g = absurd (none_first (malformed d) b h.0 g)
first_once I3 I2 a b d h g = absurd (none_first (not_canonical d) b h.1 g.1)
first_once I3 I3 a b d h g = ap (λ p. One (Flat I3) p) (one_place (out_of_range d) a b h.2 g.2)
first_once I3 I4 a b d h g = absurd (none_first (out_of_range d) a g.2 h.2)
first_once I4 I1 a b d h g = absurd (none_first (malformed d) b h.0 g)
first_once I4 I2 a b d h g = absurd (none_first (not_canonical d) b h.1 g.1)
first_once I4 I3 a b d h g = absurd (none_first (out_of_range d) b h.2 g.2)
first_once I4 I4 a b d h g = ap (λ p. One (Flat I4) p) (h.3 ∙ sym g.3)

value_once : (made other : Result Ir Refusal) (d : Data) → JudgesValue made d → JudgesValue other d → made ≡ other
value_once (Ok x) (Ok y) d h g = let as_ok : Ir → Result Ir Refusal = λ ir. Ok ir in ap as_ok (h.0 ∙ sym g.0)
value_once (Ok x) (Err r) d h g = absurd (g.breaks.0 (subst (λ ir. IsPrinted ir d) h.0 h.1))
value_once (Err r) (Ok y) d h g = absurd (h.breaks.0 (subst (λ ir. IsPrinted ir d) g.0 g.1))
value_once (Err r) (Err s) d h g = let as_err : Refusal → Result Ir Refusal = λ e. Err e in ap as_err (h.is ∙ first_once h.rule g.rule h.at g.at d h.breaks.1 g.breaks.1 ∙ sym g.is)

parsed_once : (made other : Result Ir Refusal) (o : Option Data) → JudgesParsed made o → JudgesParsed other o → made ≡ other
parsed_once made other None h g = h ∙ sym g
parsed_once made other (Some d) h g = value_once made other d h g

bytes_once : (too_many : Bool) (made other : Result Ir Refusal) (bytes : List ℕ) → JudgesBytes too_many made bytes → JudgesBytes too_many other bytes → made ≡ other
bytes_once true made other bytes h g = h ∙ sym g
bytes_once false made other bytes h g = parsed_once made other (reading bytes) h g

pub judged_once : JudgesOnce
unfolding JudgesFlat
judged_once made other bytes h g = bytes_once (nat_lt 4194304 (length bytes)) made other bytes h g
