-- An attempt makes a step or takes an answer, and never may do both.
use Rattle.std.proofs.Common.{ℕ, ◌≡◌, refl, Bool, true, false, ◌&&◌, slice_get, Option, Some, None}
use Rattle.world_model.specs.AnyCode.Operations.{Invocation}
use Rattle.world_model.specs.AnyCode.Program.{Doing, Do, Ask, Nothing, next_of}
use Rattle.world_model.specs.AnyCode.World.{Attempt, Step, Answer, World, Codes, code_of, enabled, is_do, is_ask, att_lets}
use Rattle.world_model.proofs.Keeps.{and_parts}

module _ {M S B : Type 0} (codes : Codes S) (w : World M S B) where
  not_both : (d : Doing S B) → is_do d ≡ true → is_ask d ≡ false
  not_both (Do op) e = refl
  not_both (Ask r x) e = absurd (cc)
  not_both Nothing e = refl

  abbrev may : (Doing S B → Bool) → Attempt → Option (Invocation S) → Bool
  may p t z = elim z [ None ↦ false | Some i ↦ p (next_of (code_of codes i) i t.phase) ]

  inv_not : (t : Attempt) (z : Option (Invocation S)) → may is_do t z ≡ true → may is_ask t z ≡ false
  inv_not t None e = refl
  inv_not t (Some i) e = not_both (next_of (code_of codes i) i t.phase) e

  none_of : (b c : Bool) → c ≡ false → b && c ≡ false
  none_of true c e = e
  none_of false c e = refl

  att_not : (x : Option Attempt) → att_lets codes w is_do x ≡ true → att_lets codes w is_ask x ≡ false
  att_not None e = refl
  att_not (Some t) e =
      none_of t.live (may is_ask t (slice_get w.invs t.inv)) (inv_not t (slice_get w.invs t.inv) (and_parts t.live (may is_do t (slice_get w.invs t.inv)) e).1)

  pub step_or_answer : (a : ℕ) → enabled codes w (Step a) ≡ true → enabled codes w (Answer a) ≡ false
  unfolding enabled
  step_or_answer a e = att_not (slice_get w.atts a) e
