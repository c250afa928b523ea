-- Whether an attempt has a step or an answer to take, by whether it is at its call.
use Rattle.std.proofs.Common.{ℕ, ◌≡◌, ◌⊎◌, ◌↔◌, refl, sym, ap, ◌∙◌, inl, inr, Bool, true, false, not, ◌&&◌, List, slice_get, Some, None}
use Rattle.std.specs.Prelude.{IsTrue}
use Rattle.world_types.specs.declared.queue.Attempt.{Attempt}
use Rattle.world_model.specs.AnyCode.Code.{Code}
use Rattle.world_model.specs.AnyCode.Operations.{Invocation}
use Rattle.world_model.specs.AnyCode.Program.{Doing, Do, Ask, Nothing, next_of}
use Rattle.world_model.specs.AnyCode.World.{Step, Answer, code_of, att_lets, is_do, is_ask, enabled}
use Rattle.world_model.specs.Numbered.{Numbered}
use Rattle.fn_wrapper.specs.Ready.{IsReady, IsAsk}
use Rattle.unum_world.specs.declared.opening.Opening.{Opening}
use Rattle.unum_world.specs.declared.world_state.WorldState.{WorldState}
use Rattle.unum_world.specs.Openings.{codes_of}
use Rattle.unum_world.specs.Traces.{world_of}
use Rattle.unum_world.specs.Kept.{Holds}

false_is : (b : Bool) → (b ≡ true → ⊥) → b ≡ false
false_is true h = absurd (h refl)
false_is false h = refl

both_false : (b : Bool) → b && false ≡ false
both_false true = refl
both_false false = refl

-- what is next, by the test
step_by : (d : Doing ℕ (List Bool)) (b : Bool) → (IsTrue b ↔ IsAsk d) → (is_do d ≡ true) ⊎ (is_ask d ≡ true) → not b ≡ is_do d
step_by (Do op) b h g = ap not (false_is b (λ e. h.0 e))
step_by (Ask r x) b h g = ap not (h.1 tt)
step_by Nothing b h g = elim g [ inl e ↦ absurd (cc) | inr e ↦ absurd (cc) ]

answer_by : (d : Doing ℕ (List Bool)) (b : Bool) → (IsTrue b ↔ IsAsk d) → b ≡ is_ask d
answer_by (Do op) b h = false_is b (λ e. h.0 e)
answer_by (Ask r x) b h = h.1 tt
answer_by Nothing b h = false_is b (λ e. h.0 e)

-- an attempt that is not there has neither
pub none_step : (o : Opening) (m : WorldState) (a : ℕ) → slice_get m.hub.queue.atts a ≡ None → false ≡ enabled (codes_of o) (world_of o m) (Step a)
unfolding enabled
none_step o m a e = ap (att_lets (codes_of o) (world_of o m) is_do) (sym e)

pub none_answer : (o : Opening) (m : WorldState) (a : ℕ) → slice_get m.hub.queue.atts a ≡ None → false ≡ enabled (codes_of o) (world_of o m) (Answer a)
unfolding enabled
none_answer o m a e = ap (att_lets (codes_of o) (world_of o m) is_ask) (sym e)

module _ (o : Opening) (m : WorldState) (h : Holds o m) (a : ℕ) (t : Attempt) (e : slice_get m.hub.queue.atts a ≡ Some t) where
  abbrev w : Numbered
  w = world_of o m

  -- what an attempt does next passes a test, by its invocation
  lets_is : (p : Doing ℕ (List Bool) → Bool) (i : Invocation ℕ) → slice_get w.invs t.inv ≡ Some i →
      att_lets (codes_of o) w p (slice_get w.atts a) ≡ t.live && p (next_of {B = List Bool} (code_of (codes_of o) i) i t.phase)
  lets_is p i g =
      ap (att_lets (codes_of o) w p) e
      ∙ ap (λ z. t.live && elim z [ None ↦ false | Some i ↦ p (next_of {B = List Bool} (code_of (codes_of o) i) i t.phase) ]) g

  -- its invocation
  pub its_invocation : (i : Invocation ℕ) × (slice_get w.invs t.inv ≡ Some i)
  its_invocation = let k = h.range.world.atts a t e in (k.i, k.there)

  pub step_is : (b : Bool) → ((code : Code ℕ) (i : Invocation ℕ) → IsReady code i t.phase → IsTrue b ↔ IsAsk (next_of {B = List Bool} code i t.phase)) →
      t.live && not b ≡ enabled (codes_of o) w (Step a)
  unfolding enabled
  step_is b f =
      let (i, g) = its_invocation in
      let k = f (code_of (codes_of o) i) i (h.ready a t i e g) in
      go i g k t.live refl ∙ sym (lets_is is_do i g)
    where
      go : (i : Invocation ℕ) (g : slice_get w.invs t.inv ≡ Some i) → (IsTrue b ↔ IsAsk (next_of {B = List Bool} (code_of (codes_of o) i) i t.phase)) →
          (l : Bool) → t.live ≡ l → t.live && not b ≡ t.live && is_do (next_of {B = List Bool} (code_of (codes_of o) i) i t.phase)
      go i g k false l = ap (λ z. z && not b) l ∙ sym (ap (λ z. z && is_do (next_of {B = List Bool} (code_of (codes_of o) i) i t.phase)) l)
      go i g k true l =
          ap (λ z. t.live && z) (step_by (next_of {B = List Bool} (code_of (codes_of o) i) i t.phase) b k
          (elim (h.running.goes_on a t e l) [
            | inl s ↦ inl (sym (ap (λ z. z && is_do (next_of {B = List Bool} (code_of (codes_of o) i) i t.phase)) l) ∙ sym (lets_is is_do i g) ∙ s)
            | inr s ↦ inr (sym (ap (λ z. z && is_ask (next_of {B = List Bool} (code_of (codes_of o) i) i t.phase)) l) ∙ sym (lets_is is_ask i g) ∙ s)
          ]))

  pub answer_is : (b : Bool) → ((code : Code ℕ) (i : Invocation ℕ) → IsReady code i t.phase → IsTrue b ↔ IsAsk (next_of {B = List Bool} code i t.phase)) →
      t.live && b ≡ enabled (codes_of o) w (Answer a)
  unfolding enabled
  answer_is b f =
      let (i, g) = its_invocation in
      ap (λ z. t.live && z) (answer_by (next_of {B = List Bool} (code_of (codes_of o) i) i t.phase) b (f (code_of (codes_of o) i) i (h.ready a t i e g)))
      ∙ sym (lets_is is_ask i g)

  -- nor has one that does not live
  dead_lets : (p : Doing ℕ (List Bool) → Bool) → t.live ≡ false → false ≡ att_lets (codes_of o) w p (slice_get w.atts a)
  dead_lets p l =
      ap (λ z. z && elim (slice_get w.invs t.inv) [ None ↦ false | Some i ↦ p (next_of {B = List Bool} (code_of (codes_of o) i) i t.phase) ]) (sym l)
      ∙ ap (att_lets (codes_of o) w p) (sym e)

  pub dead_step : t.live ≡ false → false ≡ enabled (codes_of o) w (Step a)
  unfolding enabled
  dead_step l = dead_lets is_do l

  pub dead_answer : t.live ≡ false → false ≡ enabled (codes_of o) w (Answer a)
  unfolding enabled
  dead_answer l = dead_lets is_ask l
