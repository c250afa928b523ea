-- What may happen in a world without a mishap, case by case.
use Rattle.world_model.specs.AnyCode.World as worlds
use Rattle.std.proofs.Common.{ℕ, ◌≡◌, refl, Bool, true, false, not, ◌&&◌, nat_lt, nat_eq, slice_get, Option, Some, None}
use Rattle.std.proofs.lemmas.Bool.{eqb-true}
use Rattle.world_model.specs.Operations.{Invocation}
use Rattle.world_model.specs.Program.{Phase, Doing, next_of}
use Rattle.world_model.specs.World.{InvState, Attempt, World, Event, Deliver, Crash, Step, Answer, GiveUp, with_state, with_inv, with_att, stepped_world, asked_world, delivered_world, effect, enabled, state_lets, att_lets, is_do, is_ask}
use Rattle.world_model.proofs.Keeps.{and_parts}
use Rattle.calm_worlds.specs.Calm.{IsIdle, IsCalm}
use Rattle.calm_worlds.proofs.Marked.{marks_in, marks_by, marks_at, marks_of}

not_true : (b : Bool) → not b ≡ true → b ≡ false
not_true false e = refl
not_true true e = absurd (cc)

-- what holds of the world and the number of marks after each event that may happen
pub record Handles (w : World) (P : World → ℕ → Type 0) : Type 0 where
  pub deliver : (k : ℕ) (s : InvState) → slice_get w.states k ≡ Some s → s.acked ≡ false → IsIdle w k → P (delivered_world w k (Some s)) 0
  pub step : (a : ℕ) (t : Attempt) (i : Invocation) → slice_get w.atts a ≡ Some t → t.live ≡ true → slice_get w.invs t.inv ≡ Some i → is_do (next_of i t.phase) ≡ true → P (stepped_world w a t i t.phase (next_of i t.phase)) (marks_in (next_of i t.phase))
  pub answer : (a : ℕ) (t : Attempt) (i : Invocation) → slice_get w.atts a ≡ Some t → t.live ≡ true → slice_get w.invs t.inv ≡ Some i → is_ask (next_of i t.phase) ≡ true → P (asked_world w a t i (next_of i t.phase)) 0
  pub give_up : (k : ℕ) (s : InvState) → slice_get w.states k ≡ Some s → s.tries ≡ 8 → P (with_state w k (λ s. record s { dead = true }) (Some s)) 0

module _ (w : World) (P : World → ℕ → Type 0) (H : Handles w P) where
  by_deliver : (k : ℕ) → IsIdle w k → (x : Option InvState) → slice_get w.states k ≡ x → state_lets (λ s. not s.acked && (not s.dead && nat_lt s.tries 8)) x ≡ true → P (delivered_world w k x) 0
  by_deliver k idle None e q = absurd (cc)
  by_deliver k idle (Some s) e q = H.deliver k s e (not_true s.acked (and_parts (not s.acked) (not s.dead && nat_lt s.tries 8) q).0) idle

  by_give : (k : ℕ) (x : Option InvState) → slice_get w.states k ≡ x → state_lets (λ s. not s.acked && (not s.dead && (nat_eq s.tries 8 && nat_eq s.live 0))) x ≡ true → P (with_state w k (λ s. record s { dead = true }) x) 0
  by_give k None e q = absurd (cc)
  by_give k (Some s) e q =
      let a = and_parts (not s.acked) (not s.dead && (nat_eq s.tries 8 && nat_eq s.live 0)) q in
      let b = and_parts (not s.dead) (nat_eq s.tries 8 && nat_eq s.live 0) a.1 in
      H.give_up k s e (eqb-true s.tries 8 (and_parts (nat_eq s.tries 8) (nat_eq s.live 0) b.1).0)

  abbrev may : (Doing → Bool) → Phase → Option Invocation → Bool
  may p ph x = elim x [ None ↦ false | Some i ↦ p (next_of i ph) ]

  step_inv : (a : ℕ) (t : Attempt) → slice_get w.atts a ≡ Some t → t.live ≡ true → (x : Option Invocation) → slice_get w.invs t.inv ≡ x → may is_do t.phase x ≡ true →
      P (with_inv w t (λ i. stepped_world w a t i t.phase (next_of i t.phase)) x) (marks_by t.phase x)
  step_inv a t e l None f q = absurd (cc)
  step_inv a t e l (Some i) f q = H.step a t i e l f q

  answer_inv : (a : ℕ) (t : Attempt) → slice_get w.atts a ≡ Some t → t.live ≡ true → (x : Option Invocation) → slice_get w.invs t.inv ≡ x → may is_ask t.phase x ≡ true →
      P (with_inv w t (λ i. asked_world w a t i (next_of i t.phase)) x) 0
  answer_inv a t e l None f q = absurd (cc)
  answer_inv a t e l (Some i) f q = H.answer a t i e l f q

  by_step : (a : ℕ) (x : Option Attempt) → slice_get w.atts a ≡ x → att_lets w is_do x ≡ true → P (with_att w (λ t. with_inv w t (λ i. stepped_world w a t i t.phase (next_of i t.phase)) (slice_get w.invs t.inv)) x) (marks_at w x)
  by_step a None e q = absurd (cc)
  by_step a (Some t) e q = let c = and_parts t.live (may is_do t.phase (slice_get w.invs t.inv)) q in step_inv a t e c.0 (slice_get w.invs t.inv) refl c.1

  by_answer : (a : ℕ) (x : Option Attempt) → slice_get w.atts a ≡ x → att_lets w is_ask x ≡ true → P (with_att w (λ t. with_inv w t (λ i. asked_world w a t i (next_of i t.phase)) (slice_get w.invs t.inv)) x) 0
  by_answer a None e q = absurd (cc)
  by_answer a (Some t) e q = let c = and_parts t.live (may is_ask t.phase (slice_get w.invs t.inv)) q in answer_inv a t e c.0 (slice_get w.invs t.inv) refl c.1

  pub by_event : (e : Event) → enabled w e ≡ true → IsCalm w e → P (effect w e) (marks_of w e)
  unfolding worlds.effect worlds.enabled
  by_event (Deliver k) q c = by_deliver k c (slice_get w.states k) refl q
  by_event (Crash a) q c = absurd c
  by_event (Step a) q c = by_step a (slice_get w.atts a) refl q
  by_event (Answer a) q c = by_answer a (slice_get w.atts a) refl q
  by_event (GiveUp k) q c = by_give k (slice_get w.states k) refl q
