-- Tries and live attempts are counted, so a drained world is at rest.
use Rattle.std.proofs.Common.{ℕ, zero, suc, ◌-◌, ◌≤◌, ◌≡◌, ◌⊎◌, inl, inr, refl, sym, ap, ◌∙◌, subst, Bool, true, false, not, ◌&&◌, nat_lt, nat_eq, List, [], ◌∷◌, length, slice_get, Some, arith}
use Rattle.std.proofs.lemmas.Option.{same_Some}
use Rattle.std.proofs.lemmas.Bool.{ltb-false}
use Rattle.std.proofs.lemmas.Bool.Decides.{eqb_tells}
use Rattle.world_model.specs.Operations.{Invocation}
use Rattle.world_model.specs.World.{Opening, Session, InvState, Attempt, World, Event, Deliver, Crash, GiveUp, enabled, state_lets, lives, start}
use Rattle.world_model.specs.Drained.{IsDrained, HasGivenUp, EveryDrainedWorldRests}
use Rattle.world_model.specs.Quiet.{HasEnded, IsSwept}
use Rattle.world_model.proofs.Marks.{Both, run_both, start_both}
use Rattle.world_model.proofs.Quiets.{quiet_ended}
use Rattle.world_model.specs.AnyCode.World as worlds
use Rattle.world_model.specs.AnyCode.Code.{in_order}
use Rattle.world_model.specs.AnyCode.Counted.{IsCounted}
use Rattle.world_model.specs.World.{codes, first, run}
use Rattle.world_model.proofs.Queues.{live_none, not_live, run_tallied, tallied_counted}

abbrev pub WorldCounted : World → Type 0
WorldCounted w = IsCounted w.states w.atts

pub run_counted : (o : Opening) (es : List Event) (w : World) → run o es ≡ Some w → WorldCounted w
run_counted o es w e = tallied_counted (length w.invs) w.states w.atts (run_tallied in_order codes first o es w e)

-- ---------------------------------------------------------------- a drained world

pub still_at : (w : World) → IsDrained w → (a : ℕ) (t : Attempt) → slice_get w.atts a ≡ Some t → t.live ≡ false
unfolding worlds.enabled
still_at w D a t e = subst (λ x. lives x ≡ false) e (D (Crash a))

pub over_cases : (acked dead : Bool) (tries live : ℕ) → tries ≤ 8 → live ≡ 0 → not acked && (not dead && nat_lt tries 8) ≡ false → not acked && (not dead && (nat_eq tries 8 && nat_eq live 0)) ≡ false → (acked ≡ true) ⊎ (dead ≡ true)
over_cases true dead tries live l z p q = inl refl
over_cases false true tries live l z p q = inr refl
over_cases false false tries live l z p q =
    let a : 8 ≤ tries = ltb-false tries 8 p in
    let b : tries ≡ 8 = omega arith in
    let c : nat_eq tries 8 && nat_eq live 0 ≡ true = rw (b, z) refl in
    absurd (let y : true ≡ false = sym c ∙ q in cc)

pub over_at : (w : World) → WorldCounted w → IsDrained w → (k : ℕ) (q : InvState) → slice_get w.states k ≡ Some q → (q.acked ≡ true) ⊎ (q.dead ≡ true)
unfolding worlds.enabled
over_at w C D k q e =
    over_cases q.acked q.dead q.tries q.live (C.tries k q e) (C.live k q e ∙ live_none k w.atts (λ a t f. not_live t k (still_at w D a t f)))
    (subst (λ z. state_lets (λ s. not s.acked && (not s.dead && nat_lt s.tries 8)) z ≡ false) e (D (Deliver k)))
    (subst (λ z. state_lets (λ s. not s.acked && (not s.dead && (nat_eq s.tries 8 && nat_eq s.live 0))) z ≡ false) e (D (GiveUp k)))

abbrev AllAcked : ℕ → List Invocation → List InvState → Type 0
AllAcked s invs states = (k : ℕ) (i : Invocation) (q : InvState) → slice_get invs k ≡ Some i → slice_get states k ≡ Some q → i.name.place.session ≡ s → q.acked ≡ true

one_more : (s : ℕ) (i : Invocation) (q : InvState) (invs : List Invocation) (states : List InvState) → (i.name.place.session ≡ s → q.acked ≡ true) → AllAcked s invs states → AllAcked s (i ∷ invs) (q ∷ states)
one_more s i q invs states h f zero y z e g r = ap (λ (u : InvState). u.acked) (sym (same_Some q z g)) ∙ h (ap (λ (u : Invocation). u.name.place.session) (same_Some i y e) ∙ r)
one_more s i q invs states h f (suc k) y z e g r = f k y z e g r

-- all invocations of the session are acknowledged, or one was given up
acked_or : (s : ℕ) (invs : List Invocation) (states : List InvState) → ((k : ℕ) (q : InvState) → slice_get states k ≡ Some q → (q.acked ≡ true) ⊎ (q.dead ≡ true)) → AllAcked s invs states ⊎ HasGivenUp invs states s
acked_or s [] states f = inl (λ k i x e. absurd (cc))
acked_or s (i ∷ invs) [] f = inl (λ k y x e g. absurd (cc))
acked_or s (i ∷ invs) (q ∷ states) f =
    elim (acked_or s invs states (λ k y e. f (suc k) y e)) [
      | inr d ↦ inr (record { number = suc d.number; invocation = d.invocation; state = d.state; invocation_is = d.invocation_is; state_is = d.state_is; session_is = d.session_is; given_up = d.given_up })
      | inl g ↦ elim (f 0 q refl) [
        | inl a ↦ inl (one_more s i q invs states (λ _. a) g)
        | inr d ↦ elim (eqb_tells i.name.place.session s) [
          | inl same ↦ inr (record { number = 0; invocation = i; state = q; invocation_is = refl; state_is = refl; session_is = same.1; given_up = d })
          | inr other ↦ inl (one_more s i q invs states (λ h. absurd (other.1 h)) g)
        ]
      ]
    ]

rest_session : (w : World) → Both w → WorldCounted w → IsDrained w → (s : ℕ) (x : Session) → slice_get w.opening.sessions s ≡ Some x → (HasEnded w s × IsSwept w s) ⊎ HasGivenUp w.invs w.states s
rest_session w B C D s x e =
    elim (acked_or s w.invs w.states (over_at w C D)) [
      | inl q ↦ inl (quiet_ended w B.keeps B.leaves s q x e)
      | inr d ↦ inr d
    ]

pub every_drained_world_rests : EveryDrainedWorldRests
every_drained_world_rests o es w e D =
    let B : Both w = run_both es (start o) w (start_both o) e in
    let C : WorldCounted w = run_counted o es w e in
    record { over = over_at w C D; still = still_at w D; sessions = rest_session w B C D }
