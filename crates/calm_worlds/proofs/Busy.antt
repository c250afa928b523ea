-- In a world without mishaps in which something may happen, something may that is none.
use Rattle.world_model.specs.AnyCode.World as worlds
use Rattle.std.proofs.Common.{ℕ, zero, suc, ◌≡◌, ◌⊎◌, inl, inr, refl, sym, ap, ◌∙◌, Bool, true, false, List, [], ◌∷◌, slice_get, Option, Some, None}
use Rattle.std.proofs.lemmas.Option.{same_Some}
use Rattle.world_model.specs.World.{Attempt, World, Event, Deliver, Crash, Step, Answer, GiveUp, codes as machines, enabled, lives}
use Rattle.world_plans.specs.Three.{IsRunning}
use Rattle.world_plans.proofs.Busy.{every_machine_world_runs}
use Rattle.calm_worlds.specs.Calm.{IsCalm}
use Rattle.calm_worlds.specs.Goes.{EveryCalmWorldGoesOn}

abbrev IdleIn : ℕ → List Attempt → Type 0
IdleIn k at = (a : ℕ) (t : Attempt) → slice_get at a ≡ Some t → t.inv ≡ k → t.live ≡ false

-- no attempt of the invocation lives, or one does
idle_or : (k : ℕ) (at : List Attempt) → IdleIn k at ⊎ ((a : ℕ) × (t : Attempt) × (slice_get at a ≡ Some t) × (t.live ≡ true))
idle_or k [] = inl (λ a t e q. absurd (let z : None ≡ Some t = e in cc))
idle_or k (u ∷ at) = go u.live refl (idle_or k at)
  where
    go : (b : Bool) → u.live ≡ b → IdleIn k at ⊎ ((a : ℕ) × (t : Attempt) × (slice_get at a ≡ Some t) × (t.live ≡ true)) → IdleIn k (u ∷ at) ⊎ ((a : ℕ) × (t : Attempt) × (slice_get (u ∷ at) a ≡ Some t) × (t.live ≡ true))
    go true l r = inr (0, u, refl, l)
    go false l (inr (a, t, e, q)) = inr (suc a, t, e, q)
    go false l (inl f) = inl (elim [ zero ↦ λ t e q. ap (λ (z : Attempt). z.live) (sym (same_Some u t e)) ∙ l | suc a ↦ λ t e q. f a t e q ])

module _ (w : World) (R : IsRunning machines w) where
  abbrev CalmEvent : Type 0
  CalmEvent = (d : Event) × (enabled w d ≡ true) × IsCalm w d

  goes_on : (a : ℕ) (t : Attempt) → slice_get w.atts a ≡ Some t → t.live ≡ true → CalmEvent
  goes_on a t found live = elim (R.goes_on a t found live) [ inl x ↦ (Step a, x, tt) | inr x ↦ (Answer a, x, tt) ]

  crash_goes : (a : ℕ) (x : Option Attempt) → slice_get w.atts a ≡ x → lives x ≡ true → CalmEvent
  crash_goes a None e q = absurd (cc)
  crash_goes a (Some t) e q = goes_on a t e q

  pub calm_goes : (e : Event) → enabled w e ≡ true → CalmEvent
  unfolding worlds.enabled
  calm_goes (Deliver k) q = elim (idle_or k w.atts) [
    | inl f ↦ (Deliver k, q, f)
    | inr (a, t, e, l) ↦ goes_on a t e l
  ]
  calm_goes (Crash a) q = crash_goes a (slice_get w.atts a) refl q
  calm_goes (Step a) q = (Step a, q, tt)
  calm_goes (Answer a) q = (Answer a, q, tt)
  calm_goes (GiveUp k) q = (GiveUp k, q, tt)

pub every_calm_world_goes_on : EveryCalmWorldGoesOn
every_calm_world_goes_on o es w e c x q = calm_goes w (every_machine_world_runs o es w e) x q
