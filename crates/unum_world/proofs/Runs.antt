-- What each event keeps, each run keeps; and one event more is one step more.
use Rattle.std.proofs.Common.{ℕ, suc, ◌+◌, ◌≡◌, refl, sym, ap, ◌∙◌, subst, arith, Bool, true, false, cond, List, [], ◌∷◌, ◌++◌, length, Option, Some, None}
use Rattle.std.proofs.lemmas.Option.{same_Some}
use Rattle.world_types.specs.declared.queue.Event.{Event}
use Rattle.world_model.specs.AnyCode.Code.{flags}
use Rattle.world_model.specs.AnyCode.World.{Codes, effect, enabled, then_event, run_from, run, start}
use Rattle.world_model.specs.World.{Opening}
use Rattle.world_model.specs.Numbered.{Numbered, first_number}

module _ (codes : Codes ℕ) where
  pub run_none : (es : List Event) (v : Numbered) → run_from flags codes None es ≡ Some v → ⊥
  unfolding run_from
  run_none [] v e = cc
  run_none (x ∷ es) v e = run_none es v e

  -- what holds of a world, and of the next number after each event, holds after a run
  pub run_counts : (P : ℕ → Numbered → Type 0) →
      ((n : ℕ) (w : Numbered) (e : Event) → enabled codes w e ≡ true → P n w → P (suc n) (effect flags codes w e)) →
      (es : List Event) (w v : Numbered) (n : ℕ) → P n w → run_from flags codes (Some w) es ≡ Some v → P (n + length es) v
  unfolding run_from
  run_counts P step [] w v n p e =
      let k : n + 0 ≡ n = omega arith in
      let Q : ℕ → Type 0 = λ m. P m v in
      subst Q (sym k) (subst (P n) (same_Some w v e) p)
  run_counts P step (x ∷ es) w v n p e =
      go (λ b q. run_counts P step es (effect flags codes w x) v (suc n) (step n w x b p) q) (enabled codes w x) refl e
    where
      go : (enabled codes w x ≡ true → run_from flags codes (Some (effect flags codes w x)) es ≡ Some v → P (suc n + length es) v) →
          (b : Bool) → enabled codes w x ≡ b → run_from flags codes (cond b (Some (effect flags codes w x)) None) es ≡ Some v →
          P (n + length (x ∷ es)) v
      go r true b q =
          let k : suc n + length es ≡ n + length (x ∷ es) = omega arith in
          let Q : ℕ → Type 0 = λ m. P m v in
          subst Q k (r b q)
      go r false b q = absurd (run_none es v q)

  pub run_more : (w : Option Numbered) (es : List Event) (e : Event) →
      run_from flags codes w (es ++ e ∷ []) ≡ then_event flags codes (run_from flags codes w es) e
  unfolding run_from
  run_more w [] e = refl
  run_more w (x ∷ es) e = run_more (then_event flags codes w x) es e

  -- a run with one event more
  pub run_step : (o : Opening) (es fs : List Event) (e : Event) (v w : Numbered) → run flags codes first_number o es ≡ Some v →
      enabled codes v e ≡ true → w ≡ effect flags codes v e → fs ≡ es ++ e ∷ [] → run flags codes first_number o fs ≡ Some w
  run_step o es fs e v w r b f m =
      ap (run flags codes first_number o) m ∙ run_more (Some (start first_number o)) es e ∙ ap (λ z. then_event flags codes z e) r
      ∙ ap (λ t. cond t (Some (effect flags codes v e)) None) b ∙ ap Some (sym f)
