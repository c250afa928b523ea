-- Plans allow the same, and choosers take the same, by machines and by numbers.
use Rattle.std.proofs.Common.{ℕ, zero, suc, ◌≡◌, refl, sym, ap, ap₂, ◌∙◌, subst, Bool, cond, List, [], ◌∷◌, ◌++◌, length, slice_get, Option, Some, None}
use Rattle.std.proofs.lemmas.Option.{same_Some}
use Rattle.asl_model.specs.Laws.{In}
use Rattle.world_model.specs.AnyCode.Code.{in_order, flags}
use Rattle.world_model.specs.AnyCode.World as any_code
use Rattle.world_model.specs.AnyCode.World.{Attempt, Codes, Crash, Step, Answer}
use Rattle.world_model.specs.Sites.{Site}
use Rattle.world_model.specs.World.{Opening, World, Event, codes as machines, effect, start}
use Rattle.world_model.specs.Numbered.{Numbered, first_number, StandsFor}
use Rattle.world_model.proofs.Numbers.{Comes, machine_run, starts, enabled_same, effect_same}
use Rattle.world_plans.specs.declared.planning.Plan.{Plan}
use Rattle.world_plans.specs.Plans.{crash_step, pick}
use Rattle.world_plans.specs.Chooser.{one_if, is_step, twins_from, moves_from, rests_from, allowed_events, Obeys, chosen_event, choices_then, choices}
use Rattle.world_plans.specs.Running.{EveryNumberedPlanAllowsAlike, EveryNumberedChoiceIsAlike}

module _ (o : Opening) (codes : Codes ℕ) (sites : ℕ → ℕ → Site) (size : ℕ → ℕ) (k : StandsFor o codes sites size) (p : Plan) where
  abbrev Here : World → Numbered → Type 0
  Here v w = Comes o codes sites size k v w

  moves_as : (v : World) (w : Numbered) → Here v w → (n : ℕ) (ts : List Attempt) → moves_from p machines v n ts ≡ moves_from p codes w n ts
  unfolding moves_from
  moves_as v w c n [] = refl
  moves_as v w c n (t ∷ ts) =
      ap₂ (λ xs ys. xs ++ ys)
      (ap₂ (λ (x y : Bool). cond t.live (cond (is_step (crash_step p n) t.steps) (Crash n ∷ []) (one_if x (Step n) ++ one_if y (Answer n))) [])
      (enabled_same o codes sites size k v w c (Step n)) (enabled_same o codes sites size k v w c (Answer n)))
      (moves_as v w c (suc n) ts)

  pub allowed_as : (v : World) (w : Numbered) → Here v w → allowed_events p machines v ≡ allowed_events p codes w
  allowed_as v w c =
      ap (λ (z : World). twins_from p z.atts 0 z.states ++ (moves_from p machines v 0 z.atts ++ rests_from 0 z.states)) c.is
      ∙ ap (λ es. twins_from p w.atts 0 w.states ++ (es ++ rests_from 0 w.states)) (moves_as v w c 0 w.atts)

  pub obeys_as : (es : List Event) (v : World) (w : Numbered) → Here v w → Obeys p flags codes w es → Obeys p in_order machines v es
  obeys_as [] v w c h = tt
  obeys_as (e ∷ es) v w c (i, h) =
      (subst (λ xs. In e xs) (sym (allowed_as v w c)) i, obeys_as es (effect v e) (any_code.effect flags codes w e) (effect_same o codes sites size k v w c e) h)

  choices_as : (left : ℕ) (v : World) (w : Numbered) → Here v w → (n : ℕ) → choices p flags codes left w n ≡ choices p in_order machines left v n
  unfolding choices
  choices_as zero v w c n = refl
  choices_as (suc left) v w c n =
      by (λ e. choices_as left (effect v e) (any_code.effect flags codes w e) (effect_same o codes sites size k v w c e) (suc n)) (chosen_event p codes w n)
      ∙ ap (λ es. choices_then in_order machines v (λ u. choices p in_order machines left u (suc n)) (slice_get es (pick p n (length es)))) (sym (allowed_as v w c))
    where
      by : ((e : Event) → choices p flags codes left (any_code.effect flags codes w e) (suc n) ≡ choices p in_order machines left (effect v e) (suc n)) → (x : Option Event) →
          choices_then flags codes w (λ u. choices p flags codes left u (suc n)) x ≡ choices_then in_order machines v (λ u. choices p in_order machines left u (suc n)) x
      by h None = refl
      by h (Some e) = ap (λ es. e ∷ es) (h e)

pub every_numbered_plan_allows_alike : EveryNumberedPlanAllowsAlike
every_numbered_plan_allows_alike o codes sites size k es w v e f p =
    let (u, r, c) = machine_run o codes sites size k es w e in
    let d : Comes o codes sites size k v w = subst (λ (z : World). Comes o codes sites size k z w) (same_Some u v (sym r ∙ f)) c in
    sym (allowed_as o codes sites size k p v w d)

pub every_numbered_choice_is_alike : EveryNumberedChoiceIsAlike
every_numbered_choice_is_alike o codes sites size k p left = choices_as o codes sites size k p left (start o) (any_code.start first_number o) (starts o codes sites size k) 0
