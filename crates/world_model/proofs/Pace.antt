-- Every run keeps to the limits of its fans.
use Rattle.std.proofs.Common.{ℕ, zero, suc, ◌≤◌, ◌≡◌, ◌≢◌, inl, inr, refl, sym, ap, ◌∙◌, subst, Bool, true, false, cond, List, [], ◌∷◌, ◌++◌, length, slice_get, slice_set, Option, Some, None}
use Rattle.std.proofs.lemmas.Option.{same_Some}
use Rattle.asl_model.specs.Data.{Text, Json}
use Rattle.asl_model.specs.Names as names
use Rattle.asl_model.specs.Names.{Seg, Scope, Place, Name, scope_of, child}
use Rattle.asl_model.specs.Machine.{Used, Block, State, state_of, limit_of}
use Rattle.asl_model.specs.Lawful.{SameFan}
use Rattle.asl_model.specs.Laws.{In}
use Rattle.world_model.specs.Operations.{name_at, Frame, Invocation}
use Rattle.world_model.specs.Acts.{width_at, parent_of, width_of}
use Rattle.world_model.specs.Program.{next_of, Looking}
use Rattle.world_model.specs.World.{Opening, InvState, Attempt, World, Event, Deliver, Crash, Step, Answer, GiveUp, stepped_world, asked_world, state_after_crash, with_inv, with_att, delivered_world, crashed_world, effect, enabled, run_from, start}
use Rattle.world_model.specs.Paced.{RunsNow, AreDifferent, EveryRunKeepsPace}
use Rattle.world_model.proofs.Gets.{get_pushed}
use Rattle.place_name.specs.Names.{Parent}
use Rattle.world_model.proofs.Runs.{HasFan, run_one_fan}
use Rattle.world_model.proofs.Keeps.{WorldKeeps, MadeOk, FrameOk, FramesOk, parent_of_child}
use Rattle.world_model.proofs.Paces.{Paced, Earlier, PhasePaced, WorldPaces, moved_paces, state_parts, step_paced, answer_paced}
use Rattle.world_model.proofs.Pigeons.{at_most}
use Rattle.world_model.proofs.Every.{effect_ok, run_none, root_get, start_ok}
use Rattle.world_model.specs.AnyCode.World as worlds

-- ---------------------------------------------------------------- each event

delivered_paces : (w : World) → WorldPaces w → (n : ℕ) (s : Option InvState) → WorldPaces (delivered_world w n s)
delivered_paces w P n None = P
delivered_paces w P n (Some s) = record {
  scopes = P.scopes;
  acting = λ a t i e d. elim (get_pushed w.atts (record { inv = n; live = true; steps = 0; phase = Looking }) a t e) [
    | inl p ↦ P.acting a t i p d
    | inr q ↦ subst (λ (z : Attempt). PhasePaced w.objects i z.phase) q tt
  ];
}

crashed_paces : (w : World) → WorldPaces w → (a : ℕ) (t : Attempt) → slice_get w.atts a ≡ Some t → WorldPaces (crashed_world w a t)
crashed_paces w P a t found =
    let v : World = record w { atts = slice_set w.atts a (record t { live = false }) } in
    state_parts v t.inv state_after_crash (slice_get w.states t.inv) (moved_paces w.objects w.invs w.atts P a (record t { live = false }) (λ j e. P.acting a t j found e))

with_inv_paces : (w : World) → WorldPaces w → (t : Attempt) (f : Invocation → World) → ((i : Invocation) → slice_get w.invs t.inv ≡ Some i → WorldPaces (f i)) →
    (x : Option Invocation) → slice_get w.invs t.inv ≡ x → WorldPaces (with_inv w t f x)
with_inv_paces w P t f g None q = P
with_inv_paces w P t f g (Some i) q = g i q

with_att_paces : (w : World) → WorldPaces w → (a : ℕ) (f : Attempt → World) → ((t : Attempt) → slice_get w.atts a ≡ Some t → WorldPaces (f t)) →
    (x : Option Attempt) → slice_get w.atts a ≡ x → WorldPaces (with_att w f x)
with_att_paces w P a f g None q = P
with_att_paces w P a f g (Some t) q = g t q

effect_paces : (w : World) → WorldKeeps w → WorldPaces w → (e : Event) → WorldPaces (effect w e)
unfolding worlds.effect
effect_paces w K P (Deliver n) = delivered_paces w P n (slice_get w.states n)
effect_paces w K P (Crash a) = with_att_paces w P a (λ t. crashed_world w a t) (λ t found. crashed_paces w P a t found) (slice_get w.atts a) refl
effect_paces w K P (Step a) =
    with_att_paces w P a (λ t. with_inv w t (λ i. stepped_world w a t i t.phase (next_of i t.phase)) (slice_get w.invs t.inv))
    (λ t found. with_inv_paces w P t (λ i. stepped_world w a t i t.phase (next_of i t.phase))
    (λ i at. step_paced w K P a t i found at t.phase (P.acting a t i found at)) (slice_get w.invs t.inv) refl)
    (slice_get w.atts a) refl
effect_paces w K P (Answer a) =
    with_att_paces w P a (λ t. with_inv w t (λ i. asked_world w a t i (next_of i t.phase)) (slice_get w.invs t.inv))
    (λ t found. with_inv_paces w P t (λ i. asked_world w a t i (next_of i t.phase))
    (λ i at. answer_paced w K P a t i found at (next_of i t.phase)) (slice_get w.invs t.inv) refl)
    (slice_get w.atts a) refl
effect_paces w K P (GiveUp n) = state_parts w n (λ s. record s { dead = true }) (slice_get w.states n) P

start_paces : (o : Opening) → WorldPaces (start o)
start_paces o = record {
  scopes = λ k i e.
      let r = root_get 0 o.sessions k i e in
      subst (λ (z : Invocation). Paced (start o).objects (scope_of z.name.place) z.site.around) r.2 tt;
  acting = λ a t i e d. absurd (let z : None ≡ Some t = e in cc);
}

run_paces : (es : List Event) (w v : World) → WorldKeeps w → WorldPaces w → run_from (Some w) es ≡ Some v → WorldKeeps v × WorldPaces v
unfolding worlds.run_from
run_paces [] w v K P e = let z : w ≡ v = same_Some w v e in (subst WorldKeeps z K, subst WorldPaces z P)
run_paces (x ∷ es) w v K P e = go (λ q. run_paces es (effect w x) v (effect_ok w K x) (effect_paces w K P x) q) (enabled w x) e
  where
    go : (run_from (Some (effect w x)) es ≡ Some v → WorldKeeps v × WorldPaces v) → (b : Bool) → run_from (cond b (Some (effect w x)) None) es ≡ Some v → WorldKeeps v × WorldPaces v
    go r true q = r q
    go r false q = absurd (run_none es v q)

-- ---------------------------------------------------------------- a fan with a limit

not_empty : {A : Type 0} (xs : List A) (y : A) → xs ++ y ∷ [] ≡ [] → ⊥
not_empty [] y e = cc
not_empty (x ∷ xs) y e = cc

module _ (w : World) (K : WorldKeeps w) (P : WorldPaces w) (p : Place) (b : Block) (name : Text) (raw : Json) (used : Used) (cs : List (Block × Json)) (st : State)
    (fan : HasFan w.opening w.journal p b name raw used cs) (found : state_of b name ≡ Some st) where
  -- where a branch has an invocation, those a multiple of the limit before it have an Out
  earlier_by : (limit : ℕ) → limit_of st ≡ limit → limit ≢ 0 → (i : ℕ) (v : Invocation) → v.name ≡ name_at (child p i (length cs)) 0 names.Enter → MadeOk w.opening w.journal v → Paced w.objects (scope_of v.name.place) v.site.around →
      (around : List Frame) → v.site.around ≡ around → Earlier w.objects (record { place = p; index = i; count = length cs }) limit
  earlier_by limit wide ne i v e m h [] u =
      absurd (not_empty p.trail (record { hop = p.hop; index = i; count = length cs }) (ap (λ (z : Name). z.place.trail) (sym e) ∙ subst (FramesOk w.opening w.journal (scope_of v.name.place) v.site.block) u m.frames))
  earlier_by limit wide ne i v e m h (f ∷ around) u =
      let s : Scope = scope_of v.name.place in
      let g : FramesOk w.opening w.journal s v.site.block (f ∷ around) = subst (FramesOk w.opening w.journal s v.site.block) u m.frames in
      let c : FrameOk w.opening w.journal s v.site.block f = g.0 in
      let q : Parent = record { place = p; index = i; count = length cs } in
      let here : Parent = record { place = c.place; index = c.index; count = length c.branches } in
      let at : s ≡ child p i (length cs) = ap (λ (z : Name). scope_of z.place) e in
      let parent : parent_of s ≡ Some q = ap parent_of at ∙ parent_of_child p i (length cs) in
      let same : here ≡ q = same_Some here q (sym (parent_of_child c.place c.index (length c.branches)) ∙ ap parent_of (sym c.scope_is) ∙ parent) in
      let lead : HasFan w.opening w.journal p f.block f.name c.raw c.used c.branches = subst (λ (z : Parent). HasFan w.opening w.journal z.place f.block f.name c.raw c.used c.branches) same c.leads in
      let one : SameFan b f.block name f.name raw c.raw used c.used cs c.branches = run_one_fan w.opening w.journal p b f.block name f.name raw c.raw used c.used cs c.branches fan lead in
      let width : width_of f ≡ limit = width_same f st (subst (λ y. state_of y f.name ≡ Some st) one.block (subst (λ y. state_of b y ≡ Some st) one.name_is found)) ∙ wide in
      let paced : Paced w.objects s (f ∷ around) = subst (Paced w.objects s) u h in
      subst (Earlier w.objects q) width ((paced q parent).0 (λ z. ne (sym width ∙ z)))
    where
      width_same : (f : Frame) (st : State) → state_of f.block f.name ≡ Some st → width_of f ≡ limit_of st
      width_same f st e = ap width_at e

  earlier_at : (limit : ℕ) → limit_of st ≡ limit → limit ≢ 0 → (i : ℕ) → RunsNow w p (length cs) i → Earlier w.objects (record { place = p; index = i; count = length cs }) limit
  earlier_at limit wide ne i r = earlier_by limit wide ne i r.invocation r.name_is (K.made r.number r.invocation r.found) (P.scopes r.number r.invocation r.found) r.invocation.site.around refl

  at_most_so : (limit : ℕ) → limit_of st ≡ limit → limit ≢ 0 → (is : List ℕ) → AreDifferent is → ((i : ℕ) → In i is → RunsNow w p (length cs) i) → length is ≤ limit
  at_most_so zero wide ne is d f = absurd (ne refl)
  at_most_so (suc limit) wide ne is d f = at_most limit is d (λ x y n i k e. earlier_at (suc limit) wide ne x (f x i) y n e (f y k).no_out)

pub every_run_keeps_pace : EveryRunKeepsPace
every_run_keeps_pace o es w e p b name raw used cs st fan found ne is d f =
    let r = run_paces es (start o) w (start_ok o) (start_paces o) e in
    at_most_so w r.0 r.1 p b name raw used cs st fan found (limit_of st) refl ne is d f
