-- The laws as an invariant over a world uses them.
use Rattle.std.proofs.Common.{◌≡◌, ℕ, zero, suc, ◌<◌, List, [], ◌∷◌, Some, length, slice_get, refl, sym, ap, ap₂, ◌∙◌, subst, subst₂, arith}
use Rattle.asl_model.specs.Data.{Text, Json, Outcome}
use Rattle.asl_model.specs.Names.{Scope, Place, Name, Answers, child, at_hop, scope_of}
use Rattle.asl_model.specs.Machine.{Block, Used}
use Rattle.asl_model.specs.Central.{Visited, Visit, kind_of, name_of, Ended, gather, All_ended, scope}
use Rattle.asl_model.specs.Step.{Ways, HasOneEach}
use Rattle.asl_model.specs.Stretch.{after}
use Rattle.asl_model.specs.Laws.{In, fan_runs, MeetsFan, Meets, EndsAs, LeadsTo, EndKept, FanKept, JoinReady, AllAre}
use Rattle.asl_model.proofs.GrowthLaw.{growth_lem}
use Rattle.asl_model.proofs.StandsLaw.{stands_lem, the_enter, enter_in}
use Rattle.asl_model.proofs.OrderLaw.{one_visit_lem}
use Rattle.asl_model.proofs.ExactLaw.{join_exactly_lem}
use Rattle.asl_model.proofs.Uses.{branch_ends_lem}

pub end_kept_lem : (W : Ways) → EndKept W
end_kept_lem W A B h b s x at o (u, i, p, v, e) =
    let (w, k, g) = (growth_lem W A B h b s x).visits u i in
    let same : (scope W A w.block at w.given).end ≡ Ended o = subst₂ (λ y z. (scope W A y at z).end ≡ Ended o) (sym g.block) (sym g.given) e in
    (w, k, g.place ∙ p, g.visited ∙ v, (growth_lem W A B h w.block at w.given).end o same)

pub fan_kept_lem : (W : Ways) → FanKept W
fan_kept_lem W A B h b s x p fb name raw used cs (v, i, vb, o, e, f, at) =
    let (w, k, g) = (growth_lem W A B h b s x).visits v i in
    let stop : after W w.block w.visited w.place.hop w.raw w.used o ≡ after W v.block v.visited v.place.hop v.raw v.used o = cc (g.block, g.visited, g.place, g.raw, g.used) in
    (w, k, g.block ∙ vb, o, g.answer o e, stop ∙ f, at ∙ ap (λ (z : Place). at_hop (scope_of z) p.hop) (sym g.place))

pub item_at : (cs : List (Block × Json)) (i : ℕ) → i < length cs → (c : Block × Json) × (slice_get cs i ≡ Some c)
item_at [] i h = absurd (omega arith)
item_at (c ∷ cs) zero h = (c, refl)
item_at (c ∷ cs) (suc i) h = item_at cs i (omega arith)

pub at_item : (cs : List (Block × Json)) (i : ℕ) (c : Block × Json) → slice_get cs i ≡ Some c → i < length cs
at_item [] i c e = absurd (cc)
at_item (d ∷ ds) zero c e = omega arith
at_item (d ∷ ds) (suc i) c e = let l : i < length ds = at_item ds i c e in omega arith

module _ (W : Ways) (one : HasOneEach W) (A : Answers) (b : Block) (s : Scope) (x : Json) (p : Place) (fb : Block) (name : Text) (raw : Json) (used : Used) (cs : List (Block × Json)) (lead : LeadsTo W A (scope W A b s x).visits p fb name raw used cs) where
  -- an Out of a branch holds the end of that branch
  branch_end : (i : ℕ) (c : Block) (y : Json) → slice_get cs i ≡ Some (c, y) → (o : Outcome) → EndsAs W A (scope W A b s x).visits (child p i (length cs)) o → (scope W A c (child p i (length cs)) y).end ≡ Ended o
  branch_end i c y k o (u, j, up, uv, ue) =
      let (v, vi, vb, vo, ve, vf, at) = lead in
      let t = stands_lem W one A b s x v vi in
      let fan : MeetsFan W A t.at_block t.at_scope (scope W A t.at_block t.at_scope t.enter.given) name p.hop raw used cs =
      subst (Meets W A t.at_block t.at_scope (scope W A t.at_block t.at_scope t.enter.given)) (ap (λ z. after W z v.visited v.place.hop v.raw v.used vo) (sym t.block) ∙ vf) (t.next vo ve) in
      let same : at_hop t.at_scope p.hop ≡ p = ap (λ z. at_hop z p.hop) (sym t.scope_is) ∙ sym at in
      let s' = child (at_hop t.at_scope p.hop) i (length cs) in
      let m : Visit = the_enter W one A c s' y in
      let im : In m (scope W A b s x).visits = t.within m (fan.branches i c y k m (enter_in W one A c s' y)) in
      let mp : m.place ≡ u.place = ap (λ z. at_hop (child z i (length cs)) 0) same ∙ sym up in
      let names : name_of u ≡ name_of m = ap₂ (λ (q : Place) (z : Visited). let n : Name = record { place = q; kind = kind_of z } in n) (sym mp) uv in
      let one : u ≡ m = one_visit_lem W A b s x u m j im names in
      subst (λ (z : Visit). (scope W A z.block (child p i (length cs)) z.given).end ≡ Ended o) one ue

  ready : ((i : ℕ) → i < length cs → (o : Outcome) × EndsAs W A (scope W A b s x).visits (child p i (length cs)) o) → (os : List Outcome) × (gather (fan_runs W A p cs) ≡ All_ended os) × AllAre W A p cs os
  ready h = (branch_ends_lem W A p cs).1 (λ i c y k. let (o, u) = h i (at_item cs i (c, y) k) in (o, branch_end i c y k o u))

  outcome_at : (os : List Outcome) → AllAre W A p cs os → (i : ℕ) (o : Outcome) → EndsAs W A (scope W A b s x).visits (child p i (length cs)) o → i < length cs → slice_get os i ≡ Some o
  outcome_at os all i o u l =
      let (c, k) = item_at cs i l in
      let (o', g, f) = all.1 i c.0 c.1 k in
      let same : Ended o' ≡ Ended o = sym f ∙ branch_end i c.0 c.1 k o u in
      let o_is : o' ≡ o = cc in
      g ∙ ap Some o_is

pub join_ready_lem : (W : Ways) → HasOneEach W → JoinReady W
join_ready_lem W one A b s x p fb name raw used cs lead h =
    let (os, g, all) = ready W one A b s x p fb name raw used cs lead h in
    let (v, vi, vb, vo, ve, vf, at) = lead in
    let join = join_exactly_lem W one A b s x v vo name p.hop raw used cs vi ve vf in
    let (w, k, wp, wb, wv, wr, wu, wa) = join.0 os (subst (λ q. gather (fan_runs W A q cs) ≡ All_ended os) at g) in
    (os, all.0, outcome_at W one A b s x p fb name raw used cs lead os all, w, k, wp ∙ sym at, wb ∙ vb, wv, wr, wu, wa)
