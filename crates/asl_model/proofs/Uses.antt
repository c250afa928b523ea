-- The laws as they are used.
use Rattle.std.proofs.Common.{◌≡◌, ℕ, zero, suc, ◌+◌, List, [], ◌∷◌, Some, length, slice_get, refl, sym, ap, ap₂, ◌∙◌, subst, subst₂, arith}
use Rattle.asl_model.specs.Data.{Json, Outcome}
use Rattle.asl_model.specs.Names.{Scope, Place, Answers, child, at_hop, scope_of}
use Rattle.asl_model.specs.Machine.{Block, state_of}
use Rattle.asl_model.specs.Central.{Entered, Visit, Ended, All_ended, with_end, gather, scope}
use Rattle.asl_model.specs.Step.{Ways, HasOneEach}
use Rattle.asl_model.specs.Stretch.{Stop, Call, Fan, Over, after}
use Rattle.asl_model.specs.Laws.{In, Within, runs_of, fan_runs, Meets, FollowedBy, Next, CentralGrowth, AllAre, BranchEnds}
use Rattle.asl_model.proofs.GrowthLaw.{growth_lem, with_end-all}
use Rattle.asl_model.proofs.StandsLaw.{stands_lem, the_enter, enter_in}

-- what the scope's run meets, seen from a visit of the scope
followed : (W : Ways) → HasOneEach W → (A : Answers) (vs : List Visit) (v : Visit) (b : Block) (s : Scope) (x : Json) → v.block ≡ b → scope_of v.place ≡ s → Within (scope W A b s x).visits vs → (w : Visit) → In w vs → w.place ≡ at_hop s 0 → w.block ≡ b → w.visited ≡ Entered → w.given ≡ x → (stop : Stop) → Meets W A b s (scope W A b s x) stop → FollowedBy W A vs v stop
followed W one A vs v b s x eb es within w wi wp wb wv wx (Call name hop raw used) m =
    (m.visit, within m.visit m.in_run, m.state, m.resource, m.place ∙ ap (λ z. at_hop z hop) (sym es), m.block ∙ sym eb, m.visited, subst (λ z. state_of z name ≡ Some m.state) (sym eb) m.found, m.begins, m.raw_is, m.used_is)
followed W one A vs v b s x eb es within w wi wp wb wv wx (Fan name hop raw used cs) m =
    let at = ap (λ z. at_hop z hop) (sym es) in (
      (λ i c y e.
          let s' = child (at_hop s hop) i (length cs) in
          (the_enter W one A c s' y, within _ (m.branches i c y e _ (enter_in W one A c s' y)), ap (λ z. at_hop (child z i (length cs)) 0) at, refl, refl, refl)),
      (λ e. let none : gather (fan_runs W A (at_hop s hop) cs) ≡ All_ended [] = ap (λ z. gather (fan_runs W A (at_hop s hop) z)) e in
          let j = m.join [] none in (j.visit, within j.visit j.in_run, j.place ∙ at, j.block ∙ sym eb, j.visited, j.given, j.used_is)),
    )
followed W one A vs v b s x eb es within w wi wp wb wv wx (Over o) m =
    (w, wi, wp ∙ ap (λ z. at_hop z 0) (sym es), wb ∙ sym eb, wv, subst₂ (λ (b' : Block) (s' : Scope). (scope W A b' s' w.given).end ≡ Ended o) (sym eb) (sym es) (subst (λ z. (scope W A b s z).end ≡ Ended o) (sym wx) m))

pub next_lem : (W : Ways) → HasOneEach W → Next W
next_lem W one A root session input v o i e =
    let t = stands_lem W one A root (record { session = session; trail = [] }) input v i in
    let stop : Meets W A t.at_block t.at_scope (scope W A t.at_block t.at_scope t.enter.given) (after W v.block v.visited v.place.hop v.raw v.used o) =
    subst (λ z. Meets W A t.at_block t.at_scope (scope W A t.at_block t.at_scope t.enter.given) (after W z v.visited v.place.hop v.raw v.used o)) (sym t.block) (t.next o e) in
    followed W one A _ v t.at_block t.at_scope t.enter.given t.block t.scope_is t.within t.enter t.entered t.enter_place t.enter_block t.enter_visited refl _ stop

pub central_growth_lem : (W : Ways) → CentralGrowth W
central_growth_lem W A B h root session input = growth_lem W A B h root _ input

all_at : (W : Ways) (A : Answers) (p : Place) (count index : ℕ) (cs : List (Block × Json)) (os : List Outcome) → gather (runs_of W A p count index cs) ≡ All_ended os → (length os ≡ length cs) × ((i : ℕ) (c : Block) (x : Json) → slice_get cs i ≡ Some (c, x) → (o : Outcome) × (slice_get os i ≡ Some o) × ((scope W A c (child p (index + i) count) x).end ≡ Ended o))
all_at W A p count index [] os e = let none : os ≡ [] = cc in (ap length none, λ i c x k. absurd (cc))
all_at W A p count index (d ∷ ds) os e =
    let (o, os', a, b, is) = with_end-all (scope W A d.0 (child p index count) d.1).end (gather (runs_of W A p count (suc index) ds)) os e in
    let rest = all_at W A p count (suc index) ds os' b in
    (ap length is ∙ ap suc rest.0, λ i c x k. at i c x k o os' a is rest.1)
  where
    at : (i : ℕ) (c : Block) (x : Json) → slice_get (d ∷ ds) i ≡ Some (c, x) → (o : Outcome) (os' : List Outcome) → (scope W A d.0 (child p index count) d.1).end ≡ Ended o → os ≡ o ∷ os' → ((i : ℕ) (c : Block) (x : Json) → slice_get ds i ≡ Some (c, x) → (o : Outcome) × (slice_get os' i ≡ Some o) × ((scope W A c (child p (suc index + i) count) x).end ≡ Ended o)) → (o : Outcome) × (slice_get os i ≡ Some o) × ((scope W A c (child p (index + i) count) x).end ≡ Ended o)
    at zero c x k o os' a is rest =
        let same : d ≡ (c, x) = cc in
        let n : index ≡ index + 0 = omega arith in
        (o, ap (λ l. slice_get l 0) is, subst₂ (λ (q : Block × Json) (m : ℕ). (scope W A q.0 (child p m count) q.1).end ≡ Ended o) same n a)
    at (suc i) c x k o os' a is rest =
        let (o', g, f) = rest i c x k in
        let n : suc index + i ≡ index + suc i = omega arith in
        (o', ap (λ l. slice_get l (suc i)) is ∙ g, subst (λ m. (scope W A c (child p m count) x).end ≡ Ended o') n f)

all_gather : (W : Ways) (A : Answers) (p : Place) (count index : ℕ) (cs : List (Block × Json)) → ((i : ℕ) (c : Block) (x : Json) → slice_get cs i ≡ Some (c, x) → (o : Outcome) × ((scope W A c (child p (index + i) count) x).end ≡ Ended o)) → (os : List Outcome) × (gather (runs_of W A p count index cs) ≡ All_ended os)
all_gather W A p count index [] h = ([], refl)
all_gather W A p count index (d ∷ ds) h =
    let n : index + 0 ≡ index = omega arith in
    let (o, e) = h 0 d.0 d.1 refl in
    let (os, g) = all_gather W A p count (suc index) ds (λ i c x k. let (o', f) = h (suc i) c x k in let m : index + suc i ≡ suc index + i = omega arith in (o', subst (λ z. (scope W A c (child p z count) x).end ≡ Ended o') m f)) in
    (o ∷ os, ap₂ with_end (subst (λ z. (scope W A d.0 (child p z count) d.1).end ≡ Ended o) n e) g)

from_zero : (W : Ways) (A : Answers) (p : Place) (cs : List (Block × Json)) (os : List Outcome) → gather (fan_runs W A p cs) ≡ All_ended os → AllAre W A p cs os
from_zero W A p cs os e =
    let (l, h) = all_at W A p (length cs) 0 cs os e in (
      l,
      (λ i c x k. let (o, g, f) = h i c x k in let n : 0 + i ≡ i = omega arith in (o, g, subst (λ z. (scope W A c (child p z (length cs)) x).end ≡ Ended o) n f)),
    )

pub branch_ends_lem : (W : Ways) → BranchEnds W
branch_ends_lem W A p cs = (
  from_zero W A p cs,
  (λ h.
      let (os, g) = all_gather W A p (length cs) 0 cs (λ i c x k. let (o, f) = h i c x k in let n : i ≡ 0 + i = omega arith in (o, subst (λ z. (scope W A c (child p z (length cs)) x).end ≡ Ended o) n f)) in
      (os, g, from_zero W A p cs os g)),
)
