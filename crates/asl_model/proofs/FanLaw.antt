-- A place has one fan, and the laws that worlds use, together.
use Rattle.std.proofs.lemmas.Option.{same_Some}
use Rattle.std.proofs.Common.{◌≡◌, ℕ, zero, suc, List, [], ◌∷◌, length, slice_get, Some, None, refl, sym, ap, ap₂, ◌∙◌, subst, subst₂}
use Rattle.asl_model.specs.Data.{Text, Json, Outcome}
use Rattle.asl_model.specs.Names.{Scope, Place, Answers, Name, at_hop, scope_of}
use Rattle.asl_model.specs.Machine.{Used, Block, Task, Pass, Choice, Succeed, Fail, Parallel, Map, start_of, state_of, branches_of}
use Rattle.asl_model.specs.Data.{repeat}
use Rattle.asl_model.specs.Step.{Fans, Ways, HasOneEach}
use Rattle.asl_model.specs.Central.{hop_limit, Visited, Visit, name_of, kind_of, scope}
use Rattle.asl_model.specs.Stretch.{pairs, Fan, children, after}
use Rattle.asl_model.specs.Laws.{In, Meets, MeetsFan}
use Rattle.asl_model.specs.Lawful.{Enters, OneFan, FanIs, InputAt, OneBody, Lawful}
use Rattle.asl_model.proofs.StandsLaw.{stands_lem, the_enter, enter_in}
use Rattle.asl_model.proofs.OrderLaw.{one_visit_lem}
use Rattle.asl_model.proofs.GrowthLaw.{growth_lem}
use Rattle.asl_model.proofs.Uses.{next_lem}
use Rattle.asl_model.proofs.WorldUse.{end_kept_lem, fan_kept_lem, join_ready_lem}
use Rattle.asl_model.proofs.ExactLaw.{Entry, EntryOf, scope_states, scope_known, one_entry}
use Rattle.asl_model.proofs.SiteLaw.{sites_lem}

-- two fans of one scope at one hop
own_fans : (W : Ways) (A : Answers) (b : Block) (s : Scope) (x : Json) (v w : Visit) (o r : Outcome) (hop : ℕ) (name other : Text) (raw more : Json) (used again : Used) (cs ds : List (Block × Json)) →
    In v (scope W A b s x).visits → In w (scope W A b s x).visits → scope_of v.place ≡ s → scope_of w.place ≡ s → v.answer ≡ Some o → w.answer ≡ Some r →
    after W b v.visited v.place.hop v.raw v.used o ≡ Fan name hop raw used cs → after W b w.visited w.place.hop w.raw w.used r ≡ Fan other hop more again ds → (name ≡ other) × (raw ≡ more) × (used ≡ again)
own_fans W A b s x v w o r hop name other raw more used again cs ds i j ev ew ve we f g =
    let E = scope_states W A b s x in
    let p : Entry = (hop, name, raw, used) in
    let q : Entry = (hop, other, more, again) in
    let a : EntryOf E (Fan name hop raw used cs) = subst (EntryOf E) f ((scope_known W A b s x v i ev).next o ve) in
    let c : EntryOf E (Fan other hop more again ds) = subst (EntryOf E) g ((scope_known W A b s x w j ew).next r we) in
    let same : p ≡ q = one_entry W A b s hop_limit (start_of b) 0 x None p q a c refl in
    (ap (λ (z : Entry). z.1) same, ap (λ (z : Entry). z.2) same, ap (λ (z : Entry). z.3) same)

same_children : (W : Ways) (A : Answers) (b : Block) (s : Scope) (x : Json) (hop : ℕ) (name other : Text) (raw more : Json) (used again : Used) (cs ds : List (Block × Json)) →
    name ≡ other → raw ≡ more → MeetsFan W A b s (scope W A b s x) name hop raw used cs → MeetsFan W A b s (scope W A b s x) other hop more again ds → cs ≡ ds
same_children W A b s x hop name other raw more used again cs ds ne re m n =
    let found : state_of b name ≡ Some n.state = subst (λ z. state_of b z ≡ Some n.state) (sym ne) n.found in
    let states : m.state ≡ n.state = let f = m.found in cc in
    let begins : W.begin name m.state raw ≡ Fans n.inputs = subst (λ z. W.begin name z raw ≡ Fans n.inputs) (sym states) (subst₂ (λ y z. W.begin y n.state z ≡ Fans n.inputs) (sym ne) (sym re) n.begins) in
    let inputs : m.inputs ≡ n.inputs = let f = m.begins in cc in
    m.children_are ∙ ap₂ children states inputs ∙ sym n.children_are

pub one_fan_lem : (W : Ways) → HasOneEach W → OneFan W
one_fan_lem W one A b s x p fb gb name other raw more used again cs ds (v, i, vb, o, ve, vf, vp) (w, j, wb, r, we, wf, wp) =
    let t = stands_lem W one A b s x v i in
    let u = stands_lem W one A b s x w j in
    let at : at_hop (scope_of w.place) p.hop ≡ at_hop (scope_of v.place) p.hop = sym wp ∙ vp in
    let scopes : u.at_scope ≡ t.at_scope = sym u.scope_is ∙ ap scope_of at ∙ t.scope_is in
    let names : name_of t.enter ≡ name_of u.enter = ap₂ (λ (q : Place) (y : Visited). let z : Name = record { place = q; kind = kind_of y } in z) (t.enter_place ∙ ap (λ z. at_hop z 0) (sym scopes) ∙ sym u.enter_place) (t.enter_visited ∙ sym u.enter_visited) in
    let enters : t.enter ≡ u.enter = one_visit_lem W A b s x t.enter u.enter t.entered u.entered names in
    let blocks : u.at_block ≡ t.at_block = sym u.enter_block ∙ ap (λ (z : Visit). z.block) (sym enters) ∙ t.enter_block in
    let X = t.enter.given in
    let own : In w (scope W A t.at_block t.at_scope X).visits =
    subst (λ (z : Visit). In w (scope W A t.at_block t.at_scope z.given).visits) (sym enters) (subst₂ (λ y z. In w (scope W A y z u.enter.given).visits) blocks scopes u.own) in
    let fv : after W t.at_block v.visited v.place.hop v.raw v.used o ≡ Fan name p.hop raw used cs = ap (λ z. after W z v.visited v.place.hop v.raw v.used o) (sym t.block) ∙ vf in
    let wt : w.block ≡ t.at_block = u.block ∙ blocks in
    let fw : after W t.at_block w.visited w.place.hop w.raw w.used r ≡ Fan other p.hop more again ds = ap (λ z. after W z w.visited w.place.hop w.raw w.used r) (sym wt) ∙ wf in
    let (ne, re, ue) = own_fans W A t.at_block t.at_scope X v w o r p.hop name other raw more used again cs ds t.own own t.scope_is (u.scope_is ∙ scopes) ve we fv fw in
    let mv : MeetsFan W A t.at_block t.at_scope (scope W A t.at_block t.at_scope X) name p.hop raw used cs = subst (Meets W A t.at_block t.at_scope (scope W A t.at_block t.at_scope X)) fv (t.next o ve) in
    let stop : Meets W A t.at_block t.at_scope (scope W A t.at_block t.at_scope X) (after W t.at_block w.visited w.place.hop w.raw w.used r) =
    subst (λ (z : Visit). Meets W A t.at_block t.at_scope (scope W A t.at_block t.at_scope z.given) (after W t.at_block w.visited w.place.hop w.raw w.used r)) (sym enters)
    (subst₂ (λ y z. Meets W A y z (scope W A y z u.enter.given) (after W y w.visited w.place.hop w.raw w.used r)) blocks scopes (u.next r we)) in
    let mw : MeetsFan W A t.at_block t.at_scope (scope W A t.at_block t.at_scope X) other p.hop more again ds = subst (Meets W A t.at_block t.at_scope (scope W A t.at_block t.at_scope X)) fw stop in
    record {
      block = sym vb ∙ t.block ∙ sym wt ∙ wb;
      name_is = ne;
      raw_is = re;
      used_is = ue;
      branches = same_children W A t.at_block t.at_scope X p.hop name other raw more used again cs ds ne re mv mw;
    }

pub fan_is_lem : (W : Ways) → HasOneEach W → FanIs W
fan_is_lem W one A b s x p fb name raw used cs (v, i, vb, o, ve, vf, vp) =
    let t = stands_lem W one A b s x v i in
    let fv : after W t.at_block v.visited v.place.hop v.raw v.used o ≡ Fan name p.hop raw used cs = ap (λ z. after W z v.visited v.place.hop v.raw v.used o) (sym t.block) ∙ vf in
    let m : MeetsFan W A t.at_block t.at_scope (scope W A t.at_block t.at_scope t.enter.given) name p.hop raw used cs = subst (Meets W A t.at_block t.at_scope (scope W A t.at_block t.at_scope t.enter.given)) fv (t.next o ve) in
    (m.state, m.inputs, subst (λ z. state_of z name ≡ Some m.state) (sym t.block ∙ vb) m.found, m.begins, m.children_are)

second_of : (bs : List Block) (xs : List Json) (i : ℕ) (c : Block) (x : Json) → slice_get (pairs bs xs) i ≡ Some (c, x) → slice_get xs i ≡ Some x
second_of [] xs i c x e = absurd (cc)
second_of (b ∷ bs) [] i c x e = absurd (cc)
second_of (b ∷ bs) (y ∷ ys) zero c x e = ap Some (ap (λ (z : Block × Json). z.1) (same_Some (b, y) (c, x) e))
second_of (b ∷ bs) (y ∷ ys) (suc i) c x e = second_of bs ys i c x e

pub input_at_lem : InputAt
input_at_lem st inputs i c x e = second_of (branches_of st (length inputs)) inputs i c x e

first_is : (n : ℕ) (b : Block) (xs : List Json) (i : ℕ) (c : Block) (x : Json) → slice_get (pairs (repeat n b) xs) i ≡ Some (c, x) → b ≡ c
first_is zero b xs i c x e = absurd (cc)
first_is (suc n) b [] i c x e = absurd (cc)
first_is (suc n) b (y ∷ ys) zero c x e = ap (λ (z : Block × Json). z.0) (same_Some (b, y) (c, x) e)
first_is (suc n) b (y ∷ ys) (suc i) c x e = first_is n b ys i c x e

pub one_body_lem : OneBody
one_body_lem (Map shape items selector b after care limit) inputs h i k c d x y e f = sym (first_is (length inputs) b inputs i c x e) ∙ first_is (length inputs) b inputs k d y f
one_body_lem (Task shape resource after care) inputs h i k c d x y e f = absurd (h refl)
one_body_lem (Pass shape result after) inputs h i k c d x y e f = absurd (h refl)
one_body_lem (Choice shape rules default) inputs h i k c d x y e f = absurd (h refl)
one_body_lem (Succeed shape) inputs h i k c d x y e f = absurd (h refl)
one_body_lem (Fail error cause) inputs h i k c d x y e f = absurd (h refl)
one_body_lem (Parallel shape bs after care) inputs h i k c d x y e f = absurd (h refl)

pub enters_lem : (W : Ways) → HasOneEach W → Enters W
enters_lem W one A b s x = (the_enter W one A b s x, enter_in W one A b s x, refl, refl, refl, refl)

pub lawful : (W : Ways) → HasOneEach W → Lawful W
lawful W one = record {
  growth = growth_lem W;
  enters = enters_lem W one;
  sound = λ A b s x v i. (stands_lem W one A b s x v i).sound;
  next = next_lem W one;
  one = one_visit_lem W;
  end_kept = end_kept_lem W;
  fan_kept = fan_kept_lem W;
  join_ready = join_ready_lem W one;
  one_fan = one_fan_lem W one;
  fan_is = fan_is_lem W one;
  sites = sites_lem W one;
}
