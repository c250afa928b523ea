-- A visit of a run stands in the scope itself, or in a branch of a fan that some answer leads to.
use Rattle.std.proofs.Common.{◌≡◌, ℕ, zero, suc, ◌+◌, ◌-◌, ◌⊎◌, List, [], ◌∷◌, map, Option, Some, None, length, slice_get, refl, sym, ap, ◌∙◌, subst, inl, inr, arith}
use Rattle.std.proofs.lemmas.Option.{same_Some}
use Rattle.asl_model.specs.Data.{Text, Json, Null, Outcome, Done, combine}
use Rattle.asl_model.specs.Names.{Scope, Place, Answers, child, at_hop, scope_of}
use Rattle.asl_model.specs.Machine.{Used, Block, State, start_of, state_of, branches_of}
use Rattle.asl_model.specs.Step.{Goes, Ends, Begun, On, Calls, Fans, Ways, HasOneEach}
use Rattle.asl_model.specs.Central.{hop_limit, used_by, Entered, Called, Joined, Visit, Run, Then, Then_on, Stays, Gathered, All_ended, Some_wait, gather, visits_of, each, then_go, called, joined, entered, turn, enter, walk, scope}
use Rattle.asl_model.specs.Stretch.{Stop, Fan, pairs, children, stop_on, stop_at, stop_in, first_stop, stretch, after_in, after}
use Rattle.asl_model.specs.Laws.{In, Within, runs_of, LeadsTo}
use Rattle.asl_model.specs.Lawful.{IsBranchOf, Sites}
use Rattle.asl_model.proofs.Lists.{In-left, In-right, In-cases}
use Rattle.asl_model.proofs.Tree.{branches_at, runners, unroll, by_branches}
use Rattle.asl_model.proofs.Fans.{each-runs, child_count, branch_visits}
use Rattle.asl_model.proofs.StandsLaw.{go_cases}

leads_more : (W : Ways) (A : Answers) (vs ws : List Visit) → Within vs ws → (p : Place) (fb : Block) (name : Text) (raw : Json) (used : Used) (cs : List (Block × Json)) → LeadsTo W A vs p fb name raw used cs → LeadsTo W A ws p fb name raw used cs
leads_more W A vs ws h p fb name raw used cs (v, i, vb, o, ve, vf, vp) = (v, h v i, vb, o, ve, vf, vp)

sited_more : (W : Ways) (A : Answers) (vs ws : List Visit) → Within vs ws → (v : Visit) → IsBranchOf W A vs v → IsBranchOf W A ws v
sited_more W A vs ws h v c = record {
  place = c.place;
  block = c.block;
  name = c.name;
  raw = c.raw;
  used = c.used;
  branches = c.branches;
  index = c.index;
  inner = c.inner;
  input = c.input;
  leads = leads_more W A vs ws h c.place c.block c.name c.raw c.used c.branches c.leads;
  item = c.item;
  scope_is = c.scope_is;
}

in_first : (bs : List Block) (xs : List Json) (i : ℕ) (c : Block) (x : Json) → slice_get (pairs bs xs) i ≡ Some (c, x) → In c bs
in_first [] xs i c x e = absurd (cc)
in_first (b ∷ bs) [] i c x e = absurd (cc)
in_first (b ∷ bs) (y ∷ ys) zero c x e = inl (ap (λ (z : Block × Json). z.0) (sym (same_Some (b, y) (c, x) e)))
in_first (b ∷ bs) (y ∷ ys) (suc i) c x e = inr (in_first bs ys i c x e)

-- a visit of the branches' runs is one of a branch
branch_item : (W : Ways) (A : Answers) (p : Place) (count index : ℕ) (cs : List (Block × Json)) (v : Visit) → In v (visits_of (runs_of W A p count index cs)) →
    (i : ℕ) × (c : Block) × (x : Json) × (slice_get cs i ≡ Some (c, x)) × In v (scope W A c (child p (index + i) count) x).visits
branch_item W A p count index [] v h = absurd h
branch_item W A p count index (d ∷ ds) v h =
    elim (In-cases (scope W A d.0 (child p index count) d.1).visits (visits_of (runs_of W A p count (suc index) ds)) v h) [
      | inl a ↦ let n : index ≡ index + 0 = omega arith in (0, d.0, d.1, refl, subst (λ k. In v (scope W A d.0 (child p k count) d.1).visits) n a)
      | inr t ↦
          let (i, c, x, e, k) = branch_item W A p count (suc index) ds v t in
          let n : suc index + i ≡ index + suc i = omega arith in
          (suc i, c, x, e, subst (λ y. In v (scope W A c (child p y count) x).visits) n k)
    ]

module _ (W : Ways) (one : HasOneEach W) (A : Answers) (b : Block) (s : Scope) (vs : List Visit) where
  -- an answer of the scope's own that leads to this stop
  abbrev From : Stop → Type 0
  From stop = (u : Visit) × In u vs × (u.block ≡ b) × (scope_of u.place ≡ s) × (o : Outcome) × (u.answer ≡ Some o) × (after W b u.visited u.place.hop u.raw u.used o ≡ stop)

  abbrev Placed : Visit → Type 0
  Placed v = (scope_of v.place ≡ s) ⊎ IsBranchOf W A vs v

  abbrev Inside : Block → Type 0
  Inside c = (t : Scope) (x : Json) (v : Visit) → In v (scope W A c t x).visits → (scope_of v.place ≡ t) ⊎ IsBranchOf W A (scope W A c t x).visits v

  fan_sited : (name : Text) (st : State) (hop : ℕ) (raw : Json) (used : Used) (inputs : List Json) → W.begin name st raw ≡ Fans inputs → From (Fan name hop raw used (children st inputs)) →
      ((n : ℕ) (c : Block) → In c (branches_of st n) → Inside c) → Within (visits_of (runs_of W A (at_hop s hop) (length inputs) 0 (children st inputs))) vs →
      (v : Visit) → In v (visits_of (runs_of W A (at_hop s hop) (length inputs) 0 (children st inputs))) → Placed v
  fan_sited name st hop raw used inputs e (u, ui, ub, us, o, ua, uf) ih w v h =
      let p = at_hop s hop in
      let cs = children st inputs in
      let n = length inputs in
      let (i, c, x, k, m) = branch_item W A p n 0 cs v h in
      let count : length cs ≡ n = child_count W one name st raw inputs e in
      let z : 0 + i ≡ i = omega arith in
      let inside : Within (scope W A c (child p (0 + i) n) x).visits vs = λ y j. w y (branch_visits W A p n 0 cs i c x k y j) in
      elim (ih n c (in_first (branches_of st n) inputs i c x k) (child p (0 + i) n) x v m) [
        | inl q ↦ inr (record {
          place = p;
          block = b;
          name = name;
          raw = raw;
          used = used;
          branches = cs;
          index = i;
          inner = c;
          input = x;
          leads = (u, ui, ub, o, ua, ap (λ y. after W y u.visited u.place.hop u.raw u.used o) ub ∙ uf, ap (λ y. at_hop y hop) (sym us));
          item = k;
          scope_is = q ∙ ap (λ y. child p y n) z ∙ ap (λ y. child p i y) (sym count);
        })
        | inr q ↦ inr (sited_more W A (scope W A c (child p (0 + i) n) x).visits vs inside v q)
      ]

  module _ (name : Text) (st : State) (found : state_of b name ≡ Some st) (hop left : ℕ) (limit : hop + suc left ≡ hop_limit) (raw : Json) (used : Used) where
    abbrev go' : Text → Json → Option Used → Stop
    go' n v a = first_stop W b left n (suc hop) v a

    -- what follows a visit of this state
    after_own : (o : Outcome) (n : Text) (y : Json) (a : Option Used) → Then_on (W.finish name st raw used o) ≡ Then_on (Goes n y a) → after_in W b name (state_of b name) hop raw used o ≡ go' n y a
    after_own o n y a e =
        let f : W.finish name st raw used o ≡ Goes n y a = cc in
        let l : hop_limit - suc hop ≡ left = omega arith in
        ap (λ m. after_in W b name m hop raw used o) found ∙ ap (λ z. stop_on z (λ n v a. stretch W b n (suc hop) v a)) f ∙ ap (λ k. first_stop W b k n (suc hop) y a) l

    called_from : (resource : Text) (x : Json) (r : Option Outcome) → Within (called W b name st (at_hop s hop) raw used resource x r).visits vs → (n : Text) (y : Json) (a : Option Used) →
        (called W b name st (at_hop s hop) raw used resource x r).onward ≡ Then_on (Goes n y a) → From (go' n y a)
    called_from resource x None w n y a e = absurd (cc)
    called_from resource x (Some o) w n y a e =
        let it : Visit = record { place = at_hop s hop; block = b; visited = Called name resource; raw = raw; used = used; given = x; answer = Some o } in
        (it, w it (inl refl), refl, refl, o, refl, after_own o n y a e)

    joined_from : (us : List Visit) (g : Gathered) → Within (joined W b name st (at_hop s hop) raw used us g).visits vs → (n : Text) (y : Json) (a : Option Used) →
        (joined W b name st (at_hop s hop) raw used us g).onward ≡ Then_on (Goes n y a) → From (go' n y a)
    joined_from us (Some_wait ps) w n y a e = absurd (cc)
    joined_from us (All_ended os) w n y a e =
        let it : Visit = record { place = at_hop s hop; block = b; visited = Joined name; raw = raw; used = used; given = raw; answer = Some (combine name os) } in
        (it, w it (inl refl), refl, refl, combine name os, refl, after_own (combine name os) n y a e)

    called_sited : (resource : Text) (x : Json) (r : Option Outcome) (v : Visit) → In v (called W b name st (at_hop s hop) raw used resource x r).visits → Placed v
    called_sited resource x None v h = elim h [ inl e ↦ inl (ap (λ (z : Visit). scope_of z.place) e) | inr t ↦ absurd t ]
    called_sited resource x (Some o) v h = elim h [ inl e ↦ inl (ap (λ (z : Visit). scope_of z.place) e) | inr t ↦ absurd t ]

    joined_within : (us : List Visit) (g : Gathered) → Within us (joined W b name st (at_hop s hop) raw used us g).visits
    joined_within us (Some_wait ps) v h = h
    joined_within us (All_ended os) v h = inr h

    joined_sited : (us : List Visit) (g : Gathered) → ((v : Visit) → In v us → Placed v) → (v : Visit) → In v (joined W b name st (at_hop s hop) raw used us g).visits → Placed v
    joined_sited us (Some_wait ps) f v h = f v h
    joined_sited us (All_ended os) f v h = elim h [ inl e ↦ inl (ap (λ (z : Visit). scope_of z.place) e) | inr t ↦ f v t ]

    -- a turn's visits are placed, and what it goes on to has an answer before it
    turn_sited : (u : Begun) → W.begin name st raw ≡ u → From (stop_at name st hop raw used u go') → ((n : ℕ) (c : Block) → In c (branches_of st n) → Inside c) →
        let t = turn W A b name st (λ n. map (scope W A) (branches_of st n)) (at_hop s hop) raw used u in
        Within t.visits vs → ((v : Visit) → In v t.visits → Placed v) × ((n : Text) (y : Json) (a : Option Used) → t.onward ≡ Then_on (Goes n y a) → From (go' n y a))
    turn_sited (On o) e f ih w = ((λ v h. absurd h), (λ n y a q. let g : o ≡ Goes n y a = cc in subst (λ z. From (stop_on z go')) g f))
    turn_sited (Calls resource x) e f ih w = (called_sited resource x (A (at_hop s hop)), called_from resource x (A (at_hop s hop)) w)
    turn_sited (Fans inputs) e f ih w =
        let p = at_hop s hop in
        let n = length inputs in
        let runs = each p n 0 (map (scope W A) (branches_of st n)) inputs in
        let same = each-runs W A p n 0 (branches_of st n) inputs in
        let inner : Within (visits_of (runs_of W A p n 0 (children st inputs))) vs = λ v h. w v (joined_within (visits_of runs) (gather runs) v (subst (λ q. In v (visits_of q)) (sym same) h)) in (
          joined_sited (visits_of runs) (gather runs) (λ v h. fan_sited name st hop raw used inputs e f ih inner v (subst (λ q. In v (visits_of q)) same h)),
          joined_from (visits_of runs) (gather runs) w,
        )

  enter_sited : (name : Text) (m : Option State) → state_of b name ≡ m → (hop left : ℕ) → hop + suc left ≡ hop_limit → (raw : Json) (again : Option Used) (go : Text → Json → Option Used → Run) →
      ((n : ℕ) (c : Block) → In c (branches_at m n) → Inside c) → From (stop_in W name m hop raw again (λ n v a. first_stop W b left n (suc hop) v a)) →
      Within (enter W A b name m (λ n. map (scope W A) (branches_at m n)) s hop raw again go).visits vs →
      ((n : Text) (y : Json) (a : Option Used) → From (first_stop W b left n (suc hop) y a) → Within (go n y a).visits vs → (v : Visit) → In v (go n y a).visits → Placed v) →
      (v : Visit) → In v (enter W A b name m (λ n. map (scope W A) (branches_at m n)) s hop raw again go).visits → Placed v
  enter_sited name None e hop left limit raw again go ih f w k v h = absurd h
  enter_sited name (Some st) e hop left limit raw again go ih f w k v h =
      let t = turn W A b name st (λ n. map (scope W A) (branches_of st n)) (at_hop s hop) raw (used_by W st again) (W.begin name st raw) in
      let here : Within t.visits vs = λ y i. w y (own_go t.visits t.onward go y i) in
      let both = turn_sited name st e hop left limit raw (used_by W st again) (W.begin name st raw) refl f ih here in
      elim (go_cases t.visits t.onward go v h) [
        | inl a ↦ both.0 v a
        | inr g ↦ let (n, y, u, is, i) = g in k n y u (both.1 n y u is) (λ z j. w z (later_go t.visits t.onward go n y u is z j)) v i
      ]
    where
      own_go : (us : List Visit) (t : Then) (go : Text → Json → Option Used → Run) → Within us (then_go us t go).visits
      own_go us (Then_on (Goes n y u)) go z i = In-left us (go n y u).visits z i
      own_go us (Then_on (Ends o)) go z i = i
      own_go us (Stays ps) go z i = i

      later_go : (us : List Visit) (t : Then) (go : Text → Json → Option Used → Run) (n : Text) (y : Json) (u : Option Used) → t ≡ Then_on (Goes n y u) → Within (go n y u).visits (then_go us t go).visits
      later_go us t go n y u is z i = subst (λ q. In z (then_go us q go).visits) (sym is) (In-right us (go n y u).visits z i)

  walk_sited : ((name : Text) (n : ℕ) (c : Block) → In c (branches_at (state_of b name) n) → Inside c) → (left : ℕ) (name : Text) (hop : ℕ) (raw : Json) (again : Option Used) → hop + left ≡ hop_limit →
      From (first_stop W b left name hop raw again) → Within (walk W A b (runners W A b) left s name hop raw again).visits vs → (v : Visit) → In v (walk W A b (runners W A b) left s name hop raw again).visits → Placed v
  walk_sited ih zero name hop raw again limit f w v h = absurd h
  walk_sited ih (suc left) name hop raw again limit f w v h =
      enter_sited name (state_of b name) refl hop left limit raw again _ (ih name) f w
      (λ n y a g w' v' h'. let l : suc hop + left ≡ hop_limit = omega arith in walk_sited ih left n (suc hop) y a l g w' v' h') v h

pub sites_lem : (W : Ways) → HasOneEach W → Sites W
sites_lem W one A b s x v i = by_branches (λ c. (t : Scope) (y : Json) (u : Visit) → In u (scope W A c t y).visits → (scope_of u.place ≡ t) ⊎ IsBranchOf W A (scope W A c t y).visits u) step b s x v i
  where
    step : (b : Block) → ((name : Text) (n : ℕ) (c : Block) → In c (branches_at (state_of b name) n) → (t : Scope) (y : Json) (u : Visit) → In u (scope W A c t y).visits → (scope_of u.place ≡ t) ⊎ IsBranchOf W A (scope W A c t y).visits u) →
        (s : Scope) (x : Json) (v : Visit) → In v (scope W A b s x).visits → (scope_of v.place ≡ s) ⊎ IsBranchOf W A (scope W A b s x).visits v
    step b ih s x v i =
        let r = walk W A b (runners W A b) hop_limit s (start_of b) 0 x None in
        let vs = (entered b s x r).visits in
        let it : Visit = record { place = at_hop s 0; block = b; visited = Entered; raw = Null; used = []; given = x; answer = Some (Done x) } in
        let l : hop_limit - 0 ≡ hop_limit = omega arith in
        let from : From W one A b s vs (first_stop W b hop_limit (start_of b) 0 x None) = (it, inl refl, refl, refl, Done x, refl, ap (λ k. first_stop W b k (start_of b) 0 x None) l) in
        let h : In v vs = subst (λ q. In v q.visits) (unroll W A b s x) i in
        let placed : (scope_of v.place ≡ s) ⊎ IsBranchOf W A vs v = elim h [
          | inl e ↦ inl (ap (λ (z : Visit). scope_of z.place) e)
          | inr t ↦ walk_sited W one A b s vs ih hop_limit (start_of b) 0 x None (let z : 0 + hop_limit ≡ hop_limit = omega arith in z) from (λ y j. inr j) v t
        ] in
        subst (λ q. (scope_of v.place ≡ s) ⊎ IsBranchOf W A q.visits v) (sym (unroll W A b s x)) placed
