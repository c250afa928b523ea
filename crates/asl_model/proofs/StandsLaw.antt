-- What follows an answer stands in the run.
use Rattle.std.proofs.Common.{◌≡◌, ℕ, zero, suc, ◌+◌, ◌-◌, ◌⊎◌, List, [], ◌∷◌, map, Option, Some, None, length, refl, sym, ap, ◌∙◌, subst, inl, inr, arith}
use Rattle.asl_model.specs.Data.{Text, Json, Null, Outcome, Done, combine}
use mathlib.Core.Path.{fun_ext}
use Rattle.asl_model.specs.Names.{Scope, Answers, child, at_hop, scope_of}
use Rattle.asl_model.specs.Machine.{Used, Block, State, start_of, state_of, branches_of}
use Rattle.asl_model.specs.Step.{Onward, Goes, Ends, Begun, On, Calls, Fans, Ways, HasOneEach}
use Rattle.asl_model.specs.Central.{hop_limit, used_by, Entered, Called, Joined, Visit, Run, Turn, Then, Then_on, Stays, Gathered, All_ended, Some_wait, gather, visits_of, each, then_go, called, joined, turn, enter, walk, scope}
use Rattle.asl_model.specs.Stretch.{Stop, Call, Fan, Over, children, stop_on, stop_at, stop_in, first_stop, stretch, after_in, after}
use Rattle.asl_model.specs.Laws.{In, Within, fan_runs, MeetsCall, MeetsJoin, MeetsFan, Meets, IsSound, Stands, Standing}
use Rattle.asl_model.proofs.Lists.{In-left, In-right, In-cases}
use Rattle.asl_model.proofs.Tree.{branches_at, runners, unroll, by_branches}
use Rattle.asl_model.proofs.Fans.{fan_runs_are, branch_visits, branch_of_visit}

within_go : (vs : List Visit) (t : Then) (go : Text → Json → Option Used → Run) → Within vs (then_go vs t go).visits
within_go vs (Then_on (Goes next v again)) go w h = In-left vs (go next v again).visits w h
within_go vs (Then_on (Ends o)) go w h = h
within_go vs (Stays ps) go w h = h

pub go_cases : (vs : List Visit) (t : Then) (go : Text → Json → Option Used → Run) (v : Visit) → In v (then_go vs t go).visits → In v vs ⊎ ((n : Text) × (x : Json) × (a : Option Used) × (t ≡ Then_on (Goes n x a)) × In v (go n x a).visits)
go_cases vs (Then_on (Goes n x u)) go v h = elim (In-cases vs (go n x u).visits v h) [ inl a ↦ inl a | inr k ↦ inr (n, x, u, refl, k) ]
go_cases vs (Then_on (Ends o)) go v h = inl h
go_cases vs (Stays ps) go v h = inl h

-- a run that goes on as this one, after more visits
record Extends (r q : Run) : Type 0 where
  visits : Within q.visits r.visits
  end : r.end ≡ q.end

meets_more : (W : Ways) (A : Answers) (b : Block) (s : Scope) (r q : Run) → Extends r q → (stop : Stop) → Meets W A b s q stop → Meets W A b s r stop
meets_more W A b s r q x (Call name hop raw used) m =
    record { visit = m.visit; in_run = x.visits m.visit m.in_run; state = m.state; resource = m.resource; place = m.place; block = m.block; visited = m.visited; raw_is = m.raw_is; used_is = m.used_is; found = m.found; begins = m.begins }
meets_more W A b s r q x (Fan name hop raw used cs) m =
    record {
      state = m.state;
      inputs = m.inputs;
      found = m.found;
      begins = m.begins;
      children_are = m.children_are;
      branches = λ i c v e w h. x.visits w (m.branches i c v e w h);
      join = λ os e. let j = m.join os e in record { visit = j.visit; in_run = x.visits j.visit j.in_run; place = j.place; block = j.block; visited = j.visited; raw_is = j.raw_is; used_is = j.used_is; given = j.given; answer = j.answer };
      waits = λ ps e. x.end ∙ m.waits ps e;
    }
meets_more W A b s r q x (Over o) m = x.end ∙ m

-- a visit of a walk: one of the scope itself, or one of a branch's scope
record IsOwn (W : Ways) (A : Answers) (b : Block) (s : Scope) (r : Run) (v : Visit) : Type 0 where
  block : v.block ≡ b
  scope_is : scope_of v.place ≡ s
  sound : IsSound W A v v.visited
  next : (o : Outcome) → v.answer ≡ Some o → Meets W A b s r (after W b v.visited v.place.hop v.raw v.used o)

stands_more : (W : Ways) (A : Answers) (vs ws : List Visit) (v : Visit) → Within vs ws → Stands W A vs v → Stands W A ws v
stands_more W A vs ws v w t =
    record { at_block = t.at_block; at_scope = t.at_scope; enter = t.enter; block = t.block; scope_is = t.scope_is; entered = w t.enter t.entered; enter_place = t.enter_place; enter_block = t.enter_block; enter_visited = t.enter_visited; within = λ u h. w u (t.within u h); own = t.own; sound = t.sound; next = t.next }

is_it : {W : Ways} {A : Answers} {b : Block} {s : Scope} {r : Run} (it v : Visit) → In v (it ∷ []) → IsOwn W A b s r it → IsOwn W A b s r v
is_it {W} {A} {b} {s} {r} it v h own = elim h [ inl e ↦ subst (IsOwn W A b s r) (sym e) own | inr t ↦ absurd t ]

abbrev AllStand : Ways → Answers → Block → Type 0
AllStand W A c = (s : Scope) (x : Json) (v : Visit) → In v (scope W A c s x).visits → Stands W A (scope W A c s x).visits v

module _ (W : Ways) (one : HasOneEach W) (A : Answers) (b : Block) (s : Scope) where
  abbrev Fine : Run → Visit → Type 0
  Fine r v = Stands W A r.visits v ⊎ IsOwn W A b s r v

  fine_more : (r q : Run) → Extends r q → (v : Visit) → Fine q v → Fine r v
  fine_more r q x v f =
      elim f [
        | inl t ↦ inl (stands_more W A q.visits r.visits v x.visits t)
        | inr t ↦ inr (record { block = t.block; scope_is = t.scope_is; sound = t.sound; next = λ o e. meets_more W A b s r q x (after W b v.visited v.place.hop v.raw v.used o) (t.next o e) })
      ]

  -- the part of a turn that goes on
  extends_go : (vs : List Visit) (next : Text) (v : Json) (again : Option Used) (go : Text → Json → Option Used → Run) → Extends (then_go vs (Then_on (Goes next v again)) go) (go next v again)
  extends_go vs next v again go = record { visits = λ w h. In-right vs (go next v again).visits w h; end = refl }

  meets_on : (vs : List Visit) (w : Onward) (go : Text → Json → Option Used → Run) (go' : Text → Json → Option Used → Stop) → ((n : Text) (v : Json) (a : Option Used) → Meets W A b s (go n v a) (go' n v a)) → Meets W A b s (then_go vs (Then_on w) go) (stop_on w go')
  meets_on vs (Goes next v again) go go' m = meets_more W A b s _ (go next v again) (extends_go vs next v again go) (go' next v again) (m next v again)
  meets_on vs (Ends o) go go' m = refl

  -- a turn at one state, and all that follows it
  module _ (name : Text) (st : State) (found : state_of b name ≡ Some st) (hop : ℕ) (raw : Json) (used : Used) (go : Text → Json → Option Used → Run) (go' : Text → Json → Option Used → Stop) (meets : (n : Text) (v : Json) (a : Option Used) → Meets W A b s (go n v a) (go' n v a)) where
    abbrev of_turn : Turn → Run
    of_turn t = then_go t.visits t.onward go

    called-meets : (resource : Text) (x : Json) → W.begin name st raw ≡ Calls resource x → (o : Option Outcome) → MeetsCall W b s (of_turn (called W b name st (at_hop s hop) raw used resource x o)) name hop raw used
    called-meets resource x e None =
        record { visit = _; in_run = inl refl; state = st; resource = resource; place = refl; block = refl; visited = refl; raw_is = refl; used_is = refl; found = found; begins = e }
    called-meets resource x e (Some o) =
        let t = called W b name st (at_hop s hop) raw used resource x (Some o) in
        record { visit = _; in_run = within_go t.visits t.onward go _ (inl refl); state = st; resource = resource; place = refl; block = refl; visited = refl; raw_is = refl; used_is = refl; found = found; begins = e }

    joined-join : (vs : List Visit) (os : List Outcome) → MeetsJoin b s (of_turn (joined W b name st (at_hop s hop) raw used vs (All_ended os))) name hop raw used (combine name os)
    joined-join vs os =
        let t = joined W b name st (at_hop s hop) raw used vs (All_ended os) in
        record { visit = _; in_run = within_go t.visits t.onward go _ (inl refl); place = refl; block = refl; visited = refl; raw_is = refl; used_is = refl; given = refl; answer = refl }

    joined_within : (vs : List Visit) (g : Gathered) → Within vs (of_turn (joined W b name st (at_hop s hop) raw used vs g)).visits
    joined_within vs (All_ended os) w h = let t = joined W b name st (at_hop s hop) raw used vs (All_ended os) in within_go t.visits t.onward go w (inr h)
    joined_within vs (Some_wait ps) w h = h

    fan-meets : (inputs : List Json) → W.begin name st raw ≡ Fans inputs → (runs : List Run) → runs ≡ fan_runs W A (at_hop s hop) (children st inputs) → MeetsFan W A b s (of_turn (joined W b name st (at_hop s hop) raw used (visits_of runs) (gather runs))) name hop raw used (children st inputs)
    fan-meets inputs e runs same =
        let cs = children st inputs in
        record {
          state = st;
          inputs = inputs;
          found = found;
          begins = e;
          children_are = refl;
          branches = λ i c x k v h. joined_within (visits_of runs) (gather runs) v (subst (λ l. In v (visits_of l)) (sym same) (branch_visits W A (at_hop s hop) (length cs) 0 cs i c x k v (subst (λ n. In v (scope W A c (child (at_hop s hop) n (length cs)) x).visits) (let z : i ≡ 0 + i = omega arith in z) h)));
          join = λ os k. subst (λ g. MeetsJoin b s (of_turn (joined W b name st (at_hop s hop) raw used (visits_of runs) g)) name hop raw used (combine name os)) (sym (ap gather same ∙ k)) (joined-join (visits_of runs) os);
          waits = λ ps k. ap (λ g. (of_turn (joined W b name st (at_hop s hop) raw used (visits_of runs) g)).end) (ap gather same ∙ k);
        }

    turn-meets : (u : Begun) → W.begin name st raw ≡ u → Meets W A b s (of_turn (turn W A b name st (λ n. map (scope W A) (branches_of st n)) (at_hop s hop) raw used u)) (stop_at name st hop raw used u go')
    turn-meets (On w) e = meets_on [] w go go' meets
    turn-meets (Calls resource x) e = called-meets resource x e (A (at_hop s hop))
    turn-meets (Fans inputs) e = fan-meets inputs e _ (fan_runs_are W one A (at_hop s hop) name st raw inputs e)

    -- each visit of the turn stands where it should
    module _ (next_is : (n : Text) (v : Json) (a : Option Used) → go' n v a ≡ stretch W b n (suc hop) v a) where
      after_state : (o : Outcome) → stop_on (W.finish name st raw used o) go' ≡ after_in W b name (state_of b name) hop raw used o
      after_state o = ap (λ g. stop_on (W.finish name st raw used o) g) (fun_ext (λ n. fun_ext (λ v. fun_ext (λ a. next_is n v a)))) ∙ ap (λ m. after_in W b name m hop raw used o) (sym found)

      -- what follows an answered visit of the turn
      own_next : (vs : List Visit) (o : Outcome) → Meets W A b s (then_go vs (Then_on (W.finish name st raw used o)) go) (after_in W b name (state_of b name) hop raw used o)
      own_next vs o = subst (Meets W A b s (then_go vs (Then_on (W.finish name st raw used o)) go)) (after_state o) (meets_on vs (W.finish name st raw used o) go go' meets)

      called-fine : (resource : Text) (x : Json) → W.begin name st raw ≡ Calls resource x → (o : Option Outcome) → o ≡ A (at_hop s hop) → (v : Visit) → In v (called W b name st (at_hop s hop) raw used resource x o).visits → Fine (of_turn (called W b name st (at_hop s hop) raw used resource x o)) v
      called-fine resource x e None a v h =
          let it : Visit = record { place = at_hop s hop; block = b; visited = Called name resource; raw = raw; used = used; given = x; answer = None } in
          let own : IsOwn W A b s (of_turn (called W b name st (at_hop s hop) raw used resource x None)) it =
          record { block = refl; scope_is = refl; sound = record { answer = a; state = st; found = found; begins = e }; next = λ o k. absurd (cc) } in
          inr (is_it it v h own)
      called-fine resource x e (Some r) a v h =
          let it : Visit = record { place = at_hop s hop; block = b; visited = Called name resource; raw = raw; used = used; given = x; answer = Some r } in
          let own : IsOwn W A b s (of_turn (called W b name st (at_hop s hop) raw used resource x (Some r))) it =
          record { block = refl; scope_is = refl; sound = record { answer = a; state = st; found = found; begins = e }; next = λ o k. let same : r ≡ o = cc in subst (λ q. Meets W A b s (then_go (it ∷ []) (Then_on (W.finish name st raw used r)) go) (after_in W b name (state_of b name) hop raw used q)) same (own_next (it ∷ []) r) } in
          inr (is_it it v h own)

      join-fine : (inputs : List Json) → W.begin name st raw ≡ Fans inputs → (vs : List Visit) (os : List Outcome) → gather (fan_runs W A (at_hop s hop) (children st inputs)) ≡ All_ended os → (v : Visit) → ((w : Visit) → In w vs → Fine (of_turn (joined W b name st (at_hop s hop) raw used vs (All_ended os))) w) → In v (joined W b name st (at_hop s hop) raw used vs (All_ended os)).visits → Fine (of_turn (joined W b name st (at_hop s hop) raw used vs (All_ended os))) v
      join-fine inputs e vs os k v deep h =
          let it : Visit = record { place = at_hop s hop; block = b; visited = Joined name; raw = raw; used = used; given = raw; answer = Some (combine name os) } in
          let own : IsOwn W A b s (of_turn (joined W b name st (at_hop s hop) raw used vs (All_ended os))) it =
          record {
            block = refl;
            scope_is = refl;
            sound = record { state = st; inputs = inputs; outcomes = os; found = found; begins = e; all_ended = k; given = refl; answer = refl };
            next = λ o q. let same : combine name os ≡ o = cc in subst (λ q. Meets W A b s (then_go (it ∷ vs) (Then_on (W.finish name st raw used (combine name os))) go) (after_in W b name (state_of b name) hop raw used q)) same (own_next (it ∷ vs) (combine name os));
          } in
          elim h [ inl a ↦ inr (is_it it v (inl a) own) | inr t ↦ deep v t ]

      joined-fine : (inputs : List Json) → W.begin name st raw ≡ Fans inputs → (vs : List Visit) (g : Gathered) → gather (fan_runs W A (at_hop s hop) (children st inputs)) ≡ g → (v : Visit) → ((w : Visit) → In w vs → (q : Run) → Within vs q.visits → Fine q w) → In v (joined W b name st (at_hop s hop) raw used vs g).visits → Fine (of_turn (joined W b name st (at_hop s hop) raw used vs g)) v
      joined-fine inputs e vs (All_ended os) k v deep h = join-fine inputs e vs os k v (λ w i. deep w i _ (joined_within vs (All_ended os))) h
      joined-fine inputs e vs (Some_wait ps) k v deep h = deep v h _ (joined_within vs (Some_wait ps))

      turn-fine : ((n : ℕ) (c : Block) → In c (branches_of st n) → (s' : Scope) (x : Json) (v : Visit) → In v (scope W A c s' x).visits → Stands W A (scope W A c s' x).visits v) → (u : Begun) → W.begin name st raw ≡ u → (v : Visit) → In v (turn W A b name st (λ n. map (scope W A) (branches_of st n)) (at_hop s hop) raw used u).visits → Fine (of_turn (turn W A b name st (λ n. map (scope W A) (branches_of st n)) (at_hop s hop) raw used u)) v
      turn-fine ih (On w) e v h = absurd h
      turn-fine ih (Calls resource x) e v h = called-fine resource x e (A (at_hop s hop)) refl v h
      turn-fine ih (Fans inputs) e v h =
          let p = at_hop s hop in
          let runs = each p (length inputs) 0 (map (scope W A) (branches_of st (length inputs))) inputs in
          let cs = children st inputs in
          let same : runs ≡ fan_runs W A p cs = fan_runs_are W one A p name st raw inputs e in
          joined-fine inputs e (visits_of runs) (gather runs) (sym (ap gather same)) v
          (λ w i q m.
          let i' = subst (λ l. In w (visits_of l)) same i in
          let (c, s', x, k, l, n, j, z) = branch_of_visit W A p (length cs) 0 (branches_of st (length inputs)) inputs w i' in
          inl (stands_more W A (scope W A c s' x).visits q.visits w (λ y z. m y (subst (λ l. In y (visits_of l)) (sym same) (n y z))) (ih (length inputs) c k s' x w l)))
          h

  module _ (name : Text) (hop : ℕ) (raw : Json) (again : Option Used) (go : Text → Json → Option Used → Run) (go' : Text → Json → Option Used → Stop) (meets : (n : Text) (v : Json) (a : Option Used) → Meets W A b s (go n v a) (go' n v a)) where
    enter-meets : (m : Option State) → state_of b name ≡ m → Meets W A b s (enter W A b name m (λ n. map (scope W A) (branches_at m n)) s hop raw again go) (stop_in W name m hop raw again go')
    enter-meets None e = refl
    enter-meets (Some st) e = turn-meets name st e hop raw (used_by W st again) go go' meets (W.begin name st raw) refl

    enter-fine : ((n : Text) (v : Json) (a : Option Used) → go' n v a ≡ stretch W b n (suc hop) v a) → (m : Option State) → state_of b name ≡ m → ((n : ℕ) (c : Block) → In c (branches_at m n) → AllStand W A c) → ((n : Text) (x : Json) (a : Option Used) (v : Visit) → In v (go n x a).visits → Fine (go n x a) v) → (v : Visit) → In v (enter W A b name m (λ n. map (scope W A) (branches_at m n)) s hop raw again go).visits → Fine (enter W A b name m (λ n. map (scope W A) (branches_at m n)) s hop raw again go) v
    enter-fine next_is None e ih k v h = absurd h
    enter-fine next_is (Some st) e ih k v h =
        let t = turn W A b name st (λ n. map (scope W A) (branches_of st n)) (at_hop s hop) raw (used_by W st again) (W.begin name st raw) in
        elim (go_cases t.visits t.onward go v h) [
          | inl a ↦ turn-fine name st e hop raw (used_by W st again) go go' meets next_is ih (W.begin name st raw) refl v a
          | inr g ↦ let (n, x, u, is, i) = g in fine_more (then_go t.visits t.onward go) (go n x u) (subst (λ y. Extends (then_go t.visits y go) (go n x u)) (sym is) (extends_go t.visits n x u go)) v (k n x u v i)
        ]

  walk-meets : (left : ℕ) (name : Text) (hop : ℕ) (raw : Json) (again : Option Used) → Meets W A b s (walk W A b (runners W A b) left s name hop raw again) (first_stop W b left name hop raw again)
  walk-meets zero name hop raw again = refl
  walk-meets (suc left) name hop raw again = enter-meets name hop raw again _ _ (λ n v a. walk-meets left n (suc hop) v a) (state_of b name) refl

  walk-fine : ((name : Text) (n : ℕ) (c : Block) → In c (branches_at (state_of b name) n) → AllStand W A c) → (left : ℕ) (name : Text) (hop : ℕ) (raw : Json) (again : Option Used) → hop + left ≡ hop_limit → (v : Visit) → In v (walk W A b (runners W A b) left s name hop raw again).visits → Fine (walk W A b (runners W A b) left s name hop raw again) v
  walk-fine ih zero name hop raw again e v h = absurd h
  walk-fine ih (suc left) name hop raw again e v h =
      let rest : left ≡ hop_limit - suc hop = omega arith in
      let e' : suc hop + left ≡ hop_limit = omega arith in
      enter-fine name hop raw again _ _ (λ n v a. walk-meets left n (suc hop) v a) (λ n v a. ap (λ l. first_stop W b l n (suc hop) v a) rest) (state_of b name) refl (ih name) (λ n x a v. walk-fine ih left n (suc hop) x a e' v) v h

-- the whole scope
module _ (W : Ways) (one : HasOneEach W) (A : Answers) (b : Block) (s : Scope) (x : Json) where
  abbrev the_walk : Run
  the_walk = walk W A b (runners W A b) hop_limit s (start_of b) 0 x None

  abbrev pub the_enter : Visit
  the_enter = record { place = at_hop s 0; block = b; visited = Entered; raw = Null; used = []; given = x; answer = Some (Done x) }

  extends_walk : Extends (scope W A b s x) the_walk
  extends_walk = subst (λ r. Extends r the_walk) (sym (unroll W A b s x)) (record { visits = λ w h. inr h; end = refl })

  -- what follows the Enter
  start_meets : Meets W A b s (scope W A b s x) (stretch W b (start_of b) 0 x None)
  start_meets =
      let e : hop_limit ≡ hop_limit - 0 = omega arith in
      meets_more W A b s (scope W A b s x) the_walk extends_walk (stretch W b (start_of b) 0 x None)
      (subst (λ n. Meets W A b s the_walk (first_stop W b n (start_of b) 0 x None)) e (walk-meets W one A b s hop_limit (start_of b) 0 x None))

  enter_next : (o : Outcome) → Some (Done x) ≡ Some o → Meets W A b s (scope W A b s x) (after W b Entered 0 Null [] o)
  enter_next o e = let same : Done x ≡ o = cc in subst (λ q. Meets W A b s (scope W A b s x) (after W b Entered 0 Null [] q)) same start_meets

  pub enter_in : In the_enter (scope W A b s x).visits
  enter_in = subst (λ r. In the_enter r.visits) (sym (unroll W A b s x)) (inl refl)

  enter_stands : Stands W A (scope W A b s x).visits the_enter
  enter_stands = record {
    at_block = b;
    at_scope = s;
    enter = the_enter;
    block = refl;
    scope_is = refl;
    entered = enter_in;
    enter_place = refl;
    enter_block = refl;
    enter_visited = refl;
    within = λ w h. h;
    own = enter_in;
    sound = (refl, refl, refl, refl);
    next = enter_next;
  }

  own_stands : (v : Visit) → In v (scope W A b s x).visits → IsOwn W A b s the_walk v → Stands W A (scope W A b s x).visits v
  own_stands v h t = record {
    at_block = b;
    at_scope = s;
    enter = the_enter;
    block = t.block;
    scope_is = t.scope_is;
    entered = enter_in;
    enter_place = refl;
    enter_block = refl;
    enter_visited = refl;
    within = λ w h. h;
    own = h;
    sound = t.sound;
    next = λ o e. meets_more W A b s (scope W A b s x) the_walk extends_walk (after W b v.visited v.place.hop v.raw v.used o) (t.next o e);
  }

  visit_stands : ((name : Text) (n : ℕ) (c : Block) → In c (branches_at (state_of b name) n) → AllStand W A c) → (v : Visit) → In v (scope W A b s x).visits → Stands W A (scope W A b s x).visits v
  visit_stands ih v h =
      let h' : In v (the_enter ∷ the_walk.visits) = subst (λ r. In v r.visits) (unroll W A b s x) h in
      elim h' [
        | inl e ↦ subst (Stands W A (scope W A b s x).visits) (sym e) enter_stands
        | inr t ↦ elim (walk-fine W one A b s ih hop_limit (start_of b) 0 x None (omega arith) v t) [
          | inl d ↦ stands_more W A the_walk.visits (scope W A b s x).visits v extends_walk.visits d
          | inr o ↦ own_stands v h o
        ]
      ]

pub stands_lem : (W : Ways) → HasOneEach W → Standing W
stands_lem W one A = by_branches (AllStand W A) (λ b ih s x v h. visit_stands W one A b s x ih v h)
