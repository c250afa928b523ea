-- In a scope each hop has one state, so a Join stands for the fan of its place.
use Rattle.std.proofs.Common.{◌≡◌, ℕ, zero, suc, ◌+◌, ◌-◌, ◌<◌, ◌≤◌, ◌⊎◌, List, [], ◌∷◌, ◌++◌, map, Option, Some, None, length, refl, sym, ap, ap₂, ◌∙◌, subst, subst₂, inl, inr, arith, length-append}
use Rattle.asl_model.specs.Data.{Text, Json, Null, Outcome, Done, combine}
use Rattle.asl_model.specs.Names.{Scope, Place, Answers, Name, child, at_hop, scope_of}
use Rattle.asl_model.proofs.Before.{key}
use Rattle.asl_model.specs.Machine.{Used, Block, State, start_of, state_of, branches_of}
use Rattle.asl_model.specs.Step.{Onward, Goes, Ends, Begun, On, Calls, Fans, Ways, HasOneEach}
use Rattle.asl_model.specs.Central.{hop_limit, used_by, Visited, Entered, Called, Joined, Visit, name_of, kind_of, Run, Then, Then_on, Stays, Gathered, All_ended, Some_wait, gather, visits_of, called, joined, entered, turn, enter, walk, scope}
use Rattle.asl_model.specs.Stretch.{Stop, Call, Fan, Over, children, stop_on, stop_at, stop_in, first_stop, stretch, after_in, after}
use Rattle.asl_model.specs.Laws.{In, Within, fan_runs, IsSound, IsJoin, Meets, MeetsFan, JoinExactly}
use Rattle.asl_model.proofs.Tree.{branches_at, runners, unroll}
use Rattle.asl_model.proofs.Fans.{each-runs, branch_of_visit}
use Rattle.asl_model.proofs.StandsLaw.{go_cases, stands_lem}
use Rattle.asl_model.proofs.OrderLaw.{all_good, branch_has, base, one_visit_lem}

-- a state that is entered: its hop, name, raw data and list
abbrev pub Entry : Type 0
Entry = ℕ × Text × Json × Used

abbrev pub on_states : Then → (Text → Json → Option Used → List Entry) → List Entry
on_states (Then_on (Goes n v a)) go = go n v a
on_states (Then_on (Ends o)) go = []
on_states (Stays ps) go = []

abbrev pub EntryOf : List Entry → Stop → Type 0
EntryOf E (Call name hop raw used) = let e : Entry = (hop, name, raw, used) in In e E
EntryOf E (Fan name hop raw used cs) = let e : Entry = (hop, name, raw, used) in In e E
EntryOf E (Over o) = Unit {0}

entry_more : (E F : List Entry) → Within E F → (stop : Stop) → EntryOf E stop → EntryOf F stop
entry_more E F w (Call name hop raw used) i = w _ i
entry_more E F w (Fan name hop raw used cs) i = w _ i
entry_more E F w (Over o) i = tt

entry_tail : (e : Entry) (E : List Entry) (stop : Stop) → EntryOf E stop → EntryOf (e ∷ E) stop
entry_tail e E stop h = entry_more E (e ∷ E) (λ f i. inr i) stop h

abbrev pub EntryIs : List Entry → Visited → ℕ → Json → Used → Type 0
EntryIs E Entered hop raw used = Unit {0}
EntryIs E (Called name resource) hop raw used = let e : Entry = (hop, name, raw, used) in In e E
EntryIs E (Joined name) hop raw used = let e : Entry = (hop, name, raw, used) in In e E

is_more : (E F : List Entry) → Within E F → (v : Visited) (hop : ℕ) (raw : Json) (used : Used) → EntryIs E v hop raw used → EntryIs F v hop raw used
is_more E F w Entered hop raw used i = tt
is_more E F w (Called name resource) hop raw used i = w _ i
is_more E F w (Joined name) hop raw used i = w _ i

module _ (W : Ways) (A : Answers) (b : Block) (s : Scope) where
  abbrev pub states_at : Option State → Text → ℕ → Json → Option Used → (Text → Json → Option Used → List Entry) → List Entry
  states_at None name hop raw again go = []
  states_at (Some st) name hop raw again go = on_states (turn W A b name st (λ n. map (scope W A) (branches_of st n)) (at_hop s hop) raw (used_by W st again) (W.begin name st raw)).onward go

  -- the entry of a state, if there is one
  abbrev pub entry_at : Option State → Text → ℕ → Json → Option Used → List Entry
  entry_at None name hop raw again = []
  entry_at (Some st) name hop raw again = (hop, name, raw, used_by W st again) ∷ []

  abbrev pub walk_states : ℕ → Text → ℕ → Json → Option Used → List Entry
  walk_states zero name hop raw again = []
  walk_states (suc left) name hop raw again = entry_at (state_of b name) name hop raw again ++ states_at (state_of b name) name hop raw again (λ n v a. walk_states left n (suc hop) v a)

  -- each stop is at a state that is entered
  turn_entry : (name : Text) (st : State) (hop : ℕ) (raw : Json) (used : Used) (go : Text → Json → Option Used → List Entry) (go' : Text → Json → Option Used → Stop) → ((n : Text) (v : Json) (a : Option Used) → EntryOf (go n v a) (go' n v a)) → (u : Begun) → EntryOf ((hop, name, raw, used) ∷ on_states (turn W A b name st (λ n. map (scope W A) (branches_of st n)) (at_hop s hop) raw used u).onward go) (stop_at name st hop raw used u go')
  turn_entry name st hop raw used go go' h (On (Goes n v a)) = entry_tail (hop, name, raw, used) (go n v a) (go' n v a) (h n v a)
  turn_entry name st hop raw used go go' h (On (Ends o)) = tt
  turn_entry name st hop raw used go go' h (Calls resource x) = inl refl
  turn_entry name st hop raw used go go' h (Fans inputs) = inl refl

  in_entry : (m : Option State) (name : Text) (hop : ℕ) (raw : Json) (again : Option Used) (go : Text → Json → Option Used → List Entry) (go' : Text → Json → Option Used → Stop) → ((n : Text) (v : Json) (a : Option Used) → EntryOf (go n v a) (go' n v a)) → EntryOf (entry_at m name hop raw again ++ states_at m name hop raw again go) (stop_in W name m hop raw again go')
  in_entry None name hop raw again go go' h = tt
  in_entry (Some st) name hop raw again go go' h = turn_entry name st hop raw (used_by W st again) go go' h (W.begin name st raw)

  walk_entry : (left : ℕ) (name : Text) (hop : ℕ) (raw : Json) (again : Option Used) → EntryOf (walk_states left name hop raw again) (first_stop W b left name hop raw again)
  walk_entry zero name hop raw again = tt
  walk_entry (suc left) name hop raw again = in_entry (state_of b name) name hop raw again _ _ (λ n v a. walk_entry left n (suc hop) v a)

  -- a visit of a walk: of a branch's scope, or of a state that is entered, as is what follows it
  abbrev IsDeep : Visit → Type 0
  IsDeep v = (c : Block) × (hop : ℕ) × (i : ℕ) × (n : ℕ) × (x : Json) × In v (scope W A c (child (at_hop s hop) i n) x).visits

  pub record IsAt (E : List Entry) (v : Visit) : Type 0 where
    pub here : EntryIs E v.visited v.place.hop v.raw v.used
    pub next : (o : Outcome) → v.answer ≡ Some o → EntryOf E (after W b v.visited v.place.hop v.raw v.used o)

  abbrev Known : List Entry → Visit → Type 0
  Known E v = IsDeep v ⊎ IsAt E v

  known_more : (E F : List Entry) → Within E F → (v : Visit) → Known E v → Known F v
  known_more E F w v k = elim k [ inl d ↦ inl d | inr h ↦ inr (record { here = is_more E F w v.visited v.place.hop v.raw v.used h.here; next = λ o e. entry_more E F w _ (h.next o e) }) ]

  module _ (name : Text) (st : State) (found : state_of b name ≡ Some st) (hop : ℕ) (raw : Json) (used : Used) (go : Text → Json → Option Used → List Entry) (entry : (n : Text) (v : Json) (a : Option Used) → EntryOf (go n v a) (stretch W b n (suc hop) v a)) where
    abbrev onto : Then → List Entry
    onto t = (hop, name, raw, used) ∷ on_states t go

    finish_entry : (o : Outcome) → EntryOf (onto (Then_on (W.finish name st raw used o))) (after_in W b name (state_of b name) hop raw used o)
    finish_entry o = subst (λ m. EntryOf (onto (Then_on (W.finish name st raw used o))) (after_in W b name m hop raw used o)) (sym found) (by (W.finish name st raw used o))
      where
        by : (w : Onward) → EntryOf (onto (Then_on w)) (stop_on w (λ n v a. stretch W b n (suc hop) v a))
        by (Goes n v a) = entry_tail (hop, name, raw, used) (go n v a) (stretch W b n (suc hop) v a) (entry n v a)
        by (Ends o) = tt

    called_known : (resource : Text) (x : Json) (o : Option Outcome) (v : Visit) → In v (called W b name st (at_hop s hop) raw used resource x o).visits → Known (onto (called W b name st (at_hop s hop) raw used resource x o).onward) v
    called_known resource x None v h =
        let it : Visit = record { place = at_hop s hop; block = b; visited = Called name resource; raw = raw; used = used; given = x; answer = None } in
        let own : IsAt (onto (called W b name st (at_hop s hop) raw used resource x None).onward) it = record { here = inl refl; next = λ o e. absurd (cc) } in
        elim h [ inl e ↦ inr (subst (IsAt (onto (called W b name st (at_hop s hop) raw used resource x None).onward)) (sym e) own) | inr t ↦ absurd t ]
    called_known resource x (Some r) v h =
        let it : Visit = record { place = at_hop s hop; block = b; visited = Called name resource; raw = raw; used = used; given = x; answer = Some r } in
        let own : IsAt (onto (Then_on (W.finish name st raw used r))) it = record { here = inl refl; next = λ o e. let same : r ≡ o = cc in subst (λ q. EntryOf (onto (Then_on (W.finish name st raw used r))) (after_in W b name (state_of b name) hop raw used q)) same (finish_entry r) } in
        elim h [ inl e ↦ inr (subst (IsAt (onto (Then_on (W.finish name st raw used r)))) (sym e) own) | inr t ↦ absurd t ]

    joined_known : (vs : List Visit) (g : Gathered) → ((v : Visit) → In v vs → IsDeep v) → (v : Visit) → In v (joined W b name st (at_hop s hop) raw used vs g).visits → Known (onto (joined W b name st (at_hop s hop) raw used vs g).onward) v
    joined_known vs (Some_wait ps) deep v h = inl (deep v h)
    joined_known vs (All_ended os) deep v h =
        let r = combine name os in
        let it : Visit = record { place = at_hop s hop; block = b; visited = Joined name; raw = raw; used = used; given = raw; answer = Some r } in
        let own : IsAt (onto (Then_on (W.finish name st raw used r))) it = record { here = inl refl; next = λ o e. let same : r ≡ o = cc in subst (λ q. EntryOf (onto (Then_on (W.finish name st raw used r))) (after_in W b name (state_of b name) hop raw used q)) same (finish_entry r) } in
        elim h [ inl e ↦ inr (subst (IsAt (onto (Then_on (W.finish name st raw used r)))) (sym e) own) | inr t ↦ inl (deep v t) ]

    turn_known : (u : Begun) (v : Visit) → In v (turn W A b name st (λ n. map (scope W A) (branches_of st n)) (at_hop s hop) raw used u).visits → Known (onto (turn W A b name st (λ n. map (scope W A) (branches_of st n)) (at_hop s hop) raw used u).onward) v
    turn_known (On w) v h = absurd h
    turn_known (Calls resource x) v h = called_known resource x (A (at_hop s hop)) v h
    turn_known (Fans inputs) v h =
        let p = at_hop s hop in
        let n = length inputs in
        let same = each-runs W A p n 0 (branches_of st n) inputs in
        joined_known _ _ (λ w i. let (c, s', x, k, l, z, j, e) = branch_of_visit W A p n 0 (branches_of st n) inputs w (subst (λ q. In w (visits_of q)) same i) in (c, hop, j, n, x, subst (λ q. In w (scope W A c q x).visits) e l)) v h

  enter_known : (name : Text) (m : Option State) → state_of b name ≡ m → (hop : ℕ) (raw : Json) (again : Option Used) (run : Text → Json → Option Used → Run) (go : Text → Json → Option Used → List Entry) → ((n : Text) (v : Json) (a : Option Used) → EntryOf (go n v a) (stretch W b n (suc hop) v a)) → ((n : Text) (x : Json) (a : Option Used) (v : Visit) → In v (run n x a).visits → Known (go n x a) v) → (v : Visit) → In v (enter W A b name m (λ n. map (scope W A) (branches_at m n)) s hop raw again run).visits → Known (entry_at m name hop raw again ++ states_at m name hop raw again go) v
  enter_known name None e hop raw again run go entry k v h = absurd h
  enter_known name (Some st) e hop raw again run go entry k v h =
      let t = turn W A b name st (λ n. map (scope W A) (branches_of st n)) (at_hop s hop) raw (used_by W st again) (W.begin name st raw) in
      elim (go_cases t.visits t.onward run v h) [
        | inl a ↦ turn_known name st e hop raw (used_by W st again) go entry (W.begin name st raw) v a
        | inr g ↦ let (n, x, u, is, i) = g in known_more (go n x u) _ (λ y j. inr (subst (λ z. In y (on_states z go)) (sym is) j)) v (k n x u v i)
      ]

  walk_known : (left : ℕ) (name : Text) (hop : ℕ) (raw : Json) (again : Option Used) → hop + left ≡ hop_limit → (v : Visit) → In v (walk W A b (runners W A b) left s name hop raw again).visits → Known (walk_states left name hop raw again) v
  walk_known zero name hop raw again e v h = absurd h
  walk_known (suc left) name hop raw again e v h =
      let rest : left ≡ hop_limit - suc hop = omega arith in
      let e' : suc hop + left ≡ hop_limit = omega arith in
      enter_known name (state_of b name) refl hop raw again _ _ (λ n v a. subst (λ l. EntryOf (walk_states left n (suc hop) v a) (first_stop W b l n (suc hop) v a)) rest (walk_entry left n (suc hop) v a)) (λ n x a v. walk_known left n (suc hop) x a e' v) v h

  -- one state for each hop
  on_from : (t : Then) (go : Text → Json → Option Used → List Entry) (e : Entry) → In e (on_states t go) → (n : Text) × (v : Json) × (a : Option Used) × (t ≡ Then_on (Goes n v a)) × In e (go n v a)
  on_from (Then_on (Goes n v a)) go e h = (n, v, a, refl, h)
  on_from (Then_on (Ends o)) go e h = absurd h
  on_from (Stays ps) go e h = absurd h

  -- an entry is the state's own, or a later one
  at_from : (m : Option State) (name : Text) (hop : ℕ) (raw : Json) (again : Option Used) (go : Text → Json → Option Used → List Entry) (e : Entry) → In e (entry_at m name hop raw again ++ states_at m name hop raw again go) → (e.0 ≡ hop) ⊎ ((n : Text) × (v : Json) × (a : Option Used) × In e (go n v a))
  at_from None name hop raw again go e h = absurd h
  at_from (Some st) name hop raw again go e h = elim h [ inl q ↦ inl (ap (λ (z : Entry). z.0) q) | inr t ↦ let (n, v, a, is, i) = on_from _ go e t in inr (n, v, a, i) ]

  -- two entries are the same, or both later ones, or one is later
  at_both : (m : Option State) (name : Text) (hop : ℕ) (raw : Json) (again : Option Used) (go : Text → Json → Option Used → List Entry) → ((n : Text) (v : Json) (a : Option Used) (e : Entry) → In e (go n v a) → hop < e.0) → ((n : Text) (v : Json) (a : Option Used) (e f : Entry) → In e (go n v a) → In f (go n v a) → e.0 ≡ f.0 → e ≡ f) → (e f : Entry) → In e (entry_at m name hop raw again ++ states_at m name hop raw again go) → In f (entry_at m name hop raw again ++ states_at m name hop raw again go) → e.0 ≡ f.0 → e ≡ f
  at_both None name hop raw again go later one' e f h k same = absurd h
  at_both (Some st) name hop raw again go later one' e f h k same =
      elim h [
        | inl p ↦ elim k [
          | inl q ↦ p ∙ sym q
          | inr u ↦ let (n, v, a, is, i) = on_from _ go f u in let l : hop < f.0 = later n v a f i in let z : e.0 ≡ hop = ap (λ (z : Entry). z.0) p in absurd (omega arith)
        ]
        | inr t ↦ elim k [
          | inl q ↦ let (n, v, a, is, i) = on_from _ go e t in let l : hop < e.0 = later n v a e i in let z : f.0 ≡ hop = ap (λ (z : Entry). z.0) q in absurd (omega arith)
          | inr u ↦ let (n, v, a, is, i) = on_from _ go e t in one' n v a e f i (subst (λ z. In f (on_states z go)) is u) same
        ]
      ]

  states_from : (left : ℕ) (name : Text) (hop : ℕ) (raw : Json) (again : Option Used) (e : Entry) → In e (walk_states left name hop raw again) → hop ≤ e.0
  states_from zero name hop raw again e h = absurd h
  states_from (suc left) name hop raw again e h =
      elim (at_from (state_of b name) name hop raw again _ e h) [
        | inl q ↦ omega arith
        | inr t ↦ let (n, v, a, i) = t in let l : suc hop ≤ e.0 = states_from left n (suc hop) v a e i in omega arith
      ]

  pub one_entry : (left : ℕ) (name : Text) (hop : ℕ) (raw : Json) (again : Option Used) (e f : Entry) → In e (walk_states left name hop raw again) → In f (walk_states left name hop raw again) → e.0 ≡ f.0 → e ≡ f
  one_entry zero name hop raw again e f h k same = absurd h
  one_entry (suc left) name hop raw again e f h k same =
      at_both (state_of b name) name hop raw again _ (λ n v a e i. states_from left n (suc hop) v a e i) (λ n v a e f i j q. one_entry left n (suc hop) v a e f i j q) e f h k same

  -- a visit of the scope itself is not one of a branch's scope
  not_deep : (v : Visit) → scope_of v.place ≡ s → IsDeep v → ⊥
  not_deep v e (c, hop, i, n, x, h) =
      let g = (all_good W A c (child (at_hop s hop) i n) x).inside v h in
      let far = branch_has (at_hop s hop) i n g.at g.rest v g.has in
      let near : key v.place ≡ base s ++ v.place.hop ∷ [] = ap (λ z. key (at_hop z v.place.hop)) e in
      let l1 = ap length far in
      let l2 = ap length near in
      absurd (omega (arith, l1, l2, length-append (base s) (hop ∷ i ∷ n ∷ g.at ∷ g.rest), length-append (base s) (v.place.hop ∷ [])))

  module _ (x : Json) where
    abbrev pub scope_states : List Entry
    scope_states = walk_states hop_limit (start_of b) 0 x None

    -- what is known of each own visit of the scope
    pub scope_known : (v : Visit) → In v (scope W A b s x).visits → scope_of v.place ≡ s → IsAt scope_states v
    scope_known v h e =
        let h' : In v (entered b s x (walk W A b (runners W A b) hop_limit s (start_of b) 0 x None)).visits = subst (λ r. In v r.visits) (unroll W A b s x) h in
        elim h' [
          | inl q ↦ subst (IsAt scope_states) (sym q) enter_known_at
          | inr t ↦ elim (walk_known hop_limit (start_of b) 0 x None (omega arith) v t) [ inl d ↦ absurd (not_deep v e d) | inr k ↦ k ]
        ]
      where
        it : Visit
        it = record { place = at_hop s 0; block = b; visited = Entered; raw = Null; used = []; given = x; answer = Some (Done x) }

        start : EntryOf scope_states (stretch W b (start_of b) 0 x None)
        start = let z : hop_limit ≡ hop_limit - 0 = omega arith in subst (λ l. EntryOf scope_states (first_stop W b l (start_of b) 0 x None)) z (walk_entry hop_limit (start_of b) 0 x None)

        enter_known_at : IsAt scope_states it
        enter_known_at = record { here = tt; next = λ o q. let same : Done x ≡ o = cc in subst (λ r. EntryOf scope_states (after W b Entered 0 Null [] r)) same start }

-- in one scope's run a Join at a fan's place is that fan's
joined_by : (W : Ways) (A : Answers) (b : Block) (s : Scope) (x : Json) (v w : Visit) (o : Outcome) (name n : Text) (hop : ℕ) (raw : Json) (used : Used) (cs : List (Block × Json)) → In v (scope W A b s x).visits → In w (scope W A b s x).visits → scope_of v.place ≡ s → scope_of w.place ≡ s → v.answer ≡ Some o → after W b v.visited v.place.hop v.raw v.used o ≡ Fan name hop raw used cs → w.visited ≡ Joined n → w.place.hop ≡ hop → (n ≡ name) × (w.raw ≡ raw) × (w.used ≡ used)
joined_by W A b s x v w o name n hop raw used cs i j ev ew e f is at =
    let E = scope_states W A b s x in
    let stop : EntryOf E (Fan name hop raw used cs) = subst (EntryOf E) f ((scope_known W A b s x v i ev).next o e) in
    let here : EntryIs E (Joined n) w.place.hop w.raw w.used = subst (λ z. EntryIs E z w.place.hop w.raw w.used) is (scope_known W A b s x w j ew).here in
    let p : Entry = (w.place.hop, n, w.raw, w.used) in
    let q : Entry = (hop, name, raw, used) in
    let same : p ≡ q = one_entry W A b s hop_limit (start_of b) 0 x None p q here stop at in
    (ap (λ (z : Entry). z.1) same, ap (λ (z : Entry). z.2) same, ap (λ (z : Entry). z.3) same)

-- the same in a whole run
join_there : (W : Ways) (A : Answers) (vs : List Visit) (v w : Visit) (b : Block) (s : Scope) (x : Json) (name n : Text) (hop : ℕ) (raw : Json) (used : Used) (cs : List (Block × Json)) → MeetsFan W A b s (scope W A b s x) name hop raw used cs → w.place ≡ at_hop s hop → w.block ≡ b → n ≡ name → w.raw ≡ raw → IsJoin W A w n → (os : List Outcome) × (gather (fan_runs W A (at_hop s hop) cs) ≡ All_ended os) × (w.answer ≡ Some (combine name os))
join_there W A vs v w b s x name n hop raw used cs m wp wb ne re j =
    let found : state_of b name ≡ Some j.state = subst₂ (λ z y. state_of z y ≡ Some j.state) wb ne j.found in
    let states : m.state ≡ j.state = let f = m.found in cc in
    let begins : W.begin name m.state raw ≡ Fans j.inputs = subst (λ z. W.begin name z raw ≡ Fans j.inputs) (sym states) (subst₂ (λ y z. W.begin y j.state z ≡ Fans j.inputs) ne re j.begins) in
    let inputs : m.inputs ≡ j.inputs = let f = m.begins in cc in
    let same : children j.state j.inputs ≡ cs = ap₂ children (sym states) (sym inputs) ∙ sym m.children_are in
    (j.outcomes, subst₂ (λ p c. gather (fan_runs W A p c) ≡ All_ended j.outcomes) wp same j.all_ended, subst (λ z. w.answer ≡ Some (combine z j.outcomes)) ne j.answer)

pub join_exactly_lem : (W : Ways) → HasOneEach W → JoinExactly W
join_exactly_lem W one A b s x v o name hop raw used cs i e f =
    let t = stands_lem W one A b s x v i in
    let fan : MeetsFan W A t.at_block t.at_scope (scope W A t.at_block t.at_scope t.enter.given) name hop raw used cs =
    subst (Meets W A t.at_block t.at_scope (scope W A t.at_block t.at_scope t.enter.given)) (ap (λ z. after W z v.visited v.place.hop v.raw v.used o) (sym t.block) ∙ f) (t.next o e) in
    let at : at_hop t.at_scope hop ≡ at_hop (scope_of v.place) hop = ap (λ z. at_hop z hop) (sym t.scope_is) in (
      (λ os g. let j = fan.join os (subst (λ p. gather (fan_runs W A p cs) ≡ All_ended os) (sym at) g) in
          (j.visit, t.within j.visit j.in_run, j.place ∙ at, j.block ∙ sym t.block, j.visited, j.raw_is, j.used_is, j.answer)),
      (λ w k n wp wv.
          let u = stands_lem W one A b s x w k in
          let scopes : u.at_scope ≡ t.at_scope = sym u.scope_is ∙ ap scope_of wp ∙ t.scope_is in
          let names : name_of t.enter ≡ name_of u.enter = ap₂ (λ (p : Place) (y : Visited). let z : Name = record { place = p; kind = kind_of y } in z) (t.enter_place ∙ ap (λ z. at_hop z 0) (sym scopes) ∙ sym u.enter_place) (t.enter_visited ∙ sym u.enter_visited) in
          let enters : t.enter ≡ u.enter = one_visit_lem W A b s x t.enter u.enter t.entered u.entered names in
          let blocks : u.at_block ≡ t.at_block = sym u.enter_block ∙ ap (λ (z : Visit). z.block) (sym enters) ∙ t.enter_block in
          let own : In w (scope W A t.at_block t.at_scope t.enter.given).visits =
          subst (λ (z : Visit). In w (scope W A t.at_block t.at_scope z.given).visits) (sym enters) (subst₂ (λ y z. In w (scope W A y z u.enter.given).visits) blocks scopes u.own) in
          let after_v : after W t.at_block v.visited v.place.hop v.raw v.used o ≡ Fan name hop raw used cs = ap (λ z. after W z v.visited v.place.hop v.raw v.used o) (sym t.block) ∙ f in
          let (ne, re, ue) = joined_by W A t.at_block t.at_scope t.enter.given v w o name n hop raw used cs t.own own t.scope_is (u.scope_is ∙ scopes) e after_v wv (ap (λ (z : Place). z.hop) wp) in
          let (os, g, a) = join_there W A (scope W A b s x).visits v w t.at_block t.at_scope t.enter.given name n hop raw used cs fan (wp ∙ sym at) (u.block ∙ blocks) ne re (subst (IsSound W A w) wv u.sound) in
          (os, subst (λ p. gather (fan_runs W A p cs) ≡ All_ended os) at g, ne, re, ue, a)),
    )
