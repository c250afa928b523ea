-- In a scope one visit follows another: two answered visits of one scope with the same stop are one.
use Rattle.std.proofs.Common.{◌≡◌, ℕ, zero, suc, ◌+◌, ◌-◌, ◌<◌, ◌≤◌, ◌⊎◌, List, ◌∷◌, ◌++◌, map, Option, Some, None, length, refl, sym, ap, ap₂, ◌∙◌, subst, subst₂, inl, inr, arith}
use Rattle.std.proofs.lemmas.Option.{same_Some}
use Rattle.asl_model.specs.Data.{Text, Json, Outcome, Done, combine}
use Rattle.asl_model.specs.Names.{Scope, Place, Answers, Name, at_hop, scope_of}
use Rattle.asl_model.specs.Machine.{Used, Block, State, start_of, state_of, branches_of}
use Rattle.asl_model.specs.Step.{Onward, Goes, Ends, Begun, On, Calls, Fans, Ways, HasOneEach}
use Rattle.asl_model.specs.Central.{hop_limit, used_by, Visited, Entered, Called, Joined, Visit, name_of, kind_of, Run, Then, Then_on, Stays, Gathered, All_ended, Some_wait, gather, visits_of, each, called, joined, turn, scope}
use Rattle.asl_model.specs.Stretch.{Stop, Call, Fan, Over, children, stop_on, stop_at, stop_in, first_stop, stretch, after_in, after}
use Rattle.asl_model.specs.Laws.{In, fan_runs, IsSound, IsTask, IsJoin}
use Rattle.asl_model.proofs.Fans.{fan_runs_are}
use Rattle.asl_model.proofs.StandsLaw.{stands_lem}
use Rattle.asl_model.proofs.OrderLaw.{one_visit_lem}
use Rattle.asl_model.proofs.ExactLaw.{Entry, on_states, states_at, entry_at, walk_states, EntryIs, scope_states, scope_known, one_entry}

-- ---------------------------------------------------------------- words

-- a visit at that hop may stand after the stop
abbrev pub NotBefore : Stop → ℕ → Type 0
NotBefore (Call name h raw used) k = h ≤ k
NotBefore (Fan name h raw used cs) k = h ≤ k
NotBefore (Over o) k = ⊥

-- the stop is at that hop or later
abbrev pub From : Stop → ℕ → Type 0
From (Call name h raw used) k = k ≤ h
From (Fan name h raw used cs) k = k ≤ h
From (Over o) k = Unit {0}

abbrev pub hop_of : Stop → Option ℕ
hop_of (Call name h raw used) = Some h
hop_of (Fan name h raw used cs) = Some h
hop_of (Over o) = None

-- a stop that stands before a visit, and one after it
apart_stops : (x y : Stop) (k : ℕ) → NotBefore x k → From y (suc k) → hop_of x ≡ hop_of y → ⊥
apart_stops (Over o) y k a b e = a
apart_stops (Call n h r u) (Call n' h' r' u') k a b e = let z : h ≡ h' = same_Some h h' e in let p : h ≤ k = a in let q : suc k ≤ h' = b in omega arith
apart_stops (Call n h r u) (Fan n' h' r' u' cs) k a b e = let z : h ≡ h' = same_Some h h' e in let p : h ≤ k = a in let q : suc k ≤ h' = b in omega arith
apart_stops (Call n h r u) (Over o) k a b e = absurd (cc)
apart_stops (Fan n h r u cs) (Call n' h' r' u') k a b e = let z : h ≡ h' = same_Some h h' e in let p : h ≤ k = a in let q : suc k ≤ h' = b in omega arith
apart_stops (Fan n h r u cs) (Fan n' h' r' u' ds) k a b e = let z : h ≡ h' = same_Some h h' e in let p : h ≤ k = a in let q : suc k ≤ h' = b in omega arith
apart_stops (Fan n h r u cs) (Over o) k a b e = absurd (cc)

abbrev IsStop : Begun → Type 0
IsStop (On o) = ⊥
IsStop (Calls resource x) = Unit {0}
IsStop (Fans inputs) = Unit {0}

-- ---------------------------------------------------------------- a stop is after its visit

module _ (W : Ways) (b : Block) where
  from_less : (st : Stop) (k : ℕ) → From st (suc k) → From st k
  from_less (Call name h raw used) k l = let q : suc k ≤ h = l in omega arith
  from_less (Fan name h raw used cs) k l = let q : suc k ≤ h = l in omega arith
  from_less (Over o) k l = tt

  at_stop_from : (name : Text) (st : State) (hop : ℕ) (raw : Json) (used : Used) (go : Text → Json → Option Used → Stop) → ((n : Text) (v : Json) (a : Option Used) → From (go n v a) (suc hop)) → (u : Begun) →
      From (stop_at name st hop raw used u go) hop
  at_stop_from name st hop raw used go f (On (Goes n v a)) = from_less (go n v a) hop (f n v a)
  at_stop_from name st hop raw used go f (On (Ends o)) = tt
  at_stop_from name st hop raw used go f (Calls resource x) = omega arith
  at_stop_from name st hop raw used go f (Fans inputs) = omega arith

  in_stop_from : (name : Text) (m : Option State) (hop : ℕ) (raw : Json) (again : Option Used) (go : Text → Json → Option Used → Stop) → ((n : Text) (v : Json) (a : Option Used) → From (go n v a) (suc hop)) →
      From (stop_in W name m hop raw again go) hop
  in_stop_from name None hop raw again go f = tt
  in_stop_from name (Some st) hop raw again go f = at_stop_from name st hop raw (used_by W st again) go f (W.begin name st raw)

  first_from : (left : ℕ) (name : Text) (hop : ℕ) (raw : Json) (again : Option Used) → From (first_stop W b left name hop raw again) hop
  first_from zero name hop raw again = tt
  first_from (suc left) name hop raw again = in_stop_from name (state_of b name) hop raw again (λ n v a. first_stop W b left n (suc hop) v a) (λ n v a. first_from left n (suc hop) v a)

  on_stop_from : (o : Onward) (hop : ℕ) → From (stop_on o (λ n v a. stretch W b n hop v a)) hop
  on_stop_from (Goes n v a) hop = first_from (hop_limit - hop) n hop v a
  on_stop_from (Ends o) hop = tt

  after_in_from : (name : Text) (m : Option State) (hop : ℕ) (raw : Json) (used : Used) (o : Outcome) → From (after_in W b name m hop raw used o) (suc hop)
  after_in_from name None hop raw used o = tt
  after_in_from name (Some st) hop raw used o = on_stop_from (W.finish name st raw used o) (suc hop)

-- ---------------------------------------------------------------- the states of a scope

module _ (W : Ways) (one : HasOneEach W) (A : Answers) (b : Block) (s : Scope) where
  -- the state of that entry calls a function, or is a fan
  abbrev Stopping : Entry → Type 0
  Stopping e = (st : State) × (state_of b e.1 ≡ Some st) × IsStop (W.begin e.1 st e.2)

  on_later : (t : Then) (go : Text → Json → Option Used → List Entry) (e : Entry) → In e (on_states t go) → (n : Text) × (v : Json) × (a : Option Used) × (t ≡ Then_on (Goes n v a)) × In e (go n v a)
  on_later (Then_on (Goes n v a)) go e h = (n, v, a, refl, h)
  on_later (Then_on (Ends o)) go e h = absurd h
  on_later (Stays ps) go e h = absurd h

  abbrev turn_at : Text → State → ℕ → Json → Used → Begun → Then
  turn_at name st hop raw used u = (turn W A b name st (λ n. map (scope W A) (branches_of st n)) (at_hop s hop) raw used u).onward

  -- the entries of one state and of what follows it
  abbrev At : Option State → Text → ℕ → Json → Option Used → (Text → Json → Option Used → List Entry) → List Entry
  At m name hop raw again go = entry_at W A b s m name hop raw again ++ states_at W A b s m name hop raw again go

  below_at : (m : Option State) (name : Text) (hop : ℕ) (raw : Json) (again : Option Used) (go : Text → Json → Option Used → List Entry) → ((n : Text) (v : Json) (a : Option Used) (e : Entry) → In e (go n v a) → suc hop ≤ e.0) →
      (e : Entry) → In e (At m name hop raw again go) → hop ≤ e.0
  below_at None name hop raw again go f e h = absurd h
  below_at (Some st) name hop raw again go f e h = elim h [
    | inl q ↦ let z : e.0 ≡ hop = ap (λ (y : Entry). y.0) q in omega arith
    | inr t ↦ let (n, v, a, is, i) = on_later _ go e t in let l : suc hop ≤ e.0 = f n v a e i in omega arith
  ]

  below : (left : ℕ) (name : Text) (hop : ℕ) (raw : Json) (again : Option Used) (e : Entry) → In e (walk_states W A b s left name hop raw again) → hop ≤ e.0
  below zero name hop raw again e h = absurd h
  below (suc left) name hop raw again e h = below_at (state_of b name) name hop raw again (λ n v a. walk_states W A b s left n (suc hop) v a) (λ n v a e i. below left n (suc hop) v a e i) e h

  -- no state before the first stop calls or is a fan
  own_on : (name : Text) (st : State) → state_of b name ≡ Some st → (hop : ℕ) (raw : Json) (used : Used) (o : Onward) → W.begin name st raw ≡ On o → (e : Entry) → e ≡ (hop, name, raw, used) → Stopping e → ⊥
  own_on name st f hop raw used o g e q (st', f', h) =
      let n : e.1 ≡ name = ap (λ (y : Entry). y.1) q in
      let r : e.2 ≡ raw = ap (λ (y : Entry). y.2) q in
      let same : st' ≡ st = same_Some st' st (sym f' ∙ ap (state_of b) n ∙ f) in
      let w : W.begin e.1 st' e.2 ≡ On o = subst₂ (λ y z. W.begin y st' z ≡ On o) (sym n) (sym r) (subst (λ y. W.begin name y raw ≡ On o) (sym same) g) in
      subst IsStop w h

  first_at : (name : Text) (st : State) → state_of b name ≡ Some st → (hop : ℕ) (raw : Json) (used : Used) (go : Text → Json → Option Used → List Entry) (go' : Text → Json → Option Used → Stop) →
      ((n : Text) (v : Json) (a : Option Used) (e : Entry) → In e (go n v a) → suc hop ≤ e.0) → ((n : Text) (v : Json) (a : Option Used) (e : Entry) → In e (go n v a) → Stopping e → NotBefore (go' n v a) e.0) →
      (u : Begun) → W.begin name st raw ≡ u → (e : Entry) → In e ((hop, name, raw, used) ∷ on_states (turn_at name st hop raw used u) go) → Stopping e → NotBefore (stop_at name st hop raw used u go') e.0
  first_at name st f hop raw used go go' low k (On (Goes n v a)) g e h t = elim h [ inl q ↦ absurd (own_on name st f hop raw used (Goes n v a) g e q t) | inr i ↦ k n v a e i t ]
  first_at name st f hop raw used go go' low k (On (Ends o)) g e h t = elim h [ inl q ↦ absurd (own_on name st f hop raw used (Ends o) g e q t) | inr i ↦ absurd i ]
  first_at name st f hop raw used go go' low k (Calls resource x) g e h t = elim h [
    | inl q ↦ let z : e.0 ≡ hop = ap (λ (y : Entry). y.0) q in omega arith
    | inr i ↦ let (n, v, a, is, j) = on_later _ go e i in let l : suc hop ≤ e.0 = low n v a e j in omega arith
  ]
  first_at name st f hop raw used go go' low k (Fans inputs) g e h t = elim h [
    | inl q ↦ let z : e.0 ≡ hop = ap (λ (y : Entry). y.0) q in omega arith
    | inr i ↦ let (n, v, a, is, j) = on_later _ go e i in let l : suc hop ≤ e.0 = low n v a e j in omega arith
  ]

  first_in : (name : Text) (m : Option State) → state_of b name ≡ m → (hop : ℕ) (raw : Json) (again : Option Used) (go : Text → Json → Option Used → List Entry) (go' : Text → Json → Option Used → Stop) →
      ((n : Text) (v : Json) (a : Option Used) (e : Entry) → In e (go n v a) → suc hop ≤ e.0) → ((n : Text) (v : Json) (a : Option Used) (e : Entry) → In e (go n v a) → Stopping e → NotBefore (go' n v a) e.0) →
      (e : Entry) → In e (At m name hop raw again go) → Stopping e → NotBefore (stop_in W name m hop raw again go') e.0
  first_in name None f hop raw again go go' low k e h t = absurd h
  first_in name (Some st) f hop raw again go go' low k e h t = first_at name st f hop raw (used_by W st again) go go' low k (W.begin name st raw) refl e h t

  first_line : (left : ℕ) (name : Text) (hop : ℕ) (raw : Json) (again : Option Used) (e : Entry) → In e (walk_states W A b s left name hop raw again) → Stopping e → NotBefore (first_stop W b left name hop raw again) e.0
  first_line zero name hop raw again e h t = absurd h
  first_line (suc left) name hop raw again e h t =
      first_in name (state_of b name) refl hop raw again (λ n v a. walk_states W A b s left n (suc hop) v a) (λ n v a. first_stop W b left n (suc hop) v a)
      (λ n v a e i. below left n (suc hop) v a e i) (λ n v a e i t. first_line left n (suc hop) v a e i t) e h t

  -- what is entered after a state's entry
  abbrev AfterEntry : Entry → Entry → Type 0
  AfterEntry d e = (st : State) × (state_of b d.1 ≡ Some st) × In e (on_states (turn_at d.1 st d.0 d.2 d.3 (W.begin d.1 st d.2)) (λ n v a. walk_states W A b s (hop_limit - suc d.0) n (suc d.0) v a))

  later_at : (name : Text) (m : Option State) → state_of b name ≡ m → (hop left : ℕ) → left ≡ hop_limit - suc hop → (raw : Json) (again : Option Used) →
      ((n : Text) (v : Json) (a : Option Used) (d e : Entry) → In d (walk_states W A b s left n (suc hop) v a) → In e (walk_states W A b s left n (suc hop) v a) → d.0 < e.0 → AfterEntry d e) →
      (d e : Entry) → In d (At m name hop raw again (λ n v a. walk_states W A b s left n (suc hop) v a)) → In e (At m name hop raw again (λ n v a. walk_states W A b s left n (suc hop) v a)) → d.0 < e.0 → AfterEntry d e
  later_at name None f hop left l raw again k d e h i lt = absurd h
  later_at name (Some st) f hop left l raw again k d e h i lt =
      let used : Used = used_by W st again in
      let own : Entry = (hop, name, raw, used) in
      let go : Text → Json → Option Used → List Entry = λ n v a. walk_states W A b s left n (suc hop) v a in
      elim i [
        | inl q ↦ elim h [
          | inl p ↦ absurd (let z : d.0 ≡ e.0 = ap (λ (y : Entry). y.0) (p ∙ sym q) in omega arith)
          | inr p ↦
              let (n, v, a, is, j) = on_later _ go d p in
              let low : suc hop ≤ d.0 = below left n (suc hop) v a d j in
              absurd (let z : e.0 ≡ hop = ap (λ (y : Entry). y.0) q in omega arith)
        ]
        | inr q ↦ elim h [
          | inl p ↦
              let here : AfterEntry own e = (st, f, subst (λ (k : ℕ). In e (on_states (turn_at name st hop raw used (W.begin name st raw)) (λ n v a. walk_states W A b s k n (suc hop) v a))) l q) in
              subst (λ (y : Entry). AfterEntry y e) (sym p) here
          | inr p ↦
              let (n, v, a, is, j) = on_later _ go d p in
              k n v a d e j (subst (λ (y : Then). In e (on_states y go)) is q) lt
        ]
      ]

  later : (left : ℕ) (name : Text) (hop : ℕ) (raw : Json) (again : Option Used) → hop + left ≡ hop_limit → (d e : Entry) → In d (walk_states W A b s left name hop raw again) → In e (walk_states W A b s left name hop raw again) →
      d.0 < e.0 → AfterEntry d e
  later zero name hop raw again l d e h i lt = absurd h
  later (suc left) name hop raw again l d e h i lt =
      let l' : suc hop + left ≡ hop_limit = omega arith in
      later_at name (state_of b name) refl hop left (omega arith) raw again (λ n v a d e j k lt. later left n (suc hop) v a l' d e j k lt) d e h i lt

  -- ---------------------------------------------------------------- after an answer

  on_line : (o : Onward) (hop : ℕ) (e : Entry) → In e (on_states (Then_on o) (λ n v a. walk_states W A b s (hop_limit - hop) n hop v a)) → Stopping e → NotBefore (stop_on o (λ n v a. stretch W b n hop v a)) e.0
  on_line (Goes n v a) hop e h t = first_line (hop_limit - hop) n hop v a e h t
  on_line (Ends o) hop e h t = absurd h

  called_on : (name : Text) (st : State) (p : Place) (raw : Json) (used : Used) (resource : Text) (x : Json) (o : Outcome) (m : Option Outcome) → m ≡ Some o → (called W b name st p raw used resource x m).onward ≡ Then_on (W.finish name st raw used o)
  called_on name st p raw used resource x o None e = absurd (cc)
  called_on name st p raw used resource x o (Some y) e = ap (λ z. Then_on (W.finish name st raw used z)) (same_Some y o e)

  joined_on : (name : Text) (st : State) (p : Place) (raw : Json) (used : Used) (vs : List Visit) (os : List Outcome) (g : Gathered) → g ≡ All_ended os → (joined W b name st p raw used vs g).onward ≡ Then_on (W.finish name st raw used (combine name os))
  joined_on name st p raw used vs os (Some_wait ps) e = absurd (cc)
  joined_on name st p raw used vs os (All_ended qs) e = ap (λ z. Then_on (W.finish name st raw used (combine name z))) (let y : qs ≡ os = cc in y)

  module _ (x : Json) where
    abbrev Own : Visit → Type 0
    Own v = In v (scope W A b s x).visits × (scope_of v.place ≡ s) × (v.block ≡ b) × IsSound W A v v.visited

    -- an entry of a visit that is no Enter
    abbrev entry_of : Visit → Text → Entry
    entry_of v name = (v.place.hop, name, v.raw, v.used)

    record AtState (v : Visit) (name : Text) : Type 0 where
      there : In (entry_of v name) (scope_states W A b s x)
      stopping : Stopping (entry_of v name)
      onward : (o : Outcome) → v.answer ≡ Some o → (st : State) → state_of b name ≡ Some st → turn_at name st v.place.hop v.raw v.used (W.begin name st v.raw) ≡ Then_on (W.finish name st v.raw v.used o)
      after_is : (o : Outcome) → after W b v.visited v.place.hop v.raw v.used o ≡ after_in W b name (state_of b name) v.place.hop v.raw v.used o

    task_state : (v : Visit) (name resource : Text) → v.visited ≡ Called name resource → Own v → AtState v name
    task_state v name resource q (i, at, vb, sound) =
        let t : IsTask W A v name resource = subst (IsSound W A v) q sound in
        let found : state_of b name ≡ Some t.state = subst (λ z. state_of z name ≡ Some t.state) vb t.found in
        let p : at_hop s v.place.hop ≡ v.place = ap (λ z. at_hop z v.place.hop) (sym at) in
        record {
          there = subst (λ z. EntryIs (scope_states W A b s x) z v.place.hop v.raw v.used) q (scope_known W A b s x v i at).here;
          stopping = (t.state, found, subst IsStop (sym t.begins) tt);
          onward = λ o e st f.
              let same : t.state ≡ st = same_Some t.state st (sym found ∙ f) in
              let g : W.begin name st v.raw ≡ Calls resource v.given = subst (λ z. W.begin name z v.raw ≡ Calls resource v.given) same t.begins in
              let a : A (at_hop s v.place.hop) ≡ Some o = ap A p ∙ sym t.answer ∙ e in
              subst (λ u. turn_at name st v.place.hop v.raw v.used u ≡ Then_on (W.finish name st v.raw v.used o)) (sym g)
              (called_on name st (at_hop s v.place.hop) v.raw v.used resource v.given o (A (at_hop s v.place.hop)) a);
          after_is = λ o. ap (λ z. after W b z v.place.hop v.raw v.used o) q;
        }

    join_state : (v : Visit) (name : Text) → v.visited ≡ Joined name → Own v → AtState v name
    join_state v name q (i, at, vb, sound) =
        let t : IsJoin W A v name = subst (IsSound W A v) q sound in
        let found : state_of b name ≡ Some t.state = subst (λ z. state_of z name ≡ Some t.state) vb t.found in
        let p : at_hop s v.place.hop ≡ v.place = ap (λ z. at_hop z v.place.hop) (sym at) in
        record {
          there = subst (λ z. EntryIs (scope_states W A b s x) z v.place.hop v.raw v.used) q (scope_known W A b s x v i at).here;
          stopping = (t.state, found, subst IsStop (sym t.begins) tt);
          onward = λ o e st f.
              let same : t.state ≡ st = same_Some t.state st (sym found ∙ f) in
              let g : W.begin name st v.raw ≡ Fans t.inputs = subst (λ z. W.begin name z v.raw ≡ Fans t.inputs) same t.begins in
              let h : at_hop s v.place.hop ≡ v.place = p in
              let runs : List Run = each (at_hop s v.place.hop) (length t.inputs) 0 (map (scope W A) (branches_of st (length t.inputs))) t.inputs in
              let are : runs ≡ fan_runs W A (at_hop s v.place.hop) (children st t.inputs) = fan_runs_are W one A (at_hop s v.place.hop) name st v.raw t.inputs g in
              let all : gather runs ≡ All_ended t.outcomes = ap gather are ∙ ap (λ z. gather (fan_runs W A z (children st t.inputs))) h ∙ ap (λ z. gather (fan_runs W A v.place (children z t.inputs))) (sym same) ∙ t.all_ended in
              let out : combine name t.outcomes ≡ o = same_Some (combine name t.outcomes) o (sym t.answer ∙ e) in
              subst (λ u. turn_at name st v.place.hop v.raw v.used u ≡ Then_on (W.finish name st v.raw v.used o)) (sym g)
              (joined_on name st (at_hop s v.place.hop) v.raw v.used (visits_of runs) t.outcomes (gather runs) all ∙ ap (λ z. Then_on (W.finish name st v.raw v.used z)) out);
          after_is = λ o. ap (λ z. after W b z v.place.hop v.raw v.used o) q;
        }

    -- a later state is not before the stop that follows an answer
    after_line : (v : Visit) (name : Text) → AtState v name → (o : Outcome) → v.answer ≡ Some o → (e : Entry) → In e (scope_states W A b s x) → Stopping e → v.place.hop < e.0 → NotBefore (after W b v.visited v.place.hop v.raw v.used o) e.0
    after_line v name S o a e i t lt =
        let (st, f, j) = later hop_limit (start_of b) 0 x None (let z : 0 + hop_limit ≡ hop_limit = omega arith in z) (entry_of v name) e S.there i lt in
        let k : In e (on_states (Then_on (W.finish name st v.raw v.used o)) (λ n v' u. walk_states W A b s (hop_limit - suc v.place.hop) n (suc v.place.hop) v' u)) =
        subst (λ y. In e (on_states y (λ n v' u. walk_states W A b s (hop_limit - suc v.place.hop) n (suc v.place.hop) v' u))) (S.onward o a st f) j in
        let c : NotBefore (after_in W b name (Some st) v.place.hop v.raw v.used o) e.0 = on_line (W.finish name st v.raw v.used o) (suc v.place.hop) e k t in
        subst (λ y. NotBefore y e.0) (sym (S.after_is o ∙ ap (λ z. after_in W b name z v.place.hop v.raw v.used o) f)) c

    enter_line : (v : Visit) → v.visited ≡ Entered → Own v → v.given ≡ x → (o : Outcome) → v.answer ≡ Some o → (e : Entry) → In e (scope_states W A b s x) → Stopping e → NotBefore (after W b v.visited v.place.hop v.raw v.used o) e.0
    enter_line v q (i, at, vb, sound) g o a e k t =
        let r = subst (IsSound W A v) q sound in
        let out : Done x ≡ o = same_Some (Done x) o (ap (λ z. Some (Done z)) (sym g) ∙ sym r.3 ∙ a) in
        let z : hop_limit ≡ hop_limit - 0 = omega arith in
        let l : NotBefore (stretch W b (start_of b) 0 x None) e.0 = subst (λ n. NotBefore (first_stop W b n (start_of b) 0 x None) e.0) z (first_line hop_limit (start_of b) 0 x None e k t) in
        let m : NotBefore (after W b Entered v.place.hop v.raw v.used o) e.0 = subst (λ y. NotBefore (after W b Entered v.place.hop v.raw v.used y) e.0) out l in
        subst (λ y. NotBefore (after W b y v.place.hop v.raw v.used o) e.0) (sym q) m

    -- the stop of a visit that is no Enter comes after it
    after_from : (v : Visit) (name : Text) → AtState v name → (o : Outcome) → From (after W b v.visited v.place.hop v.raw v.used o) (suc v.place.hop)
    after_from v name S o = subst (λ y. From y (suc v.place.hop)) (sym (S.after_is o)) (after_in_from W b name (state_of b name) v.place.hop v.raw v.used o)

    -- two states entered at one hop: the visits have one kind
    one_kind : (v u : Visit) (name resource m : Text) → v.visited ≡ Called name resource → u.visited ≡ Joined m → Own v → Own u → v.place.hop ≡ u.place.hop → ⊥
    one_kind v u name resource m q r O P e =
        let t : IsTask W A v name resource = subst (IsSound W A v) q O.3 in
        let j : IsJoin W A u m = subst (IsSound W A u) r P.3 in
        let same : entry_of v name ≡ entry_of u m = one_entry W A b s hop_limit (start_of b) 0 x None (entry_of v name) (entry_of u m) (task_state v name resource q O).there (join_state u m r P).there e in
        let n : name ≡ m = ap (λ (y : Entry). y.1) same in
        let raw : v.raw ≡ u.raw = ap (λ (y : Entry). y.2) same in
        let f : state_of b m ≡ Some t.state = subst₂ (λ y z. state_of y z ≡ Some t.state) O.2 n t.found in
        let g : state_of b m ≡ Some j.state = subst (λ y. state_of y m ≡ Some j.state) P.2 j.found in
        let st : t.state ≡ j.state = same_Some t.state j.state (sym f ∙ g) in
        let c : Calls resource v.given ≡ Fans j.inputs = sym t.begins ∙ ap (λ z. W.begin z t.state v.raw) n ∙ ap (λ z. W.begin m z v.raw) st ∙ ap (W.begin m j.state) raw ∙ j.begins in
        cc

    less_cases : (m n : ℕ) → (m < n) ⊎ ((m ≡ n) ⊎ (n < m))
    less_cases zero zero = inr (inl refl)
    less_cases zero (suc n) = inl (omega arith)
    less_cases (suc m) zero = inr (inr (omega arith))
    less_cases (suc m) (suc n) = elim (less_cases m n) [ inl p ↦ inl (omega arith) | inr q ↦ elim q [ inl e ↦ inr (inl (ap suc e)) | inr l ↦ inr (inr (omega arith)) ] ]

    abbrev stop_after : Visit → Outcome → Stop
    stop_after v o = after W b v.visited v.place.hop v.raw v.used o

    places_same : (v u : Visit) → Own v → Own u → v.place.hop ≡ u.place.hop → v.place ≡ u.place
    places_same v u O P e = ap₂ (λ (y : Scope) h. at_hop y h) (O.1 ∙ sym P.1) e

    names_same : (v u : Visit) → Own v → Own u → v.place.hop ≡ u.place.hop → kind_of v.visited ≡ kind_of u.visited → name_of v ≡ name_of u
    names_same v u O P e k = ap₂ (λ (y : Place) z. let n : Name = record { place = y; kind = z } in n) (places_same v u O P e) k

    two_states : (v u : Visit) (n m : Text) → Own v → Own u → AtState v n → AtState u m → (v.place.hop ≡ u.place.hop → kind_of v.visited ≡ kind_of u.visited) → (o p : Outcome) → v.answer ≡ Some o → u.answer ≡ Some p →
        hop_of (stop_after v o) ≡ hop_of (stop_after u p) → name_of v ≡ name_of u
    two_states v u n m O P S T k o p a c h = elim (less_cases v.place.hop u.place.hop) [
      | inl l ↦ absurd (apart_stops (stop_after v o) (stop_after u p) u.place.hop (after_line v n S o a (entry_of u m) T.there T.stopping l) (after_from u m T p) h)
      | inr q ↦ elim q [
        | inl e ↦ names_same v u O P e (k e)
        | inr l ↦ absurd (apart_stops (stop_after u p) (stop_after v o) v.place.hop (after_line u m T p c (entry_of v n) S.there S.stopping l) (after_from v n S o) (sym h))
      ]
    ]

    enter_and : (v u : Visit) (m : Text) → v.visited ≡ Entered → Own v → v.given ≡ x → AtState u m → (o p : Outcome) → v.answer ≡ Some o → hop_of (stop_after v o) ≡ hop_of (stop_after u p) → ⊥
    enter_and v u m q O g T o p a h = apart_stops (stop_after v o) (stop_after u p) u.place.hop (enter_line v q O g o a (entry_of u m) T.there T.stopping) (after_from u m T p) h

    unique_by : (v u : Visit) → Own v → Own u → ((z : Visit) → In z (scope W A b s x).visits → z.visited ≡ Entered → scope_of z.place ≡ s → z.given ≡ x) → (o p : Outcome) → v.answer ≡ Some o → u.answer ≡ Some p →
        hop_of (stop_after v o) ≡ hop_of (stop_after u p) → (y z : Visited) → v.visited ≡ y → u.visited ≡ z → name_of v ≡ name_of u
    unique_by v u O P G o p a c h Entered Entered q r =
        let f = subst (IsSound W A v) q O.3 in
        let g = subst (IsSound W A u) r P.3 in
        names_same v u O P (f.0 ∙ sym g.0) (ap kind_of (q ∙ sym r))
    unique_by v u O P G o p a c h Entered (Called m s') q r = absurd (enter_and v u m q O (G v O.0 q O.1) (task_state u m s' r P) o p a h)
    unique_by v u O P G o p a c h Entered (Joined m) q r = absurd (enter_and v u m q O (G v O.0 q O.1) (join_state u m r P) o p a h)
    unique_by v u O P G o p a c h (Called n r') Entered q r = absurd (enter_and u v n r P (G u P.0 r P.1) (task_state v n r' q O) p o c (sym h))
    unique_by v u O P G o p a c h (Joined n) Entered q r = absurd (enter_and u v n r P (G u P.0 r P.1) (join_state v n q O) p o c (sym h))
    unique_by v u O P G o p a c h (Called n r') (Called m s') q r = two_states v u n m O P (task_state v n r' q O) (task_state u m s' r P) (λ e. ap kind_of q ∙ sym (ap kind_of r)) o p a c h
    unique_by v u O P G o p a c h (Called n r') (Joined m) q r = two_states v u n m O P (task_state v n r' q O) (join_state u m r P) (λ e. absurd (one_kind v u n r' m q r O P e)) o p a c h
    unique_by v u O P G o p a c h (Joined n) (Called m s') q r = two_states v u n m O P (join_state v n q O) (task_state u m s' r P) (λ e. absurd (one_kind u v m s' n r q P O (sym e))) o p a c h
    unique_by v u O P G o p a c h (Joined n) (Joined m) q r = two_states v u n m O P (join_state v n q O) (join_state u m r P) (λ e. ap kind_of q ∙ sym (ap kind_of r)) o p a c h

-- two answered visits of one scope with the same stop are one
pub unique_lem : (W : Ways) → HasOneEach W → (A : Answers) (b : Block) (s : Scope) (x : Json) (v u : Visit) → In v (scope W A b s x).visits → In u (scope W A b s x).visits → scope_of v.place ≡ scope_of u.place →
    (o p : Outcome) → v.answer ≡ Some o → u.answer ≡ Some p → hop_of (after W v.block v.visited v.place.hop v.raw v.used o) ≡ hop_of (after W u.block u.visited u.place.hop u.raw u.used p) → name_of v ≡ name_of u
unique_lem W one A b s x v u i k e o p a c h =
    let t = stands_lem W one A b s x v i in
    let r = stands_lem W one A b s x u k in
    let scopes : r.at_scope ≡ t.at_scope = sym r.scope_is ∙ sym e ∙ t.scope_is in
    let names : name_of t.enter ≡ name_of r.enter = ap₂ (λ (p : Place) (y : Visited). let z : Name = record { place = p; kind = kind_of y } in z) (t.enter_place ∙ ap (λ z. at_hop z 0) (sym scopes) ∙ sym r.enter_place) (t.enter_visited ∙ sym r.enter_visited) in
    let enters : t.enter ≡ r.enter = one_visit_lem W A b s x t.enter r.enter t.entered r.entered names in
    let blocks : r.at_block ≡ t.at_block = sym r.enter_block ∙ ap (λ (z : Visit). z.block) (sym enters) ∙ t.enter_block in
    let own : In u (scope W A t.at_block t.at_scope t.enter.given).visits =
    subst (λ (z : Visit). In u (scope W A t.at_block t.at_scope z.given).visits) (sym enters) (subst₂ (λ y z. In u (scope W A y z r.enter.given).visits) blocks scopes r.own) in
    let ub : u.block ≡ t.at_block = r.block ∙ blocks in
    unique_by W one A t.at_block t.at_scope t.enter.given v u (t.own, t.scope_is, t.block, t.sound) (own, r.scope_is ∙ scopes, ub, r.sound)
    (λ z m q w.
    let n : name_of z ≡ name_of t.enter = ap₂ (λ (p : Place) (y : Visited). let y' : Name = record { place = p; kind = kind_of y } in y')
    (let f = subst (IsSound W A z) q (stands_lem W one A t.at_block t.at_scope t.enter.given z m).sound in ap₂ (λ (y : Scope) h. at_hop y h) w f.0 ∙ sym t.enter_place) (q ∙ sym t.enter_visited) in
    ap (λ (y : Visit). y.given) (one_visit_lem W A b s x z t.enter (t.within z m) t.entered n)) o p a c
    (ap (λ z. hop_of (after W z v.visited v.place.hop v.raw v.used o)) (sym t.block) ∙ h ∙ ap (λ z. hop_of (after W z u.visited u.place.hop u.raw u.used p)) ub) v.visited u.visited refl refl
