-- What a plan of no mishaps allows is no mishap.
use Rattle.world_model.specs.AnyCode.World as worlds
use Rattle.std.proofs.Common.{ℕ, zero, suc, ◌+◌, ◌%◌, ◌<◌, ◌≡◌, inl, inr, refl, sym, ap, ◌∙◌, subst, Bool, true, false, ◌&&◌, cond, nat_eq, nat_lt, List, [], ◌∷◌, ◌++◌, length, slice_get, Option, Some, None, arith}
use Rattle.std.proofs.lemmas.Option.{same_Some}
use Rattle.std.proofs.lemmas.Bool.{eqb-true, ltb-true}
use Rattle.asl_model.specs.Laws.{In}
use Rattle.asl_model.proofs.Lists.{In-cases}
use Rattle.world_model.specs.AnyCode.Code.{in_order}
use Rattle.world_model.specs.AnyCode.Counted.{IsCounted, one_live, live_count}
use Rattle.world_model.specs.AnyCode.World.{InvState, Attempt, Event, Deliver, Crash, Step, Answer, GiveUp, Codes, lives}
use Rattle.world_model.specs.World as of_machines
use Rattle.world_model.specs.World.{Opening, codes as machines, first, start, effect, enabled, run_from}
use Rattle.world_model.proofs.Keeps.{and_parts}
use Rattle.world_model.proofs.Every.{run_none}
use Rattle.world_model.proofs.Queues.{IsTalliedWorld, effect_tallied, start_tallied, tallied_counted, live_here}
use Rattle.world_plans.specs.declared.planning.Plan.{Plan}
use Rattle.world_plans.specs.Plans.{draw, script_step, or_by_rate, crash_step, has_number, twin, HasNoMishap}
use Rattle.world_plans.specs.Chooser.{can_deliver, can_give_up, one_if, is_step, latest, twin_of, wants_twin, twins_from, move_of, moves_from, rest_of, rests_from, allowed_events, Obeys}
use Rattle.world_plans.proofs.Numbers.{from_next, here_is, from_zero, if_on}
use Rattle.calm_worlds.specs.Calm.{IsCalm, AreCalm}
use Rattle.calm_worlds.specs.Goes.{EveryObeyingRunIsCalm}

none_below : (n k : ℕ) → k ≡ 0 → nat_lt n k ≡ false
none_below n k e = by (nat_lt n k) refl
  where
    by : (b : Bool) → nat_lt n k ≡ b → b ≡ false
    by false q = refl
    by true q = absurd (let l : n < k = ltb-true n k q in omega arith)

no_twin : (p : Plan) → HasNoMishap p → (n : ℕ) → twin p n ≡ false
no_twin p h n =
    let a : has_number n p.twins ≡ false = ap (has_number n) h.twins_none in
    let b : nat_lt (draw p.seed n 3 % 1000) p.repeat ≡ false = none_below (draw p.seed n 3 % 1000) p.repeat h.repeat_none in
    rw (a, b) refl

no_crash : (p : Plan) → HasNoMishap p → (n : ℕ) → crash_step p n ≡ None
no_crash p h n =
    ap (λ z. or_by_rate p n (script_step n z)) h.script_none
    ∙ ap (λ (b : Bool). cond b (Some (draw p.seed n 2 % 12)) None) (none_below (draw p.seed n 1 % 1000) p.crash h.crash_none)

-- where none is counted, none lives
count_idle : (k : ℕ) (ts : List Attempt) → live_count k ts ≡ 0 → (a : ℕ) (t : Attempt) → slice_get ts a ≡ Some t → t.inv ≡ k → t.live ≡ false
count_idle k [] z a t e q = absurd (cc)
count_idle k (u ∷ ts) z zero t e q = by u.live refl
  where
    by : (b : Bool) → u.live ≡ b → t.live ≡ false
    by false l = ap (λ (y : Attempt). y.live) (sym (same_Some u t e)) ∙ l
    by true l = absurd (let n : one_live u k ≡ 1 = live_here u k l (ap (λ (y : Attempt). y.inv) (same_Some u t e) ∙ q) in omega arith)
count_idle k (u ∷ ts) z (suc a) t e q = count_idle k ts (omega arith) a t e q

false_and : (a : Bool) → a && false ≡ true → ⊥
false_and true q = cc
false_and false q = cc

module _ {M S B : Type 0} (p : Plan) (h : HasNoMishap p) (codes : Codes S) (w : worlds.World M S B) (C : IsCounted w.states w.atts) where
  none_twin : (x : Option ℕ) → twin_of p w.atts x ≡ true → ⊥
  none_twin None q = cc
  none_twin (Some n) q = let a = no_twin p h n in false_and (lives (slice_get w.atts n)) (ap (λ b. lives (slice_get w.atts n) && b) (sym a) ∙ q)

  twins_calm : (k : ℕ) (ss : List InvState) (e : Event) → In e (twins_from p w.atts k ss) → ⊥
  unfolding twins_from
  twins_calm k [] e i = i
  twins_calm k (s ∷ ss) e i = elim (In-cases (one_if (wants_twin p w.atts k s) (Deliver k)) (twins_from p w.atts (suc k) ss) e i) [
    | inl j ↦
        let (b, q) = if_on (wants_twin p w.atts k s) (Deliver k) e j in
        let c = and_parts (can_deliver s) (nat_eq s.live 1 && twin_of p w.atts (latest 0 k w.atts)) b in
        none_twin (latest 0 k w.atts) (and_parts (nat_eq s.live 1) (twin_of p w.atts (latest 0 k w.atts)) c.1).1
    | inr j ↦ twins_calm (suc k) ss e j
  ]

  moves_by : (k : ℕ) (x y : Bool) (e : Event) → In e (one_if x (Step k) ++ one_if y (Answer k)) → IsCalm w e
  moves_by k x y e i = elim (In-cases (one_if x (Step k)) (one_if y (Answer k)) e i) [
    | inl j ↦ subst (IsCalm w) (sym (if_on x (Step k) e j).1) tt
    | inr j ↦ subst (IsCalm w) (sym (if_on y (Answer k) e j).1) tt
  ]

  moved_calm : (k : ℕ) (t : Attempt) (e : Event) → In e (move_of p codes w k t) → IsCalm w e
  moved_calm k t e i = by t.live i
    where
      by : (b : Bool) → In e (cond b (cond (is_step (crash_step p k) t.steps) (Crash k ∷ []) (one_if (worlds.enabled codes w (Step k)) (Step k) ++ one_if (worlds.enabled codes w (Answer k)) (Answer k))) []) → IsCalm w e
      by false j = absurd j
      by true j =
          let n : is_step (crash_step p k) t.steps ≡ false = ap (λ z. is_step z t.steps) (no_crash p h k) in
          moves_by k (worlds.enabled codes w (Step k)) (worlds.enabled codes w (Answer k)) e
          (subst (λ b. In e (cond b (Crash k ∷ []) (one_if (worlds.enabled codes w (Step k)) (Step k) ++ one_if (worlds.enabled codes w (Answer k)) (Answer k)))) n j)

  moves_calm : (k : ℕ) (ts : List Attempt) (e : Event) → In e (moves_from p codes w k ts) → IsCalm w e
  unfolding moves_from
  moves_calm k [] e i = absurd i
  moves_calm k (t ∷ ts) e i = elim (In-cases (move_of p codes w k t) (moves_from p codes w (suc k) ts) e i) [ inl j ↦ moved_calm k t e j | inr j ↦ moves_calm (suc k) ts e j ]

  rests_calm : (k : ℕ) (ss : List InvState) → ((j : ℕ) → slice_get w.states (k + j) ≡ slice_get ss j) → (e : Event) → In e (rests_from k ss) → IsCalm w e
  unfolding rests_from
  rests_calm k [] f e i = absurd i
  rests_calm k (s ∷ ss) f e i = elim (In-cases (rest_of k s) (rests_from (suc k) ss) e i) [
    | inl j ↦ elim (In-cases (one_if (nat_eq s.live 0 && can_deliver s) (Deliver k)) (one_if (can_give_up s) (GiveUp k)) e j) [
      | inl x ↦
          let (b, q) = if_on (nat_eq s.live 0 && can_deliver s) (Deliver k) e x in
          let n : s.live ≡ 0 = eqb-true s.live 0 (and_parts (nat_eq s.live 0) (can_deliver s) b).0 in
          let c : live_count k w.atts ≡ 0 = sym (C.live k s (here_is w.states k s ss f)) ∙ n in
          subst (IsCalm w) (sym q) (count_idle k w.atts c)
      | inr x ↦ subst (IsCalm w) (sym (if_on (can_give_up s) (GiveUp k) e x).1) tt
    ]
    | inr j ↦ rests_calm (suc k) ss (from_next w.states k s ss f) e j
  ]

  pub allowed_calm : (e : Event) → In e (allowed_events p codes w) → IsCalm w e
  allowed_calm e i = elim (In-cases (twins_from p w.atts 0 w.states) (moves_from p codes w 0 w.atts ++ rests_from 0 w.states) e i) [
    | inl j ↦ absurd (twins_calm 0 w.states e j)
    | inr j ↦ elim (In-cases (moves_from p codes w 0 w.atts) (rests_from 0 w.states) e j) [ inl k ↦ moves_calm 0 w.atts e k | inr k ↦ rests_calm 0 w.states (from_zero w.states) e k ]
  ]

obeying_calm : (p : Plan) → HasNoMishap p → (es : List Event) (w v : of_machines.World) → IsTalliedWorld w → run_from (Some w) es ≡ Some v → Obeys p in_order machines w es → AreCalm w es
unfolding worlds.run_from
obeying_calm p h [] w v T e o = tt
obeying_calm p h (x ∷ es) w v T e (i, o) =
    (allowed_calm p h machines w (tallied_counted (length w.invs) w.states w.atts T) x i, go (λ c q. obeying_calm p h es (effect w x) v c q o) (enabled w x) refl e)
  where
    go : (IsTalliedWorld (effect w x) → run_from (Some (effect w x)) es ≡ Some v → AreCalm (effect w x) es) → (b : Bool) → enabled w x ≡ b → run_from (cond b (Some (effect w x)) None) es ≡ Some v → AreCalm (effect w x) es
    go r true y q = r (effect_tallied in_order machines w T x y) q
    go r false y q = absurd (run_none es v q)

pub every_obeying_run_is_calm : EveryObeyingRunIsCalm
every_obeying_run_is_calm p h o es w e i = obeying_calm p h es (start o) w (start_tallied first (List ℕ) o) e i
