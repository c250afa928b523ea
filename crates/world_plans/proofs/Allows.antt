-- What is allowed may happen, and something is where anything may happen.
use Rattle.std.proofs.Common.{ℕ, suc, ◌+◌, ◌≡◌, ◌⊎◌, inl, inr, refl, sym, ap, ◌∙◌, subst, Bool, true, false, not, ◌&&◌, cond, nat_lt, nat_eq, List, [], ◌∷◌, ◌++◌, length, map, slice_get, Option, Some, None, arith}
use Rattle.asl_model.specs.Laws.{In}
use Rattle.asl_model.proofs.Lists.{In-left, In-right, In-cases}
use Rattle.world_model.specs.AnyCode.Code.{Bitmaps}
use Rattle.world_model.specs.AnyCode.Counted.{one_live, live_count}
use Rattle.world_model.specs.AnyCode.World.{InvState, Attempt, Event, Deliver, Crash, Step, Answer, GiveUp, World, Codes, effect, enabled, state_lets, att_lets, lives, is_do, is_ask}
use Rattle.world_model.proofs.Keeps.{and_parts}
use Rattle.world_model.proofs.Gets.{get_in}
use Rattle.world_plans.specs.declared.planning.Plan.{Plan}
use Rattle.world_plans.specs.Plans.{crash_step}
use Rattle.world_plans.specs.Chooser.{can_deliver, can_give_up, one_if, is_step, wants_twin, twins_from, move_of, moves_from, rest_of, rests_from, allowed_events, Obeys, AreChosen, choices_then, choices}
use Rattle.world_plans.specs.Three.{is_open, twin_numbers, living_numbers, waiting_numbers, move, rest, IsInThree, IsRunning}
use Rattle.world_plans.proofs.Numbers.{number_in, in_map, not_none, from_next, here_is, from_zero, if_on}
use Rattle.world_plans.proofs.ThreeLists.{in_three}

module _ {M S B : Type 0} (p : Plan) (codes : Codes S) (w : World M S B) where
  abbrev On : Event → Type 0
  On e = enabled codes w e ≡ true

  deliver_on : (k : ℕ) (s : InvState) → slice_get w.states k ≡ Some s → can_deliver s ≡ true → On (Deliver k)
  unfolding enabled
  deliver_on k s e q = subst (λ z. state_lets (λ s. can_deliver s) z ≡ true) (sym e) q

  give_on : (k : ℕ) (s : InvState) → slice_get w.states k ≡ Some s → can_give_up s ≡ true → On (GiveUp k)
  unfolding enabled
  give_on k s e q = subst (λ z. state_lets (λ s. can_give_up s) z ≡ true) (sym e) q

  crash_on : (a : ℕ) (t : Attempt) → slice_get w.atts a ≡ Some t → t.live ≡ true → On (Crash a)
  unfolding enabled
  crash_on a t e l = subst (λ z. lives z ≡ true) (sym e) l

  twins_on : (k : ℕ) (ss : List InvState) → ((j : ℕ) → slice_get w.states (k + j) ≡ slice_get ss j) → (e : Event) → In e (twins_from p w.atts k ss) → On e
  unfolding twins_from
  twins_on k [] h e i = absurd i
  twins_on k (s ∷ ss) h e i = elim (In-cases (one_if (wants_twin p w.atts k s) (Deliver k)) (twins_from p w.atts (suc k) ss) e i) [
    | inl j ↦
        let (b, q) = if_on (wants_twin p w.atts k s) (Deliver k) e j in
        subst On (sym q) (deliver_on k s (here_is w.states k s ss h) (and_parts (can_deliver s) _ b).0)
    | inr j ↦ twins_on (suc k) ss (from_next w.states k s ss h) e j
  ]

  moves_by : (k : ℕ) (c x y : Bool) → On (Crash k) → (x ≡ true → On (Step k)) → (y ≡ true → On (Answer k)) → (e : Event) → In e (cond c (Crash k ∷ []) (one_if x (Step k) ++ one_if y (Answer k))) → On e
  moves_by k true x y f g h e (inl i) = subst On (sym i) f
  moves_by k true x y f g h e (inr i) = absurd i
  moves_by k false x y f g h e i = elim (In-cases (one_if x (Step k)) (one_if y (Answer k)) e i) [
    | inl j ↦ let (b, q) = if_on x (Step k) e j in subst On (sym q) (g b)
    | inr j ↦ let (b, q) = if_on y (Answer k) e j in subst On (sym q) (h b)
  ]

  moves_on : (k : ℕ) (ts : List Attempt) → ((j : ℕ) → slice_get w.atts (k + j) ≡ slice_get ts j) → (e : Event) → In e (moves_from p codes w k ts) → On e
  unfolding moves_from
  moves_on k [] h e i = absurd i
  moves_on k (t ∷ ts) h e i = elim (In-cases (move_of p codes w k t) (moves_from p codes w (suc k) ts) e i) [
    | inl j ↦ by t.live refl j
    | inr j ↦ moves_on (suc k) ts (from_next w.atts k t ts h) e j
  ]
    where
      by : (b : Bool) → t.live ≡ b → In e (cond b (cond (is_step (crash_step p k) t.steps) (Crash k ∷ []) (one_if (enabled codes w (Step k)) (Step k) ++ one_if (enabled codes w (Answer k)) (Answer k))) []) → On e
      by false l j = absurd j
      by true l j = moves_by k (is_step (crash_step p k) t.steps) (enabled codes w (Step k)) (enabled codes w (Answer k)) (crash_on k t (here_is w.atts k t ts h) l) (λ q. q) (λ q. q) e j

  rests_on : (k : ℕ) (ss : List InvState) → ((j : ℕ) → slice_get w.states (k + j) ≡ slice_get ss j) → (e : Event) → In e (rests_from k ss) → On e
  unfolding rests_from
  rests_on k [] h e i = absurd i
  rests_on k (s ∷ ss) h e i = elim (In-cases (rest_of k s) (rests_from (suc k) ss) e i) [
    | inl j ↦ elim (In-cases (one_if (nat_eq s.live 0 && can_deliver s) (Deliver k)) (one_if (can_give_up s) (GiveUp k)) e j) [
      | inl x ↦ let (b, q) = if_on (nat_eq s.live 0 && can_deliver s) (Deliver k) e x in subst On (sym q) (deliver_on k s (here_is w.states k s ss h) (and_parts (nat_eq s.live 0) (can_deliver s) b).1)
      | inr x ↦ let (b, q) = if_on (can_give_up s) (GiveUp k) e x in subst On (sym q) (give_on k s (here_is w.states k s ss h) b)
    ]
    | inr j ↦ rests_on (suc k) ss (from_next w.states k s ss h) e j
  ]

  pub allowed_on : (e : Event) → In e (allowed_events p codes w) → On e
  allowed_on e i = elim (In-cases (twins_from p w.atts 0 w.states) (moves_from p codes w 0 w.atts ++ rests_from 0 w.states) e i) [
    | inl j ↦ twins_on 0 w.states (from_zero w.states) e j
    | inr j ↦ elim (In-cases (moves_from p codes w 0 w.atts) (rests_from 0 w.states) e j) [
      | inl k ↦ moves_on 0 w.atts (from_zero w.atts) e k
      | inr k ↦ rests_on 0 w.states (from_zero w.states) e k
    ]
  ]

  -- ---------------------------------------------------------------- something is allowed

  module _ (R : IsRunning codes w) where
    abbrev SomeOf : Type 0
    SomeOf = (e : Event) × In e (allowed_events p codes w)

    of_live : (a : ℕ) (t : Attempt) → slice_get w.atts a ≡ Some t → t.live ≡ true → SomeOf
    of_live a t e l =
        let z : 0 + a ≡ a = omega arith in
        let i = number_in (λ a (t : Attempt). t.live) 0 w.atts a t e l in
        let j = in_map (move p codes w) (living_numbers p codes w) (0 + a) i in
        let three : IsInThree p codes w = in_three p codes w R in
        (move p codes w (0 + a), subst (In (move p codes w (0 + a))) (sym three.lists) (In-right (map Deliver (twin_numbers p codes w)) _ _ (In-left (map (move p codes w) (living_numbers p codes w)) _ _ j)))

    of_open : (k : ℕ) (s : InvState) → slice_get w.states k ≡ Some s → is_open s ≡ true → SomeOf
    of_open k s e l =
        let i = number_in (λ k s. is_open s) 0 w.states k s e l in
        let j = in_map (rest p codes w) (waiting_numbers p codes w) (0 + k) i in
        let three : IsInThree p codes w = in_three p codes w R in
        (rest p codes w (0 + k), subst (In (rest p codes w (0 + k))) (sym three.lists) (In-right (map Deliver (twin_numbers p codes w)) _ _ (In-right (map (move p codes w) (living_numbers p codes w)) _ _ j)))

    -- an invocation with a live attempt has one
    live_one : (k : ℕ) (ts : List Attempt) → (live_count k ts ≡ 0) ⊎ ((a : ℕ) × (t : Attempt) × (slice_get ts a ≡ Some t) × (t.live ≡ true))
    live_one k [] = inl refl
    live_one k (u ∷ ts) = by u.live refl (live_one k ts)
      where
        by : (b : Bool) → u.live ≡ b → (live_count k ts ≡ 0) ⊎ ((a : ℕ) × (t : Attempt) × (slice_get ts a ≡ Some t) × (t.live ≡ true)) →
            (live_count k (u ∷ ts) ≡ 0) ⊎ ((a : ℕ) × (t : Attempt) × (slice_get (u ∷ ts) a ≡ Some t) × (t.live ≡ true))
        by true l r = inr (0, u, refl, l)
        by false l (inl z) = inl (let y : one_live u k ≡ 0 = ap (λ b. cond (b && nat_eq u.inv k) 1 0) l in omega arith)
        by false l (inr (a, t, e, q)) = inr (suc a, t, e, q)

    open_by : (k : ℕ) (s : InvState) → slice_get w.states k ≡ Some s → not s.acked ≡ true → not s.dead ≡ true → SomeOf
    open_by k s e a d = elim (live_one k w.atts) [
      | inl z ↦
          let n : s.live ≡ 0 = R.counted.live k s e ∙ z in
          let m : nat_eq s.live 0 ≡ true = rw n refl in
          of_open k s e (rw (a, d, m) refl)
      | inr (b, t, f, l) ↦ of_live b t f l
    ]

    state_some : (k : ℕ) (f : InvState → Bool) → ((s : InvState) → f s ≡ true → (not s.acked ≡ true) × (not s.dead ≡ true)) → (x : Option InvState) → slice_get w.states k ≡ x → state_lets f x ≡ true → SomeOf
    state_some k f g None e q = absurd (cc)
    state_some k f g (Some s) e q = let (a, d) = g s q in open_by k s e a d

    lives_some : (a : ℕ) (x : Option Attempt) → slice_get w.atts a ≡ x → lives x ≡ true → SomeOf
    lives_some a None e q = absurd (cc)
    lives_some a (Some t) e q = of_live a t e q

    lets_some : (a : ℕ) (f : _) (x : Option Attempt) → slice_get w.atts a ≡ x → att_lets codes w f x ≡ true → SomeOf
    lets_some a f None e q = absurd (cc)
    lets_some a f (Some t) e q = of_live a t e (and_parts t.live _ q).0

    pub some_allowed : (e : Event) → On e → SomeOf
    unfolding enabled
    some_allowed (Deliver k) q =
        state_some k (λ s. can_deliver s) (λ s c. let a = and_parts (not s.acked) (not s.dead && nat_lt s.tries 8) c in (a.0, (and_parts (not s.dead) (nat_lt s.tries 8) a.1).0)) (slice_get w.states k) refl q
    some_allowed (Crash a) q = lives_some a (slice_get w.atts a) refl q
    some_allowed (Step a) q = lets_some a is_do (slice_get w.atts a) refl q
    some_allowed (Answer a) q = lets_some a is_ask (slice_get w.atts a) refl q
    some_allowed (GiveUp k) q =
        state_some k (λ s. can_give_up s) (λ s c. let a = and_parts (not s.acked) (not s.dead && (nat_eq s.tries 8 && nat_eq s.live 0)) c in (a.0, (and_parts (not s.dead) (nat_eq s.tries 8 && nat_eq s.live 0) a.1).0)) (slice_get w.states k) refl q

    pub none_allowed : allowed_events p codes w ≡ [] → (e : Event) → enabled codes w e ≡ false
    none_allowed n e = by (enabled codes w e) refl
      where
        by : (b : Bool) → enabled codes w e ≡ b → b ≡ false
        by false q = refl
        by true q = let (d, i) = some_allowed e q in absurd (not_none (allowed_events p codes w) d i n)

-- ---------------------------------------------------------------- choices

module _ {M S B : Type 0} (p : Plan) (bits : Bitmaps B) (codes : Codes S) where
  pub chosen_obey : (es : List Event) (w : World M S B) (n : ℕ) → AreChosen p bits codes w n es → Obeys p bits codes w es
  chosen_obey [] w n h = tt
  chosen_obey (e ∷ es) w n (c, h) = (get_in (allowed_events p codes w) _ e c, chosen_obey es (effect bits codes w e) (suc n) h)

  pub chosen_are : (es : List Event) (w : World M S B) (n : ℕ) → AreChosen p bits codes w n es → choices p bits codes (length es) w n ≡ es
  unfolding choices
  chosen_are [] w n h = refl
  chosen_are (e ∷ es) w n (c, h) =
      ap (choices_then bits codes w (λ v. choices p bits codes (length es) v (suc n))) c ∙ ap (λ xs. e ∷ xs) (chosen_are es (effect bits codes w e) (suc n) h)
