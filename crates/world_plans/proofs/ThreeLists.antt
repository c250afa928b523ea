-- What is allowed is what the three lists have, one after another.
use Rattle.std.proofs.Common.{ℕ, suc, ◌+◌, ◌-◌, ◌<◌, ◌≤◌, ◌≡◌, ◌⊎◌, inl, inr, refl, sym, ap, ap₂, ◌∙◌, Bool, true, false, not, ◌&&◌, cond, nat_lt, nat_eq, List, [], ◌∷◌, ◌++◌, length, map, slice_get, Some, option_map, arith}
use Rattle.std.proofs.lemmas.Bool.{eqb-true, ltb-true, ltb-false}
use Rattle.std.proofs.lemmas.Option.{slice_get-map}
use Rattle.std.proofs.lemmas.List.{length-append, length-map}
use Rattle.world_model.specs.AnyCode.World.{InvState, Attempt, Event, Deliver, Crash, Step, Answer, GiveUp, World, Codes, enabled}
use Rattle.world_plans.specs.declared.planning.Plan.{Plan}
use Rattle.world_plans.specs.Plans.{crash_step}
use Rattle.world_plans.specs.Chooser.{one_if, is_step, wants_twin, twins_from, moves_from, rest_of, rests_from, allowed_events}
use Rattle.world_plans.specs.Three.{numbers_from, is_open, twin_numbers, living_numbers, waiting_numbers, move_at, move, rest_at, rest, event_at, IsInThree, IsRunning}
use Rattle.world_plans.proofs.Numbers.{get_two, from_next, here_is, from_zero}
use Rattle.world_plans.proofs.Steps.{step_or_answer}

-- one event or none, and then the others
one_more : {A : Type 0} (f : ℕ → A) (b : Bool) (k : ℕ) (ns : List ℕ) → cond b (f k ∷ map f ns) (map f ns) ≡ map f (cond b (k ∷ ns) ns)
one_more f true k ns = refl
one_more f false k ns = refl

twin_first : (b : Bool) (k : ℕ) (es : List Event) → one_if b (Deliver k) ++ es ≡ cond b (Deliver k ∷ es) es
twin_first true k es = refl
twin_first false k es = refl

moved_by : (a : ℕ) (crash step answer : Bool) → (step ≡ true) ⊎ (answer ≡ true) → (step ≡ true → answer ≡ false) →
    cond crash (Crash a ∷ []) (one_if step (Step a) ++ one_if answer (Answer a)) ≡ cond crash (Crash a) (cond step (Step a) (Answer a)) ∷ []
moved_by a true step answer h n = refl
moved_by a false true true h n = absurd (let z : true ≡ false = n refl in cc)
moved_by a false true false h n = refl
moved_by a false false true h n = refl
moved_by a false false false h n = absurd (elim h [ inl z ↦ (let v : false ≡ true = z in cc) | inr z ↦ (let v : false ≡ true = z in cc) ])

-- an open invocation is delivered up to 8 times, and then given up
rested_by : (k : ℕ) (acked dead : Bool) (tries live : ℕ) → tries ≤ 8 →
    one_if (nat_eq live 0 && (not acked && (not dead && nat_lt tries 8))) (Deliver k) ++ one_if (not acked && (not dead && (nat_eq tries 8 && nat_eq live 0))) (GiveUp k)
    ≡ cond (not acked && (not dead && nat_eq live 0)) (cond (nat_lt tries 8) (Deliver k) (GiveUp k) ∷ []) []
rested_by k true dead tries live l = by (nat_eq live 0)
  where
    by : (b : Bool) → one_if (b && false) (Deliver k) ++ [] ≡ []
    by true = refl
    by false = refl
rested_by k false true tries live l = by (nat_eq live 0)
  where
    by : (b : Bool) → one_if (b && false) (Deliver k) ++ [] ≡ []
    by true = refl
    by false = refl
rested_by k false false tries live l = by (nat_eq live 0) (nat_lt tries 8) refl (nat_eq tries 8) refl
  where
    by : (z b : Bool) → nat_lt tries 8 ≡ b → (c : Bool) → nat_eq tries 8 ≡ c → one_if (z && b) (Deliver k) ++ one_if (c && z) (GiveUp k) ≡ cond z (cond b (Deliver k) (GiveUp k) ∷ []) []
    by false b e true f = refl
    by false b e false f = refl
    by true true e true f = absurd (let n : tries ≡ 8 = eqb-true tries 8 f in let m : tries < 8 = ltb-true tries 8 e in omega arith)
    by true true e false f = refl
    by true false e true f = refl
    by true false e false f = absurd (let m : 8 ≤ tries = ltb-false tries 8 e in let n : tries ≡ 8 = omega arith in let g : nat_eq tries 8 ≡ true = rw n refl in let v : true ≡ false = sym g ∙ f in cc)

then_first : (b : Bool) (e : Event) (es : List Event) → cond b (e ∷ []) [] ++ es ≡ cond b (e ∷ es) es
then_first true e es = refl
then_first false e es = refl

module _ {M S B : Type 0} (p : Plan) (codes : Codes S) (w : World M S B) where
  twins_map : (k : ℕ) (ss : List InvState) → twins_from p w.atts k ss ≡ map Deliver (numbers_from (wants_twin p w.atts) k ss)
  unfolding twins_from numbers_from
  twins_map k [] = refl
  twins_map k (s ∷ ss) =
      let b : Bool = wants_twin p w.atts k s in
      ap (λ es. one_if b (Deliver k) ++ es) (twins_map (suc k) ss) ∙ twin_first b k (map Deliver (numbers_from (wants_twin p w.atts) (suc k) ss)) ∙ one_more Deliver b k (numbers_from (wants_twin p w.atts) (suc k) ss)

  pub twins_are : twins_from p w.atts 0 w.states ≡ map Deliver (twin_numbers p codes w)
  twins_are = twins_map 0 w.states

  module _ (R : IsRunning codes w) where
    lives_by : (k : ℕ) (t : Attempt) → slice_get w.atts k ≡ Some t → (b : Bool) → t.live ≡ b →
        cond b (cond (is_step (crash_step p k) t.steps) (Crash k ∷ []) (one_if (enabled codes w (Step k)) (Step k) ++ one_if (enabled codes w (Answer k)) (Answer k))) [] ≡ cond b (move p codes w k ∷ []) []
    lives_by k t e false l = refl
    lives_by k t e true l =
        moved_by k (is_step (crash_step p k) t.steps) (enabled codes w (Step k)) (enabled codes w (Answer k)) (R.goes_on k t e l) (step_or_answer codes w k)
        ∙ ap (λ z. move_at p codes w k z ∷ []) (sym e)

    moves_map : (k : ℕ) (ts : List Attempt) → ((j : ℕ) → slice_get w.atts (k + j) ≡ slice_get ts j) → moves_from p codes w k ts ≡ map (move p codes w) (numbers_from (λ a (t : Attempt). t.live) k ts)
    unfolding moves_from numbers_from
    moves_map k [] h = refl
    moves_map k (t ∷ ts) h =
        let ns : List ℕ = numbers_from (λ a (t : Attempt). t.live) (suc k) ts in
        ap₂ (λ xs es. xs ++ es) (lives_by k t (here_is w.atts k t ts h) t.live refl) (moves_map (suc k) ts (from_next w.atts k t ts h))
        ∙ then_first t.live (move p codes w k) (map (move p codes w) ns) ∙ one_more (move p codes w) t.live k ns

    rests_by : (k : ℕ) (s : InvState) → slice_get w.states k ≡ Some s → rest_of k s ≡ cond (is_open s) (rest p codes w k ∷ []) []
    rests_by k s e = rested_by k s.acked s.dead s.tries s.live (R.counted.tries k s e) ∙ ap (λ z. cond (is_open s) (rest_at p codes w k z ∷ []) []) (sym e)

    rests_map : (k : ℕ) (ss : List InvState) → ((j : ℕ) → slice_get w.states (k + j) ≡ slice_get ss j) → rests_from k ss ≡ map (rest p codes w) (numbers_from (λ a s. is_open s) k ss)
    unfolding rests_from numbers_from
    rests_map k [] h = refl
    rests_map k (s ∷ ss) h =
        let ns : List ℕ = numbers_from (λ a s. is_open s) (suc k) ss in
        ap₂ (λ xs es. xs ++ es) (rests_by k s (here_is w.states k s ss h)) (rests_map (suc k) ss (from_next w.states k s ss h))
        ∙ then_first (is_open s) (rest p codes w k) (map (rest p codes w) ns) ∙ one_more (rest p codes w) (is_open s) k ns

    abbrev T : List ℕ
    T = twin_numbers p codes w

    abbrev L : List ℕ
    L = living_numbers p codes w

    abbrev O : List ℕ
    O = waiting_numbers p codes w

    three : allowed_events p codes w ≡ map Deliver T ++ (map (move p codes w) L ++ map (rest p codes w) O)
    three = ap₂ (λ xs ys. xs ++ ys) twins_are (ap₂ (λ xs ys. xs ++ ys) (moves_map 0 w.atts (from_zero w.atts)) (rests_map 0 w.states (from_zero w.states)))

    counts : length (map Deliver T ++ (map (move p codes w) L ++ map (rest p codes w) O)) ≡ length T + (length L + length O)
    counts =
        length-append (map Deliver T) (map (move p codes w) L ++ map (rest p codes w) O)
        ∙ ap₂ (λ x y. x + y) (length-map T Deliver) (length-append (map (move p codes w) L) (map (rest p codes w) O) ∙ ap₂ (λ x y. x + y) (length-map L (move p codes w)) (length-map O (rest p codes w)))

    gets : (k : ℕ) → slice_get (map Deliver T ++ (map (move p codes w) L ++ map (rest p codes w) O)) k ≡ event_at p codes w k
    gets k =
        get_two (map Deliver T) (map (move p codes w) L ++ map (rest p codes w) O) k
        ∙ ap (λ n. cond (nat_lt k n) (slice_get (map Deliver T) k) (slice_get (map (move p codes w) L ++ map (rest p codes w) O) (k - n))) (length-map T Deliver)
        ∙ ap₂ (λ x y. cond (nat_lt k (length T)) x y) (slice_get-map Deliver T k) (later (k - length T))
      where
        later : (m : ℕ) → slice_get (map (move p codes w) L ++ map (rest p codes w) O) m ≡ cond (nat_lt m (length L)) (option_map (move p codes w) (slice_get L m)) (option_map (rest p codes w) (slice_get O (m - length L)))
        later m =
            get_two (map (move p codes w) L) (map (rest p codes w) O) m
            ∙ ap (λ n. cond (nat_lt m n) (slice_get (map (move p codes w) L) m) (slice_get (map (rest p codes w) O) (m - n))) (length-map L (move p codes w))
            ∙ ap₂ (λ x y. cond (nat_lt m (length L)) x y) (slice_get-map (move p codes w) L m) (slice_get-map (rest p codes w) O (m - length L))

    pub in_three : IsInThree p codes w
    in_three = record { lists = three; count = ap length three ∙ counts; at = λ k. ap (λ es. slice_get es k) three ∙ gets k }
