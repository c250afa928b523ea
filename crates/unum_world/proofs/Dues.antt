-- The event that is due in a worker's turn, by the three lists.
use Rattle.std.proofs.Common.{eq-eqb, ℕ, ◌+◌, ◌≡◌, inl, inr, refl, sym, ap, ◌∙◌, subst, arith, Bool, true, false, cond, nat_eq, List, [], ◌∷◌, ◌++◌, map, slice_get, Option, Some, None, option_map}
use Rattle.std.specs.List.{find}
use Rattle.std.specs.Option.{option_or}
use Rattle.std.proofs.lemmas.List.Folds.{find-append}
use Rattle.std.proofs.lemmas.Bool.{eqb-true}
use Rattle.asl_model.specs.Laws.{In}
use Rattle.asl_model.proofs.Lists.{In-cases, In-left, In-right}
use Rattle.world_types.specs.declared.queue.Attempt.{Attempt}
use Rattle.world_types.specs.declared.queue.InvState.{InvState}
use Rattle.world_types.specs.declared.queue.Event.{Event}
use Rattle.world_types.specs.declared.queue.Event.TheVariants.{Deliver, Crash, Step, Answer, GiveUp}
use Rattle.world_model.specs.AnyCode.World.{Codes, lives}
use Rattle.world_model.specs.Numbered.{Numbered}
use Rattle.world_plans.specs.declared.planning.Plan.{Plan}
use Rattle.world_plans.specs.Chooser.{allowed_events}
use Rattle.world_plans.specs.Three.{twin_numbers, living_numbers, waiting_numbers, move_at, move, rest_at, rest, IsInThree, IsRunning}
use Rattle.world_plans.proofs.Numbers.{number_in, in_number, in_map}
use Rattle.world_plans.proofs.ThreeLists.{in_three}
use Rattle.unum_world.specs.Turns.{is_of_none, is_of, is_for, own_attempt, due_in}

-- ---------------------------------------------------------------- finding in lists

-- the first, where each passes
find_first : (test : Event → Bool) (f : ℕ → Event) → ((n : ℕ) → test (f n) ≡ true) → (ns : List ℕ) → find test (map f ns) ≡ option_map f (slice_get ns 0)
find_first test f h [] = refl
find_first test f h (n ∷ ns) = ap (λ b. cond b (Some (f n)) (find test (map f ns))) (h n)

-- and none, where none does
find_never : (test : Event → Bool) (f : ℕ → Event) → ((n : ℕ) → test (f n) ≡ false) → (ns : List ℕ) → find test (map f ns) ≡ None
find_never test f h [] = refl
find_never test f h (n ∷ ns) = ap (λ b. cond b (Some (f n)) (find test (map f ns))) (h n) ∙ find_never test f h ns

-- what is found is in the list, and passes
pub found : (test : Event → Bool) (es : List Event) (e : Event) → find test es ≡ Some e → In e es × (test e ≡ true)
found test [] e q = absurd (cc)
found test (x ∷ es) e q = by (λ r. found test es e r) (test x) refl q
  where
    by : (find test es ≡ Some e → In e es × (test e ≡ true)) → (b : Bool) → test x ≡ b → cond b (Some x) (find test es) ≡ Some e →
        In e (x ∷ es) × (test e ≡ true)
    by more true t r = let z : x ≡ e = cc in (inl (sym z), subst (λ y. test y ≡ true) z t)
    by more false t r = let f = more r in (inr f.0, f.1)

-- and where none is found none passes
pub not_found : (test : Event → Bool) (es : List Event) → find test es ≡ None → (e : Event) → In e es → test e ≡ false
not_found test [] q e i = absurd i
not_found test (x ∷ es) q e i = by (λ r j. not_found test es r e j) (test x) refl q i
  where
    by : (find test es ≡ None → In e es → test e ≡ false) → (b : Bool) → test x ≡ b → cond b (Some x) (find test es) ≡ None → In e (x ∷ es) →
        test e ≡ false
    by more true t r j = absurd (cc)
    by more false t r (inl z) = ap test z ∙ t
    by more false t r (inr j) = more r j

-- an element of a list of values
in_map_of : (f : ℕ → Event) (ns : List ℕ) (e : Event) → In e (map f ns) → (n : ℕ) × In n ns × (e ≡ f n)
in_map_of f [] e i = absurd i
in_map_of f (n ∷ ns) e (inl z) = (n, inl refl, z)
in_map_of f (n ∷ ns) e (inr i) = let (m, j, z) = in_map_of f ns e i in (m, inr j, z)

-- ---------------------------------------------------------------- what each list has

module _ (p : Plan) (codes : Codes ℕ) (w : Numbered) where
  -- a live attempt's event is of that attempt,
  cond_of : (a n : ℕ) (b c : Bool) → is_of a (cond b (Crash n) (cond c (Step n) (Answer n))) ≡ nat_eq a n
  cond_of a n true c = refl
  cond_of a n false true = refl
  cond_of a n false false = refl

  move_of : (a n : ℕ) → is_of a (move p codes w n) ≡ nat_eq a n
  move_of a n = by (slice_get w.atts n)
    where
      by : (t : Option Attempt) → is_of a (move_at p codes w n t) ≡ nat_eq a n
      by None = refl
      by (Some t) = cond_of a n _ _

  cond_none : (n : ℕ) (b c : Bool) → is_of_none (cond b (Crash n) (cond c (Step n) (Answer n))) ≡ false
  cond_none n true c = refl
  cond_none n false true = refl
  cond_none n false false = refl

  move_none : (n : ℕ) → is_of_none (move p codes w n) ≡ false
  move_none n = by (slice_get w.atts n)
    where
      by : (t : Option Attempt) → is_of_none (move_at p codes w n t) ≡ false
      by None = refl
      by (Some t) = cond_none n _ _

  -- and an open invocation's of none
  rest_of : (a n : ℕ) → is_of a (rest p codes w n) ≡ false
  rest_of a n = by (slice_get w.states n)
    where
      either : (b : Bool) → is_of a (cond b (Deliver n) (GiveUp n)) ≡ false
      either true = refl
      either false = refl

      by : (s : Option InvState) → is_of a (rest_at p codes w n s) ≡ false
      by None = refl
      by (Some s) = either _

  rest_none : (n : ℕ) → is_of_none (rest p codes w n) ≡ true
  rest_none n = by (slice_get w.states n)
    where
      either : (b : Bool) → is_of_none (cond b (Deliver n) (GiveUp n)) ≡ true
      either true = refl
      either false = refl

      by : (s : Option InvState) → is_of_none (rest_at p codes w n s) ≡ true
      by None = refl
      by (Some s) = either _

  -- the answer of an attempt is that attempt's own event
  pub answer_of : (n a : ℕ) → Answer a ≡ move p codes w n → a ≡ n
  answer_of n a e = eqb-true a n (sym (move_of a n) ∙ ap (is_of a) (sym e) ∙ eq-eqb a a refl)

  -- ---------------------------------------------------------------- what is due

  module _ (R : IsRunning codes w) where
    three : IsInThree p codes w
    three = in_three p codes w R

    -- of an attempt that is listed its own event is found
    find_move : (a : ℕ) (ns : List ℕ) → In a ns → find (is_of a) (map (move p codes w) ns) ≡ Some (move p codes w a)
    find_move a [] i = absurd i
    find_move a (n ∷ ns) i = by (λ j. find_move a ns j) (nat_eq a n) refl i
      where
        first : (b : Bool) → nat_eq a n ≡ b → cond (is_of a (move p codes w n)) (Some (move p codes w n)) (find (is_of a) (map (move p codes w) ns)) ≡ cond b (Some (move p codes w n)) (find (is_of a) (map (move p codes w) ns))
        first b e = ap (λ b. cond b (Some (move p codes w n)) (find (is_of a) (map (move p codes w) ns))) (move_of a n ∙ e)

        by : (In a ns → find (is_of a) (map (move p codes w) ns) ≡ Some (move p codes w a)) → (b : Bool) → nat_eq a n ≡ b → In a (n ∷ ns) →
            cond (is_of a (move p codes w n)) (Some (move p codes w n)) (find (is_of a) (map (move p codes w) ns)) ≡ Some (move p codes w a)
        by more true e j = first true e ∙ ap (λ m. Some (move p codes w m)) (sym (eqb-true a n e))
        by more false e (inl z) = absurd (let t : nat_eq a n ≡ true = eq-eqb a n z in cc)
        by more false e (inr j) = first false e ∙ more j

    -- an attempt that lives is listed
    listed : (a : ℕ) → lives (slice_get w.atts a) ≡ true → In a (living_numbers p codes w)
    listed a l = by (slice_get w.atts a) refl l
      where
        by : (t : Option Attempt) → slice_get w.atts a ≡ t → lives t ≡ true → In a (living_numbers p codes w)
        by None e q = absurd (cc)
        by (Some t) e q =
            let z : 0 + a ≡ a = omega arith in
            subst (λ n. In n (living_numbers p codes w)) z (number_in (λ a (t : Attempt). t.live) 0 w.atts a t e q)

    -- and only such are
    living : (a : ℕ) → In a (living_numbers p codes w) → lives (slice_get w.atts a) ≡ true
    living a i =
        let (n, t, z, e, l) = in_number (λ a (t : Attempt). t.live) 0 w.atts a i in
        let same : n ≡ a = omega (arith, z) in
        ap (λ m. lives (slice_get w.atts m)) (sym same) ∙ ap lives e ∙ l

    abbrev twins : List Event
    twins = map Deliver (twin_numbers p codes w)

    abbrev moves : List Event
    moves = map (move p codes w) (living_numbers p codes w)

    abbrev rests : List Event
    rests = map (rest p codes w) (waiting_numbers p codes w)

    find_in_three : (test : Event → Bool) → find test (allowed_events p codes w) ≡ option_or (find test twins) (option_or (find test moves) (find test rests))
    find_in_three test =
        ap (find test) three.lists ∙ find-append test twins (moves ++ rests) ∙ ap (option_or (find test twins)) (find-append test moves rests)

    -- a worker without an attempt delivers the first twin, and else makes the event of the first open invocation
    pub due_none : due_in p codes w None ≡ option_or (option_map Deliver (slice_get (twin_numbers p codes w) 0)) (option_map (rest p codes w) (slice_get (waiting_numbers p codes w) 0))
    due_none =
        find_in_three is_of_none
        ∙ ap (λ x. option_or x (option_or (find is_of_none moves) (find is_of_none rests))) (find_first is_of_none Deliver (λ n. refl) (twin_numbers p codes w))
        ∙ ap (λ x. option_or (option_map Deliver (slice_get (twin_numbers p codes w) 0)) (option_or x (find is_of_none rests))) (find_never is_of_none (move p codes w) move_none (living_numbers p codes w))
        ∙ ap (λ x. option_or (option_map Deliver (slice_get (twin_numbers p codes w) 0)) (option_or None x)) (find_first is_of_none (rest p codes w) rest_none (waiting_numbers p codes w))

    -- a live attempt makes its own event
    pub due_own : (a : ℕ) → lives (slice_get w.atts a) ≡ true → due_in p codes w (Some a) ≡ Some (move p codes w a)
    due_own a l =
        ap (λ b. find (is_for (cond b (Some a) None)) (allowed_events p codes w)) l ∙ find_in_three (is_of a)
        ∙ ap (λ x. option_or x (option_or (find (is_of a) moves) (find (is_of a) rests))) (find_never (is_of a) Deliver (λ n. refl) (twin_numbers p codes w))
        ∙ ap (λ x. option_or None (option_or x (find (is_of a) rests))) (find_move a (living_numbers p codes w) (listed a l))

    -- and a worker whose attempt does not live has none
    pub due_other : (a : ℕ) → lives (slice_get w.atts a) ≡ false → due_in p codes w (Some a) ≡ due_in p codes w None
    due_other a l = ap (λ b. find (is_for (cond b (Some a) None)) (allowed_events p codes w)) l

    -- where no event is due, the worker has no live attempt
    pub own_none : (mine : Option ℕ) → due_in p codes w mine ≡ None → own_attempt w mine ≡ None
    own_none None e = refl
    own_none (Some a) e = by (lives (slice_get w.atts a)) refl
      where
        by : (b : Bool) → lives (slice_get w.atts a) ≡ b → cond b (Some a) None ≡ None
        by true l = absurd (let z : Some (move p codes w a) ≡ None = sym (due_own a l) ∙ e in cc)
        by false l = refl

    -- ---------------------------------------------------------------- answers

    -- the plan allows the event of each live attempt
    pub move_allowed : (a : ℕ) → lives (slice_get w.atts a) ≡ true → In (move p codes w a) (allowed_events p codes w)
    move_allowed a l =
        subst (In (move p codes w a)) (sym three.lists)
        (In-right twins _ _ (In-left moves _ _ (in_map (move p codes w) (living_numbers p codes w) a (listed a l))))

    -- and no other Answer
    pub answer_allowed : (a : ℕ) → In (Answer a) (allowed_events p codes w) → (lives (slice_get w.atts a) ≡ true) × (move p codes w a ≡ Answer a)
    answer_allowed a i = elim (In-cases twins (moves ++ rests) (Answer a) (subst (In (Answer a)) three.lists i)) [
      | inl j ↦ absurd (let (n, k, z) = in_map_of Deliver (twin_numbers p codes w) (Answer a) j in let v : Answer a ≡ Deliver n = z in cc)
      | inr j ↦ elim (In-cases moves rests (Answer a) j) [
        | inl k ↦
            let (n, l, z) = in_map_of (move p codes w) (living_numbers p codes w) (Answer a) k in
            let same : a ≡ n = answer_of n a z in
            (subst (λ m. lives (slice_get w.atts m) ≡ true) (sym same) (living n l), ap (move p codes w) same ∙ sym z)
        | inr k ↦ absurd (
            let (n, l, z) = in_map_of (rest p codes w) (waiting_numbers p codes w) (Answer a) k in
            let v : false ≡ true = ap is_of_none z ∙ rest_none n in cc
            )
      ]
    ]
