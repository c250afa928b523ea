-- Each event changes the three lists at one number.
use Rattle.std.proofs.Common.{ℕ, zero, suc, ◌+◌, ◌≡◌, ◌≢◌, refl, sym, ap, ap₂, ◌∙◌, Bool, true, false, not, ◌&&◌, cond, nat_eq, nat_lt, List, [], ◌∷◌, ◌++◌, length, slice_get, slice_set, Option, Some, None, arith}
use Rattle.std.proofs.lemmas.Option.{same_Some}
use Rattle.std.proofs.lemmas.Bool.{eqb-true}
use Rattle.fn_table.specs.declared.kind.FnKind.{FnKind}
use Rattle.world_model.specs.AnyCode.Code.{Json, Bitmaps}
use Rattle.world_model.specs.AnyCode.Operations.{Invocation, Op, Look, Create, Set, Invoke, Mark, Ack}
use Rattle.world_model.specs.AnyCode.Program.{Phase, Looking, Doing, Do, Ask, Nothing, next_of, absorb}
use Rattle.world_model.specs.AnyCode.World.{InvState, Attempt, Event, Deliver, Crash, Step, Answer, GiveUp, World, Codes, code_of, fresh_state, state_after_ack, state_after_crash, states_with, with_state, performed_world, moved_world, reply_to, stepped_world, asked_world, answered_world, function_of, with_inv, with_att, delivered_world, crashed_world, effect, enabled, lives, state_lets, att_lets, is_do, is_ask}
use Rattle.world_model.proofs.Keeps.{and_parts}
use Rattle.world_model.proofs.Gets.{get_append}
use Rattle.world_plans.specs.declared.planning.Plan.{Plan}
use Rattle.world_plans.specs.Plans.{twin}
use Rattle.world_plans.specs.Chooser.{can_deliver, or_here, latest, twin_of, wants_twin}
use Rattle.world_plans.specs.Three.{is_open, twin_numbers, living_numbers, waiting_numbers}
use Rattle.world_plans.specs.Changes.{numbers_set, inv_at, inv_of_step, inv_of_next, stepped_inv, inv_of, att_of, ChangesLists}
use Rattle.world_plans.proofs.Putting.{not_eq, takes, numbers_change}

-- ---------------------------------------------------------------- lists

set_other : {A : Type 0} (xs : List A) (i : ℕ) (y : A) (j : ℕ) → j ≢ i → slice_get xs j ≡ slice_get (slice_set xs i y) j
set_other [] i y j h = refl
set_other (x ∷ xs) zero y zero h = absurd (h refl)
set_other (x ∷ xs) zero y (suc j) h = refl
set_other (x ∷ xs) (suc i) y zero h = refl
set_other (x ∷ xs) (suc i) y (suc j) h = set_other xs i y j (λ e. h (ap suc e))

push_other : {A : Type 0} (xs : List A) (y : A) (j : ℕ) → j ≢ length xs → slice_get xs j ≡ slice_get (xs ++ y ∷ []) j
push_other [] y zero h = absurd (h refl)
push_other [] y (suc j) h = refl
push_other (x ∷ xs) y zero h = refl
push_other (x ∷ xs) y (suc j) h = push_other xs y j (λ e. h (ap suc e))

lives_set : (ts : List Attempt) (a : ℕ) (t u : Attempt) → slice_get ts a ≡ Some t → u.live ≡ t.live → (n : ℕ) → lives (slice_get ts n) ≡ lives (slice_get (slice_set ts a u) n)
lives_set [] a t u e l n = refl
lives_set (x ∷ ts) zero t u e l zero = ap (λ (z : Attempt). z.live) (same_Some x t e) ∙ sym l
lives_set (x ∷ ts) zero t u e l (suc n) = refl
lives_set (x ∷ ts) (suc a) t u e l zero = refl
lives_set (x ∷ ts) (suc a) t u e l (suc n) = lives_set ts a t u e l n

here_by : (j k : ℕ) (t u : Attempt) → u.inv ≡ t.inv → (x : Option ℕ) → or_here j k t x ≡ or_here j k u x
here_by j k t u e (Some n) = refl
here_by j k t u e None = ap (λ i. cond (nat_eq i j) (Some k) None) (sym e)

latest_set : (k j : ℕ) (ts : List Attempt) (a : ℕ) (t u : Attempt) → slice_get ts a ≡ Some t → u.inv ≡ t.inv → latest k j ts ≡ latest k j (slice_set ts a u)
unfolding latest
latest_set k j [] a t u e q = refl
latest_set k j (x ∷ ts) zero t u e q = here_by j k x u (q ∙ ap (λ (z : Attempt). z.inv) (sym (same_Some x t e))) (latest (suc k) j ts)
latest_set k j (x ∷ ts) (suc a) t u e q = ap (or_here j k x) (latest_set (suc k) j ts a t u e q)

latest_push : (k j : ℕ) (ts : List Attempt) (u : Attempt) → u.inv ≢ j → latest k j ts ≡ latest k j (ts ++ u ∷ [])
unfolding latest
latest_push k j [] u h = ap (λ (b : Bool). cond b (Some k) None) (sym (not_eq u.inv j h))
latest_push k j (x ∷ ts) u h = ap (or_here j k x) (latest_push (suc k) j ts u h)

-- the latest attempt is one of that invocation
record Found (k j n : ℕ) (ts : List Attempt) : Type 0 where
  place : ℕ
  attempt : Attempt
  number_is : n ≡ k + place
  attempt_is : slice_get ts place ≡ Some attempt
  inv_is : attempt.inv ≡ j

found_next : (k j n : ℕ) (t : Attempt) (ts : List Attempt) → Found (suc k) j n ts → Found k j n (t ∷ ts)
found_next k j n t ts f =
    let q : n ≡ suc k + f.place = f.number_is in
    record { place = suc f.place; attempt = f.attempt; number_is = omega arith; attempt_is = f.attempt_is; inv_is = f.inv_is }

latest_found : (k j : ℕ) (ts : List Attempt) (n : ℕ) → latest k j ts ≡ Some n → Found k j n ts
unfolding latest
latest_found k j [] n e = absurd (cc)
latest_found k j (t ∷ ts) n e = by (latest (suc k) j ts) (λ m q. latest_found (suc k) j ts m q) e
  where
    here : (b : Bool) → nat_eq t.inv j ≡ b → cond b (Some k) None ≡ Some n → Found k j n (t ∷ ts)
    here true q r = record { place = 0; attempt = t; number_is = (let z : k ≡ n = same_Some k n r in omega arith); attempt_is = refl; inv_is = eqb-true t.inv j q }
    here false q r = absurd (cc)

    by : (x : Option ℕ) → ((m : ℕ) → x ≡ Some m → Found (suc k) j m ts) → or_here j k t x ≡ Some n → Found k j n (t ∷ ts)
    by None h r = here (nat_eq t.inv j) refl r
    by (Some m) h r = found_next k j n t ts (h n r)

-- ---------------------------------------------------------------- twins

module _ (p : Plan) where
  twin_lives : (ts us : List Attempt) (x : Option ℕ) → ((n : ℕ) → x ≡ Some n → lives (slice_get ts n) ≡ lives (slice_get us n)) → twin_of p ts x ≡ twin_of p us x
  twin_lives ts us None h = refl
  twin_lives ts us (Some n) h = ap (λ (b : Bool). b && twin p n) (h n refl)

  abbrev pub SameTwin : List Attempt → List Attempt → ℕ → Type 0
  SameTwin ts us j = twin_of p ts (latest 0 j ts) ≡ twin_of p us (latest 0 j us)

  twin_push : (ts : List Attempt) (u : Attempt) (j : ℕ) → u.inv ≢ j → SameTwin ts (ts ++ u ∷ []) j
  twin_push ts u j h =
      twin_lives ts (ts ++ u ∷ []) (latest 0 j ts) (λ n e.
      let f = latest_found 0 j ts n e in
      let z : f.place ≡ n = (let q : n ≡ 0 + f.place = f.number_is in omega arith) in
      let g : slice_get ts n ≡ Some f.attempt = ap (slice_get ts) (sym z) ∙ f.attempt_is in
      ap lives (g ∙ sym (get_append ts (u ∷ []) n f.attempt g)))
      ∙ ap (twin_of p (ts ++ u ∷ [])) (latest_push 0 j ts u h)

  twin_set : (ts : List Attempt) (a : ℕ) (t u : Attempt) (j : ℕ) → slice_get ts a ≡ Some t → u.inv ≡ t.inv → j ≢ t.inv → SameTwin ts (slice_set ts a u) j
  twin_set ts a t u j e q h =
      twin_lives ts (slice_set ts a u) (latest 0 j ts) (λ n r.
      let f = latest_found 0 j ts n r in
      let z : f.place ≡ n = (let v : n ≡ 0 + f.place = f.number_is in omega arith) in
      let g : slice_get ts n ≡ Some f.attempt = ap (slice_get ts) (sym z) ∙ f.attempt_is in
      let other : n ≢ a = λ y. h (sym f.inv_is ∙ ap (λ (v : Attempt). v.inv) (same_Some f.attempt t (sym g ∙ ap (slice_get ts) y ∙ e))) in
      ap lives (set_other ts a u n other))
      ∙ ap (twin_of p (slice_set ts a u)) (latest_set 0 j ts a t u e q)

  twin_moved : (ts : List Attempt) (a : ℕ) (t u : Attempt) (j : ℕ) → slice_get ts a ≡ Some t → u.inv ≡ t.inv → u.live ≡ t.live → SameTwin ts (slice_set ts a u) j
  twin_moved ts a t u j e q l =
      twin_lives ts (slice_set ts a u) (latest 0 j ts) (λ n r. lives_set ts a t u e l n) ∙ ap (twin_of p (slice_set ts a u)) (latest_set 0 j ts a t u e q)

  -- ---------------------------------------------------------------- the three lists

  takes_lives : (j : ℕ) (x : Option Attempt) → takes (λ a (t : Attempt). t.live) 0 j x ≡ lives x
  takes_lives j None = refl
  takes_lives j (Some t) = refl

  takes_open : (j : ℕ) (x : Option InvState) → takes (λ k s. is_open s) 0 j x ≡ state_lets (λ s. is_open s) x
  takes_open j None = refl
  takes_open j (Some s) = refl

  takes_twin : (ts : List Attempt) (j : ℕ) (x : Option InvState) → takes (wants_twin p ts) 0 j x ≡ state_lets (wants_twin p ts j) x
  takes_twin ts j None = refl
  takes_twin ts j (Some s) = let z : 0 + j ≡ j = omega arith in ap (λ n. wants_twin p ts n s) z

  lets_twin : (ts us : List Attempt) (j : ℕ) → SameTwin ts us j → (x : Option InvState) → state_lets (wants_twin p ts j) x ≡ state_lets (wants_twin p us j) x
  lets_twin ts us j h None = refl
  lets_twin ts us j h (Some s) = ap (λ (b : Bool). can_deliver s && (nat_eq s.live 1 && b)) h

  module _ {M S B : Type 0} (bits : Bitmaps B) (codes : Codes S) (w : World M S B) where
    changed : (v : World M S B) (i a : ℕ) → ((j : ℕ) → j ≢ a → lives (slice_get w.atts j) ≡ lives (slice_get v.atts j)) → ((j : ℕ) → j ≢ i → slice_get w.states j ≡ slice_get v.states j) →
        ((j : ℕ) → j ≢ i → SameTwin w.atts v.atts j) → ChangesLists p codes w v i a
    changed v i a f g h =
        let n : ℕ = length w.atts + length v.atts in
        let m : ℕ = length w.states + length v.states in
        let za : 0 + a ≡ a = omega arith in
        let zi : 0 + i ≡ i = omega arith in
        record {
          living_is =
              numbers_change (λ a (t : Attempt). t.live) (λ a (t : Attempt). t.live) n 0 a w.atts v.atts (omega arith) (omega arith) (λ j q. takes_lives j (slice_get w.atts j) ∙ f j q ∙ sym (takes_lives j (slice_get v.atts j)))
              ∙ ap₂ (λ b k. numbers_set b k (living_numbers p codes w)) (takes_lives a (slice_get v.atts a)) za;
          waiting_is =
              numbers_change (λ k s. is_open s) (λ k s. is_open s) m 0 i w.states v.states (omega arith) (omega arith) (λ j q. ap (takes (λ k s. is_open s) 0 j) (g j q))
              ∙ ap₂ (λ b k. numbers_set b k (waiting_numbers p codes w)) (takes_open i (slice_get v.states i)) zi;
          to_twin_is =
              numbers_change (wants_twin p w.atts) (wants_twin p v.atts) m 0 i w.states v.states (omega arith) (omega arith)
              (λ j q. takes_twin w.atts j (slice_get w.states j) ∙ lets_twin w.atts v.atts j (h j q) (slice_get w.states j) ∙ ap (state_lets (wants_twin p v.atts j)) (g j q) ∙ sym (takes_twin v.atts j (slice_get v.states j)))
              ∙ ap₂ (λ b k. numbers_set b k (twin_numbers p codes w)) (takes_twin v.atts i (slice_get v.states i)) zi;
        }

    -- nothing changes
    same : (i a : ℕ) → ChangesLists p codes w w i a
    same i a = changed w i a (λ j q. refl) (λ j q. refl) (λ j q. refl)

    delivered_changes : (k : ℕ) (x : Option InvState) → state_lets (λ s. not s.acked && (not s.dead && nat_lt s.tries 8)) x ≡ true → ChangesLists p codes w (delivered_world w k x) k (length w.atts)
    delivered_changes k None q = absurd (cc)
    delivered_changes k (Some s) q =
        let u : Attempt = record { inv = k; live = true; steps = 0; phase = Looking } in
        changed (delivered_world w k (Some s)) k (length w.atts) (λ j h. ap lives (push_other w.atts u j h)) (λ j h. set_other w.states k (record s { tries = suc s.tries; live = suc s.live }) j h) (λ j h. twin_push w.atts u j (λ e. h (sym e)))

    stated : (v : World M S B) (i : ℕ) (f : InvState → InvState) (x : Option InvState) (j : ℕ) → j ≢ i → slice_get v.states j ≡ slice_get (with_state v i f x).states j
    stated v i f None j h = refl
    stated v i f (Some s) j h = set_other v.states i (f s) j h

    same_atts : (v : World M S B) (i : ℕ) (f : InvState → InvState) (x : Option InvState) → v.atts ≡ (with_state v i f x).atts
    same_atts v i f None = refl
    same_atts v i f (Some s) = refl

    given_changes : (k : ℕ) (f : InvState → InvState) (x : Option InvState) → ChangesLists p codes w (with_state w k f x) k (length w.atts)
    given_changes k f x =
        changed (with_state w k f x) k (length w.atts) (λ j h. ap (λ ts. lives (slice_get ts j)) (same_atts w k f x)) (λ j h. stated w k f x j h) (λ j h. ap (λ ts. twin_of p ts (latest 0 j ts)) (same_atts w k f x))

    crashed_changes : (a : ℕ) (x : Option Attempt) → slice_get w.atts a ≡ x → lives x ≡ true → ChangesLists p codes w (with_att w (λ t. crashed_world w a t) x) (inv_at codes w x) a
    crashed_changes a None e q = absurd (cc)
    crashed_changes a (Some t) e q =
        let u : Attempt = record t { live = false } in
        let v : World M S B = record w { atts = slice_set w.atts a u } in
        let z : Option InvState = slice_get w.states t.inv in
        let atts : v.atts ≡ (with_state v t.inv state_after_crash z).atts = same_atts v t.inv state_after_crash z in
        changed (with_state v t.inv state_after_crash z) t.inv a
        (λ j h. ap lives (set_other w.atts a u j h) ∙ ap (λ ts. lives (slice_get ts j)) atts)
        (λ j h. stated v t.inv state_after_crash z j h)
        (λ j h. twin_set w.atts a t u j e refl h ∙ ap (λ ts. twin_of p ts (latest 0 j ts)) atts)

    -- an attempt that goes on living, in a world with the same attempts
    goes : (a : ℕ) (t : Attempt) → slice_get w.atts a ≡ Some t → t.live ≡ true → (v : World M S B) → v.atts ≡ w.atts → (ph : Phase) (i : ℕ) → ((j : ℕ) → j ≢ i → slice_get w.states j ≡ slice_get v.states j) → ChangesLists p codes w (moved_world v a t true ph) i a
    goes a t e l v q ph i g =
        let u : Attempt = record { inv = t.inv; live = true; steps = suc t.steps; phase = ph } in
        let atts : slice_set w.atts a u ≡ slice_set v.atts a u = ap (λ ts. slice_set ts a u) (sym q) in
        changed (moved_world v a t true ph) i a
        (λ j h. ap lives (set_other w.atts a u j h) ∙ ap (λ ts. lives (slice_get ts j)) atts)
        g
        (λ j h. twin_moved w.atts a t u j e refl (sym l) ∙ ap (λ ts. twin_of p ts (latest 0 j ts)) atts)

    did_changes : (a : ℕ) (t : Attempt) → slice_get w.atts a ≡ Some t → t.live ≡ true → (i : Invocation S) (ph : Phase) (op : Op S B) → ChangesLists p codes w (stepped_world bits codes w a t i ph (Do op)) (inv_of_step codes w t (Do op)) a
    did_changes a t e l i ph (Look o) = goes a t e l (performed_world bits w a t (Look o)) refl (absorb (code_of codes i) i a ph (reply_to {S = S} bits w.objects (Look o))) t.inv (λ j h. refl)
    did_changes a t e l i ph (Create o x) = goes a t e l (performed_world bits w a t (Create o x)) refl (absorb (code_of codes i) i a ph (reply_to {S = S} bits w.objects (Create o x))) t.inv (λ j h. refl)
    did_changes a t e l i ph (Set q n c) = goes a t e l (performed_world bits w a t (Set q n c)) refl (absorb (code_of codes i) i a ph (reply_to {S = S} bits w.objects (Set q n c))) t.inv (λ j h. refl)
    did_changes a t e l i ph (Invoke v) = goes a t e l (performed_world bits w a t (Invoke v)) refl (absorb (code_of codes i) i a ph (reply_to {S = S} bits w.objects (Invoke v))) (length w.states) (λ j h. push_other w.states fresh_state j h)
    did_changes a t e l i ph (Mark o) = goes a t e l (performed_world bits w a t (Mark o)) refl (absorb (code_of codes i) i a ph (reply_to {S = S} bits w.objects (Mark o))) t.inv (λ j h. refl)
    did_changes a t e l i ph Ack =
        let u : Attempt = record { inv = t.inv; live = false; steps = suc t.steps; phase = absorb (code_of codes i) i a ph (reply_to {S = S} bits w.objects Ack) } in
        changed (stepped_world bits codes w a t i ph (Do Ack)) t.inv a (λ j h. ap lives (set_other w.atts a u j h)) (λ j h. by (slice_get w.states t.inv) j h) (λ j h. twin_set w.atts a t u j e refl h)
      where
        by : (x : Option InvState) (j : ℕ) → j ≢ t.inv → slice_get w.states j ≡ slice_get (states_with w.states t.inv state_after_ack x) j
        by None j h = refl
        by (Some s) j h = set_other w.states t.inv (state_after_ack s) j h

    doing_changes : (a : ℕ) (t : Attempt) → slice_get w.atts a ≡ Some t → t.live ≡ true → (i : Invocation S) (ph : Phase) (d : Doing S B) → ChangesLists p codes w (stepped_world bits codes w a t i ph d) (inv_of_step codes w t d) a
    doing_changes a t e l i ph (Do op) = did_changes a t e l i ph op
    doing_changes a t e l i ph (Ask r x) = same t.inv a
    doing_changes a t e l i ph Nothing = same t.inv a

    next_changes : (a : ℕ) (t : Attempt) → slice_get w.atts a ≡ Some t → t.live ≡ true → (z : Option (Invocation S)) →
        ChangesLists p codes w (with_inv w t (λ i. stepped_world bits codes w a t i t.phase (next_of (code_of codes i) i t.phase)) z) (inv_of_next codes w t z) a
    next_changes a t e l None = same t.inv a
    next_changes a t e l (Some i) = doing_changes a t e l i t.phase (next_of (code_of codes i) i t.phase)

    stepped_changes : (a : ℕ) (x : Option Attempt) → slice_get w.atts a ≡ x → lives x ≡ true →
        ChangesLists p codes w (with_att w (λ t. with_inv w t (λ i. stepped_world bits codes w a t i t.phase (next_of (code_of codes i) i t.phase)) (slice_get w.invs t.inv)) x) (stepped_inv codes w x) a
    stepped_changes a None e l = absurd (cc)
    stepped_changes a (Some t) e l = next_changes a t e l (slice_get w.invs t.inv)

    answered_changes : (a : ℕ) (t : Attempt) → slice_get w.atts a ≡ Some t → t.live ≡ true → (x : Json) (f : Option FnKind) → ChangesLists p codes w (answered_world w a t x f) t.inv a
    answered_changes a t e l x None = same t.inv a
    answered_changes a t e l x (Some k) = goes a t e l w refl _ t.inv (λ j h. refl)

    asked_changes : (a : ℕ) (t : Attempt) → slice_get w.atts a ≡ Some t → t.live ≡ true → (d : Doing S B) → ChangesLists p codes w (asked_world w a t d) t.inv a
    asked_changes a t e l (Do op) = same t.inv a
    asked_changes a t e l (Ask r x) = answered_changes a t e l x (function_of w.opening.functions r)
    asked_changes a t e l Nothing = same t.inv a

    asks_changes : (a : ℕ) (t : Attempt) → slice_get w.atts a ≡ Some t → t.live ≡ true → (z : Option (Invocation S)) → ChangesLists p codes w (with_inv w t (λ i. asked_world w a t (next_of (code_of codes i) i t.phase)) z) t.inv a
    asks_changes a t e l None = same t.inv a
    asks_changes a t e l (Some i) = asked_changes a t e l (next_of (code_of codes i) i t.phase)

    answer_changes : (a : ℕ) (x : Option Attempt) → slice_get w.atts a ≡ x → lives x ≡ true →
        ChangesLists p codes w (with_att w (λ t. with_inv w t (λ i. asked_world w a t (next_of (code_of codes i) i t.phase)) (slice_get w.invs t.inv)) x) (inv_at codes w x) a
    answer_changes a None e l = absurd (cc)
    answer_changes a (Some t) e l = asks_changes a t e l (slice_get w.invs t.inv)

    lets_live : (f : Doing S B → Bool) (x : Option Attempt) → att_lets codes w f x ≡ true → lives x ≡ true
    lets_live f None e = e
    lets_live f (Some t) e = (and_parts t.live _ e).0

    pub event_changes : (e : Event) → enabled codes w e ≡ true → ChangesLists p codes w (effect bits codes w e) (inv_of codes w e) (att_of codes w e)
    unfolding effect enabled
    event_changes (Deliver k) q = delivered_changes k (slice_get w.states k) q
    event_changes (Crash a) q = crashed_changes a (slice_get w.atts a) refl q
    event_changes (Step a) q = stepped_changes a (slice_get w.atts a) refl (lets_live is_do (slice_get w.atts a) q)
    event_changes (Answer a) q = answer_changes a (slice_get w.atts a) refl (lets_live is_ask (slice_get w.atts a) q)
    event_changes (GiveUp k) q = given_changes k (λ s. record s { dead = true }) (slice_get w.states k)
