-- What the queue keeps of its lists, after each of its calls.
use Rattle.std.proofs.Common.{ℕ, zero, suc, ◌+◌, ◌<◌, ◌≤◌, ◌≡◌, ◌≢◌, ◌⊎◌, inl, inr, refl, sym, ap, ◌∙◌, subst, Bool, true, false, cond, nat_eq, List, [], ◌∷◌, ◌++◌, length, slice_get, slice_set, Option, Some, None, Result, Ok, Err, OnOk, is_ok, arith}
use Rattle.std.proofs.lemmas.Bool.{cases_eq}
use Rattle.std.proofs.lemmas.Bool.Decides.{eqb_tells}
use Rattle.std.proofs.lemmas.Option.{same_Some}
use Rattle.std.proofs.lemmas.List.{length-set, length_push}
use Rattle.world_types.specs.declared.operation.Invocation.{Invocation}
use Rattle.world_types.specs.declared.queue.InvState.{InvState}
use Rattle.world_types.specs.declared.queue.Attempt.{Attempt}
use Rattle.world_model.specs.AnyCode.World.{fresh_state, states_with, state_lets}
use Rattle.world_model.proofs.Gets.{get_pushed_at, get_set}
use Rattle.world_plans.specs.Chooser.{or_here, latest}
use Rattle.world_plans.proofs.Putting.{not_eq}
use Rattle.invoke_queue.specs.Queue.{IsQueue, first_attempt, atts_with, state_after_delivery, state_after_attempt}

-- ---------------------------------------------------------------- the latest attempt

-- a new attempt is the latest of its invocation
pub latest_new : (k j : ℕ) (ts : List Attempt) (u : Attempt) → u.inv ≡ j → latest k j (ts ++ u ∷ []) ≡ Some (k + length ts)
unfolding latest
latest_new k j [] u h =
    let z : k ≡ k + 0 = omega arith in
    let e : nat_eq u.inv j ≡ true = elim (eqb_tells u.inv j) [ inl r ↦ r.0 | inr r ↦ absurd (r.1 h) ] in
    ap (λ (b : Bool). cond b (Some k) None) e ∙ ap (λ n. Some n) z
latest_new k j (x ∷ ts) u h =
    let z : suc k + length ts ≡ k + suc (length ts) = omega arith in
    ap (or_here j k x) (latest_new (suc k) j ts u h) ∙ ap (λ n. Some n) z

-- and of no other
pub latest_other : (k j : ℕ) (ts : List Attempt) (u : Attempt) → u.inv ≢ j → latest k j (ts ++ u ∷ []) ≡ latest k j ts
unfolding latest
latest_other k j [] u h = ap (λ (b : Bool). cond b (Some k) None) (not_eq u.inv j h)
latest_other k j (x ∷ ts) u h = ap (or_here j k x) (latest_other (suc k) j ts u h)

here_by : (j k : ℕ) (t u : Attempt) → u.inv ≡ t.inv → (x : Option ℕ) → or_here j k u x ≡ or_here j k t x
here_by j k t u e (Some n) = refl
here_by j k t u e None = ap (λ i. cond (nat_eq i j) (Some k) None) e

-- an attempt that stays of its invocation changes nothing
pub latest_same : (k j : ℕ) (ts : List Attempt) (a : ℕ) (t u : Attempt) → slice_get ts a ≡ Some t → u.inv ≡ t.inv → latest k j (slice_set ts a u) ≡ latest k j ts
unfolding latest
latest_same k j [] a t u e q = refl
latest_same k j (x ∷ ts) zero t u e q = here_by j k x u (q ∙ ap (λ (z : Attempt). z.inv) (sym (same_Some x t e))) (latest (suc k) j ts)
latest_same k j (x ∷ ts) (suc a) t u e q = ap (or_here j k x) (latest_same (suc k) j ts a t u e q)

-- an invocation without attempts has none
pub latest_none : (k j : ℕ) (ts : List Attempt) → ((a : ℕ) (t : Attempt) → slice_get ts a ≡ Some t → t.inv ≢ j) → latest k j ts ≡ None
unfolding latest
latest_none k j [] h = refl
latest_none k j (x ∷ ts) h =
    ap (or_here j k x) (latest_none (suc k) j ts (λ a t e. h (suc a) t e)) ∙ ap (λ (b : Bool). cond b (Some k) None) (not_eq x.inv j (h 0 x refl))

-- ---------------------------------------------------------------- the queue

set_here : {A : Type 0} (xs : List A) (k : ℕ) (y : A) → k < length xs → slice_get (slice_set xs k y) k ≡ Some y
set_here [] k y l = absurd (omega arith)
set_here (z ∷ xs) zero y l = refl
set_here (z ∷ xs) (suc k) y l = set_here xs k y (omega arith)

pub queue_none : IsQueue [] [] [] []
queue_none = record {
  paired = refl;
  last_paired = refl;
  last_are = λ k x e. absurd (cc);
  placed = λ a t e. absurd (cc);
  tried = λ k s e. absurd (cc);
}

module _ (invs : List (Invocation ℕ)) (states : List InvState) (atts : List Attempt) (last : List (Option ℕ)) (h : IsQueue invs states atts last) where
  -- no attempt is of an invocation that is not there
  pub latest_past : (inv : ℕ) → length last ≤ inv → latest 0 inv atts ≡ None
  latest_past inv l = latest_none 0 inv atts (λ a t e q. let p : t.inv < length states = h.placed a t e in let z : length last ≡ length states = h.last_paired in omega (arith, p, z, l, q))

  pub invoked : (i : Invocation ℕ) → IsQueue (invs ++ i ∷ []) (states ++ fresh_state ∷ []) atts (last ++ None ∷ [])
  invoked i = record {
    paired = let a : length (states ++ fresh_state ∷ []) ≡ length states + 1 = length_push states fresh_state in let b : length (invs ++ i ∷ []) ≡ length invs + 1 = length_push invs i in let p : length states ≡ length invs = h.paired in omega (arith, a, b, p);
    last_paired = let a : length (states ++ fresh_state ∷ []) ≡ length states + 1 = length_push states fresh_state in let b : length (last ++ None ∷ []) ≡ length last + 1 = length_push last None in let p : length last ≡ length states = h.last_paired in omega (arith, a, b, p);
    last_are = λ k x e. elim (get_pushed_at last None k x e) [
      | inl q ↦ h.last_are k x q
      | inr q ↦ sym q.1 ∙ sym (ap (λ n. latest 0 n atts) q.0 ∙ latest_past (length last) (omega arith))
    ];
    placed = λ a t e. let p : t.inv < length states = h.placed a t e in let z : length (states ++ fresh_state ∷ []) ≡ length states + 1 = length_push states fresh_state in omega (arith, p, z);
    tried = λ k s e. elim (get_pushed_at states fresh_state k s e) [
      | inl q ↦ h.tried k s q
      | inr q ↦ subst (λ (u : InvState). u.live ≤ u.tries) q.1 (omega arith)
    ];
  }

  -- what is known of one invocation is changed
  pub state_changed : (inv : ℕ) (u : InvState) → u.live ≤ u.tries → IsQueue invs (slice_set states inv u) atts last
  state_changed inv u l = record {
    paired = length-set states inv u ∙ h.paired;
    last_paired = h.last_paired ∙ sym (length-set states inv u);
    last_are = h.last_are;
    placed = λ a t e. let p : t.inv < length states = h.placed a t e in let z : length (slice_set states inv u) ≡ length states = length-set states inv u in omega (arith, p, z);
    tried = λ k s e. elim (get_set states inv u k s e) [
      | inl q ↦ subst (λ (v : InvState). v.live ≤ v.tries) q.1 l
      | inr q ↦ h.tried k s q
    ];
  }

  pub states_changed : (inv : ℕ) (f : InvState → InvState) → ((s : InvState) → s.live ≤ s.tries → (f s).live ≤ (f s).tries) → IsQueue invs (states_with states inv f (slice_get states inv)) atts last
  states_changed inv f g = by (slice_get states inv) refl
    where
      by : (o : Option InvState) → slice_get states inv ≡ o → IsQueue invs (states_with states inv f o) atts last
      by None e = h
      by (Some s) e = state_changed inv (f s) (g s (h.tried inv s e))

  -- an attempt is changed, and stays of its invocation
  pub attempt_changed : (a : ℕ) (t u : Attempt) → slice_get atts a ≡ Some t → u.inv ≡ t.inv → IsQueue invs states (slice_set atts a u) last
  attempt_changed a t u e q = record {
    paired = h.paired;
    last_paired = h.last_paired;
    last_are = λ k x r. h.last_are k x r ∙ sym (latest_same 0 k atts a t u e q);
    placed = λ b v r. elim (get_set atts a u b v r) [
      | inl z ↦ let p : t.inv < length states = h.placed a t e in let y : u.inv ≡ v.inv = ap (λ (w : Attempt). w.inv) z.1 in omega (arith, p, q, y)
      | inr z ↦ h.placed b v z
    ];
    tried = h.tried;
  }

  pub attempts_changed : (a : ℕ) (f : Attempt → Attempt) → ((t : Attempt) → (f t).inv ≡ t.inv) → IsQueue invs states (atts_with atts a f (slice_get atts a)) last
  attempts_changed a f g = by (slice_get atts a) refl
    where
      by : (o : Option Attempt) → slice_get atts a ≡ o → IsQueue invs states (atts_with atts a f o) last
      by None e = h
      by (Some t) e = attempt_changed a t (f t) e (g t)

  -- one attempt more
  pub attempt_more : (inv : ℕ) → inv < length states → IsQueue invs states (atts ++ first_attempt inv ∷ []) (slice_set last inv (Some (length atts)))
  attempt_more inv l = record {
    paired = h.paired;
    last_paired = length-set last inv (Some (length atts)) ∙ h.last_paired;
    last_are = λ k x r. elim (get_set last inv (Some (length atts)) k x r) [
      | inl z ↦ let y : 0 + length atts ≡ length atts = omega arith in
          sym z.1 ∙ sym (latest_new 0 k atts (first_attempt inv) (sym z.0) ∙ ap (λ n. Some n) y)
      | inr z ↦ elsewhere k x r z (cases_eq inv k)
    ];
    placed = λ b v r. elim (get_pushed_at atts (first_attempt inv) b v r) [
      | inl z ↦ h.placed b v z
      | inr z ↦ subst (λ (w : Attempt). w.inv < length states) z.1 l
    ];
    tried = h.tried;
  }
    where
      elsewhere : (k : ℕ) (x : Option ℕ) → slice_get (slice_set last inv (Some (length atts))) k ≡ Some x → slice_get last k ≡ Some x → (inv ≡ k) ⊎ (inv ≡ k → ⊥) → x ≡ latest 0 k (atts ++ first_attempt inv ∷ [])
      elsewhere k x r z (inl q) =
          let i : inv < length last = let y : length last ≡ length states = h.last_paired in omega (arith, l, y) in
          let own : slice_get (slice_set last inv (Some (length atts))) k ≡ Some (Some (length atts)) = ap (slice_get (slice_set last inv (Some (length atts)))) (sym q) ∙ set_here last inv (Some (length atts)) i in
          let y : 0 + length atts ≡ length atts = omega arith in
          same_Some x (Some (length atts)) (sym r ∙ own) ∙ sym (latest_new 0 k atts (first_attempt inv) q ∙ ap (λ n. Some n) y)
      elsewhere k x r z (inr q) = h.last_are k x z ∙ sym (latest_other 0 k atts (first_attempt inv) q)

-- after an attempt no more live than were made
pub attempt_keeps : (acks : Bool) (s : InvState) → s.live ≤ s.tries → (state_after_attempt acks s).live ≤ (state_after_attempt acks s).tries
attempt_keeps true s l = omega (arith, l)
attempt_keeps false s l = omega (arith, l)

pub delivery_keeps : (s : InvState) → s.live ≤ s.tries → (state_after_delivery s).live ≤ (state_after_delivery s).tries
delivery_keeps s l = omega (arith, l)

-- what is tested of an invocation is known of one that is there
pub there : (p : InvState → Bool) (states : List InvState) (inv : ℕ) → state_lets p (slice_get states inv) ≡ true → inv < length states
there p [] inv e = absurd (cc)
there p (s ∷ ss) zero e = omega arith
there p (s ∷ ss) (suc inv) e = let r : inv < length ss = there p ss inv e in omega (arith, r)

-- what holds where a call answers Ok
pub where_ok : {A E : Type 0} (P : Type 0) (r : Result A E) → OnOk r P → is_ok r ≡ true → P
where_ok P (Ok x) h e = h
where_ok P (Err x) h e = absurd (cc)
