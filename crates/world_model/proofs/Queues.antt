-- What the queue knows and what the journal has are right after every event, in worlds of any code.
use Rattle.std.proofs.Common.{ℕ, zero, suc, ◌+◌, ◌-◌, ◌<◌, ◌≤◌, ◌≡◌, ◌≢◌, inl, inr, refl, sym, ap, ◌∙◌, subst, Bool, true, false, not, ◌&&◌, cond, nat_lt, nat_eq, List, [], ◌∷◌, ◌++◌, length, slice_get, slice_set, sum_by, Option, Some, None, is_some, arith}
use Rattle.std.specs.List.{AllByRecursion}
use Rattle.std.proofs.lemmas.Option.{same_Some}
use Rattle.std.proofs.lemmas.Bool.{ltb-true}
use Rattle.std.proofs.lemmas.Bool.Decides.{eqb_tells}
use Rattle.std.proofs.lemmas.List.{length-set, append-nil}
use Rattle.std.proofs.lemmas.List.Sums.{sum_by-cons, sum_by_push}
use Rattle.fn_table.specs.declared.kind.FnKind.{FnKind}
use Rattle.fn_table.specs.Answers.{answer}
use Rattle.place_name.specs.declared.obj.Obj.{Obj}
use Rattle.place_name.specs.declared.obj.Obj.TheVariants.{Check, Out, Saved, Bits, Arg}
use Rattle.place_name.specs.Same.{name_same, object_same}
use Rattle.place_name.proofs.Sameness.{object_is}
use Rattle.world_model.specs.AnyCode.Names.{Scope, Place, Parent, Kind, Enter, Task, Join, Name, parent_of, scope_of}
use Rattle.world_model.specs.AnyCode.Code.{Text, Json, Used, Outcome, Stop, Call, Fan, Over, Code, Bitmaps}
use Rattle.world_model.specs.AnyCode.Operations.{Kept, Held, KeptAs, OutcomeIs, SavedAs, BitsAre, ArgIs, Condition, Absent, Live, Tombstone, Invocation, Op, Look, Create, Set, Invoke, Mark, Ack, Reply, WasAbsent, WasLive, WasTombstone, Won, Had, HadTombstone, BitFull, BitNotFull, BitTombstone, Invoked, Finished}
use Rattle.world_model.specs.AnyCode.Acts.{enter_at, at_once, enter_ops, fan_ops, pace_ops, set_ops, acts_of, stop_of, acts, due_objects, width_around}
use Rattle.world_model.specs.AnyCode.Program.{Phase, Looking, Saving, Gathering, Reading, Calling, Creating, Acting, Joining, Marking, Acking, AttemptOver, Doing, Do, Ask, Nothing, asking, doing, marking, joining, next_of, absorb, adopted_phase, gathering_phase, Combine, gathered_phase, saved_phase, next_gathered_phase, entered_phase, branch_input, read_phase, after_read, after_look, after_saved, after_out, after_create, after_act, kept_of, called_phase}
use Rattle.world_model.specs.AnyCode.World.{Session, Opening, Entry, InvState, Attempt, World, Event, Deliver, Crash, Step, Answer, GiveUp, Codes, code_of, fresh_state, root_name, root_inv, root_invs, root_states, objects_with, start_objects, start, function_of, reply_to, state_after_crash, state_after_ack, performed_world, with_state, with_att, with_inv, lives_on, moved_world, stepped_world, answered_world, asked_world, delivered_world, crashed_world, effect, won_journal, created_objects, marked_objects, bit_objects, look_reply, create_reply, state_lets, is_do, is_ask, lives, att_lets, enabled, run_from, run}
use Rattle.world_model.specs.AnyCode.Counted.{one_live, live_count, IsCounted}
use Rattle.world_model.specs.AnyCode.Queue.{attempt_count, IsTallied, IsExhausted, function_asked, function_by, function_at, is_turn, turn_count, IsAtOwnCheck, acking_attempt, entry_count, created_count, QueueIsRight, EveryQueueIsRight}
use Rattle.world_model.proofs.Gets.{get_pushed, get_pushed_at, get_set, place_of, set_own}

-- ---------------------------------------------------------------- sums over a list

sum_set : {A : Type 0} (f : A → ℕ) (xs : List A) (i : ℕ) (x y : A) → slice_get xs i ≡ Some x → sum_by f (slice_set xs i y) + f x ≡ sum_by f xs + f y
sum_set f [] i x y e = absurd (cc)
sum_set f (z ∷ xs) zero x y e =
    let q : f z ≡ f x = ap f (same_Some z x e) in
    let a : sum_by f (y ∷ xs) ≡ f y + sum_by f xs = sum_by-cons f y xs in
    let b : sum_by f (z ∷ xs) ≡ f z + sum_by f xs = sum_by-cons f z xs in
    omega arith
sum_set f (z ∷ xs) (suc i) x y e =
    let r : sum_by f (slice_set xs i y) + f x ≡ sum_by f xs + f y = sum_set f xs i x y e in
    let a : sum_by f (z ∷ slice_set xs i y) ≡ f z + sum_by f (slice_set xs i y) = sum_by-cons f z (slice_set xs i y) in
    let b : sum_by f (z ∷ xs) ≡ f z + sum_by f xs = sum_by-cons f z xs in
    omega arith

sum_none : {A : Type 0} (f : A → ℕ) (xs : List A) → ((i : ℕ) (x : A) → slice_get xs i ≡ Some x → f x ≡ 0) → sum_by f xs ≡ 0
sum_none f [] h = refl
sum_none f (x ∷ xs) h =
    let a : f x ≡ 0 = h 0 x refl in
    let b : sum_by f xs ≡ 0 = sum_none f xs (λ i y e. h (suc i) y e) in
    let c : sum_by f (x ∷ xs) ≡ f x + sum_by f xs = sum_by-cons f x xs in
    omega arith

-- 1 where the attempt is of that invocation
abbrev one_attempt : (k : ℕ) → Attempt → ℕ
one_attempt k t = cond (nat_eq t.inv k) 1 0

one_here : (k : ℕ) (t : Attempt) → t.inv ≡ k → one_attempt k t ≡ 1
one_here k t e = elim (eqb_tells t.inv k) [ inl p ↦ rw p.0 refl | inr p ↦ absurd (p.1 e) ]

one_elsewhere : (k : ℕ) (t : Attempt) → t.inv ≢ k → one_attempt k t ≡ 0
one_elsewhere k t e = elim (eqb_tells t.inv k) [ inl p ↦ absurd (e p.1) | inr p ↦ rw p.0 refl ]

tried_set : (k : ℕ) (atts : List Attempt) (a : ℕ) (t u : Attempt) → slice_get atts a ≡ Some t → u.inv ≡ t.inv → attempt_count k (slice_set atts a u) ≡ attempt_count k atts
tried_set k atts a t u e same =
    let r : attempt_count k (slice_set atts a u) + one_attempt k t ≡ attempt_count k atts + one_attempt k u = sum_set (one_attempt k) atts a t u e in
    let q : one_attempt k u ≡ one_attempt k t = ap (λ n. cond (nat_eq n k) 1 0) same in
    omega arith

tried_push : (k : ℕ) (atts : List Attempt) (u : Attempt) → attempt_count k (atts ++ u ∷ []) ≡ attempt_count k atts + one_attempt k u
tried_push k atts u = sum_by_push (one_attempt k) atts u

live_set : (k : ℕ) (atts : List Attempt) (a : ℕ) (t u : Attempt) → slice_get atts a ≡ Some t → live_count k (slice_set atts a u) + one_live t k ≡ live_count k atts + one_live u k
live_set k [] a t u e = absurd (cc)
live_set k (y ∷ atts) zero t u e =
    let w : one_live y k ≡ one_live t k = ap (λ (x : Attempt). one_live x k) (same_Some y t e) in
    omega arith
live_set k (y ∷ atts) (suc a) t u e = let r = live_set k atts a t u e in omega (arith, r)

live_push : (k : ℕ) (atts : List Attempt) (u : Attempt) → live_count k (atts ++ u ∷ []) ≡ live_count k atts + one_live u k
live_push k [] u = omega arith
live_push k (y ∷ atts) u = let r = live_push k atts u in omega (arith, r)

pub live_none : (k : ℕ) (atts : List Attempt) → ((a : ℕ) (t : Attempt) → slice_get atts a ≡ Some t → one_live t k ≡ 0) → live_count k atts ≡ 0
live_none k [] f = refl
live_none k (y ∷ atts) f =
    let a : one_live y k ≡ 0 = f 0 y refl in
    let b : live_count k atts ≡ 0 = live_none k atts (λ x t e. f (suc x) t e) in
    omega arith

pub live_here : (t : Attempt) (k : ℕ) → t.live ≡ true → t.inv ≡ k → one_live t k ≡ 1
live_here t k e q = elim (eqb_tells t.inv k) [ inl r ↦ rw (e, r.0) refl | inr r ↦ absurd (r.1 q) ]

live_elsewhere : (t : Attempt) (k : ℕ) → t.inv ≢ k → one_live t k ≡ 0
live_elsewhere t k q = go t.live
  where
    go : (b : Bool) → ◌≡◌ {A = ℕ} (cond (b && nat_eq t.inv k) 1 0) 0
    go true = elim (eqb_tells t.inv k) [ inl r ↦ absurd (q r.1) | inr r ↦ rw r.0 refl ]
    go false = refl

pub not_live : (t : Attempt) (k : ℕ) → t.live ≡ false → one_live t k ≡ 0
not_live t k e = ap (λ (b : Bool). cond (b && nat_eq t.inv k) 1 0) e

-- ---------------------------------------------------------------- what the queue knows

abbrev IsOn : Phase → Type 0
IsOn (AttemptOver finished) = ⊥
IsOn _ = Unit {0}

-- of a queue of n messages
pub record Tallied (n : ℕ) (states : List InvState) (atts : List Attempt) : Type 0 where
  pub paired : length states ≡ n
  pub placed : (a : ℕ) (t : Attempt) → slice_get atts a ≡ Some t → t.inv < n
  pub tallied : (k : ℕ) (s : InvState) → slice_get states k ≡ Some s → IsTallied atts k s
  pub given_up : (k : ℕ) (s : InvState) → slice_get states k ≡ Some s → s.dead ≡ true → IsExhausted s
  pub on : (a : ℕ) (t : Attempt) → slice_get atts a ≡ Some t → t.live ≡ true → IsOn t.phase

-- a message is delivered
delivered_tallied : (n : ℕ) (states : List InvState) (atts : List Attempt) → Tallied n states atts → (k : ℕ) (s : InvState) → slice_get states k ≡ Some s → s.dead ≡ false → s.tries < 8 →
    Tallied n (slice_set states k (record s { tries = suc s.tries; live = suc s.live })) (atts ++ record { inv = k; live = true; steps = 0; phase = Looking } ∷ [])
delivered_tallied n states atts T k s e d l =
    let u : Attempt = record { inv = k; live = true; steps = 0; phase = Looking } in
    let v : InvState = record s { tries = suc s.tries; live = suc s.live } in
    let in_queue : k < n = let b : k < length states = place_of states k s e in let c : length states ≡ n = T.paired in omega arith in
    record {
      paired = length-set states k v ∙ T.paired;
      placed = λ a t q. elim (get_pushed atts u a t q) [ inl p ↦ T.placed a t p | inr p ↦ subst (λ (x : Attempt). x.inv < n) p in_queue ];
      tallied = λ j x q. elim (eqb_tells k j) [
        | inl same ↦
            let own : v ≡ x = same_Some v x (sym (set_own states k s v e) ∙ ap (slice_get (slice_set states k v)) same.1 ∙ q) in
            let was : IsTallied atts k s = T.tallied k s e in
            let a : attempt_count k (atts ++ u ∷ []) ≡ attempt_count k atts + one_attempt k u = tried_push k atts u in
            let b : one_attempt k u ≡ 1 = one_here k u refl in
            let c : live_count k (atts ++ u ∷ []) ≡ live_count k atts + one_live u k = live_push k atts u in
            let f : one_live u k ≡ 1 = live_here u k refl refl in
            let g : s.tries ≡ attempt_count k atts = was.tries in
            let h : s.live ≡ live_count k atts = was.live in
            subst (λ m. IsTallied (atts ++ u ∷ []) m x) same.1
            (subst (IsTallied (atts ++ u ∷ []) k) own (record { tries = omega arith; most = omega arith; live = omega arith }))
        | inr other ↦
            elim (get_set states k v j x q) [
              | inl p ↦ absurd (other.1 (sym p.0))
              | inr p ↦
                  let was : IsTallied atts j x = T.tallied j x p in
                  let a : attempt_count j (atts ++ u ∷ []) ≡ attempt_count j atts + one_attempt j u = tried_push j atts u in
                  let b : one_attempt j u ≡ 0 = one_elsewhere j u other.1 in
                  let c : live_count j (atts ++ u ∷ []) ≡ live_count j atts + one_live u j = live_push j atts u in
                  let f : one_live u j ≡ 0 = live_elsewhere u j other.1 in
                  let g : x.tries ≡ attempt_count j atts = was.tries in
                  let h : x.live ≡ live_count j atts = was.live in
                  record { tries = omega arith; most = was.most; live = omega arith }
            ]
      ];
      given_up = λ j x q dead. elim (get_set states k v j x q) [
        | inl p ↦ absurd (let z : false ≡ true = sym d ∙ ap (λ (y : InvState). y.dead) p.1 ∙ dead in cc)
        | inr p ↦ T.given_up j x p dead
      ];
      on = λ a t q live. elim (get_pushed atts u a t q) [ inl p ↦ T.on a t p live | inr p ↦ subst (λ (x : Attempt). IsOn x.phase) p tt ];
    }

-- an attempt goes on
moved_tallied : (n : ℕ) (states : List InvState) (atts : List Attempt) → Tallied n states atts → (a : ℕ) (t u : Attempt) → slice_get atts a ≡ Some t → u.inv ≡ t.inv → u.live ≡ t.live → IsOn u.phase →
    Tallied n states (slice_set atts a u)
moved_tallied n states atts T a t u e same lives on = record {
  paired = T.paired;
  placed = λ b x q. elim (get_set atts a u b x q) [
    | inl p ↦ subst (λ (y : Attempt). y.inv < n) p.1 (subst (λ m. m < n) (sym same) (T.placed a t e))
    | inr p ↦ T.placed b x p
  ];
  tallied = λ k s q.
      let was : IsTallied atts k s = T.tallied k s q in
      let r : live_count k (slice_set atts a u) + one_live t k ≡ live_count k atts + one_live u k = live_set k atts a t u e in
      let b : one_live u k ≡ one_live t k = ap (λ (y : Bool). cond (y && nat_eq u.inv k) 1 0) lives ∙ ap (λ m. cond (t.live && nat_eq m k) 1 0) same in
      let h : s.live ≡ live_count k atts = was.live in
      record { tries = was.tries ∙ sym (tried_set k atts a t u e same); most = was.most; live = omega arith };
  given_up = T.given_up;
  on = λ b x q live. elim (get_set atts a u b x q) [ inl p ↦ subst (λ (y : Attempt). IsOn y.phase) p.1 on | inr p ↦ T.on b x p live ];
}

-- an attempt that lives ends
ended_tallied : (n : ℕ) (states : List InvState) (atts : List Attempt) → Tallied n states atts → (a : ℕ) (t u : Attempt) → slice_get atts a ≡ Some t → t.live ≡ true → u.inv ≡ t.inv → u.live ≡ false →
    (f : InvState → InvState) → ((s : InvState) → (f s).tries ≡ s.tries) → ((s : InvState) → (f s).live ≡ s.live - 1) → ((s : InvState) → (f s).dead ≡ s.dead) →
    (s : InvState) → slice_get states t.inv ≡ Some s → Tallied n (slice_set states t.inv (f s)) (slice_set atts a u)
ended_tallied n states atts T a t u e l same d f ft fl fd s at_s =
    let r : live_count t.inv (slice_set atts a u) + one_live t t.inv ≡ live_count t.inv atts + one_live u t.inv = live_set t.inv atts a t u e in
    let one : one_live t t.inv ≡ 1 = live_here t t.inv l refl in
    let none : one_live u t.inv ≡ 0 = not_live u t.inv d in
    let was : IsTallied atts t.inv s = T.tallied t.inv s at_s in
    let lived : s.live ≡ live_count t.inv atts = was.live in
    let now : IsTallied (slice_set atts a u) t.inv (f s) =
    let x : (f s).tries ≡ s.tries = ft s in
    let y : (f s).live ≡ s.live - 1 = fl s in
    record {
      tries = x ∙ was.tries ∙ sym (tried_set t.inv atts a t u e same);
      most = let b : s.tries ≤ 8 = was.most in omega arith;
      live = omega arith;
    } in
    record {
      paired = length-set states t.inv (f s) ∙ T.paired;
      placed = λ b x q. elim (get_set atts a u b x q) [
        | inl p ↦ subst (λ (y : Attempt). y.inv < n) p.1 (subst (λ m. m < n) (sym same) (T.placed a t e))
        | inr p ↦ T.placed b x p
      ];
      tallied = λ k x q. elim (eqb_tells t.inv k) [
        | inl here ↦
            let own : f s ≡ x = same_Some (f s) x (sym (set_own states t.inv s (f s) at_s) ∙ ap (slice_get (slice_set states t.inv (f s))) here.1 ∙ q) in
            subst (λ m. IsTallied (slice_set atts a u) m x) here.1 (subst (IsTallied (slice_set atts a u) t.inv) own now)
        | inr other ↦ elim (get_set states t.inv (f s) k x q) [
          | inl p ↦ absurd (other.1 (sym p.0))
          | inr p ↦
              let before : IsTallied atts k x = T.tallied k x p in
              let y : live_count k (slice_set atts a u) + one_live t k ≡ live_count k atts + one_live u k = live_set k atts a t u e in
              let g : one_live t k ≡ 0 = live_elsewhere t k other.1 in
              let h : one_live u k ≡ 0 = not_live u k d in
              let z : x.live ≡ live_count k atts = before.live in
              record { tries = before.tries ∙ sym (tried_set k atts a t u e same); most = before.most; live = omega arith }
        ]
      ];
      given_up = λ k x q dead. elim (get_set states t.inv (f s) k x q) [
        | inl p ↦
            let g : IsExhausted s = T.given_up t.inv s at_s (sym (fd s) ∙ ap (λ (y : InvState). y.dead) p.1 ∙ dead) in
            let z : s.live ≡ 0 = g.live in
            absurd (omega arith)
        | inr p ↦ T.given_up k x p dead
      ];
      on = λ b x q live. elim (get_set atts a u b x q) [
        | inl p ↦ absurd (let z : false ≡ true = sym d ∙ ap (λ (y : Attempt). y.live) p.1 ∙ live in cc)
        | inr p ↦ T.on b x p live
      ];
    }

length_push : {A : Type 0} (xs : List A) (x : A) → length (xs ++ x ∷ []) ≡ suc (length xs)
length_push [] x = refl
length_push (y ∷ xs) x = ap suc (length_push xs x)

-- a message is sent
invoked_tallied : (n : ℕ) (states : List InvState) (atts : List Attempt) → Tallied n states atts → Tallied (suc n) (states ++ fresh_state ∷ []) atts
invoked_tallied n states atts T = record {
  paired = length_push states fresh_state ∙ ap suc T.paired;
  placed = λ a t q. let b : t.inv < n = T.placed a t q in omega arith;
  tallied = λ k s q. elim (get_pushed_at states fresh_state k s q) [
    | inl p ↦ T.tallied k s p
    | inr p ↦
        let c : length states ≡ n = T.paired in
        let h : k ≡ length states = p.0 in
        let apart : (a : ℕ) (t : Attempt) → slice_get atts a ≡ Some t → t.inv ≢ k = λ a t e same. let b : t.inv < n = T.placed a t e in absurd (omega arith) in
        subst (IsTallied atts k) p.1 (record {
          tries = sym (sum_none (one_attempt k) atts (λ a t e. one_elsewhere k t (apart a t e)));
          most = omega arith;
          live = sym (live_none k atts (λ a t e. live_elsewhere t k (apart a t e)));
        })
  ];
  given_up = λ k s q dead. elim (get_pushed_at states fresh_state k s q) [
    | inl p ↦ T.given_up k s p dead
    | inr p ↦ absurd (let z : false ≡ true = ap (λ (y : InvState). y.dead) p.1 ∙ dead in cc)
  ];
  on = T.on;
}

-- a message is given up
given_tallied : (n : ℕ) (states : List InvState) (atts : List Attempt) → Tallied n states atts → (k : ℕ) (s : InvState) → slice_get states k ≡ Some s → IsExhausted s →
    Tallied n (slice_set states k (record s { dead = true })) atts
given_tallied n states atts T k s e x = record {
  paired = length-set states k (record s { dead = true }) ∙ T.paired;
  placed = T.placed;
  tallied = λ j y q. elim (get_set states k (record s { dead = true }) j y q) [
    | inl p ↦
        let was : IsTallied atts k s = T.tallied k s e in
        let now : IsTallied atts k (record s { dead = true }) = record { tries = was.tries; most = was.most; live = was.live } in
        subst (λ m. IsTallied atts m y) (sym p.0) (subst (IsTallied atts k) p.1 now)
    | inr p ↦ T.tallied j y p
  ];
  given_up = λ j y q dead. elim (get_set states k (record s { dead = true }) j y q) [
    | inl p ↦ let now : IsExhausted (record s { dead = true }) = record { tries = x.tries; live = x.live; acked = x.acked } in subst IsExhausted p.1 now
    | inr p ↦ T.given_up j y p dead
  ];
  on = T.on;
}

-- ---------------------------------------------------------------- the phases of an attempt that goes on

abbrev NotAcking : Phase → Type 0
NotAcking (Acking finished) = ⊥
NotAcking _ = Unit {0}

module _ {S : Type 0} (B : Type 0) (code : Code S) (i : Invocation S) (a : ℕ) where
  adopted_on : (h : Held B) → IsOn (adopted_phase h)
  adopted_on (KeptAs k) = tt
  adopted_on (OutcomeIs x) = tt
  adopted_on (SavedAs m x us) = tt
  adopted_on (BitsAre is) = tt
  adopted_on (ArgIs x us) = tt

  cond_on : (p q : Phase) → IsOn p → IsOn q → (b : Bool) → IsOn (cond b p q)
  cond_on p q x y true = x
  cond_on p q x y false = y

  look_on : (kind : Kind) (r : Reply B) → IsOn (after_look kind r)
  look_on Enter WasAbsent = tt
  look_on Task WasAbsent = tt
  look_on Join WasAbsent = tt
  look_on kind (WasLive h) = adopted_on h
  look_on kind _ = tt

  gathered_on : (f : Combine) (count : ℕ) (raw : Json) (used : Used) (outs : List Outcome) → IsOn (gathered_phase f a count raw used outs)
  gathered_on f count raw used outs = cond_on (Gathering count raw used outs) (Creating (kept_of raw used a (f outs) count)) tt tt (nat_lt (length outs) count)

  saved_on : (f : Combine) (h : Held B) → IsOn (saved_phase f a h)
  saved_on f (SavedAs count raw used) = gathered_on f count raw used []
  saved_on f _ = tt

  after_saved_on : (f : Combine) (r : Reply B) → IsOn (after_saved f a r)
  after_saved_on f (WasLive h) = saved_on f h
  after_saved_on f _ = tt

  more_on : (f : Combine) (count : ℕ) (raw : Json) (used : Used) (outs : List Outcome) (h : Held B) → IsOn (next_gathered_phase f a count raw used outs h)
  more_on f count raw used outs (OutcomeIs x) = gathered_on f count raw used (outs ++ x ∷ [])
  more_on f count raw used outs _ = tt

  after_out_on : (f : Combine) (count : ℕ) (raw : Json) (used : Used) (outs : List Outcome) (r : Reply B) → IsOn (after_out f a count raw used outs r)
  after_out_on f count raw used outs (WasLive h) = more_on f count raw used outs h
  after_out_on f count raw used outs _ = tt

  entered_on : (x : Option Json) → IsOn (entered_phase a x)
  entered_on None = tt
  entered_on (Some x) = tt

  read_on : (kind : Kind) (h : Held B) → IsOn (read_phase code i a kind h)
  read_on Enter (ArgIs x us) = tt
  read_on Enter (SavedAs n x us) = entered_on (branch_input code (code.join_around i.site) x (parent_of (scope_of i.name.place)))
  read_on Enter (KeptAs k) = tt
  read_on Enter (OutcomeIs x) = tt
  read_on Enter (BitsAre is) = tt
  read_on Task (ArgIs x us) = tt
  read_on Task (SavedAs n x us) = tt
  read_on Task (KeptAs k) = tt
  read_on Task (OutcomeIs x) = tt
  read_on Task (BitsAre is) = tt
  read_on Join h = tt

  after_read_on : (r : Reply B) → IsOn (after_read code i a r)
  after_read_on (WasLive h) = read_on i.name.kind h
  after_read_on _ = tt

  create_on : (k : Kept) (r : Reply B) → IsOn (after_create k r)
  create_on k (Had h) = adopted_on h
  create_on k Won = tt
  create_on k _ = tt

  act_on : (k : Kept) (m all : ℕ) (r : Reply B) → IsOn (after_act k m all r)
  act_on k m all BitFull = tt
  act_on k m all BitNotFull = tt
  act_on k m all BitTombstone = tt
  act_on k m all _ = cond_on (Acting k (suc m)) (Marking k 0) tt tt (nat_lt (suc m) all)

  absorb_on : (p : Phase) → IsOn p → NotAcking p → (r : Reply B) → IsOn (absorb code i a p r)
  unfolding absorb
  absorb_on Looking o n r = look_on i.name.kind r
  absorb_on Saving o n r = after_saved_on (code.combine i.site) r
  absorb_on (Gathering count raw used outs) o n r = after_out_on (code.combine i.site) count raw used outs r
  absorb_on Reading o n r = after_read_on r
  absorb_on (Calling raw used) o n r = tt
  absorb_on (Creating k) o n r = create_on k r
  absorb_on (Acting k m) o n r = act_on k m (length (acts {B = B} code i k)) r
  absorb_on (Joining k) o n r = tt
  absorb_on (Marking k m) o n r = cond_on (Marking k (suc m)) (Acking true) tt tt (nat_lt (suc m) (length (due_objects i.name k.count)))
  absorb_on (Acking b) o n r = absurd n
  absorb_on (AttemptOver b) o n r = absurd o

called_on : (a : ℕ) (p : Phase) (x : Outcome) → IsOn p → IsOn (called_phase a p x)
called_on a (Calling raw used) x o = tt
called_on a Looking x o = o
called_on a Saving x o = o
called_on a (Gathering count raw used outs) x o = o
called_on a Reading x o = o
called_on a (Creating k) x o = o
called_on a (Acting k m) x o = o
called_on a (Joining k) x o = o
called_on a (Marking k m) x o = o
called_on a (Acking b) x o = o
called_on a (AttemptOver b) x o = o

-- ---------------------------------------------------------------- what an instance does

-- a Check is created with a checkpoint
abbrev KeepsCheck : {S B : Type 0} → Op S B → Type 0
KeepsCheck (Create (Check n) (KeptAs k)) = Unit {0}
KeepsCheck (Create (Check n) _) = ⊥
KeepsCheck _ = Unit {0}

abbrev DoesKeep : {S B : Type 0} → Doing S B → Type 0
DoesKeep (Do op) = KeepsCheck op
DoesKeep _ = Unit {0}

abbrev NoAck : {S B : Type 0} → Doing S B → Type 0
NoAck (Do Ack) = ⊥
NoAck _ = Unit {0}

module _ (S B : Type 0) where
  enters_keep : (p : Place) (index count : ℕ) (es : List S) → AllByRecursion (KeepsCheck {S = S} {B = B}) (enter_ops p index count es)
  enters_keep p index count [] = tt
  enters_keep p index count (e ∷ es) = (tt, enters_keep p (suc index) count es)

  fan_keeps : (w : ℕ) (p : Place) (j : S) (es : List S) → AllByRecursion (KeepsCheck {S = S} {B = B}) (fan_ops w p j es)
  fan_keeps w p j [] = (tt, tt)
  fan_keeps w p j (e ∷ es) = enters_keep p 0 (suc (length es)) (at_once w (e ∷ es))

  both_keep : (xs ys : List (Op S B)) → AllByRecursion (KeepsCheck {S = S} {B = B}) xs → AllByRecursion (KeepsCheck {S = S} {B = B}) ys → AllByRecursion (KeepsCheck {S = S} {B = B}) (xs ++ ys)
  both_keep [] ys h k = k
  both_keep (x ∷ xs) ys h k = (h.0, both_keep xs ys h.1 k)

  one_keeps : (b : Bool) (op : Op S B) → KeepsCheck op → AllByRecursion (KeepsCheck {S = S} {B = B}) (cond b (op ∷ []) [])
  one_keeps true op h = (h, tt)
  one_keeps false op h = tt

  pace_keeps : (e : S) (q : Parent) (w : ℕ) → AllByRecursion (KeepsCheck {S = S} {B = B}) (pace_ops e q w)
  pace_keeps e q zero = tt
  pace_keeps e q (suc w) = one_keeps (nat_lt (q.index + suc w) q.count) (Invoke (enter_at e q.place (q.index + suc w) q.count)) tt

  set_keeps : (e : S) (w : ℕ) (z : Option Parent) → AllByRecursion (KeepsCheck {S = S} {B = B}) (set_ops e w z)
  set_keeps e w None = tt
  set_keeps e w (Some q) = both_keep (pace_ops e q w) (Set q.place q.index q.count ∷ []) (pace_keeps e q w) (tt, tt)

  acts_keep : (code : Code S) (site : S) (s : Scope) (stop : Stop S) → AllByRecursion (KeepsCheck {S = S} {B = B}) (acts_of code site s stop)
  acts_keep code site s (Call f hop raw used) = (tt, (tt, tt))
  acts_keep code site s (Fan j hop raw used es) = (tt, fan_keeps (code.width j) _ j es)
  acts_keep code site s (Over o) = (tt, set_keeps (code.enter_of site) (width_around code (code.join_around site)) (parent_of s))

  doing_keeps : (ops : List (Op S B)) (m : ℕ) → AllByRecursion (KeepsCheck {S = S} {B = B}) ops → DoesKeep (doing (slice_get ops m))
  doing_keeps [] m h = tt
  doing_keeps (x ∷ xs) zero h = h.0
  doing_keeps (x ∷ xs) (suc m) h = doing_keeps xs m h.1

  mark_keeps : (z : Option Obj) → DoesKeep {S = S} {B = B} (marking z)
  mark_keeps None = tt
  mark_keeps (Some o) = tt

  join_keeps : (z : Option Parent) (j : Option S) → DoesKeep {S = S} {B = B} (joining z j)
  join_keeps None j = tt
  join_keeps (Some q) None = tt
  join_keeps (Some q) (Some j) = tt

  ask_keeps : (z : Option (Text × Json)) → DoesKeep {S = S} {B = B} (asking z)
  ask_keeps None = tt
  ask_keeps (Some c) = tt

  next_keeps : (code : Code S) (i : Invocation S) (p : Phase) → DoesKeep {S = S} {B = B} (next_of code i p)
  unfolding next_of
  next_keeps code i Looking = tt
  next_keeps code i Saving = tt
  next_keeps code i (Gathering count raw used outs) = tt
  next_keeps code i Reading = tt
  next_keeps code i (Calling raw used) = ask_keeps (code.call_of i.site raw)
  next_keeps code i (Creating k) = tt
  next_keeps code i (Acting k m) = doing_keeps (acts code i k) m (acts_keep code i.site (scope_of i.name.place) (stop_of code i k))
  next_keeps code i (Joining k) = join_keeps (parent_of (scope_of i.name.place)) (code.join_around i.site)
  next_keeps code i (Marking k m) = mark_keeps (slice_get (due_objects i.name k.count) m)
  next_keeps code i (Acking finished) = tt
  next_keeps code i (AttemptOver finished) = tt

  not_acking : (code : Code S) (i : Invocation S) (p : Phase) → NoAck {S = S} {B = B} (next_of code i p) → NotAcking p
  unfolding next_of
  not_acking code i (Acking finished) h = h
  not_acking code i Looking h = tt
  not_acking code i Saving h = tt
  not_acking code i (Gathering count raw used outs) h = tt
  not_acking code i Reading h = tt
  not_acking code i (Calling raw used) h = tt
  not_acking code i (Creating k) h = tt
  not_acking code i (Acting k m) h = tt
  not_acking code i (Joining k) h = tt
  not_acking code i (Marking k m) h = tt
  not_acking code i (AttemptOver finished) h = tt

-- ---------------------------------------------------------------- each event that may happen

not_true : (b : Bool) → not b ≡ true → b ≡ false
not_true true e = absurd (cc)
not_true false e = refl

eq_true : (n m : ℕ) → nat_eq n m ≡ true → n ≡ m
eq_true n m e = elim (eqb_tells n m) [ inl p ↦ p.1 | inr p ↦ absurd (let z : false ≡ true = sym p.0 ∙ e in cc) ]

both_true : (a b : Bool) → a && b ≡ true → (a ≡ true) × (b ≡ true)
both_true true b q = (refl, q)
both_true false b q = cc

module _ {M S B : Type 0} (bits : Bitmaps B) (codes : Codes S) (w : World M S B) (P : Event → World M S B → Type 0) where
  -- what to show of each event
  pub record Cases : Type 0 where
    pub deliver : (k : ℕ) (s : InvState) → slice_get w.states k ≡ Some s → s.dead ≡ false → s.tries < 8 → P (Deliver k) (delivered_world w k (Some s))
    pub crash : (a : ℕ) (t : Attempt) → slice_get w.atts a ≡ Some t → t.live ≡ true → P (Crash a) (crashed_world w a t)
    pub step : (a : ℕ) (t : Attempt) (i : Invocation S) → slice_get w.atts a ≡ Some t → t.live ≡ true → slice_get w.invs t.inv ≡ Some i →
        (op : Op S B) → next_of (code_of codes i) i t.phase ≡ Do op → P (Step a) (stepped_world bits codes w a t i t.phase (Do op))
    pub answer : (a : ℕ) (t : Attempt) (i : Invocation S) → slice_get w.atts a ≡ Some t → t.live ≡ true → slice_get w.invs t.inv ≡ Some i →
        (r : Text) (x : Json) → next_of {B = B} (code_of codes i) i t.phase ≡ Ask r x → P (Answer a) (answered_world w a t x (function_of w.opening.functions r))
    pub give_up : (k : ℕ) (s : InvState) → slice_get w.states k ≡ Some s → IsExhausted s → P (GiveUp k) (with_state w k (λ s. record s { dead = true }) (Some s))

  deliver_case : Cases → (k : ℕ) (x : Option InvState) → slice_get w.states k ≡ x → state_lets (λ s. not s.acked && (not s.dead && nat_lt s.tries 8)) x ≡ true → P (Deliver k) (delivered_world w k x)
  deliver_case C k None e q = absurd (cc)
  deliver_case C k (Some s) e q =
      let a = both_true (not s.acked) (not s.dead && nat_lt s.tries 8) q in
      let b = both_true (not s.dead) (nat_lt s.tries 8) a.1 in
      C.deliver k s e (not_true s.dead b.0) (ltb-true s.tries 8 b.1)

  give_case : Cases → (k : ℕ) (x : Option InvState) → slice_get w.states k ≡ x → state_lets (λ s. not s.acked && (not s.dead && (nat_eq s.tries 8 && nat_eq s.live 0))) x ≡ true →
      P (GiveUp k) (with_state w k (λ s. record s { dead = true }) x)
  give_case C k None e q = absurd (cc)
  give_case C k (Some s) e q =
      let a = both_true (not s.acked) (not s.dead && (nat_eq s.tries 8 && nat_eq s.live 0)) q in
      let b = both_true (not s.dead) (nat_eq s.tries 8 && nat_eq s.live 0) a.1 in
      let c = both_true (nat_eq s.tries 8) (nat_eq s.live 0) b.1 in
      C.give_up k s e (record { tries = eq_true s.tries 8 c.0; live = eq_true s.live 0 c.1; acked = not_true s.acked a.0 })

  crash_case : Cases → (a : ℕ) (x : Option Attempt) → slice_get w.atts a ≡ x → lives x ≡ true → P (Crash a) (with_att w (λ t. crashed_world w a t) x)
  crash_case C a None e q = absurd (cc)
  crash_case C a (Some t) e q = C.crash a t e q

  att_case : (e : Event) (a : ℕ) (p : Doing S B → Bool) (f : Attempt → Invocation S → World M S B) →
      ((t : Attempt) (i : Invocation S) → slice_get w.atts a ≡ Some t → t.live ≡ true → slice_get w.invs t.inv ≡ Some i → p (next_of (code_of codes i) i t.phase) ≡ true → P e (f t i)) →
      (x : Option Attempt) → slice_get w.atts a ≡ x → att_lets codes w p x ≡ true → P e (with_att w (λ t. with_inv w t (f t) (slice_get w.invs t.inv)) x)
  att_case e a p f g None q l = absurd (cc)
  att_case e a p f g (Some t) q l =
      let b = both_true t.live (elim (slice_get w.invs t.inv) [ None ↦ false | Some i ↦ p (next_of (code_of codes i) i t.phase) ]) l in
      by (slice_get w.invs t.inv) refl b.0 b.1
    where
      by : (z : Option (Invocation S)) → slice_get w.invs t.inv ≡ z → t.live ≡ true → elim z [ None ↦ false | Some i ↦ p (next_of (code_of codes i) i t.phase) ] ≡ true → P e (with_inv w t (f t) z)
      by None r k h = absurd (cc)
      by (Some i) r k h = g t i q k r h

  step_case : Cases → (a : ℕ) (t : Attempt) (i : Invocation S) → slice_get w.atts a ≡ Some t → t.live ≡ true → slice_get w.invs t.inv ≡ Some i →
      (d : Doing S B) → next_of (code_of codes i) i t.phase ≡ d → is_do d ≡ true → P (Step a) (stepped_world bits codes w a t i t.phase d)
  step_case C a t i e l at (Do op) q h = C.step a t i e l at op q
  step_case C a t i e l at (Ask r x) q h = absurd (cc)
  step_case C a t i e l at Nothing q h = absurd (cc)

  answer_case : Cases → (a : ℕ) (t : Attempt) (i : Invocation S) → slice_get w.atts a ≡ Some t → t.live ≡ true → slice_get w.invs t.inv ≡ Some i →
      (d : Doing S B) → next_of (code_of codes i) i t.phase ≡ d → is_ask d ≡ true → P (Answer a) (asked_world w a t d)
  answer_case C a t i e l at (Ask r x) q h = C.answer a t i e l at r x q
  answer_case C a t i e l at (Do op) q h = absurd (cc)
  answer_case C a t i e l at Nothing q h = absurd (cc)

  pub by_event : Cases → (e : Event) → enabled codes w e ≡ true → P e (effect bits codes w e)
  unfolding effect enabled
  by_event C (Deliver k) q = deliver_case C k (slice_get w.states k) refl q
  by_event C (Crash a) q = crash_case C a (slice_get w.atts a) refl q
  by_event C (Step a) q =
      att_case (Step a) a is_do (λ t i. stepped_world bits codes w a t i t.phase (next_of (code_of codes i) i t.phase))
      (λ t i e l at h. step_case C a t i e l at (next_of (code_of codes i) i t.phase) refl h) (slice_get w.atts a) refl q
  by_event C (Answer a) q =
      att_case (Answer a) a is_ask (λ t i. asked_world w a t (next_of (code_of codes i) i t.phase))
      (λ t i e l at h. answer_case C a t i e l at (next_of (code_of codes i) i t.phase) refl h) (slice_get w.atts a) refl q
  by_event C (GiveUp k) q = give_case C k (slice_get w.states k) refl q

-- ---------------------------------------------------------------- the queue

abbrev pub IsTalliedWorld : {M S B : Type 0} → World M S B → Type 0
IsTalliedWorld w = Tallied (length w.invs) w.states w.atts

module _ {M S B : Type 0} (bits : Bitmaps B) (codes : Codes S) (w : World M S B) (T : IsTalliedWorld w) where
  state_at : (a : ℕ) (t : Attempt) → slice_get w.atts a ≡ Some t → (s : InvState) × (slice_get w.states t.inv ≡ Some s)
  state_at a t e = there w.states t.inv (let b : t.inv < length w.invs = T.placed a t e in let c : length w.states ≡ length w.invs = T.paired in omega arith)
    where
      there : {A : Type 0} (xs : List A) (k : ℕ) → k < length xs → (x : A) × (slice_get xs k ≡ Some x)
      there [] k l = absurd (omega arith)
      there (x ∷ xs) zero l = (x, refl)
      there (x ∷ xs) (suc k) l = there xs k (omega arith)

  crashed_tallied : (a : ℕ) (t : Attempt) → slice_get w.atts a ≡ Some t → t.live ≡ true → IsTalliedWorld (crashed_world w a t)
  crashed_tallied a t e l =
      let (s, r) = state_at a t e in
      let v : World M S B = record w { atts = slice_set w.atts a (record t { live = false }) } in
      subst (λ (z : Option InvState). IsTalliedWorld (with_state v t.inv state_after_crash z)) (sym r)
      (ended_tallied (length w.invs) w.states w.atts T a t (record t { live = false }) e l refl refl state_after_crash (λ x. refl) (λ x. refl) (λ x. refl) s r)

  module _ (a : ℕ) (t : Attempt) (i : Invocation S) (e : slice_get w.atts a ≡ Some t) (l : t.live ≡ true) where
    moved_next : (n : ℕ) (states : List InvState) → Tallied n states w.atts → (p : Phase) → IsOn p → Tallied n states (slice_set w.atts a (record { inv = t.inv; live = true; steps = suc t.steps; phase = p }))
    moved_next n states U p o = moved_tallied n states w.atts U a t (record { inv = t.inv; live = true; steps = suc t.steps; phase = p }) e refl (sym l) o

    absorbed_on : NoAck {S = S} {B = B} (next_of (code_of codes i) i t.phase) → (r : Reply B) → IsOn (absorb (code_of codes i) i a t.phase r)
    absorbed_on n r = absorb_on B (code_of codes i) i a t.phase (T.on a t e l) (not_acking S B (code_of codes i) i t.phase n) r

    stepped_tallied : (op : Op S B) → next_of (code_of codes i) i t.phase ≡ Do op → IsTalliedWorld (stepped_world bits codes w a t i t.phase (Do op))
    stepped_tallied (Look o) q = moved_next (length w.invs) w.states T _ (absorbed_on (subst NoAck (sym q) tt) _)
    stepped_tallied (Create o h) q = moved_next (length w.invs) w.states T _ (absorbed_on (subst NoAck (sym q) tt) _)
    stepped_tallied (Set p index count) q = moved_next (length w.invs) w.states T _ (absorbed_on (subst NoAck (sym q) tt) _)
    stepped_tallied (Mark o) q = moved_next (length w.invs) w.states T _ (absorbed_on (subst NoAck (sym q) tt) _)
    stepped_tallied (Invoke v) q =
        let n : ℕ = length (w.invs ++ v ∷ []) in
        let U : Tallied n (w.states ++ fresh_state ∷ []) w.atts = subst (λ m. Tallied m (w.states ++ fresh_state ∷ []) w.atts) (sym (length_push w.invs v)) (invoked_tallied (length w.invs) w.states w.atts T) in
        moved_next n (w.states ++ fresh_state ∷ []) U _ (absorbed_on (subst NoAck (sym q) tt) _)
    stepped_tallied Ack q =
        let (s, r) = state_at a t e in
        let u : Attempt = record { inv = t.inv; live = false; steps = suc t.steps; phase = absorb (code_of codes i) i a t.phase (reply_to {S = S} bits w.objects Ack) } in
        subst (λ (z : Option InvState). IsTalliedWorld (moved_world (with_state w t.inv state_after_ack z) a t false u.phase)) (sym r)
        (ended_tallied (length w.invs) w.states w.atts T a t u e l refl refl state_after_ack (λ x. refl) (λ x. refl) (λ x. refl) s r)

    answered_tallied : (x : Json) (f : Option FnKind) → IsTalliedWorld (answered_world w a t x f)
    answered_tallied x None = T
    answered_tallied x (Some kind) = moved_next (length w.invs) w.states T _ (called_on a t.phase (answer kind x a) (T.on a t e l))

  tallied_cases : Cases bits codes w (λ e v. IsTalliedWorld v)
  tallied_cases = record {
    deliver = λ k s e d l. delivered_tallied (length w.invs) w.states w.atts T k s e d l;
    crash = crashed_tallied;
    step = λ a t i e l at op q. stepped_tallied a t i e l op q;
    answer = λ a t i e l at r x q. answered_tallied a t i e l x (function_of w.opening.functions r);
    give_up = λ k s e x. given_tallied (length w.invs) w.states w.atts T k s e x;
  }

  pub effect_tallied : (e : Event) → enabled codes w e ≡ true → IsTalliedWorld (effect bits codes w e)
  effect_tallied e q = by_event bits codes w (λ e v. IsTalliedWorld v) tallied_cases e q

pub roots_fresh : {M : Type 0} (xs : List (Session M)) (k : ℕ) (s : InvState) → slice_get (root_states xs) k ≡ Some s → fresh_state ≡ s
unfolding root_states
roots_fresh [] k s e = absurd (cc)
roots_fresh (x ∷ xs) zero s e = same_Some fresh_state s e
roots_fresh (x ∷ xs) (suc k) s e = roots_fresh xs k s e

module _ {M S : Type 0} (first : M → S) where
  roots_paired : (n : ℕ) (xs : List (Session M)) → length (root_states xs) ≡ length (root_invs first n xs)
  unfolding root_states root_invs
  roots_paired n [] = refl
  roots_paired n (x ∷ xs) = ap suc (roots_paired (suc n) xs)

  pub start_tallied : (B : Type 0) (o : Opening M) → IsTalliedWorld (start {B = B} first o)
  start_tallied B o = record {
    paired = roots_paired 0 o.sessions;
    placed = λ a t e. absurd (cc);
    tallied = λ k s e. subst (IsTallied [] k) (roots_fresh o.sessions k s e) (record { tries = refl; most = omega arith; live = refl });
    given_up = λ k s e d. absurd (let z : false ≡ true = ap (λ (y : InvState). y.dead) (roots_fresh o.sessions k s e) ∙ d in cc);
    on = λ a t e l. absurd (cc);
  }

-- so tries are bounded and live attempts counted
pub tallied_counted : (n : ℕ) (states : List InvState) (atts : List Attempt) → Tallied n states atts → IsCounted states atts
tallied_counted n states atts T = record { tries = λ k s e. (T.tallied k s e).most; live = λ k s e. (T.tallied k s e).live }

-- ---------------------------------------------------------------- checkpoints

abbrev HasOneEntry : {M S B : Type 0} → World M S B → Type 0
HasOneEntry w = (n : Name) → entry_count n w.journal ≡ created_count (w.objects (Check n))

module _ {M S B : Type 0} (bits : Bitmaps B) (codes : Codes S) (w : World M S B) (E : HasOneEntry w) where
  -- a checkpoint is won
  won_entry : (m : Name) (k : Kept) (a : ℕ) → w.objects (Check m) ≡ Absent → (n : Name) →
      entry_count n (w.journal ++ record { name = m; answer = k.answer; ticket = a } ∷ []) ≡ created_count (objects_with (Check m) (Live (KeptAs k)) w.objects (Check n))
  unfolding objects_with
  won_entry m k a none n =
      let e : Entry = record { name = m; answer = k.answer; ticket = a } in
      let push : entry_count n (w.journal ++ e ∷ []) ≡ entry_count n w.journal + cond (name_same n m) 1 0 = sum_by_push (λ (x : Entry). cond (name_same n x.name) 1 0) w.journal e in
      go push (name_same n m) refl
    where
      go : entry_count n (w.journal ++ record { name = m; answer = k.answer; ticket = a } ∷ []) ≡ entry_count n w.journal + cond (name_same n m) 1 0 → (b : Bool) → name_same n m ≡ b →
          entry_count n (w.journal ++ record { name = m; answer = k.answer; ticket = a } ∷ []) ≡ created_count (cond b (Live (KeptAs k)) (w.objects (Check n)))
      go push true q =
          let same : Check n ≡ Check m = object_is (Check n) (Check m) q in
          let zero_before : entry_count n w.journal ≡ 0 = E n ∙ ap (λ (x : Obj). created_count (w.objects x)) same ∙ ap created_count none in
          push ∙ ap (λ (x : Bool). entry_count n w.journal + cond x 1 0) q ∙ ap (λ y. y + 1) zero_before
      go push false q = push ∙ ap (λ (x : Bool). entry_count n w.journal + cond x 1 0) q ∙ (let z : entry_count n w.journal + 0 ≡ entry_count n w.journal = omega arith in z) ∙ E n

  no_entry : (n : Name) → entry_count n (w.journal ++ []) ≡ created_count (w.objects (Check n))
  no_entry n = ap (entry_count n) (append-nil w.journal) ∙ E n

  create_entry : (a : ℕ) (o : Obj) (h : Held B) → KeepsCheck {S = S} (Create o h) → (c : Condition B) → w.objects o ≡ c → (n : Name) →
      entry_count n (won_journal w.journal a o h c) ≡ created_count (created_objects w.objects o h c (Check n))
  unfolding objects_with
  create_entry a (Check m) (KeptAs k) keep Absent q n = won_entry m k a q n
  create_entry a (Check m) (OutcomeIs x) keep Absent q n = absurd keep
  create_entry a (Check m) (SavedAs c x us) keep Absent q n = absurd keep
  create_entry a (Check m) (BitsAre b) keep Absent q n = absurd keep
  create_entry a (Check m) (ArgIs x us) keep Absent q n = absurd keep
  create_entry a (Out s) h keep Absent q n = no_entry n
  create_entry a (Saved p) h keep Absent q n = no_entry n
  create_entry a (Bits p m) h keep Absent q n = no_entry n
  create_entry a (Arg m) h keep Absent q n = no_entry n
  create_entry a o h keep (Live x) q n = E n
  create_entry a o h keep Tombstone q n = E n

  mark_there : (o : Obj) (n : Name) → created_count (w.objects o) ≡ 1 → entry_count n w.journal ≡ created_count (objects_with o Tombstone w.objects (Check n))
  unfolding objects_with
  mark_there o n one = go (object_same (Check n) o) refl
    where
      go : (b : Bool) → object_same (Check n) o ≡ b → entry_count n w.journal ≡ created_count (cond b Tombstone (w.objects (Check n)))
      go true e = E n ∙ ap (λ (x : Obj). created_count (w.objects x)) (object_is (Check n) o e) ∙ one
      go false e = E n

  mark_entry : (o : Obj) (c : Condition B) → w.objects o ≡ c → (n : Name) → entry_count n w.journal ≡ created_count (marked_objects w.objects o c (Check n))
  mark_entry o Absent q n = E n
  mark_entry o (Live h) q n = mark_there o n (ap created_count q)
  mark_entry o Tombstone q n = mark_there o n (ap created_count q)

  bit_entry : (p : Place) (index count : ℕ) (c : Condition B) (n : Name) → entry_count n w.journal ≡ created_count (bit_objects bits w.objects p index count c (Check n))
  unfolding objects_with
  bit_entry p index count Absent n = E n
  bit_entry p index count (Live h) n = E n
  bit_entry p index count Tombstone n = E n

  step_entry : (a : ℕ) (t : Attempt) (i : Invocation S) (op : Op S B) → KeepsCheck op → HasOneEntry (stepped_world bits codes w a t i t.phase (Do op))
  step_entry a t i (Look o) keep = E
  step_entry a t i (Create o h) keep = create_entry a o h keep (w.objects o) refl
  step_entry a t i (Set p index count) keep = bit_entry p index count (w.objects (Bits p count))
  step_entry a t i (Invoke v) keep = E
  step_entry a t i (Mark o) keep = mark_entry o (w.objects o) refl
  step_entry a t i Ack keep = E

  answer_entry : (a : ℕ) (t : Attempt) (x : Json) (f : Option FnKind) → HasOneEntry (answered_world w a t x f)
  answer_entry a t x None = E
  answer_entry a t x (Some kind) = E

  entry_cases : Cases bits codes w (λ e v. HasOneEntry v)
  entry_cases = record {
    deliver = λ k s e d l. E;
    crash = λ a t e l. E;
    step = λ a t i e l at op q. step_entry a t i op (subst DoesKeep q (next_keeps S B (code_of codes i) i t.phase));
    answer = λ a t i e l at r x q. answer_entry a t x (function_of w.opening.functions r);
    give_up = λ k s e x. E;
  }

  effect_entry : (e : Event) → enabled codes w e ≡ true → HasOneEntry (effect bits codes w e)
  effect_entry e q = by_event bits codes w (λ e v. HasOneEntry v) entry_cases e q

start_absent : (M B : Type 0) (s : ℕ) (xs : List (Session M)) (n : Name) → created_count (start_objects {B = B} s xs (Check n)) ≡ 0
unfolding start_objects objects_with
start_absent M B s [] n = refl
start_absent M B s (y ∷ xs) n = start_absent M B (suc s) xs n

-- ---------------------------------------------------------------- steps

abbrev steps_at : Option Attempt → ℕ
steps_at None = 0
steps_at (Some t) = t.steps

steps_none : (a : ℕ) → steps_at (slice_get [] a) ≡ 0
steps_none zero = refl
steps_none (suc a) = refl

get_other : {A : Type 0} (xs : List A) (i : ℕ) (y : A) (k : ℕ) → i ≢ k → slice_get (slice_set xs i y) k ≡ slice_get xs k
get_other [] i y k n = refl
get_other (x ∷ xs) zero y zero n = absurd (n refl)
get_other (x ∷ xs) zero y (suc k) n = refl
get_other (x ∷ xs) (suc i) y zero n = refl
get_other (x ∷ xs) (suc i) y (suc k) n = get_other xs i y k (λ e. n (ap suc e))

steps_push : (atts : List Attempt) (u : Attempt) → u.steps ≡ 0 → (b : ℕ) → steps_at (slice_get (atts ++ u ∷ []) b) ≡ steps_at (slice_get atts b)
steps_push [] u z zero = z
steps_push [] u z (suc b) = refl
steps_push (t ∷ atts) u z zero = refl
steps_push (t ∷ atts) u z (suc b) = steps_push atts u z b

steps_set : (atts : List Attempt) (a : ℕ) (t u : Attempt) (m : ℕ) → slice_get atts a ≡ Some t → u.steps ≡ t.steps + m → (b : ℕ) →
    steps_at (slice_get (slice_set atts a u) b) ≡ steps_at (slice_get atts b) + cond (nat_eq a b) m 0
steps_set atts a t u m e s b = elim (eqb_tells a b) [
  | inl same ↦
      let x : slice_get (slice_set atts a u) b ≡ Some u = ap (slice_get (slice_set atts a u)) (sym same.1) ∙ set_own atts a t u e in
      let y : slice_get atts b ≡ Some t = ap (slice_get atts) (sym same.1) ∙ e in
      ap steps_at x ∙ s ∙ ap (λ z. z + m) (sym (ap steps_at y)) ∙ ap (λ (z : Bool). steps_at (slice_get atts b) + cond z m 0) (sym same.0)
  | inr other ↦
      let x : steps_at (slice_get atts b) ≡ steps_at (slice_get atts b) + 0 = omega arith in
      ap steps_at (get_other atts a u b other.1) ∙ x ∙ ap (λ (z : Bool). steps_at (slice_get atts b) + cond z m 0) (sym other.0)
]

cond_none : (b : Bool) → ◌≡◌ {A = ℕ} (cond b 0 0) 0
cond_none true = refl
cond_none false = refl

and_none : (b : Bool) → (b && false) ≡ false
and_none true = refl
and_none false = refl

and_some : (b : Bool) → (b && true) ≡ b
and_some true = refl
and_some false = refl

module _ {M S B : Type 0} (bits : Bitmaps B) (codes : Codes S) (w : World M S B) where
  abbrev Turns : Event → World M S B → Type 0
  Turns e v = (b : ℕ) → steps_at (slice_get v.atts b) ≡ steps_at (slice_get w.atts b) + cond (is_turn codes w b e) 1 0

  no_turn : (n m : ℕ) → n ≡ m → n ≡ m + 0
  no_turn n m e = omega arith

  one_turn : (a : ℕ) (t u : Attempt) → slice_get w.atts a ≡ Some t → u.steps ≡ suc t.steps → (b : ℕ) → steps_at (slice_get (slice_set w.atts a u) b) ≡ steps_at (slice_get w.atts b) + cond (nat_eq a b) 1 0
  one_turn a t u e s b = steps_set w.atts a t u 1 e (let z : suc t.steps ≡ t.steps + 1 = omega arith in s ∙ z) b

  crash_turns : (a : ℕ) (t : Attempt) → slice_get w.atts a ≡ Some t → (b : ℕ) → steps_at (slice_get (slice_set w.atts a (record t { live = false })) b) ≡ steps_at (slice_get w.atts b) + 0
  crash_turns a t e b =
      let z : t.steps ≡ t.steps + 0 = omega arith in
      steps_set w.atts a t (record t { live = false }) 0 e z b ∙ ap (λ y. steps_at (slice_get w.atts b) + y) (cond_none (nat_eq a b))

  answer_turns : (a : ℕ) (t : Attempt) (i : Invocation S) → slice_get w.atts a ≡ Some t → slice_get w.invs t.inv ≡ Some i → (r : Text) (x : Json) → next_of {B = B} (code_of codes i) i t.phase ≡ Ask r x →
      (f : Option FnKind) → function_of w.opening.functions r ≡ f → Turns (Answer a) (answered_world w a t x f)
  answer_turns a t i e at r x q f g b = by f (found ∙ g)
    where
      found : function_at codes w (slice_get w.atts a) ≡ function_of w.opening.functions r
      found = ap (function_at codes w) e ∙ ap (function_by codes w t) at ∙ ap (function_asked codes w) q

      by : (f : Option FnKind) → function_at codes w (slice_get w.atts a) ≡ f → steps_at (slice_get (answered_world w a t x f).atts b) ≡ steps_at (slice_get w.atts b) + cond (is_turn codes w b (Answer a)) 1 0
      by None h =
          no_turn (steps_at (slice_get w.atts b)) (steps_at (slice_get w.atts b)) refl
          ∙ ap (λ (z : Bool). steps_at (slice_get w.atts b) + cond z 1 0) (sym (ap (λ z. nat_eq a b && is_some z) h ∙ and_none (nat_eq a b)))
      by (Some kind) h =
          one_turn a t (record { inv = t.inv; live = true; steps = suc t.steps; phase = called_phase a t.phase (answer kind x a) }) e refl b
          ∙ ap (λ (z : Bool). steps_at (slice_get w.atts b) + cond z 1 0) (sym (ap (λ z. nat_eq a b && is_some z) h ∙ and_some (nat_eq a b)))

  turn_cases : Cases bits codes w Turns
  turn_cases = record {
    deliver = λ k s e d l b. no_turn (steps_at (slice_get (w.atts ++ record { inv = k; live = true; steps = 0; phase = Looking } ∷ []) b)) (steps_at (slice_get w.atts b)) (steps_push w.atts (record { inv = k; live = true; steps = 0; phase = Looking }) refl b);
    crash = λ a t e l b. crash_turns a t e b;
    step = λ a t i e l at op q b. one_turn a t (record { inv = t.inv; live = lives_on op; steps = suc t.steps; phase = absorb (code_of codes i) i a t.phase (reply_to bits w.objects op) }) e refl b;
    answer = λ a t i e l at r x q. answer_turns a t i e at r x q (function_of w.opening.functions r) refl;
    give_up = λ k s e x b. no_turn (steps_at (slice_get w.atts b)) (steps_at (slice_get w.atts b)) refl;
  }

  effect_turns : (e : Event) → enabled codes w e ≡ true → Turns e (effect bits codes w e)
  effect_turns e q = by_event bits codes w Turns turn_cases e q

-- ---------------------------------------------------------------- an own checkpoint that is a tombstone

module _ {M S B : Type 0} (bits : Bitmaps B) (codes : Codes S) (w : World M S B) where
  meets_tombstone : (a : ℕ) (t : Attempt) (i : Invocation S) → slice_get w.atts a ≡ Some t → w.objects (Check i.name) ≡ Tombstone → (p : Phase) → IsAtOwnCheck p →
      slice_get (stepped_world bits codes w a t i p (next_of (code_of codes i) i p)).atts a ≡ Some (acking_attempt t)
  unfolding next_of absorb
  meets_tombstone a t i e dead Looking own =
      let u : Phase → Attempt = λ p. record { inv = t.inv; live = true; steps = suc t.steps; phase = p } in
      set_own w.atts a t (u (after_look i.name.kind (look_reply (w.objects (Check i.name))))) e ∙ ap (λ (c : Condition B). Some (u (after_look i.name.kind (look_reply c)))) dead
  meets_tombstone a t i e dead (Creating k) own =
      let u : Phase → Attempt = λ p. record { inv = t.inv; live = true; steps = suc t.steps; phase = p } in
      set_own w.atts a t (u (after_create k (create_reply (w.objects (Check i.name))))) e ∙ ap (λ (c : Condition B). Some (u (after_create k (create_reply c)))) dead
  meets_tombstone a t i e dead Saving own = absurd own
  meets_tombstone a t i e dead (Gathering count raw used outs) own = absurd own
  meets_tombstone a t i e dead Reading own = absurd own
  meets_tombstone a t i e dead (Calling raw used) own = absurd own
  meets_tombstone a t i e dead (Acting k m) own = absurd own
  meets_tombstone a t i e dead (Joining k) own = absurd own
  meets_tombstone a t i e dead (Marking k m) own = absurd own
  meets_tombstone a t i e dead (Acking f) own = absurd own
  meets_tombstone a t i e dead (AttemptOver f) own = absurd own

  step_is : (a : ℕ) (t : Attempt) (i : Invocation S) → slice_get w.atts a ≡ Some t → slice_get w.invs t.inv ≡ Some i →
      effect bits codes w (Step a) ≡ stepped_world bits codes w a t i t.phase (next_of (code_of codes i) i t.phase)
  unfolding effect
  step_is a t i e at =
      ap (with_att w (λ t. with_inv w t (λ i. stepped_world bits codes w a t i t.phase (next_of (code_of codes i) i t.phase)) (slice_get w.invs t.inv))) e
      ∙ ap (with_inv w t (λ i. stepped_world bits codes w a t i t.phase (next_of (code_of codes i) i t.phase))) at

  acks_next : (i : Invocation S) → next_of {B = B} (code_of codes i) i (Acking false) ≡ Do Ack
  unfolding next_of
  acks_next i = refl

  retreats : (a : ℕ) (t : Attempt) (i : Invocation S) → slice_get w.atts a ≡ Some t → slice_get w.invs t.inv ≡ Some i → IsAtOwnCheck t.phase → w.objects (Check i.name) ≡ Tombstone →
      slice_get (effect bits codes w (Step a)).atts a ≡ Some (acking_attempt t)
  retreats a t i e at own dead = ap (λ (v : World M S B). slice_get v.atts a) (step_is a t i e at) ∙ meets_tombstone a t i e dead t.phase own

-- ---------------------------------------------------------------- every run

module _ {M S B : Type 0} (bits : Bitmaps B) (codes : Codes S) where
  run_lost : (es : List Event) (w : World M S B) → run_from bits codes None es ≡ Some w → ⊥
  unfolding run_from
  run_lost [] w e = cc
  run_lost (x ∷ es) w e = run_lost es w e

  abbrev Right : World M S B → List Event → World M S B → Type 0
  Right w es v = IsTalliedWorld v × HasOneEntry v × ((b : ℕ) → steps_at (slice_get v.atts b) ≡ steps_at (slice_get w.atts b) + turn_count bits codes b w es)

  run_right : (es : List Event) (w v : World M S B) → IsTalliedWorld w → HasOneEntry w → run_from bits codes (Some w) es ≡ Some v → Right w es v
  unfolding run_from turn_count
  run_right [] w v T E e = subst (Right w []) (same_Some w v e) (T, E, λ b. let z : steps_at (slice_get w.atts b) ≡ steps_at (slice_get w.atts b) + 0 = omega arith in z)
  run_right (x ∷ es) w v T E e = go (λ t h q. run_right es (effect bits codes w x) v t h q) (enabled codes w x) refl e
    where
      go : (IsTalliedWorld (effect bits codes w x) → HasOneEntry (effect bits codes w x) → run_from bits codes (Some (effect bits codes w x)) es ≡ Some v → Right (effect bits codes w x) es v) →
          (b : Bool) → enabled codes w x ≡ b → run_from bits codes (cond b (Some (effect bits codes w x)) None) es ≡ Some v → Right w (x ∷ es) v
      go r true y q =
          let (t, h, k) = r (effect_tallied bits codes w T x y) (effect_entry bits codes w E x y) q in (
            t,
            h,
            λ b.
                let now : steps_at (slice_get v.atts b) ≡ steps_at (slice_get (effect bits codes w x).atts b) + turn_count bits codes b (effect bits codes w x) es = k b in
                let before : steps_at (slice_get (effect bits codes w x).atts b) ≡ steps_at (slice_get w.atts b) + cond (is_turn codes w b x) 1 0 = effect_turns bits codes w x y b in
                omega arith,
          )
      go r false y q = absurd (run_lost es v q)

  over_ends : (w : World M S B) → IsTalliedWorld w → (a : ℕ) (t : Attempt) (f : Bool) → slice_get w.atts a ≡ Some t → t.phase ≡ AttemptOver f → t.live ≡ false
  over_ends w T a t f e p = by t.live refl
    where
      by : (b : Bool) → t.live ≡ b → b ≡ false
      by true l = absurd (subst IsOn p (T.on a t e l))
      by false l = refl

  pub queue_is_right : (first : M → S) (o : Opening M) (es : List Event) (w : World M S B) → run bits codes first o es ≡ Some w → QueueIsRight bits codes (start first o) w es
  queue_is_right first o es w e =
      let (T, E, K) = run_right es (start first o) w (start_tallied first B o) (λ n. sym (start_absent M B 0 o.sessions n)) e in
      record {
        tallied = T.tallied;
        given_up = T.given_up;
        steps = λ a t found.
            let x : t.steps ≡ steps_at (slice_get w.atts a) = ap steps_at (sym found) in
            let y : steps_at (slice_get w.atts a) ≡ steps_at (slice_get [] a) + turn_count bits codes a (start first o) es = K a in
            let z : steps_at (slice_get [] a) ≡ 0 = steps_none a in
            omega arith;
        over = over_ends w T;
        entries = E;
        tombstones = λ a t i found at own dead. (retreats bits codes w a t i found at own dead, acks_next bits codes w i);
      }

  pub run_tallied : (first : M → S) (o : Opening M) (es : List Event) (w : World M S B) → run bits codes first o es ≡ Some w → IsTalliedWorld w
  run_tallied first o es w e = (run_right es (start first o) w (start_tallied first B o) (λ n. sym (start_absent M B 0 o.sessions n)) e).0
