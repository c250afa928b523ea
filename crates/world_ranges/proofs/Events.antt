-- Each event keeps a world in range.
use Rattle.std.proofs.Common.{◌≡◌, ℕ, zero, suc, ◌+◌, ◌<◌, ◌≤◌, Bool, true, false, cond, inl, inr, List, [], ◌∷◌, ◌++◌, length, slice_get, slice_set, Option, Some, None, refl, sym, ap, ◌∙◌, subst, arith}
use Rattle.std.proofs.lemmas.Option.{same_Some, slice_get_within}
use Rattle.std.proofs.lemmas.List.{length_push}
use Rattle.fn_table.specs.declared.kind.FnKind.{FnKind}
use Rattle.fn_table.specs.Answers.{answer}
use Rattle.place_name.specs.declared.kind.Kind.TheVariants as kinds
use Rattle.place_name.specs.declared.limits.TheConstants.{SESSIONS}
use Rattle.place_name.specs.declared.obj.Obj.{Obj}
use Rattle.place_name.specs.declared.obj.Obj.TheVariants.{Bits, Arg}
use Rattle.place_name.specs.Names.{Place, IsParent}
use Rattle.place_name.specs.Same.{object_same}
use Rattle.place_name.proofs.Sameness.{object_is}
use Rattle.world_model.specs.AnyCode.Code.{Json, no_flags, flags}
use Rattle.world_model.specs.AnyCode.Operations.{Held, KeptAs, OutcomeIs, SavedAs, BitsAre, ArgIs, Condition, Absent, Live, Tombstone, Invocation, Op, Look, Create, Set, Invoke, Mark, Ack, Reply}
use Rattle.world_model.specs.AnyCode.Program.{Phase, Looking, Doing, Do, Ask, Nothing, next_of, absorb, called_phase}
use Rattle.world_model.specs.AnyCode.World.{Session, Opening, InvState, Attempt, World, Event, Deliver, Crash, Step, Answer, GiveUp, Codes, code_of, root_name, root_inv, root_invs, root_states, objects_with, start_objects, start, fresh_state, function_of, look_reply, create_reply, bits_or, reply_to, created_objects, marked_objects, bit_objects, state_after_crash, state_after_ack, states_with, with_state, performed_world, lives_on, moved_world, stepped_world, answered_world, asked_world, with_inv, with_att, delivered_world, crashed_world, effect, enabled, run_from}
use Rattle.world_model.proofs.Gets.{get_append, get_pushed, get_set}
use Rattle.world_ranges.specs.Roles.{Role, IsSite, StaysInRange}
use Rattle.world_ranges.specs.Ranges.{IsObject, IsHeldBy, IsInvocation, IsOperation, IsPhase, IsAttempt, IsInRange}
use Rattle.world_ranges.specs.Worlds.{AllStay, OpensInRange, EveryStartIsInRange, EveryEventKeepsRange, EveryNextIsInRange, EveryInstanceDoesFew, EveryRunIsInRange}
use Rattle.world_ranges.proofs.Nexts.{next_in, few_in}
use Rattle.world_ranges.proofs.Absorbs.{IsTold, Fits, absorb_in, called_in}

-- ---------------------------------------------------------------- lists

length-set : {A : Type 0} (xs : List A) (i : ℕ) (y : A) → length (slice_set xs i y) ≡ length xs
length-set [] i y = refl
length-set (x ∷ xs) zero y = refl
length-set (x ∷ xs) (suc i) y = ap suc (length-set xs i y)

length-flags : (n : ℕ) → length (no_flags n) ≡ n
length-flags zero = refl
length-flags (suc n) = ap suc (length-flags n)

has_item : {A : Type 0} (xs : List A) (i : ℕ) → i < length xs → (x : A) × (slice_get xs i ≡ Some x)
has_item [] i l = absurd (omega arith)
has_item (y ∷ xs) zero l = (y, refl)
has_item (y ∷ xs) (suc i) l = has_item xs i (omega arith)

-- ---------------------------------------------------------------- objects

abbrev Objects : Type 0
Objects = Obj → Condition (List Bool)

-- a condition that an object may be in
abbrev IsIn : Obj → Condition (List Bool) → Type 0
IsIn o c = (h : Held (List Bool)) → c ≡ Live h → IsObject o × IsHeldBy o h

abbrev AllIn : Objects → Type 0
AllIn f = (o : Obj) → IsIn o (f o)

put_by : (b : Bool) (x o : Obj) (c d : Condition (List Bool)) → (b ≡ true → x ≡ o) → IsIn o c → IsIn x d → IsIn x (cond b c d)
put_by true x o c d e h k = subst (λ z. IsIn z c) (sym (e refl)) h
put_by false x o c d e h k = k

put_in : (o : Obj) (c : Condition (List Bool)) (f : Objects) → IsIn o c → AllIn f → AllIn (objects_with o c f)
unfolding objects_with
put_in o c f h k = λ x. put_by (object_same x o) x o c (f x) (object_is x o) h (k x)

live_in : (o : Obj) (h : Held (List Bool)) → IsObject o → IsHeldBy o h → IsIn o (Live h)
live_in o h k m x e = (k, subst (IsHeldBy o) (held e) m)
  where
    held : {y z : Held (List Bool)} → ◌≡◌ {A = Condition (List Bool)} (Live y) (Live z) → y ≡ z
    held e = cc

created_in : (o : Obj) (h : Held (List Bool)) → IsObject o → IsHeldBy o h → (f : Objects) → AllIn f → (c : Condition (List Bool)) → AllIn (created_objects f o h c)
created_in o h k m f all Absent = put_in o (Live h) f (live_in o h k m) all
created_in o h k m f all (Live x) = all
created_in o h k m f all Tombstone = all

marked_in : (o : Obj) (f : Objects) → AllIn f → (c : Condition (List Bool)) → AllIn (marked_objects f o c)
marked_in o f all Absent = all
marked_in o f all (Live x) = put_in o Tombstone f (λ h e. absurd (cc)) all
marked_in o f all Tombstone = put_in o Tombstone f (λ h e. absurd (cc)) all

-- a flag set more
set_in : (n index : ℕ) (bs : List Bool) → length bs ≡ n → length (slice_set bs index true) ≡ n
set_in n index bs e = length-set bs index true ∙ e

held_bits : (p : Place) (n : ℕ) (h : Held (List Bool)) → IsHeldBy (Bits p n) h → length (bits_or (no_flags n) h) ≡ n
held_bits p n (BitsAre bs) e = e
held_bits p n (KeptAs k) e = length-flags n
held_bits p n (OutcomeIs o) e = length-flags n
held_bits p n (SavedAs c x u) e = length-flags n
held_bits p n (ArgIs x u) e = length-flags n

bit_in : (p : Place) (index n : ℕ) → IsObject (Bits p n) → (f : Objects) → AllIn f → (c : Condition (List Bool)) → f (Bits p n) ≡ c → AllIn (bit_objects flags f p index n c)
bit_in p index n k f all Absent e =
    let bs : List Bool = slice_set (no_flags n) index true in
    put_in (Bits p n) (Live (BitsAre bs)) f (live_in (Bits p n) (BitsAre bs) k (set_in n index (no_flags n) (length-flags n))) all
bit_in p index n k f all (Live h) e =
    let bs : List Bool = slice_set (bits_or (no_flags n) h) index true in
    put_in (Bits p n) (Live (BitsAre bs)) f (live_in (Bits p n) (BitsAre bs) k (set_in n index (bits_or (no_flags n) h) (held_bits p n h (all (Bits p n) h e).1))) all
bit_in p index n k f all Tombstone e = all

bits_object : (p : Place) (index n : ℕ) → IsParent (record { place = p; index = index; count = n }) → IsObject (Bits p n)
bits_object p index n h = let l : index < n = h.below_count in (h.is_place, omega arith, h.within)

-- ---------------------------------------------------------------- worlds

module _ (M S : Type 0) (sessions : ℕ) (roles : (session : ℕ) → S → Option Role) (codes : Codes S) (stays : AllStay sessions roles codes) where
  abbrev W : Type 0
  W = World M S (List Bool)

  abbrev In : W → Type 0
  In w = IsInRange sessions roles codes w

  abbrev InOp : Op S (List Bool) → Type 0
  InOp op = IsOperation sessions roles op

  -- ---- replies

  looked : (o : Obj) (f : Objects) → AllIn f → (c : Condition (List Bool)) → f o ≡ c → IsTold o (look_reply c)
  looked o f all Absent e = tt
  looked o f all (Live h) e = (all o h e).1
  looked o f all Tombstone e = tt

  told : (o : Obj) (f : Objects) → AllIn f → (c : Condition (List Bool)) → f o ≡ c → IsTold o (create_reply c)
  told o f all Absent e = tt
  told o f all (Live h) e = (all o h e).1
  told o f all Tombstone e = tt

  replied : (f : Objects) → AllIn f → (op : Op S (List Bool)) → Fits op (reply_to flags f op)
  replied f all (Look o) = looked o f all (f o) refl
  replied f all (Create o h) = told o f all (f o) refl
  replied f all (Set p index n) = tt
  replied f all (Invoke i) = tt
  replied f all (Mark o) = tt
  replied f all Ack = tt

  -- ---- operations

  -- attempts stay, where there is one invocation more
  further : (invs : List (Invocation S)) (i : Invocation S) (t : Attempt) → IsAttempt codes invs t → IsAttempt codes (invs ++ i ∷ []) t
  further invs i t h = record { i = h.i; there = get_append invs (i ∷ []) t.inv h.i h.there; phase = h.phase }

  invoked : (w : W) → In w → (i : Invocation S) → IsInvocation sessions roles i → In (record w { invs = w.invs ++ i ∷ []; states = w.states ++ fresh_state ∷ [] })
  invoked w k i h = record {
    invs = λ n j e. elim (get_pushed w.invs i n j e) [ inl q ↦ k.invs n j q | inr q ↦ subst (IsInvocation sessions roles) q h ];
    states = length_push w.states fresh_state ∙ ap (λ n. n + 1) k.states ∙ sym (length_push w.invs i);
    objects = k.objects;
    atts = λ a t e. further w.invs i t (k.atts a t e);
  }

  states_same : (states : List InvState) (n : ℕ) (f : InvState → InvState) (s : Option InvState) → length (states_with states n f s) ≡ length states
  states_same states n f None = refl
  states_same states n f (Some s) = length-set states n (f s)

  state_in : (w : W) → In w → (n : ℕ) (f : InvState → InvState) (s : Option InvState) → In (with_state w n f s)
  state_in w k n f s = record { invs = k.invs; states = states_same w.states n f s ∙ k.states; objects = k.objects; atts = k.atts }

  performed : (w : W) → In w → (a : ℕ) (t : Attempt) (op : Op S (List Bool)) → InOp op → In (performed_world flags w a t op)
  performed w k a t (Look o) h = record { invs = k.invs; states = k.states; objects = k.objects; atts = k.atts }
  performed w k a t (Create o x) h = record { invs = k.invs; states = k.states; objects = created_in o x h.0 h.1 w.objects k.objects (w.objects o); atts = k.atts }
  performed w k a t (Set p index n) h =
      record { invs = k.invs; states = k.states; objects = bit_in p index n (bits_object p index n h) w.objects k.objects (w.objects (Bits p n)) refl; atts = k.atts }
  performed w k a t (Invoke i) h = let v = invoked w k i h in record { invs = v.invs; states = v.states; objects = v.objects; atts = v.atts }
  performed w k a t (Mark o) h = record { invs = k.invs; states = k.states; objects = marked_in o w.objects k.objects (w.objects o); atts = k.atts }
  performed w k a t Ack h =
      record { invs = k.invs; states = states_same w.states t.inv state_after_ack (slice_get w.states t.inv) ∙ k.states; objects = k.objects; atts = k.atts }

  -- an invocation is still there
  still : (w : W) (a : ℕ) (t : Attempt) (op : Op S (List Bool)) (n : ℕ) (i : Invocation S) → slice_get w.invs n ≡ Some i → slice_get (performed_world flags w a t op).invs n ≡ Some i
  still w a t (Look o) n i e = e
  still w a t (Create o x) n i e = e
  still w a t (Set p index c) n i e = e
  still w a t (Invoke j) n i e = get_append w.invs (j ∷ []) n i e
  still w a t (Mark o) n i e = e
  still w a t Ack n i e = e

  -- ---- attempts

  moved : (w : W) → In w → (a : ℕ) (t : Attempt) (lives : Bool) (ph : Phase) (i : Invocation S) → slice_get w.invs t.inv ≡ Some i → IsPhase (code_of codes i) i ph → In (moved_world w a t lives ph)
  moved w k a t lives ph i there h =
      let new : Attempt = record { inv = t.inv; live = lives; steps = suc t.steps; phase = ph } in
      let is : IsAttempt codes w.invs new = record { i = i; there = there; phase = h } in
      record {
        invs = k.invs;
        states = k.states;
        objects = k.objects;
        atts = λ b u e. elim (get_set w.atts a new b u e) [ inl q ↦ subst (IsAttempt codes w.invs) q.1 is | inr q ↦ k.atts b u q ];
      }

  -- the invocation of an attempt
  phase_at : (w : W) → In w → (a : ℕ) (t : Attempt) → slice_get w.atts a ≡ Some t → (i : Invocation S) → slice_get w.invs t.inv ≡ Some i → IsPhase (code_of codes i) i t.phase
  phase_at w k a t e i there =
      let h = k.atts a t e in
      subst (λ (z : Invocation S). IsPhase (code_of codes z) z t.phase) (same_Some h.i i (sym h.there ∙ there)) h.phase

  code_stays : (i : Invocation S) → IsInvocation sessions roles i → StaysInRange (roles i.name.place.session) (code_of codes i)
  code_stays i h = stays i.name.place.session h.session

  pub next_at : (w : W) → In w → (a : ℕ) (t : Attempt) → slice_get w.atts a ≡ Some t → (i : Invocation S) → slice_get w.invs t.inv ≡ Some i → (op : Op S (List Bool)) → next_of (code_of codes i) i t.phase ≡ Do op → InOp op
  next_at w k a t e i there op q =
      let h = k.invs t.inv i there in
      next_in sessions roles (code_of codes i) i h (code_stays i h) t.phase (phase_at w k a t e i there) op q

  module _ (w : W) (k : In w) where
    did : (a : ℕ) (t : Attempt) → slice_get w.atts a ≡ Some t → (i : Invocation S) → slice_get w.invs t.inv ≡ Some i → (d : Doing S (List Bool)) → next_of (code_of codes i) i t.phase ≡ d →
        In (stepped_world flags codes w a t i t.phase d)
    did a t e i there (Do op) q =
        let h = k.invs t.inv i there in
        let v : W = performed_world flags w a t op in
        let r : Reply (List Bool) = reply_to flags w.objects op in
        let fits : (x : Op S (List Bool)) → next_of (code_of codes i) i t.phase ≡ Do x → Fits x r = λ x p. subst (λ (z : Op S (List Bool)). Fits z r) (same op x (sym q ∙ p)) (replied w.objects k.objects op) in
        moved v (performed w k a t op (next_at w k a t e i there op q)) a t (lives_on op) (absorb (code_of codes i) i a t.phase r) i (still w a t op t.inv i there)
        (absorb_in sessions roles (code_of codes i) i h a t.phase (phase_at w k a t e i there) r fits)
      where
        same : (x y : Op S (List Bool)) → ◌≡◌ {A = Doing S (List Bool)} (Do x) (Do y) → x ≡ y
        same x y e = cc
    did a t e i there (Ask r x) q = k
    did a t e i there Nothing q = k

    answered : (a : ℕ) (t : Attempt) → slice_get w.atts a ≡ Some t → (i : Invocation S) → slice_get w.invs t.inv ≡ Some i → (x : Json) (f : Option FnKind) → In (answered_world w a t x f)
    answered a t e i there x None = k
    answered a t e i there x (Some f) =
        let h = k.invs t.inv i there in
        moved w k a t true (called_phase a t.phase (answer f x a)) i there (called_in sessions roles (code_of codes i) i h a t.phase (answer f x a) (phase_at w k a t e i there))

    asked : (a : ℕ) (t : Attempt) → slice_get w.atts a ≡ Some t → (i : Invocation S) → slice_get w.invs t.inv ≡ Some i → (d : Doing S (List Bool)) → In (asked_world w a t d)
    asked a t e i there (Do op) = k
    asked a t e i there (Ask r x) = answered a t e i there x (function_of w.opening.functions r)
    asked a t e i there Nothing = k

    -- an attempt, and its invocation
    at_inv : (t : Attempt) (F : Invocation S → W) → ((i : Invocation S) → slice_get w.invs t.inv ≡ Some i → In (F i)) → (z : Option (Invocation S)) → slice_get w.invs t.inv ≡ z → In (with_inv w t F z)
    at_inv t F f None e = k
    at_inv t F f (Some i) e = f i e

    at_att : (a : ℕ) (F : Attempt → W) → ((t : Attempt) → slice_get w.atts a ≡ Some t → In (F t)) → (z : Option Attempt) → slice_get w.atts a ≡ z → In (with_att w F z)
    at_att a F f None e = k
    at_att a F f (Some t) e = f t e

    delivered : (n : ℕ) (s : Option InvState) → slice_get w.states n ≡ s → In (delivered_world w n s)
    delivered n None e = k
    delivered n (Some s) e =
        let new : Attempt = record { inv = n; live = true; steps = 0; phase = Looking } in
        let l = slice_get_within w.states n s e in
        let (i, there) = has_item w.invs n (let q = k.states in omega (arith, l, q)) in
        let is : IsAttempt codes w.invs new = record { i = i; there = there; phase = tt } in
        record {
          invs = k.invs;
          states = length-set w.states n _ ∙ k.states;
          objects = k.objects;
          atts = λ a t q. elim (get_pushed w.atts new a t q) [ inl p ↦ k.atts a t p | inr p ↦ subst (IsAttempt codes w.invs) p is ];
        }

    crashed : (a : ℕ) (t : Attempt) → slice_get w.atts a ≡ Some t → In (crashed_world w a t)
    crashed a t e =
        let new : Attempt = record t { live = false } in
        let h = k.atts a t e in
        let is : IsAttempt codes w.invs new = record { i = h.i; there = h.there; phase = h.phase } in
        let v : W = record w { atts = slice_set w.atts a new } in
        let m : In v = record {
          invs = k.invs;
          states = k.states;
          objects = k.objects;
          atts = λ b u q. elim (get_set w.atts a new b u q) [ inl p ↦ subst (IsAttempt codes w.invs) p.1 is | inr p ↦ k.atts b u p ];
        } in
        state_in v m t.inv state_after_crash (slice_get w.states t.inv)

    pub effect_in : (e : Event) → In (effect flags codes w e)
    unfolding effect
    effect_in (Deliver n) = delivered n (slice_get w.states n) refl
    effect_in (Crash a) = at_att a (λ t. crashed_world w a t) (λ t e. crashed a t e) (slice_get w.atts a) refl
    effect_in (Step a) =
        at_att a (λ t. with_inv w t (λ i. stepped_world flags codes w a t i t.phase (next_of (code_of codes i) i t.phase)) (slice_get w.invs t.inv))
        (λ t e. at_inv t (λ i. stepped_world flags codes w a t i t.phase (next_of (code_of codes i) i t.phase)) (λ i there. did a t e i there (next_of (code_of codes i) i t.phase) refl) (slice_get w.invs t.inv) refl)
        (slice_get w.atts a) refl
    effect_in (Answer a) =
        at_att a (λ t. with_inv w t (λ i. asked_world w a t (next_of (code_of codes i) i t.phase)) (slice_get w.invs t.inv))
        (λ t e. at_inv t (λ i. asked_world w a t (next_of (code_of codes i) i t.phase)) (λ i there. asked a t e i there (next_of (code_of codes i) i t.phase)) (slice_get w.invs t.inv) refl)
        (slice_get w.atts a) refl
    effect_in (GiveUp n) = state_in w k n (λ s. record s { dead = true }) (slice_get w.states n)

  -- ---- runs

  run_none : (es : List Event) (w : W) → run_from flags codes None es ≡ Some w → ⊥
  unfolding run_from
  run_none [] w e = cc
  run_none (x ∷ es) w e = run_none es w e

  run_in : (es : List Event) (w : W) → In w → (u : W) → run_from flags codes (Some w) es ≡ Some u → In u
  unfolding run_from
  run_in [] w k u e = subst In (let q : w ≡ u = same_Some w u e in q) k
  run_in (x ∷ es) w k u e = by (enabled codes w x) (λ q. run_in es (effect flags codes w x) (effect_in w k x) u q) e
    where
      by : (b : Bool) → (run_from flags codes (Some (effect flags codes w x)) es ≡ Some u → In u) → run_from flags codes (cond b (Some (effect flags codes w x)) None) es ≡ Some u → In u
      by true f q = f q
      by false f q = absurd (run_none es u q)

-- ---------------------------------------------------------------- the opening world

module _ (M S : Type 0) (roles : (session : ℕ) → S → Option Role) (first : M → S) where
  -- each session from n on begins at an Enter
  abbrev BeginsFrom : ℕ → List (Session M) → Type 0
  BeginsFrom n xs = (s : ℕ) (x : Session M) → slice_get xs s ≡ Some x → IsSite (roles (n + s)) (first x.machine) kinds.Enter 0

  later : (n : ℕ) (y : Session M) (xs : List (Session M)) → BeginsFrom n (y ∷ xs) → BeginsFrom (suc n) xs
  later n y xs k s x e = let z : n + suc s ≡ suc n + s = omega arith in subst (λ m. IsSite (roles m) (first x.machine) kinds.Enter 0) z (k (suc s) x e)

  here : (n : ℕ) (y : Session M) (xs : List (Session M)) → BeginsFrom n (y ∷ xs) → IsSite (roles n) (first y.machine) kinds.Enter 0
  here n y xs k = let z : n + 0 ≡ n = omega arith in subst (λ m. IsSite (roles m) (first y.machine) kinds.Enter 0) z (k 0 y refl)

  root_in : (sessions n : ℕ) (y : Session M) → n < sessions → sessions ≤ SESSIONS → IsSite (roles n) (first y.machine) kinds.Enter 0 → IsInvocation sessions roles (root_inv first n y)
  root_in sessions n y l few h = record {
    name = record { is_place = record { below_sessions = omega arith; is_trail = record { within = omega arith; segs = tt }; below_hops = omega arith }; is_kind = refl };
    session = l;
    site = h;
    room = omega arith;
  }

  roots_in : (sessions n : ℕ) (xs : List (Session M)) → n + length xs ≤ sessions → sessions ≤ SESSIONS → BeginsFrom n xs → (k : ℕ) (i : Invocation S) → slice_get (root_invs first n xs) k ≡ Some i → IsInvocation sessions roles i
  unfolding root_invs
  roots_in sessions n [] l few b k i e = absurd (cc)
  roots_in sessions n (y ∷ xs) l few b zero i e = subst (IsInvocation sessions roles) (same_Some (root_inv first n y) i e) (root_in sessions n y (omega arith) few (here n y xs b))
  roots_in sessions n (y ∷ xs) l few b (suc k) i e = roots_in sessions (suc n) xs (omega arith) few (later n y xs b) k i e

  states_there : (n : ℕ) (xs : List (Session M)) → length (root_states xs) ≡ length (root_invs first n xs)
  unfolding root_states root_invs
  states_there n [] = refl
  states_there n (y ∷ xs) = ap suc (states_there (suc n) xs)

  objects_in : (sessions n : ℕ) (xs : List (Session M)) → n + length xs ≤ sessions → sessions ≤ SESSIONS → AllIn (start_objects n xs)
  unfolding start_objects
  objects_in sessions n [] l few = λ o h e. absurd (cc)
  objects_in sessions n (y ∷ xs) l few =
      put_in (Arg (root_name n)) (Live (ArgIs y.input [])) (start_objects (suc n) xs)
      (live_in (Arg (root_name n)) (ArgIs y.input [])
      (record { is_place = record { below_sessions = omega arith; is_trail = record { within = omega arith; segs = tt }; below_hops = omega arith }; is_kind = refl }) tt)
      (objects_in sessions (suc n) xs (omega arith) few)

  start_in : (codes : Codes S) (o : Opening M) → OpensInRange roles first o → IsInRange (length o.sessions) roles codes (start first o)
  start_in codes o h = record {
    invs = roots_in (length o.sessions) 0 o.sessions (omega arith) h.few (λ s x e. let z : s ≡ 0 + s = omega arith in subst (λ m. IsSite (roles m) (first x.machine) kinds.Enter 0) z (h.begins s x e));
    states = states_there 0 o.sessions;
    objects = objects_in (length o.sessions) 0 o.sessions (omega arith) h.few;
    atts = λ a t e. absurd (cc);
  }

-- ---------------------------------------------------------------- the laws

pub every_start_is_in_range : (M S : Type 0) → EveryStartIsInRange M S
every_start_is_in_range M S roles codes first o h = start_in M S roles first codes o h

pub every_event_keeps_range : (M S : Type 0) → EveryEventKeepsRange M S
every_event_keeps_range M S sessions roles codes stays w k e = effect_in M S sessions roles codes stays w k e

pub every_next_is_in_range : (M S : Type 0) → EveryNextIsInRange M S
every_next_is_in_range M S sessions roles codes stays w k a t e i there = next_at M S sessions roles codes stays w k a t e i there

pub every_instance_does_few : (S : Type 0) → EveryInstanceDoesFew S
every_instance_does_few S sessions roles codes stays i h = few_in sessions roles (code_of codes i) i h (stays i.name.place.session h.session)

pub every_run_is_in_range : (M S : Type 0) → EveryRunIsInRange M S
every_run_is_in_range M S roles codes first o stays h es w e =
    run_in M S (length o.sessions) roles codes stays es (start first o) (start_in M S roles first codes o h) w e
