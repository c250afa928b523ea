-- Marks, acknowledgements and every event keep what the lists show.
use Rattle.std.proofs.Common.{ℕ, zero, suc, ◌+◌, ◌<◌, ◌≤◌, ◌≡◌, ◌⊎◌, inl, inr, refl, sym, ap, ◌∙◌, subst, Bool, true, false, cond, nat_lt, List, [], ◌∷◌, ◌++◌, length, slice_get, slice_set, Option, Some, None, arith, length-append}
use Rattle.std.proofs.lemmas.Option.{same_Some}
use Rattle.std.proofs.lemmas.Bool.{ltb-false}
use Rattle.fn_table.specs.declared.kind.FnKind.{FnKind}
use Rattle.fn_table.specs.Answers.{answer}
use Rattle.asl_model.specs.Data.{Text, Json, Outcome}
use Rattle.asl_model.specs.Names as names
use Rattle.asl_model.specs.Names.{Name, scope_of, child}
use Rattle.asl_model.specs.Laws.{In}
use Rattle.place_name.specs.declared.obj.Obj.{Obj}
use Rattle.place_name.specs.declared.obj.Obj.TheVariants.{Check, Out, Saved, Bits, Arg}
use Rattle.world_model.specs.Operations.{name_at, root, Kept, Condition, Absent, Live, Tombstone, Invocation, ArgIs}
use Rattle.world_model.specs.Acts.{parent_of, acts, due_objects}
use Rattle.world_model.specs.Program.{Phase, Looking, Saving, Gathering, Reading, Calling, Creating, Acting, Joining, Marking, Acking, AttemptOver, Doing, Do, Ask, Nothing, source, call_of, asking, marking, next_of, called_phase, after_look, after_saved, after_out, after_read}
use Rattle.world_model.specs.World.{Opening, Session, Entry, InvState, Attempt, World, Event, Deliver, Crash, Step, Answer, GiveUp, function_of, objects_with, marked_world, look_reply, fresh_state, state_after_ack, state_after_crash, with_state, with_inv, with_att, moved_world, stepped_world, asked_world, answered_world, delivered_world, crashed_world, effect, enabled, start, start_objects, root_inv, root_invs, root_states, run_from}
use Rattle.world_model.proofs.Gets.{get_pushed, get_set, get_last, in_get}
use Rattle.world_model.proofs.Keeps.{WorldKeeps, PhaseOk, KeptOk, Due, due_ok}
use Rattle.world_model.proofs.Every.{phase_of, run_none, root_get, effect_ok, start_ok}
use Rattle.world_model.proofs.Leaves.{Objects, before_of, Closed, LeftOk, MarksLeft, PhaseLeft, Leaves, WorldLeaves, more_same, Later, marks_later, put_there, put_has, put_later, put_left, att_left}
use Rattle.world_model.proofs.Looks.{moved_left, due_split, before_no_check, check_last, due_there, looked_left, after_saved_left, after_out_left, after_read_left, created_left, le_cases}
use Rattle.world_model.proofs.Traces.{acting_left, joining_left}
use Rattle.world_model.specs.AnyCode.Program as program
use Rattle.world_model.specs.AnyCode.World as worlds

-- ---------------------------------------------------------------- a mark

due_at : (n : Name) (count l : ℕ) (x : Obj) → slice_get (before_of n count n.kind ++ Check n ∷ []) l ≡ Some x → slice_get (due_objects n count) l ≡ Some x
due_at n count l x e = subst (λ (z : List Obj). slice_get z l ≡ Some x) (sym (due_split n count n.kind)) e

module _ (w : World) (L : WorldLeaves w) (a : ℕ) (t : Attempt) (i : Invocation) (k : Kept) (at : slice_get w.invs t.inv ≡ Some i) (m : ℕ) (kp : KeptOk w.opening w.journal i.name k) (d : MarksLeft w.opening w.objects w.invs w.journal i k m) where
  -- where the own Check becomes a tombstone, it is the last
  own_left : (n : Name) → slice_get (due_objects i.name k.count) m ≡ Some (Check n) → i.name ≡ n → Later w.opening w.objects (objects_with (Check n) Tombstone w.objects) w.invs w.invs w.journal w.journal →
      Closed w.opening (objects_with (Check n) Tombstone w.objects) w.invs w.journal n
  own_left n e h F =
      let f : Objects = objects_with (Check n) Tombstone w.objects in
      let before : List Obj = before_of i.name k.count i.name.kind in
      let dd : MarksLeft w.opening f w.invs w.journal i k m = marks_later w.opening w.objects f w.invs w.invs w.journal w.journal F i k m d in
      let last : m ≡ length before = check_last before i.name n m (before_no_check i.name k.count i.name.kind) (subst (λ (z : List Obj). slice_get z m ≡ Some (Check n)) (due_split i.name k.count i.name.kind) e) in
      subst (Closed w.opening f w.invs w.journal) h (record {
        kept = k;
        number = t.inv;
        invocation = i;
        found = at;
        name_is = refl;
        kept_ok = kp;
        fan = dd.ready.fan;
        acted = dd.acted;
        gone = λ y q. let (l, lt, g) = in_get before (Check i.name ∷ []) y q in dd.gone l y (due_at i.name k.count l y g) (omega arith);
      })

  gone_left : (x : Obj) → slice_get (due_objects i.name k.count) m ≡ Some x → Due i.name x → Later w.opening w.objects (objects_with x Tombstone w.objects) w.invs w.invs w.journal w.journal →
      LeftOk w.opening (objects_with x Tombstone w.objects) w.invs w.journal x Tombstone
  gone_left (Check n) e h F = own_left n e h F
  gone_left (Out s) e h F = tt
  gone_left (Saved p) e h F = tt
  gone_left (Bits p c) e h F = record { number = t.inv; invocation = i; found = at; name_is = h }
  gone_left (Arg n) e h F = tt

  gone_later : (x : Obj) → Due i.name x → Later w.opening w.objects (objects_with x Tombstone w.objects) w.invs w.invs w.journal w.journal
  gone_later x h =
      put_later w.opening w.objects w.invs w.journal w.journal x Tombstone (more_same w.opening w.journal) (λ q. cc) (λ q. refl)
      (λ p count g q r. inl (record { number = t.inv; invocation = i; found = at; name_is = subst (Due i.name) (sym q) h }))

  gone_step : (x : Obj) → slice_get (due_objects i.name k.count) m ≡ Some x → Due i.name x → (p : Phase) → PhaseLeft w.opening (objects_with x Tombstone w.objects) w.invs w.journal i p → WorldLeaves (moved_world (record w { objects = objects_with x Tombstone w.objects }) a t true p)
  gone_step x e h p ok =
      let F : Later w.opening w.objects (objects_with x Tombstone w.objects) w.invs w.invs w.journal w.journal = gone_later x h in
      moved_left (record w { objects = objects_with x Tombstone w.objects }) a t i true p (put_left w.opening w.objects w.invs w.states w.atts w.journal w.journal L x Tombstone F (gone_left x e h F)) at ok

-- the phase after the m-th mark
mark_phase : (w : World) (f : Objects) (i : Invocation) (k : Kept) (m : ℕ) (x : Obj) → MarksLeft w.opening f w.invs w.journal i k m → slice_get (due_objects i.name k.count) m ≡ Some x → f x ≡ Tombstone →
    (b : Bool) → nat_lt (suc m) (length (due_objects i.name k.count)) ≡ b → PhaseLeft w.opening f w.invs w.journal i (cond b (Marking k (suc m)) (Acking true))
mark_phase w f i k m x d e g = by
  where
    all : (l : ℕ) (y : Obj) → slice_get (due_objects i.name k.count) l ≡ Some y → l < suc m → f y ≡ Tombstone
    all l y q lt = elim (le_cases l m (omega arith)) [
      | inl s ↦ d.gone l y q s
      | inr s ↦ let z : Some x ≡ Some y = sym e ∙ ap (slice_get (due_objects i.name k.count)) (sym s) ∙ q in subst (λ u. f u ≡ Tombstone) (same_Some x y z) g
    ]

    by : (b : Bool) → nat_lt (suc m) (length (due_objects i.name k.count)) ≡ b → PhaseLeft w.opening f w.invs w.journal i (cond b (Marking k (suc m)) (Acking true))
    by true r = record { ready = d.ready; own = d.own; acted = d.acted; gone = all }
    by false r =
        let before : List Obj = before_of i.name k.count i.name.kind in
        let l : length (due_objects i.name k.count) ≤ suc m = ltb-false (suc m) (length (due_objects i.name k.count)) r in
        let s : length (due_objects i.name k.count) ≡ length before + 1 = ap (λ (z : List Obj). length z) (due_split i.name k.count i.name.kind) ∙ length-append before (Check i.name ∷ []) in
        all (length before) (Check i.name) (due_at i.name k.count (length before) (Check i.name) (get_last before (Check i.name))) (omega arith)

mark_left : (w : World) → WorldLeaves w → (a : ℕ) (t : Attempt) (i : Invocation) (k : Kept) → slice_get w.invs t.inv ≡ Some i → (m : ℕ) → KeptOk w.opening w.journal i.name k → MarksLeft w.opening w.objects w.invs w.journal i k m →
    (x : Obj) → slice_get (due_objects i.name k.count) m ≡ Some x → Due i.name x → (c : Condition) → w.objects x ≡ c →
    WorldLeaves (moved_world (marked_world w x c) a t true (cond (nat_lt (suc m) (length (due_objects i.name k.count))) (Marking k (suc m)) (Acking true)))
mark_left w L a t i k at m kp d x e h Absent q = absurd (due_there w.opening w.objects w.journal i.name k.count d.ready d.own m x e q)
mark_left w L a t i k at m kp d x e h (Live y) q =
    let f : Objects = objects_with x Tombstone w.objects in
    let dd : MarksLeft w.opening f w.invs w.journal i k m = marks_later w.opening w.objects f w.invs w.invs w.journal w.journal (gone_later w L a t i k at m kp d x h) i k m d in
    gone_step w L a t i k at m kp d x e h _ (mark_phase w f i k m x dd e (put_there w.objects x Tombstone) (nat_lt (suc m) (length (due_objects i.name k.count))) refl)
mark_left w L a t i k at m kp d x e h Tombstone q =
    let f : Objects = objects_with x Tombstone w.objects in
    let dd : MarksLeft w.opening f w.invs w.journal i k m = marks_later w.opening w.objects f w.invs w.invs w.journal w.journal (gone_later w L a t i k at m kp d x h) i k m d in
    gone_step w L a t i k at m kp d x e h _ (mark_phase w f i k m x dd e (put_there w.objects x Tombstone) (nat_lt (suc m) (length (due_objects i.name k.count))) refl)

marking_left : (w : World) → WorldLeaves w → (a : ℕ) (t : Attempt) (i : Invocation) (k : Kept) → slice_get w.invs t.inv ≡ Some i → (m : ℕ) → KeptOk w.opening w.journal i.name k → MarksLeft w.opening w.objects w.invs w.journal i k m →
    (z : Option Obj) → slice_get (due_objects i.name k.count) m ≡ z → WorldLeaves (stepped_world w a t i (Marking k m) (marking z))
unfolding program.absorb
marking_left w L a t i k at m kp d None e = L
marking_left w L a t i k at m kp d (Some x) e = mark_left w L a t i k at m kp d x e (due_ok i.name k.count i.name.kind refl m x e) (w.objects x) refl

-- ---------------------------------------------------------------- what the queue knows

-- a change by which an invocation is acknowledged only where its Check is a tombstone
states_left : (o : Opening) (f : Objects) (invs : List Invocation) (states : List InvState) (atts : List Attempt) (j : List Entry) → Leaves o f invs states atts j → (n : ℕ) (g : InvState → InvState) (s : InvState) →
    slice_get states n ≡ Some s → ((g s).acked ≡ true → (s.acked ≡ true) ⊎ ((i : Invocation) → slice_get invs n ≡ Some i → f (Check i.name) ≡ Tombstone)) → Leaves o f invs (slice_set states n (g s)) atts j
states_left o f invs states atts j L n g s e h = record {
  left = L.left;
  invited = L.invited;
  attempts = L.attempts;
  acknowledged = λ k i x a b q. elim (get_set states n (g s) k x b) [
    | inl p ↦
        let r : (g s).acked ≡ true = ap (λ (z : InvState). z.acked) p.1 ∙ q in
        let y : slice_get invs n ≡ Some i = ap (slice_get invs) (sym p.0) ∙ a in
        elim (h r) [ inl u ↦ L.acknowledged n i s y e u | inr u ↦ u i y ]
    | inr p ↦ L.acknowledged k i x a p q
  ];
  roots = L.roots;
}

with_left : (w : World) → WorldLeaves w → (n : ℕ) (g : InvState → InvState) → ((s : InvState) → (g s).acked ≡ s.acked) → (x : Option InvState) → slice_get w.states n ≡ x → WorldLeaves (with_state w n g x)
with_left w L n g same None e = L
with_left w L n g same (Some s) e = states_left w.opening w.objects w.invs w.states w.atts w.journal L n g s e (λ q. inl (sym (same s) ∙ q))

ack_left : (w : World) → WorldLeaves w → (a : ℕ) (t : Attempt) (i : Invocation) (finished : Bool) → slice_get w.invs t.inv ≡ Some i → w.objects (Check i.name) ≡ Tombstone → (x : Option InvState) → slice_get w.states t.inv ≡ x →
    WorldLeaves (moved_world (with_state w t.inv state_after_ack x) a t false (AttemptOver finished))
ack_left w L a t i b at g None e = moved_left w a t i false (AttemptOver b) L at g
ack_left w L a t i b at g (Some s) e =
    moved_left (with_state w t.inv state_after_ack (Some s)) a t i false (AttemptOver b)
    (states_left w.opening w.objects w.invs w.states w.atts w.journal L t.inv state_after_ack s e (λ q. inr (λ y z. subst (λ (u : Invocation). w.objects (Check u.name) ≡ Tombstone) (same_Some i y (sym at ∙ z)) g)))
    at g

-- ---------------------------------------------------------------- a step

-- a call is no step
asking_left : (w : World) → WorldLeaves w → (a : ℕ) (t : Attempt) (i : Invocation) (p : Phase) (z : Option (Text × Json)) → WorldLeaves (stepped_world w a t i p (asking z))
asking_left w L a t i p None = L
asking_left w L a t i p (Some c) = L

step_left : (w : World) → WorldKeeps w → WorldLeaves w → (a : ℕ) (t : Attempt) (i : Invocation) → slice_get w.invs t.inv ≡ Some i →
    (p : Phase) → PhaseOk w.opening w.journal a i p → PhaseLeft w.opening w.objects w.invs w.journal i p → WorldLeaves (stepped_world w a t i p (next_of i p))
unfolding program.next_of program.absorb
step_left w K L a t i at Looking d e =
    moved_left w a t i true (after_look i a (look_reply (w.objects (Check i.name)))) L at (looked_left w K L a t.inv i at (w.objects (Check i.name)) refl)
step_left w K L a t i at Saving d e =
    moved_left w a t i true (after_saved i.site.spot a (look_reply (w.objects (Saved i.name.place)))) L at (after_saved_left w K L a t.inv i at d.0 d.1 (w.objects (Saved i.name.place)) refl)
step_left w K L a t i at (Gathering count raw used outs) d e =
    let x : Obj = Out (child i.name.place (length outs) count) in
    moved_left w a t i true (after_out i.site.spot a count raw used outs (look_reply (w.objects x))) L at (after_out_left w K L a t.inv i at d.0.name d.0.is_join count raw used outs d.0.fan e (w.objects x) refl)
step_left w K L a t i at Reading d e =
    moved_left w a t i true (after_read i a (look_reply (w.objects (source i)))) L at (after_read_left w K L a t.inv i at (w.objects (source i)) refl)
step_left w K L a t i at (Calling raw used) d e = asking_left w L a t i (Calling raw used) (call_of i.site raw)
step_left w K L a t i at (Creating k) d e = created_left w K L a t i k at e (w.objects (Check i.name)) refl
step_left w K L a t i at (Acting k m) d e = acting_left w K L a t i k at m d e (slice_get (acts i k) m) refl
step_left w K L a t i at (Joining k) d e = joining_left w K L a t i k at e (parent_of (scope_of i.name.place)) refl i.site.around
step_left w K L a t i at (Marking k m) d e = marking_left w L a t i k at m d e (slice_get (due_objects i.name k.count) m) refl
step_left w K L a t i at (Acking finished) d e = ack_left w L a t i finished at e (slice_get w.states t.inv) refl
step_left w K L a t i at (AttemptOver finished) d e = L

-- ---------------------------------------------------------------- an answer

back_left : (o : Opening) (f : Objects) (invs : List Invocation) (j : List Entry) (i : Invocation) (a : ℕ) (p : Phase) (x : Outcome) → PhaseLeft o f invs j i p → PhaseLeft o f invs j i (called_phase i a p x)
back_left o f invs j i a (Calling raw used) x h = h
back_left o f invs j i a Looking x h = h
back_left o f invs j i a Saving x h = h
back_left o f invs j i a (Gathering count raw used outs) x h = h
back_left o f invs j i a Reading x h = h
back_left o f invs j i a (Creating k) x h = h
back_left o f invs j i a (Acting k m) x h = h
back_left o f invs j i a (Joining k) x h = h
back_left o f invs j i a (Marking k m) x h = h
back_left o f invs j i a (Acking b) x h = h
back_left o f invs j i a (AttemptOver b) x h = h

answered_left : (w : World) → WorldLeaves w → (a : ℕ) (t : Attempt) (i : Invocation) → slice_get w.atts a ≡ Some t → slice_get w.invs t.inv ≡ Some i → (x : Json) (f : Option FnKind) → WorldLeaves (answered_world w a t i x f)
answered_left w L a t i found at x None = L
answered_left w L a t i found at x (Some kind) =
    let y : Outcome = answer kind x a in
    moved_left w a t i true (called_phase i a t.phase y) L at (back_left w.opening w.objects w.invs w.journal i a t.phase y (L.attempts a t i found at))

asked_left : (w : World) → WorldLeaves w → (a : ℕ) (t : Attempt) (i : Invocation) → slice_get w.atts a ≡ Some t → slice_get w.invs t.inv ≡ Some i → (d : Doing) → WorldLeaves (asked_world w a t i d)
asked_left w L a t i found at (Do op) = L
asked_left w L a t i found at Nothing = L
asked_left w L a t i found at (Ask r x) = answered_left w L a t i found at x (function_of w.opening.functions r)

-- ---------------------------------------------------------------- each event

delivered_left : (w : World) → WorldLeaves w → (n : ℕ) (s : Option InvState) → slice_get w.states n ≡ s → WorldLeaves (delivered_world w n s)
delivered_left w L n None e = L
delivered_left w L n (Some s) e =
    let u : Attempt = record { inv = n; live = true; steps = 0; phase = Looking } in
    let M = states_left w.opening w.objects w.invs w.states w.atts w.journal L n (λ x. record x { tries = suc x.tries; live = suc x.live }) s e (λ q. inl q) in
    record {
      left = L.left;
      invited = L.invited;
      attempts = λ a t i f g. elim (get_pushed w.atts u a t f) [
        | inl p ↦ L.attempts a t i p g
        | inr p ↦ subst (λ (z : Attempt). PhaseLeft w.opening w.objects w.invs w.journal i z.phase) p tt
      ];
      acknowledged = M.acknowledged;
      roots = L.roots;
    }

crashed_left : (w : World) → WorldLeaves w → (a : ℕ) (t : Attempt) → slice_get w.atts a ≡ Some t → WorldLeaves (crashed_world w a t)
crashed_left w L a t found =
    let u : Attempt = record t { live = false } in
    let v : World = record w { atts = slice_set w.atts a u } in
    with_left v (att_left w.opening w.objects w.invs w.states w.atts w.journal L a t u refl (λ i e. L.attempts a t i found e)) t.inv state_after_crash (λ s. refl) (slice_get w.states t.inv) refl

with_inv_left : (w : World) → WorldLeaves w → (t : Attempt) (f : Invocation → World) → ((i : Invocation) → slice_get w.invs t.inv ≡ Some i → WorldLeaves (f i)) →
    (x : Option Invocation) → slice_get w.invs t.inv ≡ x → WorldLeaves (with_inv w t f x)
with_inv_left w L t f g None q = L
with_inv_left w L t f g (Some i) q = g i q

with_att_left : (w : World) → WorldLeaves w → (a : ℕ) (f : Attempt → World) → ((t : Attempt) → slice_get w.atts a ≡ Some t → WorldLeaves (f t)) →
    (x : Option Attempt) → slice_get w.atts a ≡ x → WorldLeaves (with_att w f x)
with_att_left w L a f g None q = L
with_att_left w L a f g (Some t) q = g t q

pub effect_left : (w : World) → WorldKeeps w → WorldLeaves w → (e : Event) → WorldLeaves (effect w e)
unfolding worlds.effect
effect_left w K L (Deliver n) = delivered_left w L n (slice_get w.states n) refl
effect_left w K L (Crash a) = with_att_left w L a (λ t. crashed_world w a t) (λ t found. crashed_left w L a t found) (slice_get w.atts a) refl
effect_left w K L (Step a) =
    with_att_left w L a (λ t. with_inv w t (λ i. stepped_world w a t i t.phase (next_of i t.phase)) (slice_get w.invs t.inv))
    (λ t found. with_inv_left w L t (λ i. stepped_world w a t i t.phase (next_of i t.phase))
    (λ i at. step_left w K L a t i at t.phase (phase_of w K a t i found at) (L.attempts a t i found at)) (slice_get w.invs t.inv) refl)
    (slice_get w.atts a) refl
effect_left w K L (Answer a) =
    with_att_left w L a (λ t. with_inv w t (λ i. asked_world w a t i (next_of i t.phase)) (slice_get w.invs t.inv))
    (λ t found. with_inv_left w L t (λ i. asked_world w a t i (next_of i t.phase))
    (λ i at. asked_left w L a t i found at (next_of i t.phase)) (slice_get w.invs t.inv) refl)
    (slice_get w.atts a) refl
effect_left w K L (GiveUp n) = with_left w L n (λ s. record s { dead = true }) (λ s. refl) (slice_get w.states n) refl

-- ---------------------------------------------------------------- the opening world

root_found : (s : ℕ) (xs : List Session) (k : ℕ) (x : Session) → slice_get xs k ≡ Some x → slice_get (root_invs s xs) k ≡ Some (root_inv (s + k) x)
unfolding worlds.root_invs
root_found s [] k x e = absurd (cc)
root_found s (y ∷ xs) zero x e =
    let z : s ≡ s + 0 = omega arith in
    subst (λ n. Some (root_inv s y) ≡ Some (root_inv n x)) z (ap (λ (u : Session). Some (root_inv s u)) (same_Some y x e))
root_found s (y ∷ xs) (suc k) x e =
    let z : suc s + k ≡ s + suc k = omega arith in
    subst (λ n. slice_get (root_invs (suc s) xs) k ≡ Some (root_inv n x)) z (root_found (suc s) xs k x e)

nothing_left : (o : Opening) (f : Objects) (invs : List Invocation) (x : Obj) → LeftOk o f invs [] x Absent
nothing_left o f invs (Check n) = tt
nothing_left o f invs (Out s) = tt
nothing_left o f invs (Saved p) = tt
nothing_left o f invs (Bits p c) = tt
nothing_left o f invs (Arg n) = tt

-- a session's first Enter collects its Arg
root_arg_left : (s : ℕ) (x : Session) (count : ℕ) → In (Arg (root_inv s x).name) (before_of (root_inv s x).name count names.Enter)
unfolding parent_of
root_arg_left s x count = inl refl

args_left : (o : Opening) (f : Objects) (invs : List Invocation) (s : ℕ) (xs : List Session) (x : Obj) → LeftOk o f invs [] x (start_objects s xs x)
unfolding worlds.start_objects
args_left o f invs s [] x = nothing_left o f invs x
args_left o f invs s (y ∷ ys) x =
    put_has (LeftOk o f invs []) (start_objects (suc s) ys) (Arg (root_inv s y).name) (Live (ArgIs y.input [])) (root_arg_left s y) (args_left o f invs (suc s) ys) x

root_acked : (xs : List Session) (k : ℕ) (s : InvState) → slice_get (root_states xs) k ≡ Some s → s.acked ≡ true → ⊥
unfolding root_states
root_acked [] k s e q = cc
root_acked (x ∷ xs) zero s e q = let z : false ≡ true = ap (λ (u : InvState). u.acked) (same_Some fresh_state s e) ∙ q in cc
root_acked (x ∷ xs) (suc k) s e q = root_acked xs k s e q

pub start_leaves : (o : Opening) → WorldLeaves (start o)
start_leaves o = record {
  left = args_left o (start o).objects (root_invs 0 o.sessions) 0 o.sessions;
  invited = λ k i e q.
      let r = root_get 0 o.sessions k i e in
      absurd (let z : names.Enter ≡ names.Join = ap (λ (z : Invocation). z.name.kind) r.2 ∙ q in cc);
  attempts = λ a t i e f. absurd (let z : None ≡ Some t = e in cc);
  acknowledged = λ k i s e f q. absurd (root_acked o.sessions k s f q);
  roots = λ s x e.
      let z : 0 + s ≡ s = omega arith in
      record { number = s; invocation = root_inv (0 + s) x; found = root_found 0 o.sessions s x e; name_is = ap (λ (n : ℕ). name_at (root n) 0 names.Enter) z };
}

-- ---------------------------------------------------------------- runs

pub record Both (w : World) : Type 0 where
  pub keeps : WorldKeeps w
  pub leaves : WorldLeaves w

pub run_both : (es : List Event) (w v : World) → Both w → run_from (Some w) es ≡ Some v → Both v
unfolding worlds.run_from
run_both [] w v B e = subst Both (same_Some w v e) B
run_both (x ∷ es) w v B e =
    go (λ q. run_both es (effect w x) v (record { keeps = effect_ok w B.keeps x; leaves = effect_left w B.keeps B.leaves x }) q) (enabled w x) e
  where
    go : (run_from (Some (effect w x)) es ≡ Some v → Both v) → (b : Bool) → run_from (cond b (Some (effect w x)) None) es ≡ Some v → Both v
    go r true q = r q
    go r false q = absurd (run_none es v q)

pub start_both : (o : Opening) → Both (start o)
start_both o = record { keeps = start_ok o; leaves = start_leaves o }
