-- A Check is collected only once its name is finished.
use Rattle.std.proofs.Common.{ℕ, zero, suc, ◌+◌, ◌≡◌, ◌≢◌, inl, inr, refl, sym, ap, ◌∙◌, subst, Bool, true, false, cond, nat_lt, List, [], ◌∷◌, ◌++◌, length, slice_get, slice_set, Option, Some, None}
use Rattle.std.proofs.lemmas.Option.{same_Some}
use Rattle.fn_table.specs.declared.kind.FnKind.{FnKind}
use Rattle.fn_table.specs.Answers.{answer}
use Rattle.asl_model.specs.Data.{Text, Json, Outcome}
use Rattle.asl_model.specs.Names as names
use Rattle.asl_model.specs.Names.{Name, Scope, Place, at_hop, child, scope_of}
use Rattle.asl_model.specs.Machine.{Block}
use Rattle.asl_model.specs.Stretch.{Stop, Call, Fan, Over}
use Rattle.place_name.specs.declared.obj.Obj.{Obj}
use Rattle.place_name.specs.declared.obj.Obj.TheVariants.{Check, Out, Saved, Bits, Arg}
use Rattle.place_name.specs.Same.{object_same}
use Rattle.place_name.specs.Names.{Parent}
use Rattle.world_model.specs.Operations.{name_at, Site, Kept, Held, KeptAs, OutcomeIs, SavedAs, ArgIs, BitsAre, Condition, Absent, Live, Tombstone, Invocation, Op, Look, Create, Set, Invoke, Mark, Ack, Frame}
use Rattle.world_model.specs.Acts.{parent_of, join_of, task_of, enter_of, inner, width_of, width_in, at_once, enter_ops, fan_ops, pace_ops, set_ops, acts_of, stop_of, acts, due_objects}
use Rattle.world_model.specs.Program.{Phase, Looking, Saving, Gathering, Reading, Calling, Creating, Acting, Joining, Marking, Acking, AttemptOver, Doing, Do, Ask, Nothing, source, asking, doing, marking, joining, next_of, absorb, call_of, called_phase}
use Rattle.world_model.specs.World.{Opening, Session, InvState, Attempt, World, Event, Deliver, Crash, Step, Answer, GiveUp, function_of, objects_with, reply_to, lives_on, bits_of, state_after_ack, state_after_crash, with_state, created_world, marked_world, with_bit, performed_world, moved_world, stepped_world, asked_world, answered_world, with_inv, with_att, delivered_world, crashed_world, effect, enabled, run_from, start, start_objects, root_inv}
use Rattle.world_model.specs.Collecting.{HasFinished, IsFinished, EveryRunTakesNothingEarly}
use Rattle.place_name.proofs.Sameness.{object_is}
use Rattle.world_model.proofs.Gets.{get_append, set_get, set_own}
use Rattle.world_model.proofs.Keeps.{Due, due_ok, can_read, root_stays, source_stays}
use Rattle.world_model.proofs.Every.{run_none, run_ok, start_ok}
use Rattle.world_model.specs.AnyCode.Program as program
use Rattle.world_model.specs.AnyCode.World as worlds
use Rattle.world_model.proofs.Fanned.{fan_same, fan_act}

abbrev Finishes : (Obj → Condition) → List Invocation → List Attempt → Type 0
Finishes f invs atts = (n : Name) → f (Check n) ≡ Tombstone → IsFinished invs atts n

abbrev WorldFinishes : World → Type 0
WorldFinishes w = Finishes w.objects w.invs w.atts

-- ---------------------------------------------------------------- finished names stay so

finished_more : (invs more : List Invocation) (atts others : List Attempt) (n : Name) → IsFinished invs atts n → IsFinished (invs ++ more) (atts ++ others) n
finished_more invs more atts others n c = record {
  number = c.number;
  attempt = c.attempt;
  invocation = c.invocation;
  attempt_is = get_append atts others c.number c.attempt c.attempt_is;
  invocation_is = get_append invs more c.attempt.inv c.invocation c.invocation_is;
  name_is = c.name_is;
  finished = c.finished;
}

-- an attempt that moves stays past its acts
finished_moved : (invs : List Invocation) (atts : List Attempt) (n : Name) (a : ℕ) (t u : Attempt) → slice_get atts a ≡ Some t → u.inv ≡ t.inv → (HasFinished t.phase → HasFinished u.phase) →
    IsFinished invs atts n → IsFinished invs (slice_set atts a u) n
finished_moved invs atts n a t u found same on c =
    elim (set_get atts a u c.number c.attempt c.attempt_is) [
      | inl p ↦ record { number = c.number; attempt = c.attempt; invocation = c.invocation; attempt_is = p; invocation_is = c.invocation_is; name_is = c.name_is; finished = c.finished }
      | inr q ↦
          let s : c.attempt ≡ t = same_Some c.attempt t (sym c.attempt_is ∙ ap (slice_get atts) q.0 ∙ found) in
          record {
            number = c.number;
            attempt = u;
            invocation = c.invocation;
            attempt_is = q.1;
            invocation_is = ap (slice_get invs) (same ∙ sym (ap (λ (z : Attempt). z.inv) s)) ∙ c.invocation_is;
            name_is = c.name_is;
            finished = on (subst (λ (z : Attempt). HasFinished z.phase) s c.finished);
          }
    ]

moved_finishes : (w : World) → WorldFinishes w → (a : ℕ) (t u : Attempt) → slice_get w.atts a ≡ Some t → u.inv ≡ t.inv → (HasFinished t.phase → HasFinished u.phase) →
    Finishes w.objects w.invs (slice_set w.atts a u)
moved_finishes w F a t u found same on n e = finished_moved w.invs w.atts n a t u found same on (F n e)

-- ---------------------------------------------------------------- operations

cond_live : (b : Bool) (h : Held) (c : Condition) → cond b (Live h) c ≡ Tombstone → c ≡ Tombstone
cond_live true h c e = absurd (cc)
cond_live false h c e = e

put_live : (x : Obj) (h : Held) (f : Obj → Condition) (y : Obj) → objects_with x (Live h) f y ≡ Tombstone → f y ≡ Tombstone
unfolding objects_with
put_live x h f y e = cond_live (object_same y x) h (f y) e

created_finishes : (w : World) → WorldFinishes w → (a : ℕ) (x : Obj) (h : Held) (c : Condition) → WorldFinishes (created_world w a x h c)
created_finishes w F a x h Absent n e = F n (put_live x h w.objects (Check n) e)
created_finishes w F a x h (Live y) n e = F n e
created_finishes w F a x h Tombstone n e = F n e

bit_finishes : (w : World) → WorldFinishes w → (p : Place) (index count : ℕ) (c : Condition) → WorldFinishes (with_bit w p index count c)
bit_finishes w F p index count Absent n e = F n (put_live (Bits p count) (BitsAre (index ∷ [])) w.objects (Check n) e)
bit_finishes w F p index count (Live h) n e = F n (put_live (Bits p count) (BitsAre (index ∷ bits_of h)) w.objects (Check n) e)
bit_finishes w F p index count Tombstone n e = F n e

state_finishes : (w : World) → WorldFinishes w → (k : ℕ) (f : InvState → InvState) (s : Option InvState) → WorldFinishes (with_state w k f s)
state_finishes w F k f None = F
state_finishes w F k f (Some s) = F

append_nothing : {A : Type 0} (xs : List A) → xs ++ [] ≡ xs
append_nothing [] = refl
append_nothing (x ∷ xs) = ap (λ z. x ∷ z) (append_nothing xs)

invoked_finishes : (w : World) → WorldFinishes w → (v : Invocation) → Finishes w.objects (w.invs ++ v ∷ []) w.atts
invoked_finishes w F v n e = subst (λ z. IsFinished (w.invs ++ v ∷ []) z n) (append_nothing w.atts) (finished_more w.invs (v ∷ []) w.atts [] n (F n e))

abbrev NoMark : Op → Type 0
NoMark (Mark x) = ⊥
NoMark _ = Unit {0}

performed : (w : World) → WorldFinishes w → (a : ℕ) (t : Attempt) (op : Op) → NoMark op → WorldFinishes (performed_world w a t op)
performed w F a t (Look x) d = F
performed w F a t (Create x h) d = created_finishes w F a x h (w.objects x)
performed w F a t (Set p index count) d = bit_finishes w F p index count (w.objects (Bits p count))
performed w F a t (Invoke v) d = invoked_finishes w F v
performed w F a t (Mark x) d = absurd d
performed w F a t Ack d = state_finishes w F t.inv state_after_ack (slice_get w.states t.inv)

pub same_attempts : (w : World) (a : ℕ) (t : Attempt) (op : Op) → (performed_world w a t op).atts ≡ w.atts
same_attempts w a t (Look x) = refl
same_attempts w a t (Create x h) = elim (w.objects x) as (λ c. (created_world w a x h c).atts ≡ w.atts) [ Absent ↦ refl | Live y ↦ refl | Tombstone ↦ refl ]
same_attempts w a t (Set p index count) = elim (w.objects (Bits p count)) as (λ c. (with_bit w p index count c).atts ≡ w.atts) [ Absent ↦ refl | Live y ↦ refl | Tombstone ↦ refl ]
same_attempts w a t (Invoke v) = refl
same_attempts w a t (Mark x) = elim (w.objects x) as (λ c. (marked_world w x c).atts ≡ w.atts) [ Absent ↦ refl | Live y ↦ refl | Tombstone ↦ refl ]
same_attempts w a t Ack = elim (slice_get w.states t.inv) as (λ s. (with_state w t.inv state_after_ack s).atts ≡ w.atts) [ None ↦ refl | Some s ↦ refl ]

-- ---------------------------------------------------------------- acts

-- no act marks an object
abbrev NoMarks : List Op → Type 0
NoMarks xs = (m : ℕ) (op : Op) → slice_get xs m ≡ Some op → NoMark op

none_first : (x : Op) (xs : List Op) → NoMark x → NoMarks xs → NoMarks (x ∷ xs)
none_first x xs h f zero op e = subst NoMark (same_Some x op e) h
none_first x xs h f (suc m) op e = f m op e

none_none : NoMarks []
none_none m op e = absurd (cc)

none_enters : (around : List Frame) (p : Place) (index count : ℕ) (cs : List (Block × Json)) → NoMarks (enter_ops around p index count cs)
none_enters around p index count [] = none_none
none_enters around p index count (c ∷ cs) = none_first (Invoke (enter_of around p index count c.0)) (enter_ops around p (suc index) count cs) tt (none_enters around p (suc index) count cs)

none_fan : (site : Site) (p : Place) (name : Text) (cs : List (Block × Json)) → NoMarks (fan_ops site p name cs)
none_fan site p name [] = none_first (Invoke (join_of (record { block = site.block; name = name }) site.around p)) [] tt none_none
none_fan site p name (c ∷ cs) = subst NoMarks (sym (fan_same site p name c cs)) (none_enters (inner site name) p 0 (suc (length cs)) (at_once (width_of (record { block = site.block; name = name })) (c ∷ cs)))

none_pace : (site : Site) (q : Parent) (w : ℕ) (xs : List Op) → NoMarks xs → NoMarks (pace_ops site q w ++ xs)
none_pace site q zero xs f = f
none_pace site q (suc w) xs f =
    elim (nat_lt (q.index + suc w) q.count) as (λ b. NoMarks (cond b (Invoke (enter_of site.around q.place (q.index + suc w) q.count site.block) ∷ []) [] ++ xs)) [
      | true ↦ none_first (Invoke (enter_of site.around q.place (q.index + suc w) q.count site.block)) xs tt f
      | false ↦ f
    ]

none_set : (site : Site) (z : Option Parent) → NoMarks (set_ops site z)
none_set site None = none_none
none_set site (Some q) = none_pace site q (width_in site.around) (Set q.place q.index q.count ∷ []) (none_first (Set q.place q.index q.count) [] tt none_none)

none_acts : (site : Site) (s : Scope) (stop : Stop) → NoMarks (acts_of site s stop)
none_acts site s (Call name hop raw used) =
    none_first (Create (Arg (name_at s hop names.Task)) (ArgIs raw used)) (Invoke (task_of site s hop name) ∷ []) tt (none_first (Invoke (task_of site s hop name)) [] tt none_none)
none_acts site s (Fan name hop raw used cs) = subst NoMarks (sym (fan_act site s name hop raw used cs)) (none_first (Create (Saved (at_hop s hop)) (SavedAs (length cs) raw used)) (fan_ops site (at_hop s hop) name cs) tt (none_fan site (at_hop s hop) name cs))
none_acts site s (Over o) = none_first (Create (Out s) (OutcomeIs o)) (set_ops site (parent_of s)) tt (none_set site (parent_of s))

acts_mark : (i : Invocation) (k : Kept) → NoMarks (acts i k)
acts_mark i k = none_acts i.site (scope_of i.name.place) (stop_of i.site i.name.place.hop k)

-- ---------------------------------------------------------------- a step

module _ (w : World) (F : WorldFinishes w) (a : ℕ) (t : Attempt) (i : Invocation) (found : slice_get w.atts a ≡ Some t) (at : slice_get w.invs t.inv ≡ Some i) where
  op_finishes : (p : Phase) (op : Op) → NoMark op → (HasFinished t.phase → HasFinished (absorb i a p (reply_to w op))) → WorldFinishes (stepped_world w a t i p (Do op))
  op_finishes p op d on =
      moved_finishes (performed_world w a t op) (performed w F a t op d) a t
      (record { inv = t.inv; live = lives_on op; steps = suc t.steps; phase = absorb i a p (reply_to w op) })
      (ap (λ z. slice_get z a) (same_attempts w a t op) ∙ found) refl on

  -- the attempt that marks is past its acts
  own_finished : (u : Attempt) → u.inv ≡ t.inv → HasFinished u.phase → IsFinished w.invs (slice_set w.atts a u) i.name
  own_finished u same h = record {
    number = a;
    attempt = u;
    invocation = i;
    attempt_is = set_own w.atts a t u found;
    invocation_is = ap (slice_get w.invs) same ∙ at;
    name_is = refl;
    finished = h;
  }

  put_mark : (x : Obj) → Due i.name x → (u : Attempt) → u.inv ≡ t.inv → HasFinished u.phase → Finishes (objects_with x Tombstone w.objects) w.invs (slice_set w.atts a u)
  unfolding objects_with
  put_mark x d u same h n e = go (object_same (Check n) x) refl e
    where
      go : (b : Bool) → object_same (Check n) x ≡ b → cond b Tombstone (w.objects (Check n)) ≡ Tombstone → IsFinished w.invs (slice_set w.atts a u) n
      go true q r =
          let own : i.name ≡ n = subst (Due i.name) (sym (object_is (Check n) x q)) d in
          subst (λ z. IsFinished w.invs (slice_set w.atts a u) z) own (own_finished u same h)
      go false q r = finished_moved w.invs w.atts n a t u found same (λ _. h) (F n r)

  mark_finishes : (x : Obj) → Due i.name x → (p : Phase) → HasFinished p → (c : Condition) → WorldFinishes (moved_world (marked_world w x c) a t true p)
  mark_finishes x d p h Absent = moved_finishes w F a t (record { inv = t.inv; live = true; steps = suc t.steps; phase = p }) found refl (λ _. h)
  mark_finishes x d p h (Live y) = put_mark x d (record { inv = t.inv; live = true; steps = suc t.steps; phase = p }) refl h
  mark_finishes x d p h Tombstone = put_mark x d (record { inv = t.inv; live = true; steps = suc t.steps; phase = p }) refl h

  marks_on : (k : Kept) (m : ℕ) (b : Bool) → HasFinished (cond b (Marking k (suc m)) (Acking true))
  marks_on k m true = tt
  marks_on k m false = tt

  marking_finishes : (k : Kept) (m : ℕ) (z : Option Obj) → slice_get (due_objects i.name k.count) m ≡ z → WorldFinishes (stepped_world w a t i (Marking k m) (marking z))
  unfolding program.absorb
  marking_finishes k m None e = F
  marking_finishes k m (Some x) e =
      mark_finishes x (due_ok i.name k.count i.name.kind refl m x e) (cond (nat_lt (suc m) (length (due_objects i.name k.count))) (Marking k (suc m)) (Acking true)) (marks_on k m (nat_lt (suc m) (length (due_objects i.name k.count)))) (w.objects x)

  ask_finishes : (p : Phase) (z : Option (Text × Json)) → WorldFinishes (stepped_world w a t i p (asking z))
  ask_finishes p None = F
  ask_finishes p (Some c) = F

  -- no act is a mark
  acting_finishes : (k : Kept) (m : ℕ) → (HasFinished t.phase → ⊥) → (z : Option Op) → slice_get (acts i k) m ≡ z → WorldFinishes (stepped_world w a t i (Acting k m) (doing z))
  acting_finishes k m on None e = F
  acting_finishes k m on (Some op) e = op_finishes (Acting k m) op (acts_mark i k m op e) (λ h. absurd (on h))

  joining_finishes : (k : Kept) → (HasFinished t.phase → ⊥) → (z : Option Parent) (around : List Frame) → WorldFinishes (stepped_world w a t i (Joining k) (joining z around))
  joining_finishes k on None around = F
  joining_finishes k on (Some q) [] = F
  joining_finishes k on (Some q) (f ∷ around) = op_finishes (Joining k) (Invoke (join_of f around q.place)) tt (λ h. absurd (on h))

  acks_on : (b : Bool) → HasFinished (Acking b) → HasFinished (AttemptOver b)
  acks_on true h = tt
  acks_on false h = absurd h

  step_finishes : (p : Phase) → (HasFinished t.phase → HasFinished p) → WorldFinishes (stepped_world w a t i p (next_of i p))
  unfolding program.next_of program.absorb
  step_finishes Looking on = op_finishes Looking (Look (Check i.name)) tt (λ h. absurd (on h))
  step_finishes Saving on = op_finishes Saving (Look (Saved i.name.place)) tt (λ h. absurd (on h))
  step_finishes (Gathering count raw used outs) on = op_finishes (Gathering count raw used outs) (Look (Out (child i.name.place (length outs) count))) tt (λ h. absurd (on h))
  step_finishes Reading on = op_finishes Reading (Look (source i)) tt (λ h. absurd (on h))
  step_finishes (Calling raw used) on = ask_finishes (Calling raw used) (call_of i.site raw)
  step_finishes (Creating k) on = op_finishes (Creating k) (Create (Check i.name) (KeptAs k)) tt (λ h. absurd (on h))
  step_finishes (Acting k m) on = acting_finishes k m on (slice_get (acts i k) m) refl
  step_finishes (Joining k) on = joining_finishes k on (parent_of (scope_of i.name.place)) i.site.around
  step_finishes (Marking k m) on = marking_finishes k m (slice_get (due_objects i.name k.count) m) refl
  step_finishes (Acking b) on = op_finishes (Acking b) Ack tt (λ h. acks_on b (on h))
  step_finishes (AttemptOver b) on = F

  back_on : (p : Phase) (x : Outcome) → HasFinished p → HasFinished (called_phase i a p x)
  back_on (Marking k m) x h = h
  back_on (Acking b) x h = h
  back_on (AttemptOver b) x h = h
  back_on (Calling raw used) x h = absurd h
  back_on Looking x h = absurd h
  back_on Saving x h = absurd h
  back_on (Gathering count raw used outs) x h = absurd h
  back_on Reading x h = absurd h
  back_on (Creating k) x h = absurd h
  back_on (Acting k m) x h = absurd h
  back_on (Joining k) x h = absurd h

  answered_finishes : (x : Json) (f : Option FnKind) → WorldFinishes (answered_world w a t i x f)
  answered_finishes x None = F
  answered_finishes x (Some kind) =
      moved_finishes w F a t (record { inv = t.inv; live = true; steps = suc t.steps; phase = called_phase i a t.phase (answer kind x a) }) found refl (λ h. back_on t.phase (answer kind x a) h)

  answer_finishes : (d : Doing) → WorldFinishes (asked_world w a t i d)
  answer_finishes (Do op) = F
  answer_finishes Nothing = F
  answer_finishes (Ask r x) = answered_finishes x (function_of w.opening.functions r)

-- ---------------------------------------------------------------- each event

delivered_finishes : (w : World) → WorldFinishes w → (k : ℕ) (s : Option InvState) → WorldFinishes (delivered_world w k s)
delivered_finishes w F k None = F
delivered_finishes w F k (Some s) = λ n e.
    let u : Attempt = record { inv = k; live = true; steps = 0; phase = Looking } in
    subst (λ z. IsFinished z (w.atts ++ u ∷ []) n) (append_nothing w.invs) (finished_more w.invs [] w.atts (u ∷ []) n (F n e))

crashed_finishes : (w : World) → WorldFinishes w → (a : ℕ) (t : Attempt) → slice_get w.atts a ≡ Some t → WorldFinishes (crashed_world w a t)
crashed_finishes w F a t found =
    let v : World = record w { atts = slice_set w.atts a (record t { live = false }) } in
    state_finishes v (moved_finishes w F a t (record t { live = false }) found refl (λ h. h)) t.inv state_after_crash (slice_get w.states t.inv)

with_inv_finishes : (w : World) → WorldFinishes w → (t : Attempt) (f : Invocation → World) → ((i : Invocation) → slice_get w.invs t.inv ≡ Some i → WorldFinishes (f i)) →
    (x : Option Invocation) → slice_get w.invs t.inv ≡ x → WorldFinishes (with_inv w t f x)
with_inv_finishes w F t f g None q = F
with_inv_finishes w F t f g (Some i) q = g i q

with_att_finishes : (w : World) → WorldFinishes w → (a : ℕ) (f : Attempt → World) → ((t : Attempt) → slice_get w.atts a ≡ Some t → WorldFinishes (f t)) →
    (x : Option Attempt) → slice_get w.atts a ≡ x → WorldFinishes (with_att w f x)
with_att_finishes w F a f g None q = F
with_att_finishes w F a f g (Some t) q = g t q

effect_finishes : (w : World) → WorldFinishes w → (e : Event) → WorldFinishes (effect w e)
unfolding worlds.effect
effect_finishes w F (Deliver k) = delivered_finishes w F k (slice_get w.states k)
effect_finishes w F (Crash a) = with_att_finishes w F a (λ t. crashed_world w a t) (λ t found. crashed_finishes w F a t found) (slice_get w.atts a) refl
effect_finishes w F (Step a) =
    with_att_finishes w F a (λ t. with_inv w t (λ i. stepped_world w a t i t.phase (next_of i t.phase)) (slice_get w.invs t.inv))
    (λ t found. with_inv_finishes w F t (λ i. stepped_world w a t i t.phase (next_of i t.phase))
    (λ i at. step_finishes w F a t i found at t.phase (λ h. h)) (slice_get w.invs t.inv) refl)
    (slice_get w.atts a) refl
effect_finishes w F (Answer a) =
    with_att_finishes w F a (λ t. with_inv w t (λ i. asked_world w a t i (next_of i t.phase)) (slice_get w.invs t.inv))
    (λ t found. with_inv_finishes w F t (λ i. asked_world w a t i (next_of i t.phase))
    (λ i at. answer_finishes w F a t i found at (next_of i t.phase)) (slice_get w.invs t.inv) refl)
    (slice_get w.atts a) refl
effect_finishes w F (GiveUp k) = state_finishes w F k (λ s. record s { dead = true }) (slice_get w.states k)

no_check : (s : ℕ) (xs : List Session) (n : Name) → start_objects s xs (Check n) ≢ Tombstone
unfolding worlds.start_objects
no_check s [] n e = cc
no_check s (x ∷ xs) n e = no_check (suc s) xs n (put_live (Arg (root_inv s x).name) _ (start_objects (suc s) xs) (Check n) e)

start_finishes : (o : Opening) → WorldFinishes (start o)
start_finishes o n e = absurd (no_check 0 o.sessions n e)

run_finishes : (es : List Event) (w v : World) → WorldFinishes w → run_from (Some w) es ≡ Some v → WorldFinishes v
unfolding worlds.run_from
run_finishes [] w v F e = let z : w ≡ v = same_Some w v e in subst WorldFinishes z F
run_finishes (x ∷ es) w v F e = go (λ q. run_finishes es (effect w x) v (effect_finishes w F x) q) (enabled w x) e
  where
    go : (run_from (Some (effect w x)) es ≡ Some v → WorldFinishes v) → (b : Bool) → run_from (cond b (Some (effect w x)) None) es ≡ Some v → WorldFinishes v
    go r true q = r q
    go r false q = absurd (run_none es v q)

-- ---------------------------------------------------------------- nothing is collected too early

pub every_run_takes_nothing_early : EveryRunTakesNothingEarly
every_run_takes_nothing_early o es w e =
    let p = run_ok es (start o) w (start_ok o) e in
    record {
      saved = λ q a. (can_read w p.1 q a).0;
      outs = λ q a. (can_read w p.1 q a).1;
      outcomes = root_stays w p.1;
      sources = source_stays w p.1;
      checks = run_finishes es (start o) w (start_finishes o) e;
    }
