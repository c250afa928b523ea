-- An attempt that is moved on by a reply: its phase is taken out, and the next one is put in its place, or the same where there was
-- no memory. What it does before, and how many acts it has.
use Rattle.std.proofs.Common.{ℕ, zero, suc, ◌+◌, ◌≤◌, ◌≡◌, ◌≢◌, refl, sym, ap, ◌∙◌, subst, Bool, true, List, [], ◌∷◌, length, slice_get, slice_set, Option, Some, None, option_map}
use Rattle.std.specs.Prelude.{IsTrue}
use Rattle.std.proofs.lemmas.Option.{same_Some}
use Rattle.place_name.specs.declared.limits.TheConstants.{MOST_BRANCHES}
use Rattle.place_name.specs.declared.obj.Obj.{Obj}
use Rattle.unum_ir.specs.declared.ir.Ir.{Ir}
use Rattle.world_types.specs.declared.queue.Attempt.{Attempt}
use Rattle.world_model.specs.AnyCode.Code.{Stop, flags}
use Rattle.world_model.specs.AnyCode.Operations.{Kept, Condition, Invocation, Look, Create, Set, Invoke, Mark, Ack, Reply}
use Rattle.world_model.specs.AnyCode.Acts.{stop_of}
use Rattle.world_model.specs.AnyCode.Program.{Phase, Looking, Saving, Gathering, Reading, Calling, Creating, Acting, Joining, Marking, Acking, AttemptOver, Do, absorb}
use Rattle.world_model.specs.AnyCode.World.{objects_after}
use Rattle.world_model.proofs.Gets.{set_own}
use Rattle.continuation_gen.specs.Coded.{code_of_ir}
use Rattle.invoke_queue.specs.Queue.{Lists, atts_with, with_attempt, attempt_at, attempt_after_move}
use Rattle.unum_hub.specs.Holding.{NumberedOp, queue_after}
use Rattle.fn_wrapper.specs.Actions.{acts_at}
use Rattle.unum_world.specs.declared.world_state.WorldState.{WorldState}
use Rattle.unum_world.specs.OneStep.{is_acting, phase_acts, op_takes_memory}
use Rattle.unum_world.specs.Kept.{stop_in}
use Rattle.unum_world.specs.Instances.{CanRun, doing_at, queue_moved, queue_replied, ReadsAt}
use Rattle.unum_world.proofs.Journals.{reads_take}

-- ---------------------------------------------------------------- lists

pub set_twice : {A : Type 0} (xs : List A) (a : ℕ) (x y : A) → slice_set (slice_set xs a x) a y ≡ slice_set xs a y
set_twice [] a x y = refl
set_twice (z ∷ xs) zero x y = refl
set_twice (z ∷ xs) (suc a) x y = ap (λ zs. z ∷ zs) (set_twice xs a x y)

set_back : {A : Type 0} (xs : List A) (a : ℕ) (x : A) → slice_get xs a ≡ Some x → slice_set xs a x ≡ xs
set_back [] a x e = refl
set_back (y ∷ xs) zero x e = ap (λ z. z ∷ xs) (sym (same_Some y x e))
set_back (y ∷ xs) (suc a) x e = ap (λ zs. y ∷ zs) (set_back xs a x e)

-- ---------------------------------------------------------------- one attempt of a queue

module _ (q : Lists) (a : ℕ) (t : Attempt) (e : slice_get q.atts a ≡ Some t) where
  -- the queue with another attempt in its place
  abbrev with_other : Attempt → Lists
  with_other u = record q { atts = slice_set q.atts a u }

  other_is : (f : Attempt → Attempt) → with_attempt q a f ≡ with_other (f t)
  other_is f = ap (λ x. record q { atts = atts_with q.atts a f x }) e

  -- it is changed twice
  twice_is : (p r : Lists) (f g : Attempt → Attempt) → p ≡ with_attempt q a f → r ≡ with_attempt p a g → r ≡ with_other (g (f t))
  twice_is p r f g i j =
      j ∙ ap (λ z. with_attempt z a g) (i ∙ other_is f)
      ∙ ap (λ x. record q { atts = atts_with (slice_set q.atts a (f t)) a g x }) (set_own q.atts a t (f t) e)
      ∙ ap (λ z. record q { atts = z }) (set_twice q.atts a (f t) (g (f t)))

  -- its phase is put back
  pub restored : (p r : Lists) (x before : Phase) → p ≡ with_attempt q a (attempt_at x) → before ≡ t.phase → r ≡ with_attempt p a (attempt_at before) → r ≡ q
  restored p r x before i b j =
      twice_is p r (attempt_at x) (attempt_at before) i j
      ∙ ap (λ z. with_other (attempt_at z t)) b ∙ ap (λ z. record q { atts = z }) (set_back q.atts a t e)

  -- it is moved on
  pub advanced : (p r : Lists) (x y : Phase) → p ≡ with_attempt q a (attempt_at x) → r ≡ with_attempt p a (attempt_after_move y) →
      r ≡ with_attempt q a (attempt_after_move y)
  advanced p r x y i j = twice_is p r (attempt_at x) (attempt_after_move y) i j ∙ sym (other_is (attempt_after_move y))

  -- its phase is the one that was taken out
  pub phase_is : (before : Phase) → option_map (λ (u : Attempt). u.phase) (slice_get q.atts a) ≡ Some before → before ≡ t.phase
  phase_is before b = sym (same_Some t.phase before (ap (option_map (λ (u : Attempt). u.phase)) (sym e) ∙ b))

  -- the queue after a reply
  pub replied : (ir : Ir) (i : Invocation ℕ) (reply : Reply (List Bool)) (p r : Lists) (x before new : Phase) → p ≡ with_attempt q a (attempt_at x) →
      before ≡ t.phase → new ≡ absorb (code_of_ir ir) i a before reply → r ≡ with_attempt p a (attempt_after_move new) →
      r ≡ queue_replied ir i q a reply
  replied ir i reply p r x before new f b n g =
      advanced p r x new f g
      ∙ ap (λ z. with_attempt q a (attempt_after_move z)) (n ∙ ap (λ z. absorb (code_of_ir ir) i a z reply) b)
      ∙ sym (ap (queue_moved ir i q a reply) e)

-- ---------------------------------------------------------------- operations

-- the attempts are the same after an operation that is no Ack
pub atts_stay : (q : Lists) (a : ℕ) (op : NumberedOp) → op ≢ Ack → (queue_after q a op).atts ≡ q.atts
atts_stay q a (Look o) h = refl
atts_stay q a (Create o x) h = refl
atts_stay q a (Set p index count) h = refl
atts_stay q a (Invoke i) h = refl
atts_stay q a (Mark o) h = refl
atts_stay q a Ack h = absurd (h refl)

pub att_stays : (q p : Lists) (a : ℕ) (op : NumberedOp) → op ≢ Ack → p ≡ queue_after q a op → slice_get p.atts a ≡ slice_get q.atts a
att_stays q p a op h e = ap (λ (z : Lists). slice_get z.atts a) e ∙ ap (λ z. slice_get z a) (atts_stay q a op h)

-- Who reads data looks at an object, which changes nothing.
pub looks_at : (ir : Ir) (i : Invocation ℕ) (x : Option Attempt) (op : NumberedOp) → ReadsAt x → doing_at ir i x ≡ Do op → (o : Obj) × (op ≡ Look o)
looks_at ir i None op r d = absurd r
looks_at ir i (Some t) op r d = reads_take (code_of_ir ir) i t.phase op r d

pub same_objects : (objects : Obj → Condition (List Bool)) (op : NumberedOp) → ((o : Obj) × (op ≡ Look o)) → objects_after flags objects op ≡ objects
same_objects objects op l = ap (objects_after flags objects) l.1

pub same_queue : (q : Lists) (a : ℕ) (op : NumberedOp) → ((o : Obj) × (op ≡ Look o)) → queue_after q a op ≡ q
same_queue q a op l = ap (queue_after q a) l.1

pub look_takes : (op : NumberedOp) → ((o : Obj) × (op ≡ Look o)) → IsTrue (op_takes_memory op)
look_takes op l = ap op_takes_memory l.1

-- ---------------------------------------------------------------- acts

acting_of : (ph : Phase) → is_acting ph ≡ true → (k : Kept) × (m : ℕ) × (ph ≡ Acting k m)
acting_of (Acting k m) e = (k, m, refl)
acting_of Looking e = absurd (cc)
acting_of Saving e = absurd (cc)
acting_of (Gathering count raw used outs) e = absurd (cc)
acting_of Reading e = absurd (cc)
acting_of (Calling raw used) e = absurd (cc)
acting_of (Creating k) e = absurd (cc)
acting_of (Joining k) e = absurd (cc)
acting_of (Marking k m) e = absurd (cc)
acting_of (Acking finished) e = absurd (cc)
acting_of (AttemptOver finished) e = absurd (cc)

-- An attempt that acts has few acts at the stop that is kept for it.
pub few_acts : (ir : Ir) (i : Invocation ℕ) (m : WorldState) (a : ℕ) (stop : Stop ℕ) → CanRun ir i m a →
    phase_acts (slice_get m.hub.queue.atts a) ≡ true → Some stop ≡ stop_in (slice_get m.stops.items a) →
    length (acts_at ir i stop) ≤ MOST_BRANCHES + 1
few_acts ir i m a stop r e s =
    let (k, n, f) = acting_of r.att.phase (ap phase_acts (sym r.attempt_is) ∙ e) in
    let g : stop ≡ stop_of (code_of_ir ir) i k = same_Some stop (stop_of (code_of_ir ir) i k) (s ∙ r.stop k n f) in
    subst (λ z. length (acts_at ir i z) ≤ MOST_BRANCHES + 1) (sym g) (r.ready.few.acts k)
