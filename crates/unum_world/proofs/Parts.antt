-- Worlds by their parts: what each event makes of objects, queue, journal and marks.
use Rattle.std.proofs.Common.{ℕ, ◌≡◌, ◌≢◌, refl, sym, ap, ◌∙◌, Bool, true, false, List, slice_get, Option, Some, None}
use Rattle.fn_table.specs.declared.kind.FnKind.{FnKind}
use Rattle.fn_table.specs.Answers.{answer}
use Rattle.asl_model.specs.Machine.{Block}
use Rattle.place_name.specs.declared.obj.Obj.{Obj}
use Rattle.world_model.specs.AnyCode.Code.{Text, Json, flags}
use Rattle.world_model.specs.AnyCode.Operations.{Condition, Invocation, Op, Look, Create, Set, Invoke, Mark, Ack, Finished}
use Rattle.world_model.specs.AnyCode.Program.{Phase, Do, Ask, next_of, absorb, called_phase}
use Rattle.world_model.specs.AnyCode.World.{Entry, InvState, Attempt, Codes, code_of, Deliver, Crash, Step, Answer, GiveUp, reply_to, objects_after, journal_after, marks_after, state_after_crash, state_after_ack, performed_world, moved_world, lives_on, stepped_world, answered_world, asked_world, with_inv, with_att, delivered_world, crashed_world, function_of, effect}
use Rattle.world_model.specs.World as model
use Rattle.world_model.specs.Numbered.{Numbered}
use Rattle.invoke_queue.specs.Queue.{Lists, queue_of, with_delivery, with_end, with_giving_up, with_attempt, attempt_after_move}
use Rattle.invoke_queue.proofs.Following.{follows}
use Rattle.unum_hub.specs.Holding.{queue_after}

-- a world of these parts
abbrev pub world_from : model.Opening → (Obj → Condition (List Bool)) → Lists → List Entry → ℕ → Numbered
world_from o f q j n = record { opening = o; objects = f; invs = q.invs; states = q.states; atts = q.atts; journal = j; marks = n }

-- a world is known by its parts
pub world_is : (o : model.Opening) (f : Obj → Condition (List Bool)) (q : Lists) (j : List Entry) (n : ℕ) (w : Numbered) → o ≡ w.opening →
    f ≡ w.objects → q ≡ queue_of w → j ≡ w.journal → n ≡ w.marks → world_from o f q j n ≡ w
world_is o f q j n w a b c d e =
    ap (λ z. world_from z f q j n) a ∙ ap (λ z. world_from w.opening z q j n) b ∙ ap (λ z. world_from w.opening w.objects z j n) c
    ∙ ap (λ z. world_from w.opening w.objects (queue_of w) z n) d ∙ ap (λ z. world_from w.opening w.objects (queue_of w) w.journal z) e

-- the world with another queue
abbrev pub with_queue : Numbered → Lists → Numbered
with_queue w q = world_from w.opening w.objects q w.journal w.marks

-- ---------------------------------------------------------------- mishaps

pub delivered_is : (w : Numbered) (i : ℕ) (x : Option InvState) → with_queue w (with_delivery (queue_of w) i x) ≡ delivered_world w i x
delivered_is w i None = refl
delivered_is w i (Some s) = refl

pub crashed_is : (w : Numbered) (a : ℕ) (x : Option Attempt) →
    with_queue w (with_end (queue_of w) a state_after_crash x) ≡ with_att w (λ t. crashed_world w a t) x
crashed_is w a None = refl
crashed_is w a (Some t) = refl

pub deliver_is : (codes : Codes ℕ) (w : Numbered) (i : ℕ) →
    with_queue w (with_delivery (queue_of w) i (slice_get w.states i)) ≡ effect flags codes w (Deliver i)
unfolding effect
deliver_is codes w i = delivered_is w i (slice_get w.states i)

pub crash_is : (codes : Codes ℕ) (w : Numbered) (a : ℕ) →
    with_queue w (with_end (queue_of w) a state_after_crash (slice_get w.atts a)) ≡ effect flags codes w (Crash a)
unfolding effect
crash_is codes w a = crashed_is w a (slice_get w.atts a)

pub give_up_is : (codes : Codes ℕ) (w : Numbered) (i : ℕ) → with_queue w (with_giving_up (queue_of w) i) ≡ effect flags codes w (GiveUp i)
unfolding effect
give_up_is codes w i = refl

-- ---------------------------------------------------------------- steps

-- the world after a step, by the attempt, its invocation and what is next
pub step_is : (codes : Codes ℕ) (w : Numbered) (a : ℕ) (t : Attempt) (i : Invocation ℕ) (op : Op ℕ (List Bool)) → slice_get w.atts a ≡ Some t →
    slice_get w.invs t.inv ≡ Some i → next_of (code_of codes i) i t.phase ≡ Do op →
    effect flags codes w (Step a) ≡ stepped_world flags codes w a t i t.phase (Do op)
unfolding effect
step_is codes w a t i op e1 e2 n =
    ap (λ x. with_att w (λ t. with_inv w t (λ i. stepped_world flags codes w a t i t.phase (next_of (code_of codes i) i t.phase)) (slice_get w.invs t.inv)) x) e1
    ∙ ap (λ x. with_inv w t (λ i. stepped_world flags codes w a t i t.phase (next_of (code_of codes i) i t.phase)) x) e2
    ∙ ap (stepped_world flags codes w a t i t.phase) n

pub goes_on : (op : Op ℕ (List Bool)) → op ≢ Ack → lives_on op ≡ true
goes_on (Look o) h = refl
goes_on (Create o x) h = refl
goes_on (Set p index count) h = refl
goes_on (Invoke i) h = refl
goes_on (Mark o) h = refl
goes_on Ack h = absurd (h refl)

-- the queue after an operation that is no Ack
pub performed_queue : (w : Numbered) (a : ℕ) (t : Attempt) (op : Op ℕ (List Bool)) → op ≢ Ack →
    queue_after (queue_of w) a op ≡ queue_of (performed_world flags w a t op)
performed_queue w a t (Look o) h = refl
performed_queue w a t (Create o x) h = refl
performed_queue w a t (Set p index count) h = refl
performed_queue w a t (Invoke i) h = refl
performed_queue w a t (Mark o) h = refl
performed_queue w a t Ack h = absurd (h refl)

-- a step that is no Ack: its parts are the world's
pub moved_is : (codes : Codes ℕ) (w : Numbered) (a : ℕ) (t : Attempt) (i : Invocation ℕ) (op : Op ℕ (List Bool)) → slice_get w.atts a ≡ Some t →
    t.live ≡ true → op ≢ Ack →
    world_from w.opening (objects_after flags w.objects op)
    (with_attempt (queue_after (queue_of w) a op) a (attempt_after_move (absorb (code_of codes i) i a t.phase (reply_to flags w.objects op))))
    (journal_after w.objects w.journal a op) (marks_after w.marks op)
    ≡ stepped_world flags codes w a t i t.phase (Do op)
moved_is codes w a t i op e l h =
    let p : Phase = absorb (code_of codes i) i a t.phase (reply_to flags w.objects op) in
    let v : Numbered = performed_world flags w a t op in
    let F = follows Block (List Bool) in
    world_is w.opening (objects_after flags w.objects op) (with_attempt (queue_after (queue_of w) a op) a (attempt_after_move p)) (journal_after w.objects w.journal a op) (marks_after w.marks op) (moved_world v a t true p)
    refl refl (ap (λ q. with_attempt q a (attempt_after_move p)) (performed_queue w a t op h) ∙ sym (F.moves v a t p e l)) refl refl
    ∙ ap (λ b. moved_world v a t b p) (sym (goes_on op h))

-- an Ack ends the attempt, once it has moved
pub acked_is : (codes : Codes ℕ) (w : Numbered) (a : ℕ) (t : Attempt) (i : Invocation ℕ) (p : Phase) → slice_get w.atts a ≡ Some t →
    p ≡ absorb {B = List Bool} (code_of codes i) i a t.phase Finished →
    with_queue w (with_end (with_attempt (queue_of w) a (attempt_after_move p)) a state_after_ack (Some (attempt_after_move p t)))
    ≡ stepped_world flags codes w a t i t.phase (Do Ack)
acked_is codes w a t i p e q =
    let v : Numbered = performed_world flags w a t Ack in
    let F = follows Block (List Bool) in
    world_is w.opening w.objects (with_end (with_attempt (queue_of w) a (attempt_after_move p)) a state_after_ack (Some (attempt_after_move p t))) w.journal w.marks (moved_world v a t false p)
    refl refl (sym (F.acks flags w a t p e)) refl refl
    ∙ ap (moved_world v a t false) q

-- ---------------------------------------------------------------- answers

pub answer_is : (codes : Codes ℕ) (w : Numbered) (a : ℕ) (t : Attempt) (i : Invocation ℕ) (resource : Text) (x : Json) → slice_get w.atts a ≡ Some t →
    slice_get w.invs t.inv ≡ Some i → next_of {B = List Bool} (code_of codes i) i t.phase ≡ Ask resource x →
    effect flags codes w (Answer a) ≡ answered_world w a t x (function_of w.opening.functions resource)
unfolding effect
answer_is codes w a t i resource x e1 e2 n =
    ap (λ z. with_att w (λ t. with_inv w t (λ i. asked_world w a t (next_of (code_of codes i) i t.phase)) (slice_get w.invs t.inv)) z) e1
    ∙ ap (λ z. with_inv w t (λ i. asked_world w a t (next_of (code_of codes i) i t.phase)) z) e2
    ∙ ap (asked_world w a t) n

pub answered_is : (w : Numbered) (a : ℕ) (t : Attempt) (x : Json) (kind : FnKind) → slice_get w.atts a ≡ Some t → t.live ≡ true →
    with_queue w (with_attempt (queue_of w) a (attempt_after_move (called_phase a t.phase (answer kind x a)))) ≡ answered_world w a t x (Some kind)
answered_is w a t x kind e l =
    let p : Phase = called_phase a t.phase (answer kind x a) in
    let F = follows Block (List Bool) in
    world_is w.opening w.objects (with_attempt (queue_of w) a (attempt_after_move p)) w.journal w.marks (moved_world w a t true p)
    refl refl (sym (F.moves w a t p e l)) refl refl
