-- The queue's calls do to its lists what events do to those of a world.
use Rattle.std.proofs.Common.{ℕ, zero, suc, ◌≡◌, true, false, refl, sym, ap, ◌∙◌, List, [], ◌∷◌, slice_get, slice_set, Option, Some, None}
use Rattle.world_types.specs.declared.phase.Phase.{Phase}
use Rattle.world_types.specs.declared.queue.InvState.{InvState}
use Rattle.world_types.specs.declared.queue.Attempt.{Attempt}
use Rattle.world_model.specs.AnyCode.World.{World, delivered_world, crashed_world, moved_world, states_with, state_after_crash, state_after_ack}
use Rattle.invoke_queue.specs.Queue.{Lists, queue_of, with_delivery, with_end, with_attempt, atts_with, attempt_after_end, attempt_after_move}
use Rattle.invoke_queue.specs.Worlds.{FollowsWorlds}

delivers : {M B : Type 0} (w : World M ℕ B) (inv : ℕ) (s : Option InvState) → queue_of (delivered_world w inv s) ≡ with_delivery (queue_of w) inv s
delivers w inv None = refl
delivers w inv (Some s) = refl

crashes : {M B : Type 0} (w : World M ℕ B) (a : ℕ) (t : Attempt) → queue_of (crashed_world w a t) ≡ with_end (queue_of w) a state_after_crash (Some t)
crashes w a t = refl

set_twice : {A : Type 0} (xs : List A) (a : ℕ) (x y : A) → slice_set (slice_set xs a x) a y ≡ slice_set xs a y
set_twice [] a x y = refl
set_twice (z ∷ xs) zero x y = refl
set_twice (z ∷ xs) (suc a) x y = ap (λ zs. z ∷ zs) (set_twice xs a x y)

moves : {M B : Type 0} (w : World M ℕ B) (a : ℕ) (t : Attempt) (p : Phase) → slice_get w.atts a ≡ Some t → t.live ≡ true → queue_of (moved_world w a t true p) ≡ with_attempt (queue_of w) a (attempt_after_move p)
moves w a t p e l =
    ap (λ b. record { invs = w.invs; states = w.states; atts = slice_set w.atts a (record { inv = t.inv; live = b; steps = suc t.steps; phase = p }) }) (sym l)
    ∙ sym (ap (λ (o : Option Attempt). record { invs = w.invs; states = w.states; atts = atts_with w.atts a (attempt_after_move p) o }) e)

ends : (q : Lists) (a : ℕ) (t : Attempt) (p : Phase) → slice_get q.atts a ≡ Some t →
    ◌≡◌ {A = Lists} (record { invs = q.invs; states = states_with q.states t.inv state_after_ack (slice_get q.states t.inv); atts = slice_set q.atts a (record { inv = t.inv; live = false; steps = suc t.steps; phase = p }) })
    (with_end (with_attempt q a (attempt_after_move p)) a state_after_ack (Some (attempt_after_move p t)))
ends q a t p e =
    ap (λ (xs : List Attempt). record { invs = q.invs; states = states_with q.states t.inv state_after_ack (slice_get q.states t.inv); atts = xs })
    (sym (ap (λ (o : Option Attempt). slice_set (atts_with q.atts a (attempt_after_move p) o) a (attempt_after_end (attempt_after_move p t))) e
    ∙ set_twice q.atts a (attempt_after_move p t) (attempt_after_end (attempt_after_move p t))))

pub follows : (M B : Type 0) → FollowsWorlds M B
follows M B = record {
  invokes = λ bits w a t i. refl;
  delivers = λ w inv s. delivers w inv s;
  crashes = λ w a t. crashes w a t;
  gives_up = λ w inv. refl;
  moves = λ w a t p e l. moves w a t p e l;
  acks = λ bits w a t p e. ends (queue_of w) a t p e;
  lives_alike = λ plan codes w. refl;
  opens_alike = λ plan codes w. refl;
}
