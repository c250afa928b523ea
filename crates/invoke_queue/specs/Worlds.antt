-- The queue's calls do to its lists what events do to those of a world.
use Rattle.std.specs.Prelude.{ℕ, ◌≡◌, true, false, slice_get, Option, Some}
use Rattle.world_types.specs.declared.operation.Invocation.{Invocation}
use Rattle.world_types.specs.declared.operation.Op.TheVariants.{Invoke, Ack}
use Rattle.world_types.specs.declared.phase.Phase.{Phase}
use Rattle.world_types.specs.declared.queue.InvState.{InvState}
use Rattle.world_types.specs.declared.queue.Attempt.{Attempt}
use Rattle.world_model.specs.AnyCode.Code.{Bitmaps}
use Rattle.world_model.specs.AnyCode.World.{World, Codes, performed_world, moved_world, delivered_world, crashed_world, with_state, state_after_crash, state_after_ack}
use Rattle.world_plans.specs.declared.planning.Plan.{Plan}
use Rattle.world_plans.specs.Three.{living_numbers, waiting_numbers}
use Rattle.invoke_queue.specs.Queue.{queue_of, live_numbers, open_numbers, with_invocation, with_delivery, with_end, with_giving_up, with_attempt, state_after_end, attempt_after_move}

-- In worlds of machines M with bitmaps B that run code by numbers: an Invoke adds the invocation; a delivery, a crash and a
-- giving up are the calls of that name; a step or an answer moves the attempt, and after an Ack ends it too; and the chooser's
-- lists are those that the queue keeps.
pub record FollowsWorlds (M B : Type 0) : Type 0 where
  pub invokes :
      (bits : Bitmaps B) (w : World M ℕ B) (a : ℕ) (t : Attempt) (i : Invocation ℕ) →
      queue_of (performed_world bits w a t (Invoke i)) ≡ with_invocation (queue_of w) i
  pub delivers :
      (w : World M ℕ B) (inv : ℕ) (s : Option InvState) → queue_of (delivered_world w inv s) ≡ with_delivery (queue_of w) inv s
  pub crashes :
      (w : World M ℕ B) (a : ℕ) (t : Attempt) → queue_of (crashed_world w a t) ≡ with_end (queue_of w) a state_after_crash (Some t)
  pub gives_up :
      (w : World M ℕ B) (inv : ℕ) →
      queue_of (with_state w inv state_after_end (slice_get w.states inv)) ≡ with_giving_up (queue_of w) inv
  pub moves :
      (w : World M ℕ B) (a : ℕ) (t : Attempt) (p : Phase) → slice_get w.atts a ≡ Some t → t.live ≡ true →
      queue_of (moved_world w a t true p) ≡ with_attempt (queue_of w) a (attempt_after_move p)
  pub acks :
      (bits : Bitmaps B) (w : World M ℕ B) (a : ℕ) (t : Attempt) (p : Phase) → slice_get w.atts a ≡ Some t →
      queue_of (moved_world (performed_world bits w a t Ack) a t false p)
      ≡ with_end (with_attempt (queue_of w) a (attempt_after_move p)) a state_after_ack (Some (attempt_after_move p t))
  pub lives_alike :
      (plan : Plan) (codes : Codes ℕ) (w : World M ℕ B) → living_numbers plan codes w ≡ live_numbers (queue_of w).atts
  pub opens_alike :
      (plan : Plan) (codes : Codes ℕ) (w : World M ℕ B) → waiting_numbers plan codes w ≡ open_numbers (queue_of w).states
