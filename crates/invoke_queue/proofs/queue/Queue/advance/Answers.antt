use Rattle.std.proofs.Common.{refl, sym, subst, List}
use Rattle.world_types.specs.declared.queue.Attempt.{Attempt}
use Rattle.invoke_queue.specs.Queue.{IsQueue, attempt_after_move}
use Rattle.invoke_queue.proofs.Kept.{attempts_changed}
use Rattle.invoke_queue.proofs.queue.Queue.advance.Goals as goal

pub invariant_of-self : goal.invariant_of-self
invariant_of-self c =
    subst (λ (xs : List Attempt). IsQueue c.self.inside.invs.items c.self.inside.states xs c.self.inside.last.items) (sym c.advance.ensures.changed)
    (attempts_changed _ _ _ _ c.self.invariant c.args.attempt (attempt_after_move c.args.phase) (λ t. refl))
