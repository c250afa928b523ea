use Rattle.std.proofs.Common.{refl, sym, subst, List}
use Rattle.world_types.specs.declared.queue.InvState.{InvState}
use Rattle.world_types.specs.declared.queue.Attempt.{Attempt}
use Rattle.invoke_queue.specs.Queue.{IsQueue, attempt_after_end, state_after_attempt}
use Rattle.invoke_queue.proofs.Kept.{attempts_changed, states_changed, attempt_keeps}
use Rattle.invoke_queue.proofs.queue.Queue.end.Goals as goal

pub invariant_of-self : goal.invariant_of-self
invariant_of-self c =
    subst (λ (xs : List InvState). IsQueue c.self.inside.invs.items xs c.end.new.self c.self.inside.last.items) (sym c.end_attempt.ensures)
    (states_changed _ _ _ _
    (subst (λ (xs : List Attempt). IsQueue c.self.inside.invs.items c.self.inside.states xs c.self.inside.last.items) (sym c.end.ensures)
    (attempts_changed _ _ _ _ c.self.invariant c.args.attempt attempt_after_end (λ t. refl)))
    c.in-Some.inv (state_after_attempt c.args.acks) (attempt_keeps c.args.acks))
