use Rattle.std.proofs.Common.{sym, subst, ◌<◌, List, ℕ, Some, length, ◌∷◌, ◌++◌, [], slice_get, slice_set}
use Rattle.world_types.specs.declared.queue.InvState.{InvState}
use Rattle.world_types.specs.declared.queue.Attempt.{Attempt}
use Rattle.world_model.specs.AnyCode.World.{states_with}
use Rattle.world_plans.specs.Chooser.{can_deliver}
use Rattle.invoke_queue.specs.Queue.{IsQueue, first_attempt, state_after_delivery}
use Rattle.invoke_queue.proofs.Kept.{attempt_more, states_changed, delivery_keeps, there, where_ok}
use Rattle.invoke_queue.proofs.queue.Queue.deliver.Goals as goal

pub invariant_of-self-2 : goal.invariant_of-self-2
invariant_of-self-2 c =
    let l : c.args.inv < length c.self.inside.states = there can_deliver c.self.inside.states c.args.inv (sym c.if-not-can_deliver.ensures) in
    let p = where_ok _ c.push.result c.push.ensures.ok c.if-is_err.ensures.negation in
    subst (λ (xs : List InvState). IsQueue c.self.inside.invs.items xs c.push.new.self (slice_set c.self.inside.last.items c.args.inv (Some c.len-number.result))) (sym c.deliver.ensures)
    (subst (λ (xs : List Attempt). IsQueue c.self.inside.invs.items (states_with c.self.inside.states c.args.inv state_after_delivery (slice_get c.self.inside.states c.args.inv)) xs (slice_set c.self.inside.last.items c.args.inv (Some c.len-number.result))) (sym p)
    (subst (λ (n : ℕ). IsQueue c.self.inside.invs.items (states_with c.self.inside.states c.args.inv state_after_delivery (slice_get c.self.inside.states c.args.inv)) (c.self.inside.attempts ++ first_attempt c.args.inv ∷ []) (slice_set c.self.inside.last.items c.args.inv (Some n))) (sym c.len-number.ensures)
    (states_changed _ _ _ _ (attempt_more _ _ _ _ c.self.invariant c.args.inv l) c.args.inv state_after_delivery delivery_keeps)))
