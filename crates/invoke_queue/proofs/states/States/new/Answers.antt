use Rattle.std.proofs.Common.{sym, subst, List, []}
use Rattle.world_types.specs.declared.queue.InvState.{InvState}
use Rattle.world_plans.specs.Three.{is_open}
use Rattle.invoke_queue.specs.Numbers.{NumberSet, IsNumbered}
use Rattle.invoke_queue.proofs.Listed.{numbered_none}
use Rattle.invoke_queue.proofs.states.States.new.Goals as goal

pub invariant_of-result : goal.invariant_of-result
invariant_of-result c =
    subst (λ (xs : List InvState). IsNumbered (λ k t. is_open t) xs c.new-2.result) (sym c.new.ensures.items)
    (subst (λ (s : NumberSet). IsNumbered {A = InvState} (λ k t. is_open t) [] s) (sym c.new-2.ensures) (numbered_none (λ k t. is_open t)))
