use Rattle.std.proofs.Common.{sym, ap, ◌∙◌, List, Option, None, ◌∷◌, ◌++◌, [], ℕ, subst}
use Rattle.world_types.specs.declared.operation.Invocation.{Invocation}
use Rattle.world_types.specs.declared.queue.InvState.{InvState}
use Rattle.world_model.specs.AnyCode.World.{fresh_state}
use Rattle.invoke_queue.specs.Queue.{IsQueue}
use Rattle.invoke_queue.proofs.Kept.{invoked}
use Rattle.invoke_queue.proofs.queue.Queue.invoke.Goals as goal

pub invariant_of-self-2 : goal.invariant_of-self-2
invariant_of-self-2 c =
    let i = c.push_within.ensures.items ∙ ap (λ (xs : List (Invocation ℕ)). xs ++ c.args.invocation ∷ []) c.in_ok-prepare.ensures.invs in
    let l = c.push_within-2.ensures.items ∙ ap (λ (xs : List (Option ℕ)). xs ++ None ∷ []) c.in_ok-prepare.ensures.last in
    subst (λ (xs : List (Invocation ℕ)). IsQueue xs c.prepare.new.states c.self.inside.attempts c.push_within-2.new.items.items) (sym i)
    (subst (λ (xs : List InvState). IsQueue (c.self.inside.invs.items ++ c.args.invocation ∷ []) xs c.self.inside.attempts c.push_within-2.new.items.items) (sym c.in_ok-prepare.ensures.states)
    (subst (λ (xs : List (Option ℕ)). IsQueue (c.self.inside.invs.items ++ c.args.invocation ∷ []) (c.self.inside.states ++ fresh_state ∷ []) c.self.inside.attempts xs) (sym l)
    (invoked _ _ _ _ c.self.invariant c.args.invocation)))
