use Rattle.std.proofs.Common.{sym, subst, List, []}
use Rattle.world_types.specs.declared.queue.Attempt.{Attempt}
use Rattle.invoke_queue.specs.Numbers.{NumberSet, IsNumbered}
use Rattle.invoke_queue.proofs.Listed.{numbered_none}
use Rattle.invoke_queue.proofs.attempts.Attempts.new.Goals as goal

pub invariant_of-result : goal.invariant_of-result
invariant_of-result c =
    subst (λ (xs : List Attempt). IsNumbered (λ a (t : Attempt). t.live) xs c.new-2.result) (sym c.new.ensures.items)
    (subst (λ (s : NumberSet). IsNumbered (λ a (t : Attempt). t.live) [] s) (sym c.new-2.ensures) (numbered_none (λ a (t : Attempt). t.live)))
