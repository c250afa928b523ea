use Rattle.std.proofs.Common.{sym, ap, ◌∙◌}
use Rattle.world_plans.specs.Chooser.{latest}
use Rattle.invoke_queue.specs.Queue.{Lists}
use Rattle.invoke_queue.proofs.Kept.{latest_past}
use Rattle.invoke_queue.proofs.queue.Queue.latest_of.Goals as goal

pub returns-in-None : goal.returns-in-None
returns-in-None c =
    let h = rw c.deref.ensures.value at c.in-None.ensures.lookup in
    sym (ap (λ (q : Lists). latest 0 c.args.inv q.atts) (sym c.self.view_is) ∙ latest_past _ _ _ _ c.self.invariant c.args.inv h.3)
