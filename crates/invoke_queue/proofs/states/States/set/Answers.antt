use Rattle.std.proofs.Common.{sym, subst, ◌<◌, List, length, get_or}
use Rattle.std.proofs.lemmas.Option.{slice_get-get_or}
use Rattle.world_types.specs.declared.queue.InvState.{InvState}
use Rattle.world_plans.specs.Three.{is_open}
use Rattle.invoke_queue.proofs.Listed.{numbered_set}
use Rattle.invoke_queue.proofs.states.States.set.Goals as goal

pub invariant_of-self : goal.invariant_of-self
invariant_of-self c =
    let i : c.args.inv < length c.self.inside.items.items = subst (λ (xs : List InvState). c.args.inv < length xs) (sym c.self.view_is) c.requires in
    numbered_set (λ k t. is_open t) c.self.inside.items.items c.self.inside.waiting c.self.invariant c.args.inv (get_or c.self.inside.items.items c.args.inv c.args.state) c.args.state c.is_open.result c.put.new.self
    (slice_get-get_or c.self.inside.items.items c.args.inv c.args.state i) c.is_open.ensures c.put.ensures
