use Rattle.std.proofs.Common.{sym, subst, ap, ◌∙◌, List, [], ◌∷◌, ◌++◌, ◌≡◌, length, vec_len, arith}
use Rattle.world_types.specs.declared.queue.InvState.{InvState}
use Rattle.world_plans.specs.Three.{is_open}
use Rattle.world_plans.specs.Changes.{numbers_set}
use Rattle.invoke_queue.specs.Numbers.{NumberSet, IsNumbered}
use Rattle.invoke_queue.proofs.Listed.{numbered_push}
use Rattle.invoke_queue.proofs.states.States.push.Goals as goal

pub invariant_of-self-2 : goal.invariant_of-self-2
invariant_of-self-2 c =
    let k : vec_len c.self.inside.items ≡ length c.self.inside.items.items = omega arith in
    let e = c.push_within.ensures.items ∙ ap (λ (xs : List InvState). xs ++ c.args.state ∷ []) c.in_ok-reserve.ensures.items in
    subst (λ (xs : List InvState). IsNumbered (λ k t. is_open t) xs c.put.new.self) (sym e)
    (numbered_push (λ k t. is_open t) c.self.inside.items.items c.self.inside.waiting c.self.invariant c.args.state c.is_open.result c.len-number.result c.put.new.self
    (c.len-number.ensures ∙ c.in_ok-reserve.ensures.len ∙ k) c.is_open.ensures
    (c.put.ensures ∙ ap (λ (s : NumberSet). record s { numbers = numbers_set c.is_open.result c.len-number.result s.numbers }) c.in_ok-grow.ensures.ok))
