use Rattle.std.proofs.Common.{refl, sym, subst, ap, ◌∙◌, List, [], ◌∷◌, ◌++◌, ◌≡◌, true, length, vec_len, arith}
use Rattle.world_types.specs.declared.queue.Attempt.{Attempt}
use Rattle.world_plans.specs.Changes.{numbers_with}
use Rattle.invoke_queue.specs.Numbers.{NumberSet, IsNumbered}
use Rattle.invoke_queue.specs.Queue.{first_attempt}
use Rattle.invoke_queue.proofs.Listed.{numbered_push}
use Rattle.invoke_queue.proofs.attempts.Attempts.push.Goals as goal

pub invariant_of-self-2 : goal.invariant_of-self-2
invariant_of-self-2 c =
    let k : vec_len c.self.inside.items ≡ length c.self.inside.items.items = omega arith in
    let e = c.push_within.ensures.items ∙ ap (λ (xs : List Attempt). xs ++ first_attempt c.args.inv ∷ []) c.in_ok-reserve.ensures.items in
    subst (λ (xs : List Attempt). IsNumbered (λ a (t : Attempt). t.live) xs c.insert.new.self) (sym e)
    (numbered_push (λ a (t : Attempt). t.live) c.self.inside.items.items c.self.inside.live c.self.invariant (first_attempt c.args.inv) true c.len-number.result c.insert.new.self
    (c.len-number.ensures ∙ c.in_ok-reserve.ensures.len ∙ k) refl
    (c.insert.ensures ∙ ap (λ (s : NumberSet). record s { numbers = numbers_with c.len-number.result s.numbers }) c.in_ok-grow.ensures.ok))
