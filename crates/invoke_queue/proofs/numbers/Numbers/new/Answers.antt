use Rattle.std.proofs.Common.{◌≡◌, ap, List, [], Bool, ℕ, subst, sym, ◌∙◌}
use Rattle.invoke_queue.specs.Numbers.{IsCountedSet, set_of}
use Rattle.invoke_queue.proofs.Sets.{nothing_counted, nothing_in}
use Rattle.invoke_queue.proofs.numbers.Numbers.new.Goals as goal

counted : (flags : List Bool) (blocks wide : List ℕ) → flags ≡ [] → blocks ≡ [] → wide ≡ [] → IsCountedSet flags blocks wide 0
counted flags blocks wide f b w =
    subst (λ x. IsCountedSet x blocks wide 0) (sym f) (subst (λ x. IsCountedSet [] x wide 0) (sym b) (subst (λ x. IsCountedSet [] [] x 0) (sym w) nothing_counted))

pub invariant_of-result : goal.invariant_of-result
invariant_of-result c = counted c.new.result.items c.new-2.result.items c.new-3.result.items c.new.ensures.items c.new-2.ensures.items c.new-3.ensures.items

pub returns : goal.returns
returns c = ap set_of c.new.ensures.items ∙ nothing_in
