use Rattle.std.proofs.Common.{◌∙◌}
use Rattle.std.proofs.lemmas.List.Sorted.{searched}
use Rattle.invoke_queue.proofs.Rising.{rises, has_found}
use Rattle.invoke_queue.proofs.plan.is_listed.Goals as goal

pub returns : goal.returns
returns c =
    c.is_ok.ensures.value
    ∙ has_found c.args.number c.args.numbers.now c.binary_search.result
    (searched c.args.numbers.now c.args.number c.binary_search.result c.binary_search.ensures.position (λ i j. rises (λ n. n) c.args.numbers.now c.requires i j 0))
