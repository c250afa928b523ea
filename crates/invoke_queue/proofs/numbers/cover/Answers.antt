use Rattle.std.proofs.Common.{sym, subst, List, ℕ, false, [], ◌∷◌, ◌++◌, ◌∙◌, ◌≡◌, length, vec_len, arith}
use Rattle.invoke_queue.specs.Numbers.{AreCounts}
use Rattle.invoke_queue.proofs.Sets.{covered_now, covered_yet}
use Rattle.invoke_queue.proofs.numbers.cover.Goals as goal

pub returns-in_ok-push-clause-ok : goal.returns-in_ok-push-clause-ok
returns-in_ok-push-clause-ok c = λ flags e a.
    let k : vec_len c.args.counts.now ≡ length c.args.counts.now.items = omega arith in
    subst (λ (counts : List ℕ). AreCounts c.args.width (flags ++ false ∷ []) counts) (sym c.in_ok-push.ensures.items)
    (covered_now c.args.width c.requires flags c.args.counts.now.items c.args.number e a (c.if-number-width.true ∙ c.len.ensures ∙ k))

pub returns-else-number-width-clause-ok : goal.returns-else-number-width-clause-ok
returns-else-number-width-clause-ok c = λ flags e a.
    let k : vec_len c.args.counts.now ≡ length c.args.counts.now.items = omega arith in
    covered_yet c.args.width c.requires flags c.args.counts.now.items c.args.number e a (λ q. c.if-number-width.false (q ∙ sym (c.len.ensures ∙ k)))
