use Rattle.std.proofs.Common.{◌+◌, ◌<◌, length, get_or, slice_set, Some, ◌∙◌, sym, ap, arith}
use Rattle.unum_ir.proofs.Retries.{taken, passed}
use Rattle.unum_ir.proofs.matching.retry.Goals as goal

pub returns-then-match_error : goal.returns-then-match_error
returns-then-match_error c =
    let us = c.as_slice-counts.result.now in
    let i = c.loop-i.i in
    let k : i < length us = omega arith in
    let t = taken c.args.error.now c.args.answered c.as_slice-retrier-items.result.now us i c.retrier-item.result c.loop-i-test.true k c.retrier-item.is (sym c.match_error.ensures ∙ c.if-match_error.true) c.if-count-retrier.false in
    ap (λ l. Some l) (c.set.ensures ∙ ap (λ l. slice_set l i (get_or us i 0 + 1)) c.in_ok-again.ensures) ∙ sym t ∙ c.loop-i.invariant

pub loop-i-preserved : goal.loop-i-preserved
loop-i-preserved c =
    let us = c.as_slice-counts.result.now in
    let k : c.loop-i.i < length us = omega arith in
    sym (passed c.args.error.now c.args.answered c.as_slice-retrier-items.result.now us c.loop-i.i c.retrier-item.result c.loop-i-test.true k c.retrier-item.is (sym c.match_error.ensures ∙ c.if-match_error.false)) ∙ c.loop-i.invariant
