use Rattle.std.proofs.Common.{◌+◌, ◌-◌, ◌++◌, drop, map, sym, ap, ◌∙◌}
use Rattle.unum_ir.specs.WellFormed.{tag_of, same_tags, enter_tags}
use Rattle.unum_ir.proofs.Tagging.{enter_here}
use Rattle.unum_ir.proofs.func_tests.enters_fit.Goals as goal

pub returns-then-not-stands_at : goal.returns-then-not-stands_at
returns-then-not-stands_at c = λ later.
    let k = c.loop-scope.scope in
    let n = c.args.count in
    sym (c.loop-scope.invariant later)
    ∙ ap (same_tags (map tag_of (drop k c.args.funcs.now))) (enter_here k n later c.loop-scope-test.true)
    ∙ c.if-not-stands_at.ensures.tags (enter_tags (k + 1) (n - (k + 1)) ++ later)

pub loop-scope-preserved : goal.loop-scope-preserved
loop-scope-preserved c = λ later.
    let k = c.loop-scope.scope in
    let n = c.args.count in
    sym (c.if-not-stands_at.ensures.tags (enter_tags (k + 1) (n - (k + 1)) ++ later))
    ∙ sym (ap (same_tags (map tag_of (drop k c.args.funcs.now))) (enter_here k n later c.loop-scope-test.true))
    ∙ c.loop-scope.invariant later
