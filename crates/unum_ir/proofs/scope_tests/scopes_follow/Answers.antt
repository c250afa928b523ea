use Rattle.std.proofs.Common.{length, Some, None, ap, ◌∙◌}
use Rattle.unum_ir.specs.WellFormed.{scopes_below, same_numbers, range}
use Rattle.unum_ir.proofs.Counting.{counts_all}
use Rattle.unum_ir.proofs.scope_tests.scopes_follow.Goals as goal

pub returns-in-Some : goal.returns-in-Some
returns-in-Some c =
    let xs = scopes_below 8 c.as_slice.result.now 0 in
    counts_all c.len-bound.result xs (Some c.in-Some.end) c.in-Some.ensures
    ∙ ap (λ n. same_numbers xs (range 0 n)) c.len-bound.ensures
    ∙ ap (λ l. same_numbers (scopes_below 8 l 0) (range 0 (length c.args.ir.now.scopes))) c.as_slice.ensures

pub returns-in-None : goal.returns-in-None
returns-in-None c =
    let xs = scopes_below 8 c.as_slice.result.now 0 in
    counts_all c.len-bound.result xs None c.in-None.ensures
    ∙ ap (λ n. same_numbers xs (range 0 n)) c.len-bound.ensures
    ∙ ap (λ l. same_numbers (scopes_below 8 l 0) (range 0 (length c.args.ir.now.scopes))) c.as_slice.ensures
