use Rattle.std.proofs.Common.{true, false, ℕ, refl, ◌∙◌}
use Rattle.std.specs.List.{list_all}
use Rattle.asl_model.specs.Valid.{one_or_none}
use Rattle.unum_ir.specs.Flat.{node_at}
use Rattle.unum_ir.specs.WellFormed.{is_node_in}
use Rattle.unum_ir.proofs.Leading.{then_rest}
use Rattle.unum_ir.proofs.node_tests.choice_fits.Goals as goal

pub returns-then-rules_fit : goal.returns-then-rules_fit
returns-then-rules_fit c =
    then_rest (λ l. is_node_in c.args.scope (node_at c.args.ir.now l)) c.args.rules.now (one_or_none c.args.default) true c.next_fits.result c.if-rules_fit.ensures c.next_fits.ensures

pub returns-else-rules_fit : goal.returns-else-rules_fit
returns-else-rules_fit c =
    let p = λ (l : ℕ). is_node_in c.args.scope (node_at c.args.ir.now l) in
    c.if-rules_fit.false ∙ then_rest p c.args.rules.now (one_or_none c.args.default) false (list_all p (one_or_none c.args.default)) c.if-rules_fit.ensures refl
