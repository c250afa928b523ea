use Rattle.std.proofs.Common.{true}
use Rattle.asl_model.specs.Valid.{one_or_none}
use Rattle.unum_ir.specs.Flat.{node_at}
use Rattle.unum_ir.specs.WellFormed.{is_node_in}
use Rattle.unum_ir.proofs.Leading.{then_catchers}
use Rattle.unum_ir.proofs.node_tests.cared_fits.Goals as goal

pub returns-then-next_fits : goal.returns-then-next_fits
returns-then-next_fits c =
    then_catchers (λ l. is_node_in c.args.scope (node_at c.args.ir.now l)) (one_or_none c.args.next) c.args.care.now.catch true c.catchers_fit.result c.if-next_fits.ensures c.catchers_fit.ensures
