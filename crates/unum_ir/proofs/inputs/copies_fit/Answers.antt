use Rattle.unum_ir.proofs.Copies.{copies_count}
use Rattle.unum_ir.proofs.inputs.copies_fit.Goals as goal

pub returns : goal.returns
returns c = copies_count c.args.count c.args.value.now c.nodes-each.result c.saturating_mul.result c.saturating_add.result c.nodes-each.ensures c.saturating_mul.ensures c.saturating_add.ensures
