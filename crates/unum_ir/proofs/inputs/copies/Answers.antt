use Rattle.std.proofs.Common.{◌<◌, length, arith}
use Rattle.unum_ir.proofs.Copies.{copied}
use Rattle.unum_ir.proofs.inputs.copies.Goals as goal

pub filling-preserved : goal.filling-preserved
filling-preserved c =
    let l : length c.filling.made < c.args.count = omega arith in
    copied c.filling.made c.push.new.self c.args.value.now c.in_ok-copy.field-0 c.args.count c.in_ok-push.ensures.ok c.in_ok-copy.ensures c.filling.invariant.0 l
