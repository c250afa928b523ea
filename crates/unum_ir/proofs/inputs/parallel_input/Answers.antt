use Rattle.std.proofs.Common.{Some, sym, ap, ◌∙◌, arith}
use Rattle.unum_ir.proofs.OneInput.{no_parallel, large_parallel, one_parallel}
use Rattle.unum_ir.proofs.inputs.parallel_input.Goals as goal

pub returns-then-index-count : goal.returns-then-index-count
returns-then-index-count c = sym (no_parallel c.args.count c.args.index c.args.value.now (omega arith))

pub returns-then-not-copies_fit : goal.returns-then-not-copies_fit
returns-then-not-copies_fit c = sym (large_parallel c.args.count c.args.index c.args.value.now (grind arith))

pub returns : goal.returns
returns c = ap Some c.in_ok-copy.ensures ∙ sym (one_parallel c.args.count c.args.index c.args.value.now (omega arith) (grind arith))
