use Rattle.std.proofs.Common.{drop, map, sym, ◌∙◌}
use Rattle.unum_ir.specs.WellFormed.{tag_of}
use Rattle.unum_ir.proofs.Tagging.{none_left, nodes_past}
use Rattle.unum_ir.proofs.func_tests.tags_fit.Goals as goal

pub returns : goal.returns
returns c =
    none_left c.args.funcs.now c.loop-i.at
    ∙ sym (nodes_past c.args.nodes.now c.loop-i.i (map tag_of (drop c.loop-i.at c.args.funcs.now)) c.loop-i-test.false)
    ∙ c.loop-i.invariant
