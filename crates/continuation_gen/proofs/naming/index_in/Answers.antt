use Rattle.std.proofs.Common.{◌≡◌, ◌∙◌, arith}
use Rattle.asl_model.specs.Machine.{states_of}
use Rattle.asl_model.specs.Tree.{block_tree}
use Rattle.continuation_gen.specs.Numbering.{index_of}
use Rattle.continuation_gen.proofs.Indexing.{index_is, index_fits}
use Rattle.continuation_gen.proofs.naming.index_in.Goals as goal

pub returns : goal.returns
returns c =
    let b = c.args.block.now in
    let name = c.args.name.now in
    let is : c.unwrap_or.result ≡ index_of (states_of (block_tree b)) name = c.unwrap_or.ensures ∙ index_is b name c.index.result c.len.result c.index.ensures c.len.ensures in
    record { index = is; within = omega (arith, is, index_fits b name) }
