use Rattle.std.proofs.Common.{◌≡◌, ◌+◌, ◌++◌, map, drop}
use Rattle.asl_model.specs.Tree.{block_tree, blocks_from}
use Rattle.continuation_gen.specs.Numbering.{size_all, scope_numbers}
use Rattle.continuation_gen.specs.Filling.{inner_at}
use Rattle.continuation_gen.proofs.ops.number_scopes.Given as goal

abbrev pub invariant-loop-block : goal.invariant-loop-block
invariant-loop-block l =
    let rest = blocks_from (map block_tree (drop l.block-index l.block-items)) in
    let all = blocks_from (map block_tree l.branches) in
    (l.scopes ++ scope_numbers (inner_at l.scope) rest ≡ scope_numbers (inner_at l.first) all)
    × (l.scope + (size_all rest).scope ≡ l.first + (size_all all).scope)
