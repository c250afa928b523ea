use Rattle.std.proofs.Common.{◌+◌, ap, arith}
use Rattle.asl_model.specs.Tree.{block_tree}
use Rattle.continuation_gen.specs.Numbering.{size_all}
use Rattle.continuation_gen.proofs.Adding.{blocks_at, next_block, scopes_next}
use Rattle.continuation_gen.proofs.ops.number_scopes.Goals as goal

pub loop-block-preserved : goal.loop-block-preserved
loop-block-preserved c =
    let items = c.as_slice-block-items.result.now in
    let i = c.loop-block.block-index in
    let b = block_tree c.block-item.result in
    let e = next_block items i c.block-item.result c.loop-block-test.true c.block-item.is in
    let size_is = ap (λ z. (size_all z).scope) e in (
      scopes_next c.loop-block.scope b (blocks_at items i) (blocks_at items (i + 1)) e c.loop-block.scopes c.push.new.self _ (c.loop-block.scope + c.scopes_in-scope.result) c.in_ok-push.ensures.ok (ap (λ k. c.loop-block.scope + k) c.scopes_in-scope.ensures) c.loop-block.invariant.0,
      omega (arith, size_is, c.scopes_in-scope.ensures, c.loop-block.invariant.1),
    )
