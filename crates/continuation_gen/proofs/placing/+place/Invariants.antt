use Rattle.std.proofs.Common.{◌≡◌, ◌+◌, ◌++◌, map, drop}
use Rattle.asl_model.specs.Machine.{states_of}
use Rattle.asl_model.specs.Tree.{block_tree, states_from, blocks_from}
use Rattle.asl_model.proofs.Trees.{row}
use Rattle.continuation_gen.specs.Numbering as n
use Rattle.continuation_gen.specs.Numbering.{plus}
use Rattle.continuation_gen.specs.Filling.{placed_of}
use Rattle.continuation_gen.proofs.Adding.{ComesTo}
use Rattle.continuation_gen.proofs.placing.+place.Given as goal

abbrev pub invariant-place_within-loop-row : goal.invariant-place_within-loop-row
invariant-place_within-loop-row l =
    let rest = states_from (map row (drop l.row-index l.row-items)) in
    let all = states_of (block_tree l.block) in
    record {
      left : map placed_of l.out ++ n.place_within l.func l.inner rest ≡ map placed_of l.fn.out ++ n.place_within l.fn.func l.fn.at all;
      func : l.func + n.callers rest ≡ l.fn.func + n.callers all;
      inner : ComesTo l.inner (n.size_within rest) (plus l.fn.at (n.size_within all));
    }

abbrev pub invariant-place_all-loop-block : goal.invariant-place_all-loop-block
invariant-place_all-loop-block l =
    let rest = blocks_from (map block_tree (drop l.block-index l.block-items)) in
    let all = blocks_from (map block_tree l.branches) in
    record {
      left : map placed_of l.out ++ n.place_all l.func l.inner rest ≡ map placed_of l.fn.out ++ n.place_all l.func l.fn.at all;
      inner : ComesTo l.inner (n.size_all rest) (plus l.fn.at (n.size_all all));
    }
