use Rattle.std.proofs.Common.{◌≡◌, ◌+◌, ◌++◌, map, drop}
use Rattle.asl_model.specs.Machine.{states_of}
use Rattle.asl_model.specs.Tree.{states_from}
use Rattle.asl_model.proofs.Trees.{row}
use Rattle.continuation_gen.specs.Numbering.{callers, size, size_within, nodes_from, nodes_of, node_number}
use Rattle.continuation_gen.specs.Filling.{placed_of, inner_at}
use Rattle.continuation_gen.proofs.tables.add_nodes.Given as goal

abbrev pub invariant-loop-row : goal.invariant-loop-row
invariant-loop-row l =
    let rest = states_from (map row (drop l.row-index l.row-items)) in
    let p = placed_of l.p in
    record {
      left : l.nodes ++ nodes_from (node_number p) p.at.scope l.func (inner_at l.scope) rest ≡ l.fn.nodes ++ nodes_of p;
      func : l.func + callers rest ≡ p.at.func + callers (states_of p.block);
      scope : l.scope + (size_within rest).scope ≡ p.at.scope + (size p.block).scope;
    }
