use Rattle.std.proofs.Common.{◌≡◌, ◌+◌, ◌++◌, map, drop}
use Rattle.asl_model.specs.Machine.{states_of}
use Rattle.asl_model.specs.Tree.{states_from}
use Rattle.asl_model.proofs.Trees.{row}
use Rattle.continuation_gen.specs.Numbering.{count, funcs_from, funcs_of}
use Rattle.continuation_gen.specs.Filling.{placed_of}
use Rattle.continuation_gen.proofs.tables.add_funcs.Given as goal

abbrev pub invariant-loop-row : goal.invariant-loop-row
invariant-loop-row l =
    let rest = states_from (map row (drop l.row-index l.row-items)) in
    let p = placed_of l.p in
    record {
      left : l.funcs ++ funcs_from l.node rest ≡ l.fn.funcs ++ funcs_of p;
      node : l.node + count rest ≡ p.at.node + count (states_of p.block);
    }
