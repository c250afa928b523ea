use Rattle.std.proofs.Common.{◌≡◌, map, take}
use Rattle.continuation_gen.specs.Numbering.{all_of, nodes_of}
use Rattle.continuation_gen.specs.Filling.{placed_of}
use Rattle.continuation_gen.proofs.tables.node_table.Given as goal

abbrev pub invariant-loop-block : goal.invariant-loop-block
invariant-loop-block l = l.nodes ≡ all_of nodes_of (map placed_of (take l.block-index l.placed))
