use Rattle.std.proofs.Common.{◌≡◌, map, take}
use Rattle.ir_text.specs.Printed.{node_value}
use Rattle.ir_text.proofs.printing.nodes_value.Given as goal

abbrev pub invariant-loop-node : goal.invariant-loop-node
invariant-loop-node l = l.values ≡ map node_value (take l.node-index l.node-items)
