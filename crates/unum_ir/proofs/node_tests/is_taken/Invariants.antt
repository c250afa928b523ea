use Rattle.std.proofs.Common.{◌≡◌, drop, map}
use Rattle.std.specs.List.{list_any}
use Rattle.asl_model.specs.Data.{same_text}
use Rattle.unum_ir.specs.WellFormed.{name_of}
use Rattle.unum_ir.proofs.node_tests.is_taken.Given as goal

abbrev pub invariant-loop-node : goal.invariant-loop-node
invariant-loop-node l = list_any (same_text l.name) (map name_of (drop l.node-index l.nodes)) ≡ list_any (same_text l.name) (map name_of l.nodes)
