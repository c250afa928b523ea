use Rattle.std.proofs.Common.{◌≡◌, ◌++◌, map, drop, codes}
use Rattle.unum_json.specs.Parsed.{view}
use Rattle.asl_read.specs.Parts.{list_in}
use Rattle.ir_text.specs.Spelled.{node_of}
use Rattle.ir_text.proofs.spelling.nodes_of.Given as goal

abbrev pub invariant-loop-item : goal.invariant-loop-item
invariant-loop-item l = map node_of (list_in (codes "nodes") (view l.value)) ≡ l.found
    ++ map node_of (map view (drop l.item-index l.item-items))
