use Rattle.std.proofs.Common.{◌≡◌, ◌++◌, map, drop, codes}
use Rattle.unum_json.specs.Parsed.{view}
use Rattle.asl_read.specs.Parts.{list_in}
use Rattle.ir_text.specs.Spelled.{catcher_of}
use Rattle.ir_text.proofs.spelling.catchers.Given as goal

abbrev pub invariant-loop-item : goal.invariant-loop-item
invariant-loop-item l = map catcher_of (list_in (codes "catch") (view l.value)) ≡ l.found
    ++ map catcher_of (map view (drop l.item-index l.item-items))
