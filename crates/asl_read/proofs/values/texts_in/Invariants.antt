use Rattle.std.proofs.Common.{◌≡◌, ◌++◌, map, drop}
use Rattle.unum_json.specs.Parsed.{view}
use Rattle.asl_read.specs.Parts.{list_in, text_of}
use Rattle.asl_read.proofs.values.texts_in.Given as goal

abbrev pub invariant-loop-item : goal.invariant-loop-item
invariant-loop-item l = map text_of (list_in l.key (view l.value)) ≡ l.texts ++ map text_of (map view (drop l.item-index l.item-items))
