use Rattle.std.proofs.Common.{◌≡◌, ◌++◌, map, drop}
use Rattle.unum_json.specs.Parsed.{view}
use Rattle.asl_read.specs.Parts.{list_in}
use Rattle.ir_text.specs.Spelled.{number_of}
use Rattle.ir_text.proofs.spelling.numbers.Given as goal

abbrev pub invariant-loop-item : goal.invariant-loop-item
invariant-loop-item l = map number_of (list_in l.key (view l.value)) ≡ l.found ++ map number_of (map view (drop l.item-index l.item-items))
