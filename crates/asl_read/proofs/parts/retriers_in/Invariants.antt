use Rattle.std.proofs.Common.{◌≡◌, ◌++◌, map, drop, codes}
use Rattle.unum_json.specs.Parsed.{view}
use Rattle.asl_read.specs.Parts.{list_in, retrier_of}
use Rattle.asl_read.proofs.parts.retriers_in.Given as goal

abbrev pub invariant-loop-item : goal.invariant-loop-item
invariant-loop-item l = map retrier_of (list_in (codes "Retry") (view l.value)) ≡ l.found ++ map retrier_of (map view (drop l.item-index l.item-items))
