use Rattle.std.proofs.Common.{◌≡◌, ◌++◌, map, drop}
use Rattle.unum_json.specs.Parsed.{view}
use Rattle.bundle_read.specs.Drafts.{number_of}
use Rattle.bundle_read.proofs.drafts.numbers_of.Given as goal

abbrev pub invariant-loop-item : goal.invariant-loop-item
invariant-loop-item l = map number_of (map view l.items) ≡ l.numbers ++ map number_of (map view (drop l.item-index l.items))
