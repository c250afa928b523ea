use Rattle.std.proofs.Common.{◌≡◌, ◌++◌, map, drop}
use Rattle.unum_json.specs.Parsed.{view}
use Rattle.bundle_read.specs.Drafts.{numbers_of}
use Rattle.bundle_read.proofs.drafts.script_of.Given as goal

abbrev pub invariant-loop-item : goal.invariant-loop-item
invariant-loop-item l = map numbers_of (map view l.items) ≡ l.script ++ map numbers_of (map view (drop l.item-index l.items))
