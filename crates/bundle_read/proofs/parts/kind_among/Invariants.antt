use Rattle.std.proofs.Common.{◌≡◌, map, drop}
use Rattle.unum_json.specs.Keys.{find_key}
use Rattle.bundle_read.specs.Parts.{named_kind}
use Rattle.bundle_read.proofs.parts.kind_among.Given as goal

abbrev pub invariant-loop-row : goal.invariant-loop-row
invariant-loop-row l = find_key l.name (map named_kind l.kinds) ≡ find_key l.name (map named_kind (drop l.row-index l.kinds))
