use Rattle.std.proofs.Common.{◌≡◌, map, drop}
use Rattle.unum_json.specs.Keys.{find_key}
use Rattle.asl_read.specs.Faults.{named_type}
use Rattle.asl_read.proofs.checking.type_among.Given as goal

abbrev pub invariant-loop-row : goal.invariant-loop-row
invariant-loop-row l = find_key l.name (map named_type l.types) ≡ find_key l.name (map named_type (drop l.row-index l.types))
