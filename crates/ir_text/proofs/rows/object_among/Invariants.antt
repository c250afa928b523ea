use Rattle.std.proofs.Common.{◌≡◌, map, drop}
use Rattle.unum_json.specs.Keys.{find_key}
use Rattle.ir_text.specs.Tables.{named_object}
use Rattle.ir_text.proofs.rows.object_among.Given as goal

abbrev pub invariant-loop-row : goal.invariant-loop-row
invariant-loop-row l = find_key l.name (map named_object l.objects) ≡ find_key l.name (map named_object (drop l.row-index l.objects))
