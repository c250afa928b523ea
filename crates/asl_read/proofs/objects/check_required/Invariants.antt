use Rattle.std.proofs.Common.{◌≡◌, map, drop}
use Rattle.unum_json.specs.Parsed.{view}
use Rattle.asl_read.specs.Objects.{row_of, missing_faults}
use Rattle.asl_read.proofs.objects.check_required.Given as goal

abbrev pub invariant-loop-row : goal.invariant-loop-row
invariant-loop-row g l = missing_faults (map row_of l.rows) (view l.value) ≡ missing_faults (map row_of (drop l.row-index l.rows)) (view l.value)
