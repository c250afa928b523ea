use Rattle.std.proofs.Common.{◌≡◌, drop, map}
use Rattle.asl_read.specs.Objects.{find_row, row_of}
use Rattle.asl_read.proofs.objects.find_row.Given as goal

abbrev pub invariant-loop-row : goal.invariant-loop-row
invariant-loop-row g l = find_row l.key (map row_of l.rows) ≡ find_row l.key (map row_of (drop l.row-index l.rows))
