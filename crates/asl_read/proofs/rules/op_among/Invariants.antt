use Rattle.std.proofs.Common.{◌≡◌, map, drop}
use Rattle.unum_json.specs.Parsed.{view}
use Rattle.asl_read.specs.Rules.{op_in, named_operator}
use Rattle.asl_read.proofs.rules.op_among.Given as goal

abbrev pub invariant-loop-row : goal.invariant-loop-row
invariant-loop-row l = op_in (map named_operator l.operators) (view l.value) ≡ op_in (map named_operator (drop l.row-index l.operators)) (view l.value)
