use Rattle.std.proofs.Common.{◌≡◌, ◌++◌, drop, flat_map, string_bytes}
use Rattle.unum_cli.specs.FlatCode.{compiled_line}
use Rattle.unum_cli.proofs.flat_code.push_machines.Given as goal

abbrev pub invariant-loop-row : goal.invariant-loop-row
invariant-loop-row l = string_bytes l.out ++ flat_map compiled_line (drop l.row-index l.machines) ≡ string_bytes l.fn.out ++ flat_map compiled_line l.machines
