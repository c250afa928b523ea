use Rattle.std.proofs.Common.{◌≡◌, ◌++◌, map, take}
use Rattle.continuation_gen.specs.Numbering.{all_of, enters, funcs_of}
use Rattle.continuation_gen.specs.Filling.{placed_of}
use Rattle.continuation_gen.proofs.tables.func_table.Given as goal

abbrev pub invariant-loop-block : goal.invariant-loop-block
invariant-loop-block l = l.funcs ≡ enters 0 l.scopes ++ all_of funcs_of (map placed_of (take l.block-index l.placed))
