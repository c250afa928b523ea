use Rattle.std.proofs.Common.{◌≡◌, map, take}
use Rattle.continuation_gen.specs.Numbering.{scope_of}
use Rattle.continuation_gen.specs.Filling.{placed_of}
use Rattle.continuation_gen.proofs.tables.scope_table.Given as goal

abbrev pub invariant-loop-block : goal.invariant-loop-block
invariant-loop-block l = l.scopes ≡ map scope_of (map placed_of (take l.block-index l.placed))
