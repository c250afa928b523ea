use Rattle.std.proofs.Common.{take}
use Rattle.unum_world.specs.Openings.{AreAllValid}
use Rattle.unum_world.proofs.flat.machines_are_valid.Given as goal

abbrev pub invariant-loop-row : goal.invariant-loop-row
invariant-loop-row l = AreAllValid (take l.row-index l.row-items)
