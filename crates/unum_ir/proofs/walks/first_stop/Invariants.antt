use Rattle.std.proofs.Common.{◌≡◌, ◌-◌}
use Rattle.unum_ir.specs.Flat.{first_flat, flat}
use Rattle.unum_ir.proofs.walks.first_stop.Given as goal

abbrev pub invariant-loop-at : goal.invariant-loop-at
invariant-loop-at l = first_flat l.ir (2000 - l.at) l.label l.at l.raw l.again ≡ flat l.ir l.initial.label l.hop l.initial.raw l.initial.again
