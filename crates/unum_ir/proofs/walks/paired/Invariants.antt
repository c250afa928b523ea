use Rattle.std.proofs.Common.{◌≡◌, ◌++◌, drop, length}
use Rattle.std.specs.Vec.Iter.{into_iter_items}
use Rattle.unum_ir.specs.Flat.{children}
use Rattle.unum_ir.proofs.walks.paired.Given as goal

abbrev pub invariant-loop-input : goal.invariant-loop-input
invariant-loop-input l = l.made ++ children (drop (length l.made) l.scopes) (into_iter_items l.input-iterator) ≡ children l.scopes l.fn.inputs
