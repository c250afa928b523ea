use Rattle.std.proofs.Common.{◌≡◌, ◌++◌, length}
use Rattle.std.specs.Vec.Iter.{into_iter_items}
use Rattle.asl_model.specs.Data.{repeat}
use Rattle.unum_ir.specs.Flat.{children}
use Rattle.unum_ir.proofs.walks.repeated.Given as goal

abbrev pub invariant-loop-input : goal.invariant-loop-input
invariant-loop-input l =
    l.made ++ children (repeat (length (into_iter_items l.input-iterator)) l.scope) (into_iter_items l.input-iterator) ≡ children (repeat (length l.fn.inputs) l.scope) l.fn.inputs
