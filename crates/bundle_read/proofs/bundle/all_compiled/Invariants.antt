use Rattle.std.specs.Vec.Iter.{into_iter_items}
use Rattle.bundle_read.proofs.Compiling.{Goes}
use Rattle.bundle_read.proofs.bundle.all_compiled.Given as goal

abbrev pub invariant-loop-row : goal.invariant-loop-row
invariant-loop-row l = Goes l.fn.machines l.yielded l.all (into_iter_items l.row-iterator)
