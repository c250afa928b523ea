use Rattle.std.proofs.Common.{◌≡◌}
use Rattle.std.specs.Vec.Iter.{into_iter_items}
use Rattle.asl_model.specs.Data.{outputs}
use Rattle.central_model.specs.Kinds.{more_outputs}
use Rattle.central_model.proofs.combining.combine.Given as goal

abbrev pub invariant-loop-outcome : goal.invariant-loop-outcome
invariant-loop-outcome l = more_outputs l.outputs (outputs (into_iter_items l.outcome-iterator)) ≡ outputs l.fn.outcomes
