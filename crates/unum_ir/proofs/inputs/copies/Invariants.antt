use Rattle.std.proofs.Common.{◌≡◌, ◌≤◌, ◌-◌, length}
use Rattle.asl_model.specs.Data.{repeat}
use Rattle.unum_ir.proofs.inputs.copies.Given as goal

abbrev pub invariant-filling : goal.invariant-filling
invariant-filling l = (l.made ≡ repeat (length l.made) l.value) × (length l.made ≤ l.count)

abbrev pub decreases-filling : goal.decreases-filling
decreases-filling l = l.count - length l.made
