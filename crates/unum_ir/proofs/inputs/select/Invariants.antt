use Rattle.std.proofs.Common.{◌≡◌, drop, List}
use Rattle.asl_model.specs.Data.{Json, selected}
use Rattle.unum_ir.specs.Kinds.{more_inputs, Keeps}
use Rattle.unum_ir.proofs.inputs.select.Given as goal

abbrev pub invariant-loop-i : goal.invariant-loop-i
invariant-loop-i l = (made : List Json) × (more_inputs made (selected l.template l.value l.i (drop l.i l.item-items)) ≡ selected l.template l.value 0 l.items) × Keeps l.inputs l.total made
