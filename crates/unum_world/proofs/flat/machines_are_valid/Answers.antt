use Rattle.std.proofs.Common.{ℕ, ◌+◌, List, refl, add-one, arith}
use Rattle.std.proofs.lemmas.Option.{slice_get_read}
use Rattle.asl_model.specs.declared.machine.Machine.{Machine}
use Rattle.asl_model.specs.Tree.{tree_of}
use Rattle.asl_model.specs.Valid.{IsValid}
use Rattle.asl_model.specs.Walked.{HasRisingNames}
use Rattle.unum_world.proofs.Opened.{all_more}
use Rattle.unum_world.proofs.flat.machines_are_valid.Goals as goal

pub loop-row-preserved : goal.loop-row-preserved
loop-row-preserved c =
    all_more (λ (m : List ℕ × Machine). IsValid (tree_of m.1) × HasRisingNames (tree_of m.1)) c.as_slice-row-items.result.now c.loop-row.row-index
    (c.loop-row.row-index + 1) _ (add-one c.loop-row.row-index)
    (slice_get_read c.as_slice-row-items.result.now _ c.loop-row.row-index _ refl (omega arith) c.row-item.is) c.loop-row.invariant
    (c.machine-machine.ensures.valid, c.machine-machine.ensures.rising)
