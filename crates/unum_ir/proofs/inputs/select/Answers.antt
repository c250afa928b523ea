use Rattle.std.proofs.Common.{[], ◌∷◌, ◌++◌, ◌∙◌, ap}
use Rattle.asl_model.specs.Data.{selected}
use Rattle.unum_ir.proofs.Keeping.{none_before, none_made}
use Rattle.unum_ir.proofs.Selecting.{input_more}
use Rattle.unum_ir.proofs.inputs.select.Goals as goal

pub loop-i-preserved : goal.loop-i-preserved
loop-i-preserved c =
    let made = c.loop-i.invariant.0 in
    let v = c.in_ok-input.input in (
      made ++ v ∷ [],
      input_more c.args.template.now c.args.value.now c.as_slice-item-items.result.now c.loop-i.i c.item-item.result made v _ c.loop-i-test.true c.item-item.is c.in_ok-input.ensures c.loop-i.invariant.1,
      c.in_ok-total.ensures made c.loop-i.invariant.2,
    )

pub loop-i-init : goal.loop-i-init
loop-i-init c = ([], none_before _ ∙ ap (selected c.args.template.now c.args.value.now 0) c.as_slice-item-items.ensures, none_made _ c.new-inputs.ensures)
