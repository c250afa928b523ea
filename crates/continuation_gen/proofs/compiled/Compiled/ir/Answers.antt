use Rattle.std.proofs.Common.{sym, subst}
use Rattle.asl_model.specs.Tree.{tree_of}
use Rattle.asl_model.specs.declared.machine.Machine.{Machine}
use Rattle.unum_ir.specs.WellFormed.{IsWellFormed}
use Rattle.continuation_gen.specs.Compiling.{IsFormOf}
use Rattle.continuation_gen.specs.Laws.{IsShort}
use Rattle.continuation_gen.proofs.Formed.{form_is_well_formed}
use Rattle.continuation_gen.proofs.Small.{small_numbers}
use Rattle.continuation_gen.proofs.Keeping.{keeps_machine}
use Rattle.continuation_gen.proofs.compiled.Compiled.ir.Goals as goal

pub returns : goal.returns
returns c =
    let root = tree_of c.args.self.now in
    let kept : IsFormOf root c.self.inside.ir = subst (λ (m : Machine). IsFormOf (tree_of m) c.self.inside.ir) c.self.view_is c.self.invariant in
    record {
      form = kept.form;
      well = subst IsWellFormed (sym kept.form) (form_is_well_formed root kept.valid kept.rising);
      short = subst IsShort (sym kept.form) (small_numbers root kept.valid);
      keeps = keeps_machine root kept.valid kept.rising;
    }
