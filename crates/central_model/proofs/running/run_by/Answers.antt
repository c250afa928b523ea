use Rattle.std.proofs.Common.{◌-◌, length, sym, subst}
use Rattle.asl_model.specs.Tree.{tree_of}
use Rattle.central_model.specs.Fits.{FitsIn}
use Rattle.central_model.proofs.Fitting.{valid_fits}
use Rattle.central_model.proofs.running.run_by.Goals as goal

pub scope-requires-clause-fits : goal.scope-requires-clause-fits
scope-requires-clause-fits c = subst (λ l. FitsIn (8 - length l) (tree_of c.args.machine.now)) (sym c.new.ensures) (valid_fits (tree_of c.args.machine.now) c.requires.valid)
