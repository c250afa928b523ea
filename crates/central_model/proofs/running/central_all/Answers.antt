use Rattle.std.proofs.Common.{sym, subst}
use Rattle.asl_model.specs.Central.{Run}
use Rattle.asl_model.specs.Names.{answers_of}
use Rattle.asl_model.specs.Tree.{tree_of}
use Rattle.central_model.specs.Asking.{by_functions, functions_of, AreAnswered}
use Rattle.central_model.specs.Walked.{Tells}
use Rattle.central_model.proofs.Sequences.{answers_in_order_lem}
use Rattle.central_model.proofs.running.central_all.Goals as goal

pub returns : goal.returns
returns c =
    let call = functions_of c.args.table.now in
    let (es, same, in_order) = answers_in_order_lem (tree_of c.args.machine.now) c.args.session c.args.input.now call in
    subst (λ (r : Run). AreAnswered (by_functions call) 0 r.visits → Tells c.args.limit c.run_by.result r) (sym same) (c.run_by.ensures (answers_of es)) in_order
