use Rattle.std.proofs.Common.{[]}
use Rattle.asl_model.specs.Names.{answers_of}
use Rattle.asl_model.specs.Tree.{tree_of}
use Rattle.central_model.proofs.Telling.{given_answers}
use Rattle.central_model.proofs.running.central.Goals as goal

pub returns : goal.returns
returns c =
    let A = answers_of c.args.answers.now in
    c.run_by.ensures A (given_answers A (tree_of c.args.machine.now) (record { session = c.args.session; trail = [] }) c.args.input.now)
