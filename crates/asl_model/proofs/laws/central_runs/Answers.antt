use Rattle.asl_model.specs.Step.{standard}
use Rattle.asl_model.proofs.Ones.{standard_one}
use Rattle.asl_model.proofs.Uses.{central_growth_lem, next_lem}
use Rattle.asl_model.proofs.laws.central_runs.Goals as goal

pub returns : goal.returns
returns c = record { growth = central_growth_lem standard; next = next_lem standard standard_one }
