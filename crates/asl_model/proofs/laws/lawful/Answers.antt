use Rattle.asl_model.specs.Step.{standard}
use Rattle.asl_model.proofs.FanLaw.{lawful, input_at_lem, one_body_lem}
use Rattle.asl_model.proofs.Ones.{standard_one}
use Rattle.asl_model.proofs.laws.lawful.Goals as goal

pub returns : goal.returns
returns c = record { laws = lawful standard standard_one; input_at = input_at_lem; one_body = one_body_lem }
