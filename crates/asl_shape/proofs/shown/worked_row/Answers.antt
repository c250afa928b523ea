use Rattle.asl_shape.proofs.Computed.{input_path, parameters_follow, result_path, output_path}
use Rattle.asl_shape.proofs.shown.worked_row.Goals as goal

pub returns : goal.returns
returns c = record { input_path = input_path; parameters = parameters_follow; result_path = result_path; output_path = output_path }
