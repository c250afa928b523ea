use Rattle.asl_shape.proofs.Computed.{first_error, data_limit}
use Rattle.asl_shape.proofs.shown.errors_in_order.Goals as goal

pub returns : goal.returns
returns c = record { first = first_error; limit = data_limit }
