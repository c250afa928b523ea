use Rattle.central_model.proofs.Sequences.{answers_in_order_lem}
use Rattle.central_model.proofs.laws.answers_in_order.Goals as goal

pub returns : goal.returns
returns c = answers_in_order_lem
