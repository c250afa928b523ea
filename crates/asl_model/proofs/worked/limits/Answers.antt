use Rattle.asl_model.proofs.Rows.{hops, stretch_ends, items, inputs, outcomes}
use Rattle.asl_model.proofs.worked.limits.Goals as goal

pub returns : goal.returns
returns c = record { hops = hops; stretch = stretch_ends; items = items; inputs = inputs; outcomes = outcomes }
