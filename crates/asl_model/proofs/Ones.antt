-- The profile's states have one input for each branch.
use Rattle.asl_model.specs.Step.{HasOneEach, standard}
use Rattle.asl_model.proofs.WaysLaw.{one_each}

pub standard_one : HasOneEach standard
unfolding standard
standard_one name s raw inputs e = one_each name s raw inputs e
