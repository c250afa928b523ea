use Rattle.asl_model.proofs.ValidLaw.{nothing_broken}
use Rattle.asl_model.proofs.BreaksLaw.{breaks_nothing}
use Rattle.asl_model.proofs.laws.valid.Goals as goal

pub returns : goal.returns
returns c = record { nothing_broken = nothing_broken; breaks_nothing = breaks_nothing }
