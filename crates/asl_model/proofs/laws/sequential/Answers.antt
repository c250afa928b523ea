use Rattle.asl_model.proofs.SizeLaw.{bounded_lem}
use Rattle.asl_model.proofs.SequentialLaw.{sequential_ends_lem}
use Rattle.asl_model.proofs.laws.sequential.Goals as goal

pub returns : goal.returns
returns c = record { bounded = bounded_lem; ends = sequential_ends_lem }
