use Rattle.asl_model.proofs.StopLaw.{stretch_means_lem, after_means_lem, used_fits_lem}
use Rattle.asl_model.proofs.laws.stops.Goals as goal

pub returns : goal.returns
returns c = record { stretch = stretch_means_lem; after = after_means_lem; used = used_fits_lem }
