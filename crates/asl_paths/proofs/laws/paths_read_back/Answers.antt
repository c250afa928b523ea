use Rattle.asl_paths.proofs.CanonicalLaws.{path_back}
use Rattle.asl_paths.proofs.laws.paths_read_back.Goals as goal

pub returns : goal.returns
returns c = path_back
