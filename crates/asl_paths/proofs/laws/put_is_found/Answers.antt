use Rattle.asl_paths.proofs.Puts.{put_found}
use Rattle.asl_paths.proofs.laws.put_is_found.Goals as goal

pub returns : goal.returns
returns c = put_found
