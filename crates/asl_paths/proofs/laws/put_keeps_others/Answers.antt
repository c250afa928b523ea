use Rattle.asl_paths.proofs.Puts.{put_kept}
use Rattle.asl_paths.proofs.laws.put_keeps_others.Goals as goal

pub returns : goal.returns
returns c = put_kept
