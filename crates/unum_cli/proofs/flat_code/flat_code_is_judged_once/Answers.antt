use Rattle.unum_cli.proofs.FlatJudged.{judged_once}
use Rattle.unum_cli.proofs.flat_code.flat_code_is_judged_once.Goals as goal

pub returns : goal.returns
returns c = judged_once
