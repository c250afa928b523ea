use Rattle.unum_world.proofs.OneTrace.{every_log_has_one_trace}
use Rattle.unum_world.proofs.engine.logs_have_one_trace.Goals as goal

pub returns : goal.returns
returns c = every_log_has_one_trace
