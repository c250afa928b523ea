use Rattle.fn_wrapper.proofs.Given.{every_attempt_is_ready}
use Rattle.fn_wrapper.proofs.laws.attempts_are_ready.Goals as goal

pub returns : goal.returns
returns c = every_attempt_is_ready
