use Rattle.std.proofs.Common.{refl}
use Rattle.std.proofs.lemmas.Bool.{false≢true}
use Rattle.fn_wrapper.proofs.Asks.{asks_at, asks_not}
use Rattle.fn_wrapper.proofs.program.is_call.Goals as goal

pub returns-in-Calling : goal.returns-in-Calling
returns-in-Calling c code i ready =
    (λ t. asks_at code i c.args.phase.now c.in-Calling.raw c.in-Calling.used ready c.in-Calling.is, λ a. refl)

pub returns-in_default : goal.returns-in_default
returns-in_default c code i ready =
    (λ t. absurd (false≢true t), λ a. absurd (asks_not code i c.args.phase.now (λ raw used e. c.in_default.not-Calling raw used e) a))
