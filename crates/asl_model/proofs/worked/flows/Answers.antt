use Rattle.asl_model.proofs.Rows.{choice_sees, choice_finds_nothing, pass_hands_on, state_is_cause, catcher_puts, tickets_in_order}
use Rattle.asl_model.proofs.worked.flows.Goals as goal

pub returns : goal.returns
returns c = record { choice = choice_sees; raw = choice_finds_nothing; pass = pass_hands_on; cause = state_is_cause; catcher = catcher_puts; tickets = tickets_in_order }
