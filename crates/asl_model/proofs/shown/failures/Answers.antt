use Rattle.asl_model.proofs.Computed.{retries_first, spent_is_caught, first_catches, own_error_is_caught, task_failed_matches, lowest_fails}
use Rattle.asl_model.proofs.shown.failures.Goals as goal

pub returns : goal.returns
returns c = record {
  retries_first = retries_first;
  spent_is_caught = spent_is_caught;
  first_catches = first_catches;
  own_error_is_caught = own_error_is_caught;
  task_failed_matches = task_failed_matches;
  lowest_fails = lowest_fails;
}
