use Rattle.asl_model.proofs.Bounds.{name_lengths, state_counts, branch_counts, depths, concurrency, care_counts, attempts, error_names, leads}
use Rattle.asl_model.proofs.shown.limits_of_validity.Goals as goal

pub returns : goal.returns
returns c = record {
  name_lengths = name_lengths;
  state_counts = state_counts;
  branch_counts = branch_counts;
  depths = depths;
  concurrency = concurrency;
  care_counts = care_counts;
  attempts = attempts;
  error_names = error_names;
  leads = leads;
}
