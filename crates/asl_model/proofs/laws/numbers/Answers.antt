use Rattle.asl_model.proofs.NumberLaw.{enter_number_lem, number_means_lem, each_has_number_lem, one_number_lem, state_found_lem}
use Rattle.asl_model.proofs.NameLaw.{visit_has_number_lem, names_in_range_lem}
use Rattle.asl_model.proofs.laws.numbers.Goals as goal

pub returns : goal.returns
returns c = record { enters = enter_number_lem; means = number_means_lem; each = each_has_number_lem; one = one_number_lem; found = state_found_lem; visits = visit_has_number_lem; names = names_in_range_lem }
