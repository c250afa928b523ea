use Rattle.world_ranges.proofs.Walks.{every_form_stays_in_range}
use Rattle.world_ranges.proofs.flat_forms_stay_in_range.Goals as goal

pub returns : goal.returns
returns c = every_form_stays_in_range
