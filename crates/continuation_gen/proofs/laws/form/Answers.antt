use Rattle.continuation_gen.proofs.Formed.{form_is_well_formed}
use Rattle.continuation_gen.proofs.Small.{small_numbers}
use Rattle.continuation_gen.proofs.laws.form.Goals as goal

pub returns : goal.returns
returns c = record { well = form_is_well_formed; small = small_numbers }
