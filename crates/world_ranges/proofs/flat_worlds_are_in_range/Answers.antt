use Rattle.world_ranges.proofs.Running.{every_site_is_function, every_opening_is_in_range, every_ir_run_is_in_range}
use Rattle.world_ranges.proofs.flat_worlds_are_in_range.Goals as goal

pub returns : goal.returns
returns c = record { opening = every_opening_is_in_range; sites = every_site_is_function; run = every_ir_run_is_in_range }
