use Rattle.std.proofs.Common.{ℕ}
use Rattle.asl_model.specs.Machine.{Block}
use Rattle.world_ranges.proofs.Events.{every_instance_does_few, every_start_is_in_range, every_event_keeps_range, every_next_is_in_range, every_run_is_in_range}
use Rattle.world_ranges.proofs.worlds_stay_in_range.Goals as goal

pub returns : goal.returns
returns c = record {
  start = every_start_is_in_range Block ℕ;
  event = every_event_keeps_range Block ℕ;
  run = every_run_is_in_range Block ℕ;
  next = every_next_is_in_range Block ℕ;
  few = every_instance_does_few ℕ;
}
