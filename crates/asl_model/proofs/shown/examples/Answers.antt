use Rattle.asl_model.proofs.Computed.{waiting_task, answered_task, fan_waits, empty_map, retried_task, loop_ends, astray_breaks}
use Rattle.asl_model.proofs.shown.examples.Goals as goal

pub returns : goal.returns
returns c = record {
  waiting_task = waiting_task;
  answered_task = answered_task;
  fan_waits = fan_waits;
  empty_map = empty_map;
  retried_task = retried_task;
  loop_ends = loop_ends;
  astray_breaks = astray_breaks;
}
