use denote.Param.Send.{sendable}
use Rattle.unum_world.proofs.Crosses.{planned}
use Rattle.unum_cli.proofs.run.run_world.Goals as goal

pub work_all-seat-requires-send-E : goal.work_all-seat-requires-send-E
work_all-seat-requires-send-E g c κs = search (planned, sendable) depth 6
