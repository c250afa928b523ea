use Rattle.world_model.proofs.Queues.{queue_is_right}
use Rattle.world_model.proofs.queues_are_right.Goals as goal

pub returns : goal.returns
returns c = record { machines = λ bits codes first o es w e. queue_is_right bits codes first o es w e; numbers = λ bits codes first o es w e. queue_is_right bits codes first o es w e }
