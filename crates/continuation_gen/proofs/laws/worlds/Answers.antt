use Rattle.continuation_gen.proofs.Running.{every_ir_run_is_sound, every_run_is_of_ir}
use Rattle.continuation_gen.proofs.laws.worlds.Goals as goal

pub returns : goal.returns
returns c = record { sound = every_ir_run_is_sound; complete = every_run_is_of_ir }
