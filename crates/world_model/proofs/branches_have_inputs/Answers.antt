use Rattle.world_model.proofs.Inputs.{every_branch_has_input}
use Rattle.world_model.proofs.branches_have_inputs.Goals as goal

pub returns : goal.returns
returns c = every_branch_has_input
