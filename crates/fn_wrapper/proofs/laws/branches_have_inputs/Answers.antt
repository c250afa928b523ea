use Rattle.fn_wrapper.proofs.Inputs.{every_branch_has_input}
use Rattle.fn_wrapper.proofs.laws.branches_have_inputs.Goals as goal

pub returns : goal.returns
returns c = every_branch_has_input
