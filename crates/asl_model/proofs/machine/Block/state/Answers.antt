use Rattle.std.proofs.Common.{ap, ◌∙◌, option_map}
use Rattle.asl_model.specs.Tree.{state_tree}
use Rattle.asl_model.proofs.Trees.{found_in_tree}
use Rattle.asl_model.proofs.machine.Block.state.Goals as goal

pub returns : goal.returns
returns c = ap (option_map state_tree) c.get.ensures ∙ found_in_tree c.args.self.now c.args.name.now
