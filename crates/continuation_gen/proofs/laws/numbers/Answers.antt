use Rattle.continuation_gen.proofs.Counted.{same_nodes, same_functions}
use Rattle.continuation_gen.proofs.laws.numbers.Goals as goal

pub returns : goal.returns
returns c = record { nodes = same_nodes; functions = same_functions }
