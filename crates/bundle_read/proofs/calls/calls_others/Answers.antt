use Rattle.std.proofs.Common.{sym, ◌∙◌}
use Rattle.asl_model.specs.Tree.{tree_of}
use Rattle.bundle_read.specs.Bounds.{calls_another}
use Rattle.bundle_read.proofs.Somewhere.{some_nodes}
use Rattle.bundle_read.proofs.calls.calls_others.Goals as goal

pub returns : goal.returns
returns c = c.block_calls.ensures ∙ sym (some_nodes (calls_another c.args.functions.now) (tree_of c.args.machine.now))
