use Rattle.std.proofs.Common.{sym, ◌∙◌}
use Rattle.asl_valid.proofs.Trees.{count_blocks}
use Rattle.asl_valid.proofs.parts.branch_count.Goals as goal

pub returns : goal.returns
returns c = c.len.ensures ∙ sym (count_blocks c.args.branches.now)
