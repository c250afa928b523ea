use Rattle.std.proofs.Common.{rules}
use Rattle.unum_world.proofs.Opened.{opened_keeps}
use Rattle.unum_world.proofs.first_state.first_state.Goals as goal

pub returns-clause-kept : goal.returns-clause-kept
returns-clause-kept c = opened_keeps c.args.o.now _ (search rules) c.new-2.ensures.items (search rules)
