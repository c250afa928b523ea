use Rattle.std.proofs.Common.{sym, subst}
use Rattle.unum_world.specs.Traces.{IsObeying}
use Rattle.unum_world.proofs.Choices.{obeying_first}
use Rattle.unum_world.proofs.planned.Planned.open.Goals as goal

pub invariant_of-result : goal.invariant_of-result
invariant_of-result c = subst IsObeying (sym c.in_ok-world.ensures.begins) (obeying_first c.args.opening c.args.limit)
