use Rattle.std.proofs.Common.{◌+◌, ◌∙◌, ap}
use Rattle.unum_cli.specs.Valid.{states_in}
use Rattle.unum_cli.proofs.Sums.{sum_next}
use Rattle.unum_cli.proofs.validate.states_of.Goals as goal

pub loop-machine-preserved : goal.loop-machine-preserved
loop-machine-preserved c =
    sum_next states_in _ c.args.machines.now c.loop-machine.machine-index c.machine-item.result c.loop-machine.total c.in-Some.sum c.loop-machine.invariant c.loop-machine-test.true c.machine-item.is
    (c.in-Some.ensures.1 ∙ ap (λ n. c.loop-machine.total + n) c.states_in.ensures)
