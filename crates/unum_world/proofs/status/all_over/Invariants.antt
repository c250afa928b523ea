use Rattle.std.proofs.Common.{◌≡◌, drop}
use Rattle.world_plans.specs.Sessions.{all_over}
use Rattle.unum_world.proofs.status.all_over.Given as goal

abbrev pub invariant-loop-k : goal.invariant-loop-k
invariant-loop-k l = all_over l.session l.queue.invs l.queue.states ≡ all_over l.session (drop l.k l.queue.invs) (drop l.k l.queue.states)
