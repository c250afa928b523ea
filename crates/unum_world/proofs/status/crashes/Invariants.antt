use Rattle.std.proofs.Common.{◌≡◌, ◌+◌, ◌≤◌, drop}
use Rattle.world_plans.specs.Sessions.{crashes_in}
use Rattle.unum_world.proofs.status.crashes.Given as goal

abbrev pub invariant-loop-e : goal.invariant-loop-e
invariant-loop-e l = record {
  counted : l.count + crashes_in (drop l.e-index l.history) ≡ crashes_in l.history;
  small : l.count ≤ l.e-index;
}
