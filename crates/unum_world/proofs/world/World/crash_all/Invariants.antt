use Rattle.std.proofs.Common.{◌≡◌, ◌≤◌, ◌-◌, length}
use Rattle.unum_world.proofs.Crashes.{HasCrashed}
use Rattle.unum_world.proofs.world.World.crash_all.Given as goal

abbrev pub invariant-loop-attempt : goal.invariant-loop-attempt
invariant-loop-attempt l = record {
  crashed : HasCrashed l.fn.self l.self;
}

abbrev pub decreases-loop-attempt : goal.decreases-loop-attempt
decreases-loop-attempt l = l.self.limit - length l.self.history
