use Rattle.std.proofs.Common.{◌≡◌, ◌-◌, length}
use mathlib.Core.List.{IsPrefix}
use Rattle.unum_world.specs.Traces.{IsChosen, IsObeying}
use Rattle.unum_world.proofs.planned.settle.Given as goal

abbrev pub invariant-loop-event : goal.invariant-loop-event
invariant-loop-event l = record {
  chosen : IsChosen l.fn.world → IsChosen l.world;
  obeying : IsObeying l.world;
  grown : IsPrefix l.fn.world.history l.world.history;
  opening : l.world.opening ≡ l.fn.world.opening;
  limit : l.world.limit ≡ l.fn.world.limit;
}

abbrev pub decreases-loop-event : goal.decreases-loop-event
decreases-loop-event l = l.world.limit - length l.world.history
