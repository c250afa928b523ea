-- What holds of every world, whatever was delivered, repeated, crashed, answered and given up.
use Rattle.world_model.specs.AnyCode.Code.{flags}
use Rattle.world_model.specs.AnyCode.Queue.{QueueIsRight}
use Rattle.world_model.specs.Numbered.{IsSoundWorld}
use Rattle.world_model.specs.Flat.{flat_sites}
use Rattle.world_plans.specs.Plans.{HasNoMishap}
use Rattle.unum_world.specs.Openings.{opening_as, codes_of}
use Rattle.unum_world.specs.Traces.{Trace, now, opened_world, IsRun, IsObeying}
use Rattle.unum_world.specs.Cost.{HasItsCost}

-- It is the run of its history. The laws of worlds of machines hold of it: each checkpoint belongs to one central run of its session,
-- each ended session has that run's outcome, nothing is collected that is still to be read, fans keep to their limits, calls are
-- made, a session whose invocations are all acknowledged has ended and is swept, and where no event is enabled the world is at
-- rest. The queue counts what happened. And where the plan has no mishaps, and allowed each event, the world has its cost.
pub record IsSound (p : Trace) : Type 0 where
  pub happened : IsRun p
  pub laws : IsSoundWorld (opening_as p.opening) (codes_of p.opening) (flat_sites (opening_as p.opening)) p.history (now p)
  pub queue : QueueIsRight flags (codes_of p.opening) (opened_world p.opening) (now p) p.history
  pub cost : IsObeying p → HasNoMishap p.opening.plan → HasItsCost p
