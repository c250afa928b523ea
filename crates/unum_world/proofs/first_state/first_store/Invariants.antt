use Rattle.std.proofs.Common.{◌≡◌, drop, map}
use Rattle.world_model.specs.AnyCode.World.{start_objects}
use Rattle.checkpoint_store.specs.Entries.{objects_of}
use Rattle.unum_world.specs.Openings.{Machines, session_as}
use Rattle.unum_world.proofs.first_state.first_store.Given as goal

abbrev pub invariant-loop-s : goal.invariant-loop-s
invariant-loop-s l = (machines : Machines) → objects_of l.store ≡ start_objects l.s (map (session_as machines) (drop l.s l.sessions))
