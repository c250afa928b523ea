use Rattle.std.proofs.Common.{◌≡◌, ◌++◌, [], drop, map, length}
use Rattle.world_model.specs.AnyCode.World.{root_invs, root_states}
use Rattle.world_model.specs.Numbered.{first_number}
use Rattle.unum_world.specs.Openings.{Machines, session_as}
use Rattle.unum_world.proofs.first_state.first_queue.Given as goal

abbrev pub invariant-loop-s : goal.invariant-loop-s
invariant-loop-s l = record {
  invs :
      (machines : Machines) →
      l.queue.invs ++ root_invs first_number l.s (map (session_as machines) (drop l.s l.sessions))
      ≡ root_invs first_number 0 (map (session_as machines) l.sessions);
  states :
      (machines : Machines) →
      l.queue.states ++ root_states (map (session_as machines) (drop l.s l.sessions)) ≡ root_states (map (session_as machines) l.sessions);
  atts : l.queue.atts ≡ [];
  many : length l.queue.invs ≡ l.s;
}
