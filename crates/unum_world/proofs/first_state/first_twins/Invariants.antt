use Rattle.std.proofs.Common.{◌≡◌, []}
use Rattle.unum_world.proofs.first_state.first_twins.Given as goal

abbrev pub invariant-loop-made : goal.invariant-loop-made
invariant-loop-made l = l.twins ≡ record { numbers = []; room = l._made }
