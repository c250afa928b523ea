use Rattle.std.proofs.Common.{◌≡◌, ◌++◌, ◌*◌, ◌+◌, ◌<◌, drop}
use Rattle.std.specs.Map.{keys_of}
use Rattle.serde_json.specs.Data.{depth, members_depth}
use Rattle.unum_json.specs.Parsed.{view, members_view}
use Rattle.unum_json.specs.Keys.{IsRising}
use Rattle.asl_read.specs.Machines.{blocks_of, states_of}
use Rattle.asl_read.proofs.Inside.{blocks_in, states_in}
use Rattle.asl_read.proofs.machines.+machines.Given as goal

abbrev pub decreases-state_of : goal.decreases-state_of
decreases-state_of l = 2 * depth (view l.value.now) + 1

abbrev pub decreases-block_of : goal.decreases-block_of
decreases-block_of l = 2 * depth (view l.value.now) + 1

abbrev pub decreases-states_in : goal.decreases-states_in
decreases-states_in l = 2 * depth (view l.value.now)

abbrev pub decreases-body_of : goal.decreases-body_of
decreases-body_of l = 2 * depth (view l.value.now)

abbrev pub decreases-branches_in : goal.decreases-branches_in
decreases-branches_in l = 2 * depth (view l.value.now)

abbrev pub decreases-blocks_of : goal.decreases-blocks_of
decreases-blocks_of l = 2 * depth (view l.value.now)

abbrev pub decreases-states_of : goal.decreases-states_of
decreases-states_of l = 2 * depth (view l.value.now)

abbrev pub invariant-blocks_of-loop-item : goal.invariant-blocks_of-loop-item
invariant-blocks_of-loop-item l = blocks_of (view l.value) ≡ l.blocks ++ blocks_in (drop l.item-index l.item-items)

abbrev pub invariant-states_of-loop-member : goal.invariant-states_of-loop-member
invariant-states_of-loop-member l = record {
  read : states_of (view l.value) ≡ l.states ++ states_in (drop l.member-index l.member-items);
  rising : IsRising (keys_of l.states ++ keys_of (drop l.member-index l.member-items));
  low : members_depth (members_view (drop l.member-index l.member-items)) < depth (view l.value);
}
