use Rattle.std.proofs.Common.{◌-◌, ◌+◌, ◌*◌, length}
use Rattle.asl_model.specs.Names.{Answers}
use Rattle.asl_model.specs.Machine.{start_of}
use Rattle.asl_model.specs.Tree.{block_tree}
use Rattle.asl_model.specs.Central.{hop_limit}
use Rattle.central_model.specs.Walked.{Keeps, walk_from, branch_runs}
use Rattle.central_model.proofs.Going.{Rests, GathersRest, rest_runs}
use Rattle.central_model.proofs.walk.Walk.+scopes.Given as goal

abbrev pub decreases-scope : goal.decreases-scope
decreases-scope l = 6 * (8 - length l.at.now.trail) + 5

abbrev pub decreases-states : goal.decreases-states
decreases-states l = 6 * (8 - length l.at.now.trail) + 4

abbrev pub decreases-state : goal.decreases-state
decreases-state l = 6 * (8 - length l.at.now.trail) + 3

abbrev pub decreases-turn : goal.decreases-turn
decreases-turn l = 6 * (8 - length l.entry.now.place.trail) + 2

abbrev pub decreases-fan : goal.decreases-fan
decreases-fan l = 6 * (8 - length l.entry.now.place.trail) + 1

abbrev pub decreases-branches : goal.decreases-branches
decreases-branches l = 6 * (8 - length l.entry.now.place.trail)

abbrev pub invariant-states-loop-hop : goal.invariant-states-loop-hop
invariant-states-loop-hop l = record {
  kept : Keeps l.initial.self l.self;
  rest : (A : Answers) → Rests l.initial.self l.self (walk_from A (block_tree l.block) hop_limit l.at (start_of (block_tree l.block)) 0 l.initial.raw l.initial.again) (walk_from A (block_tree l.block) (2000 - l.hop) l.at l.name l.hop l.raw l.again);
}

abbrev pub invariant-branches-loop-index : goal.invariant-branches-loop-index
invariant-branches-loop-index l = record {
  kept : Keeps l.initial.self l.self;
  rest : (A : Answers) → GathersRest l.initial.self l.self l.gathered (branch_runs A l.entry l.inputs) (rest_runs A l.entry l.inputs l.index);
}
