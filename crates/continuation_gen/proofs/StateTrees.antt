-- The trees of a Task and of a Map.
use Rattle.std.proofs.Common.{rules, ◌≡◌, ℕ, Option}
use Rattle.asl_model.specs.declared.machine.Block.{Block}
use Rattle.asl_shape.specs.Stages.{Stages}
use Rattle.asl_model.specs.declared.machine.After.{After}
use Rattle.asl_model.specs.declared.machine.Care.{Care}
use Rattle.asl_model.specs.declared.machine.State as state
use Rattle.asl_model.specs.declared.machine.State.{the_lemmas}
use Rattle.asl_model.specs.Data.{Text, Path, Template}
use Rattle.asl_model.specs.Machine as m
use Rattle.asl_model.specs.Tree.{block_tree, state_tree, care_of}

pub task_tree : (shape : Stages) (resource : Text) (after : After) (care : Care) → state_tree (state.Task shape resource after care) ≡ m.Task shape resource after (care_of care)
task_tree shape resource after care = search (the_lemmas, rules)

pub map_tree : (shape : Stages) (items : Path) (selector : Option Template) (body : Block) (after : After) (care : Care) (limit : ℕ) → state_tree (state.Map shape items selector body after care limit) ≡ m.Map shape items selector (block_tree body) after (care_of care) limit
map_tree shape items selector body after care limit = search (the_lemmas, rules)
