-- How many copies and branches there are.
use Rattle.std.proofs.Common.{rules, ◌≡◌, suc, List, [], ◌∷◌, map, length, refl, ap, ◌∙◌}
use Rattle.std.proofs.lemmas.List.{length-map}
use Rattle.asl_model.specs.declared.machine.Block.{Block}
use Rattle.asl_shape.specs.Stages.{Stages}
use Rattle.asl_model.specs.declared.machine.After.{After}
use Rattle.asl_model.specs.declared.machine.Care.{Care}
use Rattle.asl_model.specs.declared.machine.State as state
use Rattle.asl_model.specs.declared.machine.State.{the_lemmas}
use Rattle.asl_model.specs.Tree.{block_tree, state_tree, blocks_from, care_of}
use Rattle.asl_model.specs.Machine as m

count_in : (bs : List m.Block) → length (m.blocks_in (blocks_from bs)) ≡ length bs
count_in [] = refl
count_in (b ∷ bs) = ap suc (count_in bs)

-- a Parallel's branches are counted in its tree
pub branch_count : (bs : List Block) → length (m.blocks_in (blocks_from (map block_tree bs))) ≡ length bs
branch_count bs = count_in (map block_tree bs) ∙ length-map bs block_tree

pub parallel_tree : (shape : Stages) (branches : List Block) (after : After) (care : Care) → state_tree (state.Parallel shape branches after care) ≡ m.Parallel shape (blocks_from (map block_tree branches)) after (care_of care)
parallel_tree shape branches after care = search (the_lemmas, rules)
