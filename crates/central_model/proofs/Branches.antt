-- The branches of a state's tree are its own.
use Rattle.std.proofs.Common.{rules, ◌≡◌, ℕ, zero, suc, ◌<◌, List, [], ◌∷◌, map, Option, Some, slice_get, refl, ap, sym, ◌∙◌, arith}
use Rattle.std.specs.Option.{option_map}
use Rattle.std.proofs.lemmas.Option.{slice_get-map}
use Rattle.asl_paths.specs.declared.path.Path.{Path}
use Rattle.asl_paths.specs.declared.template.Template.{Template}
use Rattle.asl_shape.specs.Stages.{Stages}
use Rattle.asl_model.specs.Data.{repeat}
use Rattle.asl_model.specs.declared.machine.Block.{Block}
use Rattle.asl_model.specs.declared.machine.After.{After}
use Rattle.asl_model.specs.declared.machine.Care.{Care}
use Rattle.asl_model.specs.declared.machine.State as state
use Rattle.asl_model.specs.declared.machine.State.{State, the_lemmas}
use Rattle.asl_model.specs.Tree.{block_tree, state_tree, blocks_from, care_of}
use Rattle.asl_model.specs.Machine as m
use Rattle.central_model.proofs.Counts.{parallel_tree}

map_tree : (shape : Stages) (items : Path) (selector : Option Template) (body : Block) (after : After) (care : Care) (limit : ℕ) → state_tree (state.Map shape items selector body after care limit) ≡ m.Map shape items selector (block_tree body) after (care_of care) limit
map_tree shape items selector body after care limit = search (the_lemmas, rules)

blocks_back : (bs : List m.Block) → m.blocks_in (blocks_from bs) ≡ bs
blocks_back [] = refl
blocks_back (b ∷ bs) = ap (λ l. b ∷ l) (blocks_back bs)

repeated : (n i : ℕ) (b : m.Block) → i < n → slice_get (repeat n b) i ≡ Some b
repeated zero i b h = absurd (omega arith)
repeated (suc n) zero b h = refl
repeated (suc n) (suc i) b h = repeated n i b (omega arith)

pub of_parallel : (s : State) (shape : Stages) (branches : List Block) (after : After) (care : Care) (count index : ℕ) → s ≡ state.Parallel shape branches after care → option_map block_tree (slice_get branches index) ≡ slice_get (m.branches_of (state_tree s) count) index
of_parallel s shape branches after care count index is =
    sym (slice_get-map block_tree branches index)
    ∙ ap (λ l. slice_get l index) (sym (blocks_back (map block_tree branches)))
    ∙ ap (λ z. slice_get (m.branches_of z count) index) (sym (ap state_tree is ∙ parallel_tree shape branches after care))

pub of_map : (s : State) (shape : Stages) (items : Path) (selector : Option Template) (body : Block) (after : After) (care : Care) (limit count index : ℕ) → s ≡ state.Map shape items selector body after care limit → index < count → Some (block_tree body) ≡ slice_get (m.branches_of (state_tree s) count) index
of_map s shape items selector body after care limit count index is below =
    sym (ap (λ z. slice_get (m.branches_of z count) index) (ap state_tree is ∙ map_tree shape items selector body after care limit) ∙ repeated count index (block_tree body) below)
