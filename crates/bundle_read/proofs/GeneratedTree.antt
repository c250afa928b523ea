-- The plain tree of the machine of generated bundles.
use Rattle.std.proofs.Common.{rules, ◌≡◌, ℕ, Option, None, List, [], ◌∷◌, map, codes, ap, ◌∙◌}
use Rattle.asl_shape.specs.Stages.{Stages}
use Rattle.asl_model.specs.declared.machine.After.{After}
use Rattle.asl_model.specs.declared.machine.Block.{Block}
use Rattle.asl_model.specs.declared.machine.Care.{Care}
use Rattle.asl_model.specs.declared.machine.State as state
use Rattle.asl_model.specs.declared.machine.State.{State, the_lemmas}
use Rattle.asl_model.specs.Data.{Text, Path, Template}
use Rattle.asl_model.specs.Machine as m
use Rattle.asl_model.specs.Tree.{block_tree, state_tree, blocks_from, care_of, tree_of}
use Rattle.bundle_read.specs.Generated.{careless, each, gen, items_path, one_state, ship, task, to_end, to_state, whole}
use Rattle.bundle_read.proofs.Somewhere.{block_tree-out}

task_tree : (shape : Stages) (resource : Text) (after : After) (care : Care) → state_tree (state.Task shape resource after care) ≡ m.Task shape resource after (care_of care)
task_tree shape resource after care = search (the_lemmas, rules)

parallel_tree : (shape : Stages) (branches : List Block) (after : After) (care : Care) → state_tree (state.Parallel shape branches after care) ≡ m.Parallel shape (blocks_from (map block_tree branches)) after (care_of care)
parallel_tree shape branches after care = search (the_lemmas, rules)

map_tree : (shape : Stages) (items : Path) (selector : Option Template) (body : Block) (after : After) (care : Care) (limit : ℕ) → state_tree (state.Map shape items selector body after care limit) ≡ m.Map shape items selector (block_tree body) after (care_of care) limit
map_tree shape items selector body after care limit = search (the_lemmas, rules)

abbrev plain_task : Text → After → m.State
plain_task resource after = m.Task whole resource after (care_of careless)

abbrev one : Text → m.State → m.Block
one name s = m.block name (m.and_state name s m.no_state)

one_tree : (name : Text) (s : State) (t : m.State) → state_tree s ≡ t → block_tree (one_state name s) ≡ one name t
one_tree name s t e = block_tree-out (one_state name s) ∙ ap (one name) e

abbrev plain_pack : m.Block
plain_pack = one (codes "Pack") (plain_task (codes "keep") to_end)

pack_tree : block_tree (one_state (codes "Pack") (task (codes "keep") to_end)) ≡ plain_pack
pack_tree = one_tree (codes "Pack") (task (codes "keep") to_end) (plain_task (codes "keep") to_end) (task_tree whole (codes "keep") to_end careless)

abbrev plain_each : m.State
plain_each = m.Map whole items_path None plain_pack to_end (care_of careless) 0

each_tree : state_tree each ≡ plain_each
each_tree =
    map_tree whole items_path None (one_state (codes "Pack") (task (codes "keep") to_end)) to_end careless 0
    ∙ ap (λ b. m.Map whole items_path None b to_end (care_of careless) 0) pack_tree

abbrev plain_pay : m.Block
plain_pay = one (codes "Pay") (plain_task (codes "pay") to_end)

pay_tree : block_tree (one_state (codes "Pay") (task (codes "pay") to_end)) ≡ plain_pay
pay_tree = one_tree (codes "Pay") (task (codes "pay") to_end) (plain_task (codes "pay") to_end) (task_tree whole (codes "pay") to_end careless)

abbrev fan : m.Block → m.Block → m.State
fan b c = m.Parallel whole (m.and_block b (m.and_block c m.no_block)) to_end (care_of careless)

abbrev plain_ship : m.State
plain_ship = fan plain_pay (one (codes "Each") plain_each)

ship_tree : state_tree ship ≡ plain_ship
ship_tree =
    parallel_tree whole (one_state (codes "Pay") (task (codes "pay") to_end) ∷ one_state (codes "Each") each ∷ []) to_end careless
    ∙ ap (λ b. fan b (block_tree (one_state (codes "Each") each))) pay_tree
    ∙ ap (λ c. fan plain_pay c) (one_tree (codes "Each") each plain_each each_tree)

abbrev two : m.State → m.State → m.Block
two s t = m.block (codes "Price") (m.and_state (codes "Price") s (m.and_state (codes "Ship") t m.no_state))

abbrev pub plain : m.Block
plain = two (plain_task (codes "keep") (to_state (codes "Ship"))) plain_ship

pub gen_tree : tree_of gen ≡ plain
gen_tree =
    block_tree-out gen.root
    ∙ ap (λ s. two s (state_tree ship)) (task_tree whole (codes "keep") (to_state (codes "Ship")) careless)
    ∙ ap (λ t. two (plain_task (codes "keep") (to_state (codes "Ship"))) t) ship_tree
