-- The blocks of a machine as the code lists them.
use Rattle.std.specs.Prelude.{◌≡◌, ℕ, ◌-◌, map, List, ◌++◌}
use Rattle.asl_model.specs.Blocks.{Nested}
use Rattle.asl_model.specs.Machine.{Block}
use Rattle.asl_model.specs.Tree.{block_tree}
use Rattle.asl_valid.specs.declared.levels.Level.{Level}

-- a block, and how much deeper blocks may nest in it
abbrev pub Roomy : Type 0
Roomy = Block × ℕ

abbrev pub level_of : Level → Roomy
level_of l = (block_tree l.block.now, l.room)

abbrev pub levels_of : List Level → List Roomy
levels_of ls = map level_of ls

-- blocks nest to a depth of 8
abbrev pub with_room : Nested → Roomy
with_room n = (n.block, 8 - n.depth)

-- the blocks at a depth with so much room were added
abbrev pub Adds : ℕ → List Level → List Level → (ℕ → List Nested) → Type 0
Adds room old new added = (d : ℕ) → room ≡ 8 - d → levels_of new ≡ levels_of old ++ map with_room (added d)
