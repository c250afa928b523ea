-- The text of `validate`: how much is in a bundle.
use Rattle.std.specs.Prelude.{ℕ, List, ◌++◌, length, sum_by, codes, decimal}
use Rattle.asl_model.specs.Blocks.{nodes}
use Rattle.asl_model.specs.Tree.{tree_of}
use Rattle.bundle_read.specs.Accepted.{Accepted}
use Rattle.bundle_read.specs.Bounds.{Text}
use Rattle.asl_model.specs.declared.machine.Machine.{Machine}

-- the states of all blocks of a machine
abbrev pub states_in : Text × Machine → ℕ
states_in m = length (nodes (tree_of m.1))

-- the line of `validate`
unfoldable pub valid_text : Accepted → List ℕ
valid_text b =
    codes "valid machines " ++ decimal (length b.machines) ++ codes " states " ++ decimal (sum_by states_in b.machines)
    ++ codes " sessions " ++ decimal (length b.sessions) ++ codes "\n"
