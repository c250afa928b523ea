use Rattle.std.proofs.Common.{◌≡◌, ℕ, cond, is_some, List, Some, map, drop}
use Rattle.asl_model.specs.Machine.{find_state}
use Rattle.asl_model.specs.Tree.{block_tree, states_from}
use Rattle.asl_model.specs.Valid.{has_state}
use Rattle.asl_valid.specs.Homes.{home_in, moved}
use Rattle.asl_valid.proofs.Trees.{row}
use Rattle.asl_valid.proofs.homes.note_names.Given as goal

abbrev pub invariant-loop-row : goal.invariant-loop-row
invariant-loop-row l =
    (q : List ℕ) →
    cond (is_some (find_state (states_from (map row (drop l.row-index l.row-items))) q)) (Some (moved (home_in l.homes q) l.at)) (home_in l.homes q)
    ≡ cond (has_state (block_tree l.block) q) (Some (moved (home_in l.fn.homes q) l.at)) (home_in l.fn.homes q)
