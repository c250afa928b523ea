-- The tree of a block, row by row.
use Rattle.std.proofs.Common.{◌≡◌, suc, Bool, false, ◌||◌, List, [], ◌∷◌, ◌++◌, map, length, refl, sym, ap, ◌∙◌}
use Rattle.std.proofs.lemmas.List.Folds.{list_any-append}
use Rattle.std.specs.List.{list_any}
use Rattle.asl_model.specs.declared.machine.Block.{Block}
use Rattle.asl_model.specs.declared.machine.State.{State}
use Rattle.asl_model.specs.declared.machine.State.TheFolds.{fold_out-Block}
use Rattle.asl_model.specs.Tree.{state_step, block_step, state_tree, block_tree, states_from, blocks_from}
use Rattle.asl_model.specs.Data.{Text}
use Rattle.asl_model.specs.Machine as m
use Rattle.asl_model.specs.Blocks.{Row, rows, rows_of}

-- a state with its name, as a tree
abbrev pub row : Text × State → Row
row e = (e.0, state_tree e.1)

pub block_tree-out : (b : Block) → block_tree b ≡ m.block b.start (states_from (map row b.states))
block_tree-out b = fold_out-Block m.State m.Block state_step block_step b

rows_from : (rs : List Row) → rows_of (states_from rs) ≡ rs
rows_from [] = refl
rows_from (r ∷ rs) = ap (λ l. (r.0, r.1) ∷ l) (rows_from rs)

-- the rows of a block's tree are its fields
pub rows_are : (b : Block) → rows (block_tree b) ≡ map row b.states
rows_are b = ap rows (block_tree-out b) ∙ rows_from (map row b.states)

pub start_is : (b : Block) → m.start_of (block_tree b) ≡ b.start
start_is b = ap m.start_of (block_tree-out b)

count_in : (bs : List m.Block) → length (m.blocks_in (blocks_from bs)) ≡ length bs
count_in [] = refl
count_in (b ∷ bs) = ap suc (count_in bs)

count_map : (bs : List Block) → length (map block_tree bs) ≡ length bs
count_map [] = refl
count_map (b ∷ bs) = ap suc (count_map bs)

-- a Parallel's branches are counted in its tree
pub count_blocks : (bs : List Block) → length (m.blocks_in (blocks_from (map block_tree bs))) ≡ length bs
count_blocks bs = count_in (map block_tree bs) ∙ count_map bs

-- the rows of a block from its fields
pub rows_start : (b : Block) (items : List (Text × State)) → items ≡ b.states → map row items ≡ rows (block_tree b)
rows_start b items e = ap (map row) e ∙ sym (rows_are b)

-- where none of the first passes, the others decide
pub any_after : {X : Type 0} (t : X → Bool) (xs ys : List X) → list_any t xs ≡ false → list_any t ys ≡ list_any t (xs ++ ys)
any_after t xs ys h = sym (list_any-append t xs ys ∙ ap (λ b. b || list_any t ys) h)
