-- What a test of the states of a block comes to, from the inside out.
use Rattle.std.proofs.Common.{◌≡◌, ℕ, suc, List, [], ◌∷◌, ◌++◌, Bool, true, false, ◌||◌, map, flat_map, refl, sym, ap, ◌∙◌}
use Rattle.std.specs.List.{list_any}
use Rattle.asl_model.specs.declared.machine.Block.{Block}
use Rattle.asl_model.specs.declared.machine.State.{State}
use Rattle.asl_model.specs.declared.machine.State.TheFolds.{fold_out-Block}
use Rattle.asl_model.specs.Data.{Text}
use Rattle.asl_model.specs.Tree.{state_step, block_step, state_tree, block_tree, states_from}
use Rattle.asl_model.specs.Machine as m
use Rattle.asl_model.specs.Blocks.{Nested, Row, rows, rows_of, nodes, nested_at, nested_within, nested_under, nested_all}
use Rattle.bundle_read.specs.Called.{any_block, any_within, any_under, any_all}

abbrev pub row : Text × State → Text × m.State
row e = (e.0, state_tree e.1)

pub block_tree-out : (b : Block) → block_tree b ≡ m.block b.start (states_from (map row b.states))
block_tree-out b = fold_out-Block m.State m.Block state_step block_step b

or-assoc : (a b c : Bool) → (a || b) || c ≡ a || (b || c)
or-assoc true b c = refl
or-assoc false b c = refl

or-swap : (a b c d : Bool) → (a || b) || (c || d) ≡ (a || c) || (b || d)
or-swap true b c d = refl
or-swap false true true d = refl
or-swap false true false d = refl
or-swap false false c d = refl

module _ (test : m.State → Bool) where
  abbrev on_row : Row → Bool
  on_row r = test r.1

  -- some state in these blocks passes
  abbrev some_in : List Nested → Bool
  some_in ns = list_any on_row (flat_map rows (map (λ (n : Nested). n.block) ns))

  any-append : (xs ys : List Row) → list_any on_row (xs ++ ys) ≡ list_any on_row xs || list_any on_row ys
  any-append [] ys = refl
  any-append (x ∷ xs) ys = ap (λ b. test x.1 || b) (any-append xs ys) ∙ sym (or-assoc (test x.1) (list_any on_row xs) (list_any on_row ys))

  some_in-append : (xs ys : List Nested) → some_in (xs ++ ys) ≡ some_in xs || some_in ys
  some_in-append [] ys = refl
  some_in-append (x ∷ xs) ys =
      any-append (rows x.block) (flat_map rows (map (λ (n : Nested). n.block) (xs ++ ys)))
      ∙ ap (λ b. list_any on_row (rows x.block) || b) (some_in-append xs ys)
      ∙ sym (or-assoc (list_any on_row (rows x.block)) (some_in xs) (some_in ys))
      ∙ ap (λ b. b || some_in ys) (sym (any-append (rows x.block) (flat_map rows (map (λ (n : Nested). n.block) xs))))

  mutual
    some_at : (d : ℕ) (b : m.Block) → some_in (nested_at d b) ≡ any_block test b
    some_at d (m.block start states) =
        any-append (rows_of states) (flat_map rows (map (λ (n : Nested). n.block) (nested_within (suc d) states))) ∙ some_within (suc d) states

    some_within : (d : ℕ) (states : m.States) → list_any on_row (rows_of states) || some_in (nested_within d states) ≡ any_within test states
    some_within d m.no_state = refl
    some_within d (m.and_state name s rest) =
        ap (λ b. (test s || list_any on_row (rows_of rest)) || b) (some_in-append (nested_under d s) (nested_within d rest))
        ∙ sym (or-swap (test s) (some_in (nested_under d s)) (list_any on_row (rows_of rest)) (some_in (nested_within d rest)))
        ∙ ap (λ b. (test s || b) || (list_any on_row (rows_of rest) || some_in (nested_within d rest))) (some_under d s)
        ∙ ap (λ b. (test s || any_under test s) || b) (some_within d rest)

    some_under : (d : ℕ) (s : m.State) → some_in (nested_under d s) ≡ any_under test s
    some_under d (m.Task shape resource after care) = refl
    some_under d (m.Pass shape result after) = refl
    some_under d (m.Choice shape rules default) = refl
    some_under d (m.Succeed shape) = refl
    some_under d (m.Fail error cause) = refl
    some_under d (m.Parallel shape bs after care) = some_all d bs
    some_under d (m.Map shape items selector b after care limit) = some_at d b

    some_all : (d : ℕ) (bs : m.Blocks) → some_in (nested_all d bs) ≡ any_all test bs
    some_all d m.no_block = refl
    some_all d (m.and_block b bs) =
        some_in-append (nested_at d b) (nested_all d bs) ∙ ap (λ t. t || some_in (nested_all d bs)) (some_at d b) ∙ ap (λ t. any_block test b || t) (some_all d bs)

  -- a test of all states of a machine
  pub some_nodes : (root : m.Block) → list_any on_row (nodes root) ≡ any_block test root
  some_nodes root = some_at 1 root
