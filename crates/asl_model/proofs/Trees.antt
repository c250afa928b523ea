-- The tree's equations, and what is counted in it.
use Rattle.std.proofs.Common.{◌≡◌, ℕ, suc, ◌+◌, ◌≤◌, List, [], ◌∷◌, ◌++◌, map, flat_map, length, drop, refl, sym, ap, subst, ◌∙◌, arith, length-append, Option, Some, Bool, true, false, option_map, if◌then◌else◌}
use Rattle.asl_model.specs.declared.machine.Block.{Block}
use Rattle.asl_model.specs.declared.machine.State.{State}
use Rattle.asl_model.specs.declared.machine.State.TheFolds.{fold_out-Block}
use Rattle.asl_model.specs.Tree.{state_step, block_step, state_tree, block_tree, states_from}
use Rattle.std.specs.Str.{bytes_eq}
use Rattle.unum_json.specs.Keys.{find_key}
use Rattle.asl_model.specs.Data.{Text, same_text}
use Rattle.asl_model.specs.Machine as m
use Rattle.asl_model.specs.Blocks.{Nested, rows, rows_of, nodes, nested_at, nested_within, nested_under, nested_all}
use Rattle.std.specs.Map.{keys_of}
use Rattle.std.proofs.lemmas.List.{drop_all}
use Rattle.unum_json.specs.Keys.{IsRising}
use Rattle.asl_model.specs.Walked.{HasRisingNames, RisesWithin, names_of, count_block, count_within, count_under, count_all}

abbrev pub row : Text × State → Text × m.State
row e = (e.0, state_tree e.1)

pub block_tree-out : (b : Block) → block_tree b ≡ m.block b.start (states_from (map row b.states))
block_tree-out b = fold_out-Block m.State m.Block state_step block_step b

-- the names in the tree are the keys of the fields
pub names_are : (fs : List (Text × State)) → names_of (states_from (map row fs)) ≡ keys_of fs
names_are [] = refl
names_are (f ∷ fs) = ap (λ l. f.0 ∷ l) (names_are fs)

abbrev counted : List Nested → ℕ
counted ns = length (flat_map rows (map (λ (n : Nested). n.block) ns))

zero_first : (n : ℕ) → n ≡ 0 + n
zero_first n = omega arith

counted-append : (xs ys : List Nested) → counted (xs ++ ys) ≡ counted xs + counted ys
counted-append [] ys = zero_first (counted ys)
counted-append (x ∷ xs) ys =
    let first : counted (x ∷ xs ++ ys) ≡ length (rows x.block) + counted (xs ++ ys) = length-append (rows x.block) (flat_map rows (map (λ (n : Nested). n.block) (xs ++ ys))) in
    let more : counted (x ∷ xs) ≡ length (rows x.block) + counted xs = length-append (rows x.block) (flat_map rows (map (λ (n : Nested). n.block) xs)) in
    let k : counted (xs ++ ys) ≡ counted xs + counted ys = counted-append xs ys in
    sum_of (counted (x ∷ xs ++ ys)) (length (rows x.block)) (counted (xs ++ ys)) (counted (x ∷ xs)) (counted xs) (counted ys) first more k
  where
    sum_of : (a r b c d e : ℕ) → a ≡ r + b → c ≡ r + d → b ≡ d + e → a ≡ c + e
    sum_of a r b c d e f g h = omega arith

sum_two : (a b c d e n : ℕ) → a ≡ b + c → b ≡ d → n + c ≡ e → suc n + a ≡ 1 + d + e
sum_two a b c d e n f g h = omega arith

sum_all : (a b c d e : ℕ) → a ≡ b + c → b ≡ d → c ≡ e → a ≡ d + e
sum_all a b c d e f g h = omega arith

mutual
  counted_at : (d : ℕ) (b : m.Block) → counted (nested_at d b) ≡ count_block b
  counted_at d (m.block start states) =
      length-append (rows_of states) (flat_map rows (map (λ (n : Nested). n.block) (nested_within (suc d) states))) ∙ counted_within (suc d) states

  counted_within : (d : ℕ) (states : m.States) → length (rows_of states) + counted (nested_within d states) ≡ count_within states
  counted_within d m.no_state = refl
  counted_within d (m.and_state name s rest) =
      sum_two (counted (nested_under d s ++ nested_within d rest)) (counted (nested_under d s)) (counted (nested_within d rest)) (count_under s) (count_within rest) (length (rows_of rest))
      (counted-append (nested_under d s) (nested_within d rest)) (counted_under d s) (counted_within d rest)

  counted_under : (d : ℕ) (s : m.State) → counted (nested_under d s) ≡ count_under s
  counted_under d (m.Task shape resource after care) = refl
  counted_under d (m.Pass shape result after) = refl
  counted_under d (m.Choice shape rules default) = refl
  counted_under d (m.Succeed shape) = refl
  counted_under d (m.Fail error cause) = refl
  counted_under d (m.Parallel shape bs after care) = counted_all d bs
  counted_under d (m.Map shape items selector b after care limit) = counted_at d b

  counted_all : (d : ℕ) (bs : m.Blocks) → counted (nested_all d bs) ≡ count_all bs
  counted_all d m.no_block = refl
  counted_all d (m.and_block b bs) =
      sum_all (counted (nested_at d b ++ nested_all d bs)) (counted (nested_at d b)) (counted (nested_all d bs)) (count_block b) (count_all bs)
      (counted-append (nested_at d b) (nested_all d bs)) (counted_at d b) (counted_all d bs)

-- the states of all blocks, counted from the inside out
pub count_nodes : (root : m.Block) → length (nodes root) ≡ count_block root
count_nodes root = counted_at 1 root

-- once all rows of a block were gone through, names rise in it
pub rises_all_through : (b : Block) (items : List (Text × State)) (n : ℕ) → items ≡ b.states → IsRising (keys_of b.states) → length items ≤ n → (RisesWithin (states_from (map row (drop n items))) → RisesWithin (states_from (map row items))) → HasRisingNames (block_tree b)
rises_all_through b items n e r h k =
    let within : RisesWithin (states_from (map row items)) = k (subst (λ l. RisesWithin (states_from (map row l))) (sym (drop_all n items h)) tt) in
    subst HasRisingNames (sym (block_tree-out b)) (subst IsRising (sym (names_are b.states)) r, subst (λ l. RisesWithin (states_from (map row l))) e within)

found_by : (f : Text × State) (rest : m.States) (name : Text) (k : Option State) → option_map state_tree k ≡ m.find_state rest name → (t : Bool) → option_map state_tree (if t then Some f.1 else k) ≡ (if t then Some (state_tree f.1) else m.find_state rest name)
found_by f rest name k h true = refl
found_by f rest name k h false = h

found_among : (fs : List (Text × State)) (name : Text) → option_map state_tree (find_key name fs) ≡ m.find_state (states_from (map row fs)) name
unfolding same_text
found_among [] name = refl
found_among (f ∷ fs) name = found_by f (states_from (map row fs)) name (find_key name fs) (found_among fs name) (bytes_eq f.0 name)

-- a state of the block is found in its tree
pub found_in_tree : (b : Block) (name : Text) → option_map state_tree (find_key name b.states) ≡ m.state_of (block_tree b) name
found_in_tree b name = found_among b.states name ∙ ap (λ t. m.state_of t name) (sym (block_tree-out b))
