-- The index of a state among the states of its block.
use Rattle.std.proofs.Common.{◌≡◌, ℕ, suc, ◌+◌, ◌≤◌, List, [], ◌∷◌, map, length, Option, Some, None, Bool, true, false, not, cond, nat_lt, unwrap_or, if◌then◌else◌, refl, sym, ap, ◌∙◌, arith}
use Rattle.std.specs.List.{position_or_len}
use Rattle.std.specs.Str.{bytes_eq}
use Rattle.std.proofs.lemmas.Bool.{ltb-false}
use Rattle.unum_json.specs.Keys.{key_index}
use Rattle.asl_model.specs.declared.machine.Block.{Block}
use Rattle.asl_model.specs.declared.machine.State.{State}
use Rattle.asl_model.specs.Data.{Text, same_text}
use Rattle.asl_model.specs.Machine.{states_of}
use Rattle.asl_model.specs.Tree.{block_tree, states_from}
use Rattle.asl_model.proofs.Trees.{row}
use Rattle.continuation_gen.specs.Numbering.{index_of, count}
use Rattle.continuation_gen.proofs.Adding.{states_out, count_states}

-- how many rows stand before the name
before : List (Text × State) → Text → ℕ
before rows name = position_or_len (λ (f : Text × State). bytes_eq f.0 name) rows

before_is : (rows : List (Text × State)) (name : Text) → before rows name ≡ index_of (states_from (map row rows)) name
unfolding same_text before
before_is [] name = refl
before_is (f ∷ rows) name = step (bytes_eq f.0 name) (before rows name) (index_of (states_from (map row rows)) name) (before_is rows name)
  where
    step : (t : Bool) (a b : ℕ) → a ≡ b → cond (not t) (1 + a) 0 ≡ (if t then 0 else suc b)
    step true a b e = refl
    step false a b e = let r : 1 + a ≡ suc b = omega (arith, e) in r

index_within : (rows : List (Text × State)) (name : Text) → index_of (states_from (map row rows)) name ≤ length rows
index_within [] name = omega arith
index_within (f ∷ rows) name = step (same_text f.0 name) (index_of (states_from (map row rows)) name) (index_within rows name)
  where
    step : (t : Bool) (a : ℕ) → a ≤ length rows → (if t then 0 else suc a) ≤ suc (length rows)
    step true a h = omega arith
    step false a h = omega (arith, h)

or_all : (a n : ℕ) (t : Bool) → nat_lt a n ≡ t → a ≤ n → unwrap_or (cond t (Some a) None) n ≡ a
or_all a n true e h = refl
or_all a n false e h = let k = ltb-false a n e in omega (arith, k, h)

module _ (b : Block) (name : Text) where
  is : index_of (states_from (map row b.states)) name ≡ index_of (states_of (block_tree b)) name
  is = ap (λ z. index_of z name) (sym (states_out b))

  pub index_is : (found : Option ℕ) (n : ℕ) → found ≡ key_index name b.states → n ≡ length b.states → unwrap_or found n ≡ index_of (states_of (block_tree b)) name
  unfolding before
  index_is found n e k =
      let a : before b.states name ≡ index_of (states_from (map row b.states)) name = before_is b.states name in
      let h = index_within b.states name in
      ap (λ z. unwrap_or z n) e ∙ ap (λ z. unwrap_or (key_index name b.states) z) k
      ∙ or_all (before b.states name) (length b.states) (nat_lt (before b.states name) (length b.states)) refl (omega (arith, a, h))
      ∙ a ∙ is

  pub index_fits : index_of (states_of (block_tree b)) name ≤ count (states_of (block_tree b))
  index_fits = let h = index_within b.states name in omega (arith, h, is, count_states b)
