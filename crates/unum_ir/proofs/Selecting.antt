-- The item template is filled item by item.
use Rattle.std.proofs.Common.{◌≡◌, ℕ, ◌+◌, ◌<◌, List, [], ◌∷◌, ◌++◌, drop, length, get_or, Result, Ok, Err, refl, sym, ap, ◌∙◌, add-one, append_assoc}
use Rattle.std.proofs.lemmas.List.{drop_more}
use Rattle.asl_model.specs.Data.{Text, Json, Template, Made, selected, with_first}
use Rattle.unum_ir.specs.Kinds.{item_input, more_inputs}

one_first : (made : List Json) (v : Json) (rest : Result (List Json) Text) → more_inputs made (with_first (Ok v) rest) ≡ more_inputs (made ++ v ∷ []) rest
one_first made v (Ok vs) = ap (λ l. Ok l) (sym (append_assoc made (v ∷ []) vs))
one_first made v (Err e) = refl

-- one more input
pub input_more : (t : Template) (x : Json) (items : List Json) (i : ℕ) (item : Json) (made : List Json) (v : Json) (all : Result (List Json) Text) → i < length items → item ≡ get_or items i item → item_input t x item i ≡ Ok v
    → more_inputs made (selected t x i (drop i items)) ≡ all → more_inputs (made ++ v ∷ []) (selected t x (i + 1) (drop (i + 1) items)) ≡ all
input_more t x items i item made v all h e is inv =
    sym (one_first made v (selected t x (i + 1) (drop (i + 1) items)))
    ∙ ap (λ (m : Made). more_inputs made (with_first m (selected t x (i + 1) (drop (i + 1) items)))) (sym is)
    ∙ ap (λ n. more_inputs made (with_first (item_input t x item i) (selected t x n (drop (i + 1) items)))) (add-one i)
    ∙ ap (λ l. more_inputs made (selected t x i l)) (sym (drop_more items i item h ∙ ap (λ z. z ∷ drop (i + 1) items) (sym e)))
    ∙ inv
