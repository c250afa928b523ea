-- Lists that are compared item by item.
use Rattle.std.proofs.Common.{◌≡◌, ℕ, ◌+◌, ◌<◌, ◌≤◌, List, [], ◌∷◌, ◌++◌, length, take, get_or, true, false, sym, ap, ◌∙◌}
use Rattle.std.specs.Prelude.{IsTrue}
use Rattle.std.proofs.lemmas.List.{get_or_default, take_more, take_all}

pub never : false ≡ true → ⊥
never e = cc

-- an answer of false, where it is not so
pub no : {A : Type 0} → (A → ⊥) → (IsTrue false → A) × (A → IsTrue false)
no h = ((λ e. absurd (never e)), (λ a. absurd (h a)))

pub lengths_differ : {X : Type 0} (xs ys : List X) (n : ℕ) (others : List X) → n ≡ length xs → others ≡ ys → (n ≡ length others → ⊥) → xs ≡ ys → ⊥
lengths_differ xs ys n others m e ne same = ne (m ∙ ap length same ∙ ap length (sym e))

pub items_differ : {X : Type 0} (xs ys all others : List X) (i : ℕ) (x y : X) → all ≡ xs → others ≡ ys → i < length others → x ≡ get_or all i x → y ≡ get_or others i y → (x ≡ y → ⊥) → xs ≡ ys → ⊥
items_differ xs ys all others i x y a o lt ex ey ne same =
    ne (ex ∙ ap (λ l. get_or l i x) (a ∙ same ∙ sym o) ∙ get_or_default others i x y lt ∙ sym ey)

pub fronts_next : {X : Type 0} (all others : List X) (i : ℕ) (x y : X) → take i all ≡ take i others → i < length all → i < length others → x ≡ get_or all i x → y ≡ get_or others i y → x ≡ y → take (i + 1) all ≡ take (i + 1) others
fronts_next all others i x y so_far lt lt' ex ey e =
    take_more all i x lt ∙ ap (λ l. l ++ get_or all i x ∷ []) so_far ∙ ap (λ z. take i others ++ z ∷ []) (sym ex ∙ e ∙ ey)
    ∙ sym (take_more others i y lt')

pub fronts_all : {X : Type 0} (xs ys all others : List X) (i : ℕ) → all ≡ xs → others ≡ ys → length all ≤ i → length others ≤ i → take i all ≡ take i others → xs ≡ ys
fronts_all xs ys all others i a o le le' e = sym a ∙ sym (take_all i all le) ∙ e ∙ take_all i others le' ∙ o
