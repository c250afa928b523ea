-- The branches of a fan are made one after the other.
use Rattle.std.proofs.Common.{◌≡◌, ℕ, ◌+◌, inl, inr, List, [], ◌∷◌, ◌++◌, drop, length, get_or, slice_get, Some, None, refl, sym, ap, ◌∙◌, append_assoc, append-nil, arith}
use Rattle.std.proofs.lemmas.List.{drop_more, length_push, at_drop_all}
use Rattle.std.proofs.lemmas.Option.{slice_get_within, get_or_from_slice_get, slice_get-get_or}
use Rattle.std.proofs.lemmas.Bool.{cases_lt}
use Rattle.asl_model.specs.Data.{Json}
use Rattle.unum_ir.specs.Flat.{Child, children}

-- there is no scope left
pub no_scope : (scopes : List ℕ) (made : List Child) (rest : List Json) (all : List Child) → None ≡ slice_get scopes (length made) → made ++ children (drop (length made) scopes) rest ≡ all → made ≡ all
no_scope scopes made rest all none h = elim (cases_lt (length made) (length scopes)) [
  | inl lt ↦ absurd (let some = slice_get-get_or scopes (length made) 0 lt in cc)
  | inr le ↦ sym (append-nil made) ∙ ap (λ l. made ++ l) (sym (at_drop_all (λ ks. children ks rest) scopes (length made) le)) ∙ h
]

-- one more branch
pub one_branch : (scopes : List ℕ) (made more : List Child) (k : ℕ) (x : Json) (left rest : List Json) (all : List Child) → Some k ≡ slice_get scopes (length made) → left ≡ x ∷ rest → more ≡ made ++ record { func = k; input = x } ∷ []
    → made ++ children (drop (length made) scopes) left ≡ all → more ++ children (drop (length more) scopes) rest ≡ all
one_branch scopes made more k x left rest all some e pushed h =
    let here : k ≡ get_or scopes (length made) 0 = sym (get_or_from_slice_get scopes (length made) k 0 (sym some)) in
    let len : length more ≡ length made + 1 = ap length pushed ∙ length_push made _ in
    let next : drop (length made) scopes ≡ k ∷ drop (length made + 1) scopes =
    drop_more scopes (length made) 0 (slice_get_within scopes (length made) k (sym some)) ∙ ap (λ z. z ∷ drop (length made + 1) scopes) (sym here) in
    ap (λ n. more ++ children (drop n scopes) rest) len
    ∙ ap (λ l. l ++ children (drop (length made + 1) scopes) rest) pushed
    ∙ append_assoc made (record { func = k; input = x } ∷ []) (children (drop (length made + 1) scopes) rest)
    ∙ ap (λ ks. made ++ children ks (x ∷ rest)) (sym next)
    ∙ ap (λ l. made ++ children (drop (length made) scopes) l) (sym e)
    ∙ h

no_input : (scopes : List ℕ) → children scopes [] ≡ []
no_input [] = refl
no_input (k ∷ ks) = refl

-- there is no input left
pub no_more : (scopes : List ℕ) (made : List Child) (left : List Json) (all : List Child) → length left ≡ 0 → made ++ children (drop (length made) scopes) left ≡ all → made ≡ all
no_more scopes made [] all e h = sym (append-nil made) ∙ ap (λ l. made ++ l) (sym (no_input (drop (length made) scopes))) ∙ h
no_more scopes made (x ∷ xs) all e h = absurd (omega arith)
