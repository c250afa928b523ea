-- Functions are tested one after the other.
use Rattle.std.proofs.Common.{◌≡◌, ℕ, zero, suc, nat_le, ◌+◌, ◌-◌, ◌<◌, ◌≤◌, false, ◌&&◌, List, [], ◌∷◌, ◌++◌, drop, map, length, get_or, refl, sym, ap, ◌∙◌, add-one, arith}
use Rattle.std.proofs.lemmas.Bool.Decides.{nat_tests}
use Rattle.std.proofs.lemmas.List.{drop_more, at_drop_all}
use Rattle.unum_ir.specs.Flat.{Func, Node}
use Rattle.unum_ir.specs.WellFormed.{Tag, Enters, tag_of, same_tag, same_tags, enter_tags, tags_from}

-- a function that is there
pub tag_here : (funcs : List Func) (at : ℕ) (f : Func) (t : Tag) (ts : List Tag) → at < length funcs → f ≡ get_or funcs at f → same_tags (map tag_of (drop at funcs)) (t ∷ ts) ≡ (same_tag (tag_of f) t && same_tags (map tag_of (drop (at + 1) funcs)) ts)
tag_here funcs at f t ts h e =
    ap (λ l. same_tags (map tag_of l) (t ∷ ts)) (drop_more funcs at f h ∙ ap (λ z. z ∷ drop (at + 1) funcs) (sym e))

-- and one that is not
pub tag_past : (funcs : List Func) (at : ℕ) (t : Tag) (ts : List Tag) → length funcs ≤ at → same_tags (map tag_of (drop at funcs)) (t ∷ ts) ≡ false
tag_past funcs at t ts h = at_drop_all (λ l. same_tags (map tag_of l) (t ∷ ts)) funcs at h

-- one more Enter
pub enter_here : (k n : ℕ) (later : List Tag) → k < n → enter_tags k (n - k) ++ later ≡ Enters k ∷ (enter_tags (k + 1) (n - (k + 1)) ++ later)
enter_here k n later h =
    let left : n - k ≡ suc (n - (k + 1)) = omega arith in
    ap (λ m. enter_tags k m ++ later) left ∙ ap (λ j. Enters k ∷ (enter_tags j (n - (k + 1)) ++ later)) (sym (add-one k))

le_suc : (a b : ℕ) → nat_le (suc a) (suc b) ≡ nat_le a b
le_suc a b = grind (arith, nat_tests)

-- no function is left
pub none_left : (funcs : List Func) (at : ℕ) → nat_le (length funcs) at ≡ same_tags (map tag_of (drop at funcs)) []
none_left [] zero = refl
none_left [] (suc n) = grind (arith, nat_tests)
none_left (f ∷ fs) zero = grind (arith, nat_tests)
none_left (f ∷ fs) (suc n) = le_suc (length fs) n ∙ none_left fs n

pub nodes_past : (nodes : List Node) (i : ℕ) (tags : List Tag) → length nodes ≤ i → same_tags tags (tags_from i (drop i nodes)) ≡ same_tags tags []
nodes_past nodes i tags h = at_drop_all (λ l. same_tags tags (tags_from i l)) nodes i h
