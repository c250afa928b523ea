-- The test of a match is that of the relation.
use Rattle.std.proofs.Common.{◌≡◌, ℕ, ◌==◌, ◌↔◌, Bool, true, false, ◌&&◌, ◌||◌, IsTrue, List, [], ◌∷◌, ◌++◌, refl, sym, ap, subst, inl, inr}
use Rattle.std.specs.Prelude.{◌⊎◌}
use Rattle.std.proofs.lemmas.Bool.{eqb-true, eq-eqb}
use Rattle.choice_rules.specs.declared.pattern.Piece.TheVariants.{Literal, Star}
use Rattle.choice_rules.specs.Matching.{Matches, some_end, is_match}
use Rattle.choice_rules.proofs.Turns.{Pieces}

and-left : (a b : Bool) → a && b ≡ true → a ≡ true
and-left true b e = refl
and-left false b e = e

and-right : (a b : Bool) → a && b ≡ true → b ≡ true
and-right true b e = e
and-right false b e = absurd (let f : false ≡ true = e in cc)

or-cases : (a b : Bool) → a || b ≡ true → (a ≡ true) ⊎ (b ≡ true)
or-cases true b e = inl refl
or-cases false b e = inr e

or-right : (a b : Bool) → b ≡ true → a || b ≡ true
or-right true b e = refl
or-right false b e = e

abbrev HasEnd : (List ℕ → Bool) → List ℕ → Type 0
HasEnd test cs = (run : List ℕ) × (rest : List ℕ) × (cs ≡ run ++ rest) × (test rest ≡ true)

end_found : (test : List ℕ → Bool) (cs : List ℕ) → some_end test cs ≡ true → HasEnd test cs
end_found test [] e = ([], [], refl, e)
end_found test (c ∷ cs) e = by (or-cases (test (c ∷ cs)) (some_end test cs) e) (end_found test cs)
  where
    by : (test (c ∷ cs) ≡ true) ⊎ (some_end test cs ≡ true) → (some_end test cs ≡ true → HasEnd test cs) → HasEnd test (c ∷ cs)
    by (inl h) later = ([], c ∷ cs, refl, h)
    by (inr h) later = let found = later h in (c ∷ found.0, found.1, ap (λ t. c ∷ t) found.2, found.3)

whole_found : (test : List ℕ → Bool) (cs : List ℕ) → test cs ≡ true → some_end test cs ≡ true
whole_found test [] h = h
whole_found test (c ∷ cs) h = rw h refl

found_end : (test : List ℕ → Bool) (run rest : List ℕ) → test rest ≡ true → some_end test (run ++ rest) ≡ true
found_end test [] rest h = whole_found test rest h
found_end test (c ∷ run) rest h = or-right (test (c ∷ (run ++ rest))) (some_end test (run ++ rest)) (found_end test run rest h)

pub match_test : (p : Pieces) (cs : List ℕ) → Matches p cs → is_match p cs ≡ true
match_test [] [] m = refl
match_test [] (c ∷ cs) m = absurd (let e : c ∷ cs ≡ [] = m in cc)
match_test (Literal c ∷ p) [] m = absurd (let e : [] ≡ c ∷ m.0 = m.1 in cc)
match_test (Literal c ∷ p) (d ∷ cs) m =
    let e : d ∷ cs ≡ c ∷ m.0 = m.1 in
    let f : c ≡ d = cc in
    let g : m.0 ≡ cs = cc in
    rw (eq-eqb c d f) (match_test p cs (subst (Matches p) g m.2))
match_test (Star ∷ p) cs m = subst (λ t. some_end (is_match p) t ≡ true) (sym m.2) (found_end (is_match p) m.0 m.1 (match_test p m.1 m.3))

pub test_match : (p : Pieces) (cs : List ℕ) → is_match p cs ≡ true → Matches p cs
test_match [] [] e = refl
test_match [] (c ∷ cs) e = absurd (let f : false ≡ true = e in cc)
test_match (Literal c ∷ p) [] e = absurd (let f : false ≡ true = e in cc)
test_match (Literal c ∷ p) (d ∷ cs) e =
    let same : c ≡ d = eqb-true c d (and-left (c == d) (is_match p cs) e) in
    (cs, ap (λ x. x ∷ cs) (sym same), test_match p cs (and-right (c == d) (is_match p cs) e))
test_match (Star ∷ p) cs e = let found = end_found (is_match p) cs e in (found.0, found.1, found.2, test_match p found.1 found.3)

-- a truth value that says whether a text matches is what the test gives
pub is_test : (b : Bool) (p : Pieces) (cs : List ℕ) → IsTrue b ↔ Matches p cs → b ≡ is_match p cs
is_test b p cs h = alike b (is_match p cs) (λ e. match_test p cs (h.0 e)) (λ e. h.1 (test_match p cs e))
  where
    alike : (a b : Bool) → (a ≡ true → b ≡ true) → (b ≡ true → a ≡ true) → a ≡ b
    alike true b to from = sym (to refl)
    alike false true to from = from refl
    alike false false to from = refl
