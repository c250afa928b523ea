-- The texts that a pattern matches, as lists of characters.
-- Source: Amazon States Language, "Choice State", `StringMatches`.
use Rattle.std.specs.Prelude.{◌≡◌, ℕ, ◌==◌, Bool, true, false, ◌&&◌, ◌||◌, List, [], ◌∷◌, ◌++◌}
use Rattle.choice_rules.specs.declared.pattern.Piece.{Piece}
use Rattle.choice_rules.specs.declared.pattern.Piece.TheVariants.{Literal, Star}

-- A literal stands for its character, and a star for any run of characters.
abbrev pub Matches : List Piece → List ℕ → Type 0
Matches [] cs = cs ≡ []
Matches (Literal c ∷ pieces) cs = (rest : List ℕ) × (cs ≡ c ∷ rest) × Matches pieces rest
Matches (Star ∷ pieces) cs = (run : List ℕ) × (rest : List ℕ) × (cs ≡ run ++ rest) × Matches pieces rest

-- whether a test holds of some end of a list
abbrev pub some_end : (List ℕ → Bool) → List ℕ → Bool
some_end test [] = test []
some_end test (c ∷ cs) = test (c ∷ cs) || some_end test cs

-- the same as a test
abbrev pub is_match : List Piece → List ℕ → Bool
is_match [] [] = true
is_match [] (c ∷ cs) = false
is_match (Literal c ∷ pieces) [] = false
is_match (Literal c ∷ pieces) (d ∷ cs) = (c == d) && is_match pieces cs
is_match (Star ∷ pieces) cs = some_end (is_match pieces) cs
