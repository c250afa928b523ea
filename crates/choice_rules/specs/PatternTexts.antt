-- The texts of patterns: `*` is a star, and a backslash makes the next character literal.
-- Source: Amazon States Language, "Choice State", `StringMatches`.
use Rattle.std.specs.Prelude.{◌≡◌, ◌≢◌, ℕ, ◌==◌, ◌||◌, ◌⊎◌, if◌then◌else◌, Bool, true, false, List, [], ◌∷◌, ◌++◌, flat_map, codes, Option, Some, None}
use Rattle.std.specs.Option.{option_map}
use Rattle.std.specs.Str.{chars}
use Rattle.std.specs.Char.{encode_utf8}
use Rattle.choice_rules.specs.declared.pattern.Piece.{Piece}
use Rattle.choice_rules.specs.declared.pattern.Piece.TheVariants.{Literal, Star}

-- A star is `*`. Any character may stand after a backslash, and one that is neither `*` nor `\` may stand alone.
abbrev pub SpellsPiece : Piece → List ℕ → Type 0
SpellsPiece Star cs = cs ≡ codes "*"
SpellsPiece (Literal c) cs = ((c ≢ 42) × (c ≢ 92) × (cs ≡ c ∷ [])) ⊎ (cs ≡ 92 ∷ c ∷ [])

abbrev pub SpellsPieces : List Piece → List ℕ → Type 0
SpellsPieces [] cs = cs ≡ []
SpellsPieces (piece ∷ pieces) cs = (first : List ℕ) × (rest : List ℕ) × (cs ≡ first ++ rest) × SpellsPiece piece first
    × SpellsPieces pieces rest

-- the bytes of a text whose characters spell the pieces
abbrev pub Spells : List Piece → List ℕ → Type 0
Spells pieces text = SpellsPieces pieces (chars text)

abbrev pub with_piece : Piece → Option (List Piece) → Option (List Piece)
with_piece piece = option_map (λ pieces. piece ∷ pieces)

-- the pieces that characters spell, if they spell some, where the flag says that a backslash stands before them
abbrev pub pieces_of : Bool → List ℕ → Option (List Piece)
pieces_of false [] = Some []
pieces_of true [] = None
pieces_of true (c ∷ cs) = with_piece (Literal c) (pieces_of false cs)
pieces_of false (c ∷ cs) =
    if c == 42 then with_piece Star (pieces_of false cs)
    else (if c == 92 then pieces_of true cs else with_piece (Literal c) (pieces_of false cs))

abbrev pub pattern_of : List ℕ → Option (List Piece)
pattern_of text = pieces_of false (chars text)

-- the canonical text, with a backslash where it is needed alone
abbrev pub piece_text : Piece → List ℕ
piece_text Star = codes "*"
piece_text (Literal c) = if (c == 42) || (c == 92) then codes "\\" ++ encode_utf8 c else encode_utf8 c

abbrev pub pattern_text : List Piece → List ℕ
pattern_text = flat_map piece_text

-- the canonical text spells the pieces
abbrev pub IsPattern : List Piece → Type 0
IsPattern pieces = pattern_of (pattern_text pieces) ≡ Some pieces
