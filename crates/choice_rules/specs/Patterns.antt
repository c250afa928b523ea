-- What is read as a pattern, character by character.
use Rattle.std.specs.Prelude.{◌≡◌, ℕ, Bool, List, ◌∷◌, ◌++◌, Option, Some, None, Result, Ok, Err}
use Rattle.std.specs.Option.{option_map}
pub use Rattle.choice_rules.specs.PatternTexts.{SpellsPiece, SpellsPieces, Spells, with_piece, pieces_of, pattern_of, piece_text, pattern_text, IsPattern}
use Rattle.choice_rules.specs.declared.pattern.Pattern.{Pattern}
use Rattle.choice_rules.specs.declared.pattern.Piece.{Piece}
use Rattle.choice_rules.specs.declared.reading.PatternError.{PatternError}
use Rattle.choice_rules.specs.declared.reading.PatternError.TheVariants.{LoneBackslash, NoMemory}

-- what a reader answers, unless memory runs out
abbrev pub Reads : Result Pattern PatternError → Option (List Piece) → Type 0
Reads (Ok pattern) found = found ≡ Some pattern
Reads (Err LoneBackslash) found = found ≡ None
Reads (Err NoMemory) found = Unit {0}

-- the pieces that were read, and then those that are left
abbrev pub after : List Piece → Option (List Piece) → Option (List Piece)
after made = option_map (λ pieces. made ++ pieces)

-- a character was read: whatever follows it, the whole stays the same
abbrev pub ReadsOne : Result Bool PatternError → List Piece → Bool → ℕ → List Piece → Type 0
ReadsOne (Ok next) old escaped c new = (cs : List ℕ) → after old (pieces_of escaped (c ∷ cs)) ≡ after new (pieces_of next cs)
ReadsOne (Err LoneBackslash) old escaped c new = ⊥
ReadsOne (Err NoMemory) old escaped c new = Unit {0}
