-- The canonical text of a pattern that some text spells reads as the pattern.
use Rattle.std.proofs.Common.{◌≡◌, ℕ, ◌==◌, Bool, true, false, ◌&&◌, List, [], ◌∷◌, ◌++◌, Some, refl, sym, ap, subst, ◌∙◌, inl, inr, if◌then◌else◌, append_assoc}
use Rattle.std.specs.Char.{encode_utf8}
use Rattle.std.specs.Prelude.{◌||◌, flat_map, codes}
use Rattle.std.proofs.lemmas.Bool.{eqb-true, eqb-false}
use Rattle.std.proofs.lemmas.Str.{chars-encodes, chars-nil, scalars-chars}
use Rattle.std.specs.Str.{chars, IsUtf8}
use lib.Utf8.{encode, encodes, scalars, scalar}
use Rattle.choice_rules.specs.declared.pattern.Piece.{Piece}
use Rattle.choice_rules.specs.declared.pattern.Piece.TheVariants.{Literal, Star}
use Rattle.choice_rules.specs.PatternTexts.{SpellsPiece, SpellsPieces, pieces_of, pattern_of, piece_text, pattern_text, IsPattern}
use Rattle.choice_rules.proofs.PatternReading.{complete, sound}

-- the characters of a piece's canonical text
abbrev literal_chars : Bool → ℕ → List ℕ
literal_chars b c = if b then 92 ∷ c ∷ [] else c ∷ []

abbrev piece_chars : Piece → List ℕ
piece_chars Star = 42 ∷ []
piece_chars (Literal c) = literal_chars ((c == 42) || (c == 92)) c

abbrev all_chars : List Piece → List ℕ
all_chars = flat_map piece_chars

literal_spelled : (c : ℕ) (star back : Bool) → (c == 42) ≡ star → (c == 92) ≡ back → SpellsPiece (Literal c) (literal_chars (star || back) c)
literal_spelled c true back s b = inr refl
literal_spelled c false true s b = inr refl
literal_spelled c false false s b = inl (eqb-false c 42 s, eqb-false c 92 b, refl)

piece_spelled : (p : Piece) → SpellsPiece p (piece_chars p)
piece_spelled Star = refl
piece_spelled (Literal c) = literal_spelled c (c == 42) (c == 92) refl refl

pieces_spelled : (ps : List Piece) → SpellsPieces ps (all_chars ps)
pieces_spelled [] = refl
pieces_spelled (p ∷ ps) = (piece_chars p, all_chars ps, refl, piece_spelled p, pieces_spelled ps)

-- ---------------------------------------------------------------- in bytes

literal_encoded : (c : ℕ) (b : Bool) (ps : List Piece) → pattern_text ps ≡ encodes (all_chars ps) → (if b then codes "\\" ++ encode_utf8 c else encode_utf8 c) ++ pattern_text ps ≡ encodes (literal_chars b c ++ all_chars ps)
unfolding encode
literal_encoded c true ps h = ap (λ t. 92 ∷ (encode c ++ t)) h
literal_encoded c false ps h = ap (λ t. encode c ++ t) h

pieces_encoded : (ps : List Piece) → pattern_text ps ≡ encodes (all_chars ps)
unfolding encode
pieces_encoded [] = refl
pieces_encoded (Star ∷ ps) = ap (λ t. 42 ∷ t) (pieces_encoded ps)
pieces_encoded (Literal c ∷ ps) = literal_encoded c ((c == 42) || (c == 92)) ps (pieces_encoded ps)

-- ---------------------------------------------------------------- characters

both : (a b : Bool) → a && b ≡ true → (a ≡ true) × (b ≡ true)
both true b e = (refl, e)
both false b e = absurd (let f : false ≡ true = e in cc)

join : (a b : Bool) → a ≡ true → b ≡ true → a && b ≡ true
join true b e f = f
join false b e f = absurd (let g : false ≡ true = e in cc)

literal_scalar : (c : ℕ) (b : Bool) (cs : List ℕ) → scalar c ≡ true → scalars cs ≡ true → scalars (literal_chars b c ++ cs) ≡ true
literal_scalar c true cs e f = join (scalar c) (scalars cs) e f
literal_scalar c false cs e f = join (scalar c) (scalars cs) e f

literal_first : (c : ℕ) (cs first rest : List ℕ) → cs ≡ first ++ rest → SpellsPiece (Literal c) first → scalars cs ≡ true → scalar c && scalars rest ≡ true
literal_first c cs first rest is (inl e) s = subst (λ t. scalars t ≡ true) (is ∙ ap (λ t. t ++ rest) e.2) s
literal_first c cs first rest is (inr e) s = subst (λ t. scalars t ≡ true) (is ∙ ap (λ t. t ++ rest) e) s

all_scalar : (ps : List Piece) (cs : List ℕ) → SpellsPieces ps cs → scalars cs ≡ true → scalars (all_chars ps) ≡ true
all_scalar [] cs h s = refl
all_scalar (Star ∷ ps) cs h s =
    let here : cs ≡ 42 ∷ h.1 = h.2 ∙ ap (λ t. t ++ h.1) h.3 in
    all_scalar ps h.1 h.4 (subst (λ t. scalars t ≡ true) here s)
all_scalar (Literal c ∷ ps) cs h s =
    let k = both (scalar c) (scalars h.1) (literal_first c cs h.0 h.1 h.2 h.3 s) in
    literal_scalar c ((c == 42) || (c == 92)) (all_chars ps) k.0 (all_scalar ps h.1 h.4 k.1)

back : (ps : List Piece) → scalars (all_chars ps) ≡ true → IsPattern ps
back ps s =
    ap (pieces_of false) (ap chars (pieces_encoded ps) ∙ chars-encodes (all_chars ps) s) ∙ complete ps (all_chars ps) (pieces_spelled ps)

-- what a text spells
pub is_pattern : (text : List ℕ) (ps : List Piece) → IsUtf8 text → pattern_of text ≡ Some ps → IsPattern ps
is_pattern text ps u e = back ps (all_scalar ps (chars text) (sound (chars text) ps e) (scalars-chars text u))

pub is_empty_pattern : IsPattern []
is_empty_pattern = back [] refl
