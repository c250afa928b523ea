-- The steps of a search for a match, which remembers the last star alone.
use Rattle.std.specs.Prelude.{◌≡◌, ℕ, ◌==◌, ◌⊎◌, if◌then◌else◌, Bool, true, false, List, [], ◌∷◌, Option, Some, None}
use Rattle.std.proofs.Common.{inl, inr}
use Rattle.std.specs.Option.{option_map}
use Rattle.std.specs.Str.{chars}
use Rattle.choice_rules.specs.declared.matching.LastStar.{LastStar}
use Rattle.choice_rules.specs.declared.matching.Next.{Next}
use Rattle.choice_rules.specs.declared.matching.Next.TheVariants.{Answer, More}
use Rattle.choice_rules.specs.declared.matching.Search.{Search}
use Rattle.choice_rules.specs.declared.pattern.Piece.{Piece}
use Rattle.choice_rules.specs.declared.pattern.Piece.TheVariants.{Literal, Star}

-- the pieces and the characters that are left, and for the last star those that followed it
pub record Standing : Type 0 where
  pub pieces : List Piece
  pub left : List ℕ
  pub star : Option (List Piece × List ℕ)

abbrev pub standing_at : List Piece → List ℕ → Option (List Piece × List ℕ) → Standing
standing_at p cs star = record { pieces = p; left = cs; star = star }

abbrev pub after_star : LastStar → List Piece × List ℕ
after_star s = (s.pieces.now, chars s.text.now)

abbrev pub standing : Search → Standing
standing s = standing_at s.pieces.now (chars s.left.now) (option_map after_star s.star)

-- the star takes one more character
abbrev pub longer : List Piece → List ℕ → Bool ⊎ Standing
longer p [] = inl false
longer p (c ∷ cs) = inr (standing_at p cs (Some (p, cs)))

abbrev pub step_back : Option (List Piece × List ℕ) → Bool ⊎ Standing
step_back None = inl false
step_back (Some star) = longer star.0 star.1

abbrev pub step_at : List Piece → List ℕ → Option (List Piece × List ℕ) → Bool ⊎ Standing
step_at [] [] star = inl true
step_at [] (c ∷ cs) star = step_back star
step_at (Star ∷ p) cs star = inr (standing_at p cs (Some (p, cs)))
step_at (Literal c ∷ p) [] star = step_back star
step_at (Literal c ∷ p) (d ∷ cs) star = if c == d then inr (standing_at p cs star) else step_back star

-- the answer, or where the search stands next
abbrev pub step : Standing → Bool ⊎ Standing
step s = step_at s.pieces s.left s.star

abbrev pub Goes : Next → Bool ⊎ Standing → Type 0
Goes (Answer b) (inl c) = b ≡ c
Goes (More s) (inr t) = standing s ≡ t
Goes _ _ = ⊥
