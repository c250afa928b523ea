-- A star's run may grow, and only the last star's run has to.
use Rattle.std.proofs.Common.{◌≡◌, ℕ, ◌≤◌, List, [], ◌∷◌, ◌++◌, length, map, refl, sym, ap, subst, ◌∙◌, arith, inl, inr, append_assoc, length-append}
use Rattle.std.specs.Prelude.{◌⊎◌}
use Rattle.choice_rules.specs.declared.pattern.Piece.{Piece}
use Rattle.choice_rules.specs.declared.pattern.Piece.TheVariants.{Literal, Star}
use Rattle.choice_rules.specs.Matching.{Matches}

abbrev pub Pieces : Type 0
Pieces = List Piece

-- a match with a run that takes one character at least
abbrev pub Later : Pieces → List ℕ → Type 0
Later p s = (x : ℕ) × (rest : List ℕ) × (s ≡ x ∷ rest) × Matches (Star ∷ p) rest

pub star_now : (p : Pieces) (cs : List ℕ) → Matches p cs → Matches (Star ∷ p) cs
star_now p cs h = ([], cs, refl, h)

pub star_later : (p : Pieces) (cs : List ℕ) → Later p cs → Matches (Star ∷ p) cs
star_later p cs h = (h.0 ∷ h.3.0, h.3.1, h.2 ∙ ap (λ t. h.0 ∷ t) h.3.2, h.3.3)

pub star_split : (p : Pieces) (cs : List ℕ) → Matches (Star ∷ p) cs → Matches p cs ⊎ Later p cs
star_split p cs h = by h.0 h.1 h.2 h.3
  where
    by : (run rest : List ℕ) → cs ≡ run ++ rest → Matches p rest → Matches p cs ⊎ Later p cs
    by [] rest e m = inl (subst (Matches p) (sym e) m)
    by (x ∷ run) rest e m = inr (x, run ++ rest, e, (run, rest, refl, m))

-- the rest behind a run is still a rest behind it, where the text is longer in front
pub longer_run : (p : Pieces) (front cs : List ℕ) → Matches (Star ∷ p) cs → Matches (Star ∷ p) (front ++ cs)
longer_run p front cs h = (front ++ h.0, h.1, ap (λ t. front ++ t) h.2 ∙ sym (append_assoc front h.0 h.1), h.3)

-- literals match themselves
pub past_literals : (lits : List ℕ) (p : Pieces) (cs : List ℕ) → Matches (map Literal lits ++ p) cs → (rest : List ℕ) × (cs ≡ lits ++ rest) × Matches p rest
past_literals [] p cs h = (cs, refl, h)
past_literals (c ∷ lits) p cs h = let more = past_literals lits p h.0 h.2 in (more.0, h.1 ∙ ap (λ t. c ∷ t) more.1, more.2)

-- two ends of one list: the shorter is an end of the longer
ends : (a b c d : List ℕ) → a ++ b ≡ c ++ d → length d ≤ length b → (front : List ℕ) × (b ≡ front ++ d)
ends [] b c d e le = (c, e)
ends (x ∷ a) b [] d e le = absurd (let long : length ((x ∷ a) ++ b) ≡ length d = ap length e in omega (arith, length-append (x ∷ a) b))
ends (x ∷ a) b (y ∷ c) d e le = ends a b c d (let f : x ∷ (a ++ b) ≡ y ∷ (c ++ d) = e in cc) le

-- a match of an earlier star, with a longer run, gives one of the later star
pub earlier_star : (lits : List ℕ) (p : Pieces) (cs : List ℕ) → Later (map Literal lits ++ Star ∷ p) (lits ++ cs) → Matches (Star ∷ p) cs
earlier_star lits p cs h =
    let run = h.3.0 in
    let found = past_literals lits (Star ∷ p) h.3.1 h.3.3 in
    let whole : lits ++ cs ≡ (h.0 ∷ (run ++ lits)) ++ found.0
    = h.2 ∙ ap (λ t. h.0 ∷ t) (h.3.2 ∙ ap (λ t. run ++ t) found.1 ∙ sym (append_assoc run lits found.0)) in
    let long = ap length whole in
    let front = ends lits cs (h.0 ∷ (run ++ lits)) found.0 whole
    (omega (arith, length-append lits cs, length-append (h.0 ∷ (run ++ lits)) found.0, length-append run lits)) in
    subst (Matches (Star ∷ p)) (sym front.1) (longer_run p front.0 found.0 found.2)
