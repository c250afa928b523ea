-- The reader of a pattern's text reads what the text spells.
use Rattle.std.proofs.Common.{◌≡◌, ◌≢◌, ℕ, ◌==◌, Bool, true, false, List, [], ◌∷◌, ◌++◌, Option, Some, None, refl, sym, ap, subst, ◌∙◌, inl, inr, if◌then◌else◌, append_assoc, append-nil}
use Rattle.std.proofs.lemmas.Bool.{eqb-true, eqb-false}
use Rattle.choice_rules.specs.declared.pattern.Piece.{Piece}
use Rattle.choice_rules.specs.declared.pattern.Piece.TheVariants.{Literal, Star}
use Rattle.choice_rules.specs.Patterns.{SpellsPiece, SpellsPieces, with_piece, pieces_of, after}

abbrev Pieces : Type 0
Pieces = List Piece

ne_test : (a b : ℕ) → a ≢ b → (a == b) ≡ false
ne_test a b ne = by (a == b) refl
  where
    by : (t : Bool) → (a == b) ≡ t → t ≡ false
    by true e = absurd (ne (eqb-true a b e))
    by false e = refl

pub after_more : (made : Pieces) (piece : Piece) (o : Option Pieces) → after made (with_piece piece o) ≡ after (made ++ (piece ∷ [])) o
after_more made piece None = refl
after_more made piece (Some pieces) = ap Some (sym (append_assoc made (piece ∷ []) pieces))

after_all : (made : Pieces) → after made (Some []) ≡ Some made
after_all made = ap Some (append-nil made)

alone_literal : (c : ℕ) (cs : List ℕ) → c ≢ 42 → c ≢ 92 → pieces_of false (c ∷ cs) ≡ with_piece (Literal c) (pieces_of false cs)
alone_literal c cs star back = rw (ne_test c 42 star, ne_test c 92 back) refl

pub complete : (ps : Pieces) (cs : List ℕ) → SpellsPieces ps cs → pieces_of false cs ≡ Some ps
complete [] cs h = ap (pieces_of false) h
complete (Star ∷ ps) cs h =
    let here : cs ≡ 42 ∷ h.1 = h.2 ∙ ap (λ t. t ++ h.1) h.3 in
    ap (pieces_of false) here ∙ ap (with_piece Star) (complete ps h.1 h.4)
complete (Literal c ∷ ps) cs h = by h.3 (complete ps h.1 h.4)
  where
    by : SpellsPiece (Literal c) h.0 → pieces_of false h.1 ≡ Some ps → pieces_of false cs ≡ Some (Literal c ∷ ps)
    by (inl s) rest =
        let here : cs ≡ c ∷ h.1 = h.2 ∙ ap (λ t. t ++ h.1) s.2 in
        ap (pieces_of false) here ∙ alone_literal c h.1 s.0 s.1 ∙ ap (with_piece (Literal c)) rest
    by (inr s) rest =
        let here : cs ≡ 92 ∷ (c ∷ h.1) = h.2 ∙ ap (λ t. t ++ h.1) s in
        ap (pieces_of false) here ∙ ap (with_piece (Literal c)) rest

abbrev Taken : Piece → Option Pieces → Pieces → Type 0
Taken piece o ps = (rest : Pieces) × (o ≡ Some rest) × (piece ∷ rest ≡ ps)

taken : (piece : Piece) (o : Option Pieces) (ps : Pieces) → with_piece piece o ≡ Some ps → Taken piece o ps
taken piece None ps e = let none : Option Pieces = None in absurd (let f : none ≡ Some ps = e in cc)
taken piece (Some rest) ps e = (rest, refl, let f : Some (piece ∷ rest) ≡ Some ps = e in let g : piece ∷ rest ≡ ps = cc in g)

-- a backslash before the rest, if one was read
abbrev before : Bool → List ℕ → List ℕ
before true cs = 92 ∷ cs
before false cs = cs

literal_at : (c : ℕ) (cs : List ℕ) (ps rest : Pieces) → SpellsPieces rest cs → Literal c ∷ rest ≡ ps → SpellsPieces ps (92 ∷ (c ∷ cs))
literal_at c cs ps rest spelled e = subst (λ p. SpellsPieces p (92 ∷ (c ∷ cs))) e (92 ∷ (c ∷ []), cs, refl, inr refl, spelled)

sound_from : (escaped : Bool) (cs : List ℕ) (ps : Pieces) → pieces_of escaped cs ≡ Some ps → SpellsPieces ps (before escaped cs)
sound_from false [] ps e = subst (λ p. SpellsPieces p []) (let f : Some [] ≡ Some ps = e in let g : [] ≡ ps = cc in g) refl
sound_from true [] ps e = let none : Option Pieces = None in absurd (let f : none ≡ Some ps = e in cc)
sound_from true (c ∷ cs) ps e =
    let t = taken (Literal c) (pieces_of false cs) ps e in
    literal_at c cs ps t.0 (sound_from false cs t.0 t.1) t.2
sound_from false (c ∷ cs) ps e = by_star (c == 42) refl e (sound_from false cs) (sound_from true cs)
  where
    by_back : (b : Bool) → (c == 92) ≡ b → (c == 42) ≡ false → (if b then pieces_of true cs else with_piece (Literal c) (pieces_of false cs)) ≡ Some ps
        → ((rest : Pieces) → pieces_of false cs ≡ Some rest → SpellsPieces rest cs) → ((rest : Pieces) → pieces_of true cs ≡ Some rest → SpellsPieces rest (92 ∷ cs)) → SpellsPieces ps (c ∷ cs)
    by_back true is star f plain back = subst (λ x. SpellsPieces ps (x ∷ cs)) (sym (eqb-true c 92 is)) (back ps f)
    by_back false is star f plain back =
        let t = taken (Literal c) (pieces_of false cs) ps f in
        subst (λ p. SpellsPieces p (c ∷ cs)) t.2 (c ∷ [], cs, refl, inl (eqb-false c 42 star, eqb-false c 92 is, refl), plain t.0 t.1)

    by_star : (b : Bool) → (c == 42) ≡ b → (if b then with_piece Star (pieces_of false cs) else (if c == 92 then pieces_of true cs else with_piece (Literal c) (pieces_of false cs))) ≡ Some ps
        → ((rest : Pieces) → pieces_of false cs ≡ Some rest → SpellsPieces rest cs) → ((rest : Pieces) → pieces_of true cs ≡ Some rest → SpellsPieces rest (92 ∷ cs)) → SpellsPieces ps (c ∷ cs)
    by_star true is f plain back =
        let t = taken Star (pieces_of false cs) ps f in
        subst (λ p. SpellsPieces p (c ∷ cs)) t.2 (c ∷ [], cs, refl, ap (λ x. x ∷ []) (eqb-true c 42 is), plain t.0 t.1)
    by_star false is f plain back = by_back (c == 92) refl is f plain back

pub sound : (cs : List ℕ) (ps : Pieces) → pieces_of false cs ≡ Some ps → SpellsPieces ps cs
sound cs ps e = sound_from false cs ps e

-- a text that reads as these pieces spells no others, and one that reads as none spells none
pub the_same : (ps qs : Pieces) (cs : List ℕ) → SpellsPieces ps cs → pieces_of false cs ≡ Some qs → qs ≡ ps
the_same ps qs cs h e = let f : Some qs ≡ Some ps = sym e ∙ complete ps cs h in cc

pub spells_none : (ps : Pieces) (cs : List ℕ) → SpellsPieces ps cs → pieces_of false cs ≡ None → ⊥
spells_none ps cs h e = let none : Option Pieces = None in let f : none ≡ Some ps = sym e ∙ complete ps cs h in cc

-- what each character adds
pub star_read : (old new : Pieces) (c : ℕ) (cs : List ℕ) → c ≡ 42 → new ≡ old ++ (Star ∷ []) → after old (pieces_of false (c ∷ cs)) ≡ after new (pieces_of false cs)
star_read old new c cs is e = ap (λ x. after old (pieces_of false (x ∷ cs))) is ∙ after_more old Star (pieces_of false cs) ∙ ap (λ made. after made (pieces_of false cs)) (sym e)

pub backslash_read : (old : Pieces) (c : ℕ) (cs : List ℕ) → c ≡ 92 → after old (pieces_of false (c ∷ cs)) ≡ after old (pieces_of true cs)
backslash_read old c cs is = ap (λ x. after old (pieces_of false (x ∷ cs))) is

pub literal_read : (old new : Pieces) (c : ℕ) (cs : List ℕ) → c ≢ 42 → c ≢ 92 → new ≡ old ++ (Literal c ∷ []) → after old (pieces_of false (c ∷ cs)) ≡ after new (pieces_of false cs)
literal_read old new c cs star back e =
    ap (after old) (alone_literal c cs star back) ∙ after_more old (Literal c) (pieces_of false cs) ∙ ap (λ made. after made (pieces_of false cs)) (sym e)

pub escaped_read : (old new : Pieces) (c : ℕ) (cs : List ℕ) → new ≡ old ++ (Literal c ∷ []) → after old (pieces_of true (c ∷ cs)) ≡ after new (pieces_of false cs)
escaped_read old new c cs e = after_more old (Literal c) (pieces_of false cs) ∙ ap (λ made. after made (pieces_of false cs)) (sym e)

-- at the end of the text
pub read_all : (whole : Option Pieces) (made : Pieces) (escaped : Bool) (cs : List ℕ) → whole ≡ after made (pieces_of escaped cs) → cs ≡ [] → escaped ≡ false → whole ≡ Some made
read_all whole made escaped cs e none is = e ∙ ap (λ t. after made (pieces_of escaped t)) none ∙ ap (λ b. after made (pieces_of b [])) is ∙ after_all made

pub read_none : (whole : Option Pieces) (made : Pieces) (escaped : Bool) (cs : List ℕ) → whole ≡ after made (pieces_of escaped cs) → cs ≡ [] → escaped ≡ true → whole ≡ None
read_none whole made escaped cs e none is = e ∙ ap (λ t. after made (pieces_of escaped t)) none ∙ ap (λ b. after made (pieces_of b [])) is
