-- The first character of a text, and those of its rest.
use Rattle.std.proofs.Common.{◌≡◌, ℕ, Bool, true, false, ◌&&◌, List, [], ◌∷◌, ◌++◌, length, refl, sym, ap, ◌∙◌, arith, length-append}
use Rattle.std.proofs.lemmas.Str.{chars-encodes, chars-nil, encode_same, length-encode, len_utf8_bounds}
use Rattle.std.specs.Str.{chars, IsUtf8}
use lib.Utf8.{encode, encodes, scalars, scalar}

no_character : (c : ℕ) (rest : List ℕ) → [] ≡ encode c ++ rest → ⊥
no_character c rest e =
    let l : 0 ≡ length (encode c ++ rest) = ap length e in
    omega (arith, simp length-append at l, length-encode c, (len_utf8_bounds c).0)

rest_scalars : (a b : Bool) → a && b ≡ true → b ≡ true
rest_scalars true b e = e
rest_scalars false b e = absurd (let f : false ≡ true = e in cc)

pub next_char : (t rest : List ℕ) (c : ℕ) → IsUtf8 t → t ≡ encode c ++ rest → chars t ≡ c ∷ chars rest
next_char t rest c u e = by u.0 u.1.0 (u.1.1 ∙ e) ∙ refl
  where
    by : (cs : List ℕ) → scalars cs ≡ true → encodes cs ≡ encode c ++ rest → chars t ≡ c ∷ chars rest
    by [] s f = absurd (no_character c rest f)
    by (d ∷ ds) s f =
        let same = encode_same d c (encodes ds) rest f in
        let tail : chars rest ≡ ds = ap chars (sym same.1) ∙ chars-encodes ds (rest_scalars (scalar d) (scalars ds) s) in
        let whole : chars t ≡ d ∷ ds = ap chars (e ∙ sym f) ∙ chars-encodes (d ∷ ds) s in
        whole ∙ ap (λ x. x ∷ ds) same.0 ∙ ap (λ x. c ∷ x) (sym tail)

pub no_chars : (t : List ℕ) → length t ≡ 0 → chars t ≡ []
no_chars [] e = chars-nil
no_chars (b ∷ bs) e = absurd (omega arith)
