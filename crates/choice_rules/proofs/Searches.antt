-- Each step of a search keeps what is searched for, and comes nearer to its end.
use Rattle.std.proofs.Common.{◌≡◌, ℕ, ◌+◌, ◌*◌, ◌<◌, ◌≤◌, ◌==◌, ◌↔◌, Bool, true, false, IsTrue, if◌then◌else◌, List, [], ◌∷◌, ◌++◌, Option, Some, None, length, map, refl, sym, ap, subst, ◌∙◌, arith, inl, inr, append_assoc, length-append}
use Rattle.std.specs.Prelude.{◌⊎◌}
use Rattle.std.proofs.Math.Nat.{mul-le-mul_left, mul-le-mul_right}
use Rattle.std.proofs.lemmas.Bool.{eqb-true, eqb-false}
use Rattle.choice_rules.specs.declared.pattern.Piece.TheVariants.{Literal, Star}
use Rattle.choice_rules.specs.Matching.{Matches}
use Rattle.choice_rules.specs.declared.matching.Next.TheVariants.{Answer, More}
use Rattle.choice_rules.specs.declared.matching.Search.{Search}
use Rattle.choice_rules.specs.Searching.{Standing, standing_at, longer, step_back, step_at, step, standing, Goes}
use Rattle.choice_rules.proofs.Turns.{Pieces, Later, star_now, star_later, star_split, earlier_star}

abbrev Star_at : Type 0
Star_at = Option (Pieces × List ℕ)

-- a match from here, or one with a longer run of the last star
abbrev pub GoalAt : Pieces → List ℕ → Star_at → Type 0
GoalAt p cs None = Matches p cs
GoalAt p cs (Some star) = Matches p cs ⊎ Later star.0 star.1

abbrev pub Goal : Standing → Type 0
Goal s = GoalAt s.pieces s.left s.star

-- since the last star, literals alone were matched
abbrev pub AlignedAt : Pieces → List ℕ → Star_at → Type 0
AlignedAt p cs None = Unit {0}
AlignedAt p cs (Some star) = (lits : List ℕ) × (star.0 ≡ map Literal lits ++ p) × (star.1 ≡ lits ++ cs)

abbrev pub IsAligned : Standing → Type 0
IsAligned s = AlignedAt s.pieces s.left s.star

-- no more than this many pieces are left, also from the last star on
abbrev pub WithinAt : ℕ → Pieces → Star_at → Type 0
WithinAt n p None = length p ≤ n
WithinAt n p (Some star) = (length p ≤ n) × (length star.0 ≤ n)

abbrev pub IsWithin : ℕ → Standing → Type 0
IsWithin n s = WithinAt n s.pieces s.star

-- how many characters the last star may still take, or one more before any star
abbrev turns : List ℕ → Star_at → ℕ
turns cs None = length cs + 1
turns cs (Some star) = length star.1

abbrev pub work_at : ℕ → Pieces → List ℕ → Star_at → ℕ
work_at n p cs star = turns cs star * (n + 1) + length p

abbrev pub work : ℕ → Standing → ℕ
work n s = work_at n s.pieces s.left s.star

pub record Follows (s t : Standing) : Type 0 where
  pub same : Goal t ↔ Goal s
  pub aligned : IsAligned t
  pub within : (n : ℕ) → IsWithin n s → IsWithin n t
  pub nearer : (n : ℕ) → IsWithin n s → work n t < work n s

abbrev pub IsRight : Standing → Bool ⊎ Standing → Type 0
IsRight s (inl b) = IsTrue b ↔ Goal s
IsRight s (inr t) = Follows s t

falls : (a b n x y : ℕ) → a < b → x ≤ n → a * (n + 1) + x < b * (n + 1) + y
falls a b n x y h le = omega (arith, mul-le-mul_left (n + 1) (let l : a + 1 ≤ b = omega arith in l))

nothing_later : (p : Pieces) → Later p [] → ⊥
nothing_later p h = let e : [] ≡ h.0 ∷ h.1 = h.2 in cc

later_split : (p : Pieces) (c : ℕ) (cs : List ℕ) → Later p (c ∷ cs) → Matches p cs ⊎ Later p cs
later_split p c cs h = star_split p cs (subst (Matches (Star ∷ p)) (let e : c ∷ cs ≡ h.0 ∷ h.1 = h.2 in let f : h.1 ≡ cs = cc in f) h.3)

split_later : (p : Pieces) (c : ℕ) (cs : List ℕ) → Matches p cs ⊎ Later p cs → Later p (c ∷ cs)
split_later p c cs (inl m) = (c, cs, refl, star_now p cs m)
split_later p c cs (inr l) = (c, cs, refl, star_later p cs l)

back_at : (pieces : Pieces) (left : List ℕ) (p : Pieces) (cs : List ℕ) → ¬ Matches pieces left → IsRight (standing_at pieces left (Some (p, cs))) (longer p cs)
back_at pieces left p [] never = ((λ t. absurd (let e : false ≡ true = t in cc)), none)
  where
    none : Matches pieces left ⊎ Later p [] → false ≡ true
    none (inl m) = absurd (never m)
    none (inr l) = absurd (nothing_later p l)
back_at pieces left p (c ∷ cs) never = record {
  same = ((λ g. inr (split_later p c cs g)), there);
  aligned = ([], refl, refl);
  within = λ n h. (h.1, h.1);
  nearer = λ n h. falls (length cs) (length (c ∷ cs)) n (length p) (length pieces) (omega arith) h.1;
}
  where
    there : Matches pieces left ⊎ Later p (c ∷ cs) → Matches p cs ⊎ Later p cs
    there (inl m) = absurd (never m)
    there (inr l) = later_split p c cs l

back_right : (pieces : Pieces) (left : List ℕ) (star : Star_at) → ¬ Matches pieces left → IsRight (standing_at pieces left star) (step_back star)
back_right pieces left None never = ((λ t. absurd (let e : false ≡ true = t in cc)), (λ m. absurd (never m)))
back_right pieces left (Some star) never = back_at pieces left star.0 star.1 never

-- a match of the last star with a longer run is one of the star that is met now
later_star : (q : Pieces) (s : List ℕ) (p : Pieces) (cs lits : List ℕ) → q ≡ map Literal lits ++ (Star ∷ p) → s ≡ lits ++ cs → Later q s → Matches (Star ∷ p) cs
later_star q s p cs lits e f l = earlier_star lits p cs (subst (λ r. Later r (lits ++ cs)) e (subst (Later q) f l))

star_right : (p : Pieces) (cs : List ℕ) (star : Star_at) → AlignedAt (Star ∷ p) cs star → IsRight (standing_at (Star ∷ p) cs star) (inr (standing_at p cs (Some (p, cs))))
star_right p cs None a = record {
  same = (here p cs, star_split p cs);
  aligned = ([], refl, refl);
  within = λ n h. let less : length p ≤ n = omega arith in (less, less);
  nearer = λ n h. falls (length cs) (length cs + 1) n (length p) (length (Star ∷ p)) (omega arith) (omega arith);
}
  where
    here : (p : Pieces) (cs : List ℕ) → Matches p cs ⊎ Later p cs → Matches (Star ∷ p) cs
    here p cs (inl m) = star_now p cs m
    here p cs (inr l) = star_later p cs l
star_right p cs (Some star) a = record {
  same = ((λ g. inl (here p cs g)), there);
  aligned = ([], refl, refl);
  within = λ n h. let less : length p ≤ n = omega (arith, h.0) in (less, less);
  nearer = λ n h. let no_more : length cs ≤ length star.1 = simp (a.2, length-append) (omega arith) in
      let times : length cs * (n + 1) ≤ length star.1 * (n + 1) = mul-le-mul_right (n + 1) no_more in omega arith;
}
  where
    here : (p : Pieces) (cs : List ℕ) → Matches p cs ⊎ Later p cs → Matches (Star ∷ p) cs
    here p cs (inl m) = star_now p cs m
    here p cs (inr l) = star_later p cs l

    there : Matches (Star ∷ p) cs ⊎ Later star.0 star.1 → Matches p cs ⊎ Later p cs
    there (inl m) = star_split p cs m
    there (inr l) = star_split p cs (later_star star.0 star.1 p cs a.0 a.1 a.2 l)

literals-append : (lits : List ℕ) (c : ℕ) (p : Pieces) → map Literal lits ++ (Literal c ∷ p) ≡ map Literal (lits ++ (c ∷ [])) ++ p
literals-append [] c p = refl
literals-append (d ∷ lits) c p = ap (λ q. Literal d ∷ q) (literals-append lits c p)

past_one : (c : ℕ) (p : Pieces) (cs : List ℕ) → Matches p cs ↔ Matches (Literal c ∷ p) (c ∷ cs)
past_one c p cs = ((λ m. (cs, refl, m)), (λ h. subst (Matches p) (let e : c ∷ cs ≡ c ∷ h.0 = h.1 in let f : h.0 ≡ cs = cc in f) h.2))

literal_right : (c : ℕ) (p : Pieces) (cs : List ℕ) (star : Star_at) → AlignedAt (Literal c ∷ p) (c ∷ cs) star → IsRight (standing_at (Literal c ∷ p) (c ∷ cs) star) (inr (standing_at p cs star))
literal_right c p cs None a = record {
  same = past_one c p cs;
  aligned = tt;
  within = λ n h. omega arith;
  nearer = λ n h. falls (length cs + 1) (length (c ∷ cs) + 1) n (length p) (length (Literal c ∷ p)) (omega arith) (omega arith);
}
literal_right c p cs (Some star) a = record {
  same = (to, from);
  aligned = (a.0 ++ (c ∷ []), a.1 ∙ literals-append a.0 c p, a.2 ∙ sym (append_assoc a.0 (c ∷ []) cs));
  within = λ n h. (omega (arith, h.0), h.1);
  nearer = λ n h. omega arith;
}
  where
    to : Matches p cs ⊎ Later star.0 star.1 → Matches (Literal c ∷ p) (c ∷ cs) ⊎ Later star.0 star.1
    to (inl m) = inl ((past_one c p cs).0 m)
    to (inr l) = inr l

    from : Matches (Literal c ∷ p) (c ∷ cs) ⊎ Later star.0 star.1 → Matches p cs ⊎ Later star.0 star.1
    from (inl m) = inl ((past_one c p cs).1 m)
    from (inr l) = inr l

end_right : (star : Star_at) → IsRight (standing_at [] [] star) (inl true)
end_right None = ((λ t. refl), (λ m. refl))
end_right (Some star) = ((λ t. inl refl), (λ m. refl))

tested_right : (c d : ℕ) (p : Pieces) (cs : List ℕ) (star : Star_at) → AlignedAt (Literal c ∷ p) (d ∷ cs) star → IsRight (standing_at (Literal c ∷ p) (d ∷ cs) star) (step_at (Literal c ∷ p) (d ∷ cs) star)
tested_right c d p cs star a = by (c == d) refl
  where
    by : (b : Bool) → (c == d) ≡ b → IsRight (standing_at (Literal c ∷ p) (d ∷ cs) star) (if b then inr (standing_at p cs star) else step_back star)
    by true e = let same : c ≡ d = eqb-true c d e in
        subst (λ x. AlignedAt (Literal c ∷ p) (x ∷ cs) star → IsRight (standing_at (Literal c ∷ p) (x ∷ cs) star) (inr (standing_at p cs star))) same (literal_right c p cs star) a
    by false e = back_right (Literal c ∷ p) (d ∷ cs) star (λ m. eqb-false c d e (let f : d ∷ cs ≡ c ∷ m.0 = m.1 in let g : c ≡ d = cc in g))

step_right_at : (p : Pieces) (cs : List ℕ) (star : Star_at) → AlignedAt p cs star → IsRight (standing_at p cs star) (step_at p cs star)
step_right_at [] [] star a = end_right star
step_right_at [] (c ∷ cs) star a = back_right [] (c ∷ cs) star (λ m. let e : c ∷ cs ≡ [] = m in cc)
step_right_at (Star ∷ p) cs star a = star_right p cs star a
step_right_at (Literal c ∷ p) [] star a = back_right (Literal c ∷ p) [] star (λ m. let e : [] ≡ c ∷ m.0 = m.1 in cc)
step_right_at (Literal c ∷ p) (d ∷ cs) star a = tested_right c d p cs star a

-- the answer is that of the search, or the search goes on to the same end
pub step_right : (s : Standing) → IsAligned s → IsRight s (step s)
step_right s a = step_right_at s.pieces s.left s.star a

-- a search of a pattern in a text
pub record IsSearch (p : Pieces) (cs : List ℕ) (s : Standing) : Type 0 where
  pub same : Goal s ↔ Matches p cs
  pub aligned : IsAligned s
  pub within : IsWithin (length p) s

pub search_starts : (p : Pieces) (cs : List ℕ) → IsSearch p cs (standing_at p cs None)
search_starts p cs = record { same = ((λ m. m), (λ m. m)); aligned = tt; within = omega arith }

pub search_ends : (p : Pieces) (cs : List ℕ) (s : Standing) (b : Bool) → IsSearch p cs s → Goes (Answer b) (step s) → IsTrue b ↔ Matches p cs
search_ends p cs s b is g = by (step s) (step_right s is.aligned) g
  where
    by : (u : Bool ⊎ Standing) → IsRight s u → Goes (Answer b) u → IsTrue b ↔ Matches p cs
    by (inl c) right e = ((λ t. is.same.0 (right.0 (sym e ∙ t))), (λ m. e ∙ right.1 (is.same.1 m)))
    by (inr t) right e = absurd e

abbrev pub GoesOn : Pieces → List ℕ → Standing → Standing → Type 0
GoesOn p cs s t = IsSearch p cs t × (work (length p) t < work (length p) s)

search_on : (p : Pieces) (cs : List ℕ) (s t : Standing) → IsSearch p cs s → Follows s t → GoesOn p cs s t
search_on p cs s t is next = (
  record {
    same = ((λ g. is.same.0 (next.same.0 g)), (λ m. next.same.1 (is.same.1 m)));
    aligned = next.aligned;
    within = next.within (length p) is.within;
  },
  next.nearer (length p) is.within,
)

pub search_goes : (p : Pieces) (cs : List ℕ) (s : Standing) (n : Search) → IsSearch p cs s → Goes (More n) (step s) → GoesOn p cs s (standing n)
search_goes p cs s n is g = by (step s) (step_right s is.aligned) g
  where
    by : (u : Bool ⊎ Standing) → IsRight s u → Goes (More n) u → GoesOn p cs s (standing n)
    by (inl c) right e = absurd e
    by (inr t) right e = subst (GoesOn p cs s) (sym e) (search_on p cs s t is right)
