-- The order of names by cases, as the laws use it.
use Rattle.std.proofs.Common.{◌≡◌, ℕ, ◌<◌, ◌⊎◌, List, [], ◌∷◌, ◌++◌, refl, sym, subst, inl, inr}
use Rattle.std.specs.declared.cmp.Ordering.TheVariants.{Less, Equal}
use Rattle.std.specs.Ordering.{nat_cmp}
use Rattle.std.specs.Cmp.{nat_cmp_is}
use Rattle.std.specs.Cmp.Lexicographic.{slice_cmp}
use Rattle.std.proofs.lemmas.Cmp.{nat_list_cmp_total, tied_itself}
use Rattle.place_name.specs.Order.{numbers, rank, name_order, numbers_of}
use Rattle.asl_model.specs.Names.{Place, Name}
use Rattle.asl_model.specs.Central.{Visit, name_of}
use Rattle.asl_model.specs.Laws.{In, IsRising}

-- the numbers by which places are compared
abbrev pub key : Place → List ℕ
key p = p.session ∷ numbers p.trail ++ p.hop ∷ []

-- in the order of lists of numbers, a prefix first
abbrev pub IsBelow : List ℕ → List ℕ → Type 0
IsBelow [] [] = ⊥
IsBelow [] (y ∷ ys) = Unit {0}
IsBelow (x ∷ xs) [] = ⊥
IsBelow (x ∷ xs) (y ∷ ys) = (x < y) ⊎ ((x ≡ y) × IsBelow xs ys)

abbrev pub IsBefore : Name → Name → Type 0
IsBefore n m = IsBelow (key n.place) (key m.place) ⊎ ((key n.place ≡ key m.place) × (rank n.kind < rank m.kind))

abbrev pub Rises : List Visit → Type 0
Rises [] = Unit {0}
Rises (v ∷ vs) = ((w : Visit) → In w vs → IsBefore (name_of v) (name_of w)) × Rises vs

nat_less : (x y : ℕ) → x < y → nat_cmp x y ≡ Less
nat_less x y h = sym (nat_cmp_is x y Less h)

nat_same : (x y : ℕ) → x ≡ y → nat_cmp x y ≡ Equal
nat_same x y e = sym (nat_cmp_is x y Equal e)

list_less : (xs ys : List ℕ) → IsBelow xs ys → slice_cmp nat_cmp xs ys ≡ Less
list_less [] [] h = absurd h
list_less [] (y ∷ ys) h = refl
list_less (x ∷ xs) [] h = absurd h
list_less (x ∷ xs) (y ∷ ys) h =
    elim h [ inl l ↦ rw (nat_less x y l) refl | inr e ↦ rw (nat_same x y e.0, list_less xs ys e.1) refl ]

list_same : (xs ys : List ℕ) → xs ≡ ys → slice_cmp nat_cmp xs ys ≡ Equal
list_same xs ys e = subst (λ zs. slice_cmp nat_cmp xs zs ≡ Equal) e (tied_itself nat_list_cmp_total xs)

before_less : (n m : Name) → IsBefore n m → name_order n m ≡ Less
before_less n m h =
    elim h [
      | inl b ↦ elim b [
        | inl l ↦ rw (nat_less n.place.session m.place.session l) refl
        | inr e ↦ rw (nat_same n.place.session m.place.session e.0, list_less (numbers_of n) (numbers_of m) e.1) refl
      ]
      | inr k ↦
          let first : n.place.session ≡ m.place.session = let q = k.0 in cc in
          let rest : numbers_of n ≡ numbers_of m = let q = k.0 in cc in
          rw (nat_same n.place.session m.place.session first, list_same (numbers_of n) (numbers_of m) rest, nat_less (rank n.kind) (rank m.kind) k.1) refl
    ]

pub rises_rising : (vs : List Visit) → Rises vs → IsRising vs
rises_rising [] r = tt
rises_rising (v ∷ vs) r = ((λ w i. before_less (name_of v) (name_of w) (r.0 w i)), rises_rising vs r.1)
