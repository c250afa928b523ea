-- Flags and lists of indices are the same bitmaps.
use Rattle.std.proofs.Common.{ℕ, zero, suc, ◌<◌, ◌≡◌, ◌≢◌, inl, inr, refl, sym, ap, ◌∙◌, subst, Bool, true, false, ◌&&◌, cond, List, [], ◌∷◌, length, slice_get, slice_set, Some, arith}
use Rattle.std.proofs.lemmas.Option.{same_Some}
use Rattle.std.proofs.lemmas.List.{length-set}
use Rattle.std.proofs.lemmas.Bool.Decides.{eqb_tells}
use Rattle.world_model.specs.AnyCode.Code.{has_bit, has_all, in_order, no_flags, all_set, flags}
use Rattle.world_model.specs.AnyCode.Maps.{SameBits, AreFlagsOf}

no_length : (n : ℕ) → length (no_flags n) ≡ n
no_length zero = refl
no_length (suc n) = ap suc (no_length n)

no_flag : (n i : ℕ) → i < n → slice_get (no_flags n) i ≡ Some false
no_flag zero i l = absurd (omega arith)
no_flag (suc n) zero l = refl
no_flag (suc n) (suc i) l = no_flag n i (omega arith)

set_here : (bs : List Bool) (i : ℕ) → i < length bs → slice_get (slice_set bs i true) i ≡ Some true
set_here [] i l = absurd (omega arith)
set_here (b ∷ bs) zero l = refl
set_here (b ∷ bs) (suc i) l = set_here bs i (omega arith)

set_other : (bs : List Bool) (j i : ℕ) → i ≢ j → slice_get (slice_set bs j true) i ≡ slice_get bs i
set_other [] j i n = refl
set_other (b ∷ bs) zero zero n = absurd (n refl)
set_other (b ∷ bs) zero (suc i) n = refl
set_other (b ∷ bs) (suc j) zero n = refl
set_other (b ∷ bs) (suc j) (suc i) n = set_other bs j i (λ e. n (ap suc e))

set_flag : (n index : ℕ) (bs : List Bool) (is : List ℕ) → AreFlagsOf n bs is → (i : ℕ) → i < n → slice_get (slice_set bs index true) i ≡ Some (has_bit i (index ∷ is))
set_flag n index bs is f i l = elim (eqb_tells i index) [
  | inl q ↦
      let z : i < length bs = let c : length bs ≡ n = f.count in omega arith in
      subst (λ (j : ℕ). slice_get (slice_set bs j true) i ≡ Some true) q.1 (set_here bs i z)
      ∙ ap (λ (b : Bool). Some (cond b true (has_bit i is))) (sym q.0)
  | inr q ↦ set_other bs index i q.1 ∙ f.flag i l ∙ ap (λ (b : Bool). Some (cond b true (has_bit i is))) (sym q.0)
]

both_left : (a b : Bool) → a && b ≡ true → a ≡ true
both_left true b e = refl
both_left false b e = e

both_right : (a b : Bool) → a && b ≡ true → b ≡ true
both_right true b e = e
both_right false b e = absurd (cc)

both : (a b : Bool) → a ≡ true → b ≡ true → a && b ≡ true
both true b p q = q
both false b p q = absurd (cc)

all_at : (bs : List Bool) (i : ℕ) → all_set bs ≡ true → i < length bs → slice_get bs i ≡ Some true
all_at [] i e l = absurd (omega arith)
all_at (b ∷ bs) zero e l = ap Some (both_left b (all_set bs) e)
all_at (b ∷ bs) (suc i) e l = all_at bs i (both_right b (all_set bs) e) (omega arith)

all_from : (bs : List Bool) → ((i : ℕ) → i < length bs → slice_get bs i ≡ Some true) → all_set bs ≡ true
all_from [] f = refl
all_from (b ∷ bs) f = both b (all_set bs) (same_Some b true (f 0 (omega arith))) (all_from bs (λ i l. f (suc i) (omega arith)))

has_at : (n : ℕ) (is : List ℕ) (i : ℕ) → has_all n is ≡ true → i < n → has_bit i is ≡ true
has_at zero is i e l = absurd (omega arith)
has_at (suc n) is i e l = elim (eqb_tells i n) [
  | inl q ↦ ap (λ (j : ℕ). has_bit j is) q.1 ∙ both_left (has_bit n is) (has_all n is) e
  | inr q ↦ let k : i ≢ n = q.1 in has_at n is i (both_right (has_bit n is) (has_all n is) e) (grind arith)
]

has_from : (n : ℕ) (is : List ℕ) → ((i : ℕ) → i < n → has_bit i is ≡ true) → has_all n is ≡ true
has_from zero is f = refl
has_from (suc n) is f = both (has_bit n is) (has_all n is) (f n (omega arith)) (has_from n is (λ i l. f i (omega arith)))

same_tests : (a b : Bool) → (a ≡ true → b ≡ true) → (b ≡ true → a ≡ true) → a ≡ b
same_tests true b f g = sym (f refl)
same_tests false true f g = g refl
same_tests false false f g = refl

full_flags : (n : ℕ) (bs : List Bool) (is : List ℕ) → AreFlagsOf n bs is → all_set bs ≡ has_all n is
full_flags n bs is f =
    let c : length bs ≡ n = f.count in
    same_tests (all_set bs) (has_all n is)
    (λ e. has_from n is (λ i l. same_Some (has_bit i is) true (sym (f.flag i l) ∙ all_at bs i e (omega arith))))
    (λ e. all_from bs (λ i l. f.flag i (omega arith) ∙ ap Some (has_at n is i e (omega arith))))

pub flags_in_order : SameBits AreFlagsOf flags in_order
flags_in_order = record {
  none = λ n. record { count = no_length n; flag = λ i l. no_flag n i l };
  set = λ n index bs is f. record { count = length-set bs index true ∙ f.count; flag = λ i l. set_flag n index bs is f i l };
  full = λ n bs is f. full_flags n bs is f;
}
