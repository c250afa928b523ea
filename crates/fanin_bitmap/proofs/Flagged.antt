-- What words of bits say as flags, and how many flags are set.
use Rattle.std.proofs.Common.{Some, slice_get, bit_and, ◌≡◌, ◌≢◌, ℕ, zero, suc, ◌+◌, ◌*◌, ◌/◌, ◌%◌, ◌^◌, ◌<◌, ◌≤◌, Bool, true}
use Rattle.std.proofs.Common.{false, List, [], ◌∷◌, length, get_or, set, bit_or, eqb, refl, sym, ap, ◌∙◌, subst, arith, eq-eqb}
use Rattle.std.proofs.Common.{⊎_elim, get_or-set_same, get_or-set_other}
use Rattle.std.specs.Int.{bit_at, w64}
use Rattle.std.proofs.Math.ListN.{replicate}
use Rattle.std.proofs.lemmas.Bool.{cases_eq, cases_lt, ne_eqb}
use Rattle.std.proofs.lemmas.List.{length-set, length-replicate, get_or-replicate, get_or_past, ext_get_or, set-get_or}
use Rattle.std.proofs.lemmas.List.FromFn.{length-map-range_with_len, get_or-map-range_with_len}
use Rattle.std.proofs.Math.Dec.{eqb-suc-suc}
use Rattle.std.proofs.lemmas.Nat.Bits.{bit_at_set_same, bit_at_set_other, bit_at-zero, shr_and_one}
use Rattle.std.proofs.lemmas.Option.{slice_get-get_or, get_or_from_slice_get}
use Rattle.world_model.specs.AnyCode.Code.{no_flags, all_set}
use Rattle.fanin_bitmap.specs.Words.{bit_in, flags_in, set_flags, Keeps}

-- there are as many flags as are asked for
pub length-flags_in : (words : List ℕ) (count : ℕ) → length (flags_in words count) ≡ count
unfolding flags_in
length-flags_in words count = length-map-range_with_len (bit_in words) 0 count

-- and each is the bit of its index
pub flag_is : (words : List ℕ) (count i : ℕ) (d : Bool) → i < count → get_or (flags_in words count) i d ≡ bit_in words i
unfolding flags_in
flag_is words count i d h = get_or-map-range_with_len (bit_in words) 0 count i i d h (omega arith)

-- ---------------------------------------------------------------- one more bit

-- the word with that bit set, as a program computes it
abbrev pub with_bit : ℕ → ℕ → ℕ
with_bit w k = bit_or w (1 * 2 ^ k % 18446744073709551616)

-- the words with the bit of that index set
abbrev pub words_with : List ℕ → ℕ → List ℕ
words_with words i = set words (i / 64) (with_bit (get_or words (i / 64) 0) (i % 64))

bit_is_set : (words : List ℕ) (i : ℕ) → i / 64 < length words → bit_in (words_with words i) i ≡ true
unfolding bit_in
bit_is_set words i h =
    let w : ℕ = get_or words (i / 64) 0 in
    let e : get_or (words_with words i) (i / 64) 0 ≡ with_bit w (i % 64) = get_or-set_same words (i / 64) (with_bit w (i % 64)) 0 h in
    eq-eqb _ _ (ap (λ x. bit_at x (i % 64)) e ∙ bit_at_set_same w64 w (i % 64) (omega arith))

-- two indices in the same word have different places in it
apart_within : (i j : ℕ) → j ≢ i → j / 64 ≡ i / 64 → j % 64 ≢ i % 64
apart_within i j ne e p = ne (omega arith)

bit_stays : (words : List ℕ) (i j : ℕ) → i / 64 < length words → j ≢ i → bit_in (words_with words i) j ≡ bit_in words j
unfolding bit_in
bit_stays words i j h ne =
    ⊎_elim
    (λ e.
    let w : ℕ = get_or words (i / 64) 0 in
    let at : get_or (words_with words i) (j / 64) 0 ≡ with_bit w (i % 64) =
    ap (λ k. get_or (words_with words i) k 0) e ∙ get_or-set_same words (i / 64) (with_bit w (i % 64)) 0 h in
    let was : w ≡ get_or words (j / 64) 0 = ap (λ k. get_or words k 0) (sym e) in
    ap (λ b. eqb b 1)
    (ap (λ x. bit_at x (j % 64)) at
    ∙ (bit_at_set_other w64 w (i % 64) (omega arith) (j % 64) (apart_within i j ne e) ∙ ap (λ x. bit_at x (j % 64)) was)))
    (λ far. ap (λ x. eqb (bit_at x (j % 64)) 1)
    (get_or-set_other words (i / 64) (j / 64) (with_bit (get_or words (i / 64) 0) (i % 64)) 0 far))
    (cases_eq (j / 64) (i / 64))

-- with one more bit the flag of its index is set, and no other changes
pub flags_in-set : (words : List ℕ) (count i : ℕ) → i / 64 < length words → i < count →
    flags_in (words_with words i) count ≡ set (flags_in words count) i true
flags_in-set words count i h lt =
    let within : i < length (flags_in words count) = omega (arith, length-flags_in words count) in
    ext_get_or false _ _
    (length-flags_in (words_with words i) count ∙ sym (length-set (flags_in words count) i true ∙ length-flags_in words count))
    (λ j below.
    let j_lt : j < count = omega (arith, length-flags_in (words_with words i) count) in
    flag_is (words_with words i) count j false j_lt
    ∙ ⊎_elim
    (λ e. subst (λ k. bit_in (words_with words i) k ≡ get_or (set (flags_in words count) i true) k false) (sym e)
    (bit_is_set words i h ∙ sym (get_or-set_same (flags_in words count) i true false within)))
    (λ ne. bit_stays words i j h ne
    ∙ sym (get_or-set_other (flags_in words count) i j true false ne ∙ flag_is words count j false j_lt))
    (cases_eq j i))

-- ---------------------------------------------------------------- no bit

length-no_flags : (n : ℕ) → length (no_flags n) ≡ n
length-no_flags zero = refl
length-no_flags (suc n) = ap suc (length-no_flags n)

no_flag : (n i : ℕ) → get_or (no_flags n) i false ≡ false
no_flag zero i = refl
no_flag (suc n) zero = refl
no_flag (suc n) (suc i) = no_flag n i

pub set_flags-no_flags : (n : ℕ) → set_flags (no_flags n) ≡ 0
set_flags-no_flags zero = refl
set_flags-no_flags (suc n) = set_flags-no_flags n

zero_at : (n i : ℕ) → let z : ℕ = 0 in get_or (replicate n z) i z ≡ z
zero_at n i = let z : ℕ = 0 in ⊎_elim (λ h. get_or-replicate n i z z h)
    (λ h. get_or_past (replicate n z) i z (omega (arith, length-replicate n z))) (cases_lt i n)

no_bit : (n i : ℕ) → bit_in (replicate n 0) i ≡ false
unfolding bit_in
no_bit n i = ap (λ x. eqb (bit_at x (i % 64)) 1) (zero_at n (i / 64)) ∙ ap (λ b. eqb b 1) (bit_at-zero (i % 64))

-- words of no bits are no flags
pub flags_in-none : (n count : ℕ) → flags_in (replicate n 0) count ≡ no_flags count
flags_in-none n count =
    ext_get_or false _ _ (length-flags_in (replicate n 0) count ∙ sym (length-no_flags count))
    (λ i below.
    let lt : i < count = omega (arith, length-flags_in (replicate n 0) count) in
    flag_is (replicate n 0) count i false lt ∙ (no_bit n i ∙ sym (no_flag count i)))

-- ---------------------------------------------------------------- how many are set

suc_more : (n : ℕ) → suc (n + 1) ≡ suc n + 1
suc_more n = omega arith

-- no more are set than there are
set_flags-le : (bs : List Bool) → set_flags bs ≤ length bs
set_flags-le [] = omega arith
set_flags-le (true ∷ bs) = let rest : set_flags bs ≤ length bs = set_flags-le bs in let more : suc (set_flags bs) ≤ suc
    (length bs) = omega arith in more
set_flags-le (false ∷ bs) = let rest : set_flags bs ≤ length bs = set_flags-le bs in let more : set_flags bs ≤ suc
    (length bs) = omega arith in more

-- a flag that was not set counts one more
pub set_flags-set : (bs : List Bool) (i : ℕ) → i < length bs → get_or bs i false ≡ false → set_flags (set bs i true) ≡ set_flags bs + 1
set_flags-set [] i h e = absurd (omega arith)
set_flags-set (true ∷ bs) zero h e = absurd (cc)
set_flags-set (false ∷ bs) zero h e = let more : suc (set_flags bs) ≡ set_flags bs + 1 = omega arith in more
set_flags-set (true ∷ bs) (suc i) h e = ap suc (set_flags-set bs i (omega arith) e) ∙ suc_more (set_flags bs)
set_flags-set (false ∷ bs) (suc i) h e = set_flags-set bs i (omega arith) e

-- a flag that is set stays so
pub set_again : (bs : List Bool) (i : ℕ) → get_or bs i false ≡ true → set bs i true ≡ bs
set_again bs i e = ap (set bs i) (sym e) ∙ set-get_or bs i false

few : (m n : ℕ) → m ≤ n → m ≢ suc n
few m n h e = omega arith

-- all are set where as many are set as there are
pub full_by_count : (bs : List Bool) → eqb (set_flags bs) (length bs) ≡ all_set bs
full_by_count [] = refl
full_by_count (true ∷ bs) = eqb-suc-suc (set_flags bs) (length bs) ∙ full_by_count bs
full_by_count (false ∷ bs) = ne_eqb _ _ (few (set_flags bs) (length bs) (set_flags-le bs))

-- ---------------------------------------------------------------- of the view of a bitmap

-- the count is how many flags there are
pub count_is : (words : List ℕ) (count : ℕ) (bs : List Bool) → flags_in words count ≡ bs → count ≡ length bs
count_is words count bs e = sym (length-flags_in words count) ∙ ap length e

-- each flag has its bit in one of the words
pub word_within : (words : List ℕ) (count n i : ℕ) (bs : List Bool) → flags_in words count ≡ bs → Keeps words count n → i < length bs →
    i / 64 < 16
word_within words count n i bs e k h = omega (arith, count_is words count bs e, k.within)

-- what a program reads at an index
pub flag_read : (words : List ℕ) (count i : ℕ) (bs : List Bool) → flags_in words count ≡ bs → i < length bs →
    slice_get bs i ≡ Some (eqb (bit_and (get_or words (i / 64) 0 / 2 ^ (i % 64)) 1) 1)
unfolding bit_in
flag_read words count i bs e h =
    let lt : i < count = omega (arith, count_is words count bs e) in
    slice_get-get_or bs i false h
    ∙ ap Some (ap (λ l. get_or l i false) (sym e)
    ∙ (flag_is words count i false lt ∙ ap (λ b. eqb b 1) (sym (shr_and_one (get_or words (i / 64) 0) (i % 64)))))

-- the counts agree exactly where all flags are set
pub full_by_counts : (words : List ℕ) (count n : ℕ) (bs : List Bool) → flags_in words count ≡ bs → Keeps words count n →
    eqb n count ≡ all_set bs
full_by_counts words count n bs e k =
    ap (λ m. eqb m count) (k.set_is ∙ ap set_flags e) ∙ (ap (eqb (set_flags bs)) (count_is words count bs e) ∙ full_by_count bs)

-- one more bit where there was none
pub one_more : (words : List ℕ) (count n i : ℕ) (bs : List Bool) → flags_in words count ≡ bs → Keeps words count n → i < length bs →
    slice_get bs i ≡ Some false → Keeps (words_with words i) count (n + 1) × (flags_in (words_with words i) count ≡ set bs i true)
one_more words count n i bs e k h off =
    let lt : i < count = omega (arith, count_is words count bs e) in
    let inside : i / 64 < length words = omega (arith, k.words_len, k.within) in
    let after : flags_in (words_with words i) count ≡ set (flags_in words count) i true = flags_in-set words count i inside lt in
    let was : get_or (flags_in words count) i false ≡ false = ap (λ l. get_or l i false) e ∙ get_or_from_slice_get bs i false false off in
    let more : set_flags (set (flags_in words count) i true) ≡ set_flags (flags_in words count) + 1 =
    set_flags-set (flags_in words count) i (omega (arith, length-flags_in words count)) was in (
      record {
        words_len = length-set words (i / 64) (with_bit (get_or words (i / 64) 0) (i % 64)) ∙ k.words_len;
        within = k.within;
        set_is = sym (ap set_flags after ∙ (more ∙ ap (λ m. m + 1) (sym k.set_is)));
      },
      after ∙ ap (λ l. set l i true) e,
    )

-- no more are set than a fan may have branches
pub most_set : (words : List ℕ) (count n : ℕ) → Keeps words count n → n ≤ 1000
most_set words count n k = omega (arith, k.set_is, k.within, set_flags-le (flags_in words count), length-flags_in words count)
