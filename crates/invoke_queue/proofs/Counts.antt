-- Counts of blocks, and how they change with the flags.
use Rattle.std.proofs.Common.{ℕ, zero, suc, ◌+◌, ◌*◌, ◌/◌, ◌%◌, ◌<◌, ◌≤◌, ◌≡◌, ◌≢◌, ◌⊎◌, inl, inr, refl, sym, ap, ◌∙◌, subst, Bool, false, List, [], ◌∷◌, ◌++◌, length, sum, take, slice_get, slice_set, slice_index, Some, arith, zero-mul}
use Rattle.std.proofs.Math.Nat.{mul-le-mul_right}
use Rattle.std.proofs.lemmas.Nat.{div-add-mod'}
use Rattle.std.proofs.lemmas.Bool.{cases_eq, cases_lt}
use Rattle.std.proofs.lemmas.List.{length-set, length_push, take_more, take_all, get_or-set_same, get_or-set_other, get_or_append_left, get_or_push}
use Rattle.std.proofs.lemmas.List.Sums.{sum_by-append}
use Rattle.invoke_queue.specs.Numbers.{rank, AreCounts}
use Rattle.invoke_queue.proofs.Ranks.{one, rank_zero, rank_past, rank_top, rank_before, rank_after, rank_push}

-- the counts of the first blocks are the rank where the next one begins
pub sum_counts : (width : ℕ) (flags : List Bool) (counts : List ℕ) → AreCounts width flags counts → (b : ℕ) → b ≤ length counts → sum (take b counts) ≡ rank (b * width) flags
sum_counts width flags counts h zero l = sym (ap (λ n. rank n flags) (zero-mul width) ∙ rank_zero flags)
sum_counts width flags counts h (suc b) l =
    let r : sum (take b counts) ≡ rank (b * width) flags = sum_counts width flags counts h b (omega arith) in
    let z : suc b ≡ b + 1 = omega arith in
    let t : sum (take (suc b) counts) ≡ sum (take b counts) + (0 + slice_index counts b) =
    ap (λ n. sum (take n counts)) z ∙ ap sum (take_more counts b 0 (omega arith)) ∙ sum_by-append (λ x. x) (take b counts) (slice_index counts b ∷ []) in
    let q : rank (b * width) flags + slice_index counts b ≡ rank (b * width + width) flags = h.at b (omega arith) in
    let y : b * width + width ≡ suc b * width = omega arith in
    let w : rank (b * width + width) flags ≡ rank (suc b * width) flags = ap (λ n. rank n flags) y in
    omega (arith, t, r, q, w)

-- all counts are the rank past the end
pub sum_all : (width : ℕ) (flags : List Bool) (counts : List ℕ) → AreCounts width flags counts → sum counts ≡ rank (length flags) flags
sum_all width flags counts h =
    ap sum (sym (take_all (length counts) counts (omega arith))) ∙ sum_counts width flags counts h (length counts) (omega arith) ∙ rank_past (length counts * width) flags h.cover

-- no count is more than all
pub count_most : (width : ℕ) (flags : List Bool) (counts : List ℕ) → AreCounts width flags counts → (b : ℕ) → b < length counts → slice_index counts b ≤ rank (length flags) flags
count_most width flags counts h b l =
    let q : rank (b * width) flags + slice_index counts b ≡ rank (b * width + width) flags = h.at b l in
    let t : rank (b * width + width) flags ≤ rank (length flags) flags = rank_top (b * width + width) flags in
    omega (arith, q, t)

-- the block of a number is there
pub block_within : (width n : ℕ) → 0 < width → (flags : List Bool) (counts : List ℕ) → AreCounts width flags counts → n < length flags → n / width < length counts
block_within width n p flags counts h l = by (cases_lt (n / width) (length counts))
  where
    by : (n / width < length counts) ⊎ (length counts ≤ n / width) → n / width < length counts
    by (inl x) = x
    by (inr y) =
        let e : n / width * width + n % width ≡ n = div-add-mod' n width in
        let m : length counts * width ≤ n / width * width = mul-le-mul_right width y in
        let c : length flags ≤ length counts * width = h.cover in
        absurd (omega (arith, e, m, c, l))

-- the counts after a flag is written, where the count of its block changes by one
pub counts_written : (width : ℕ) (flags : List Bool) (counts : List ℕ) → AreCounts width flags counts → (n block x : ℕ) (b c : Bool) →
    slice_get flags n ≡ Some b → block < length counts → block * width ≤ n → n < block * width + width → x + one b ≡ slice_index counts block + one c →
    AreCounts width (slice_set flags n c) (slice_set counts block x)
counts_written width flags counts h n block x b c e inside low high step = record { cover = covers; at = at }
  where
    covers : length (slice_set flags n c) ≤ length (slice_set counts block x) * width
    covers = let p : length (slice_set flags n c) ≡ length flags = length-set flags n c in
        let q : length (slice_set counts block x) * width ≡ length counts * width = ap (λ m. m * width) (length-set counts block x) in
        let c : length flags ≤ length counts * width = h.cover in omega (arith, p, q, c)

    same : rank (block * width) (slice_set flags n c) + slice_index (slice_set counts block x) block ≡ rank (block * width + width) (slice_set flags n c)
    same =
        let p : rank (block * width) (slice_set flags n c) ≡ rank (block * width) flags = rank_before (block * width) n flags c low in
        let q : rank (block * width + width) (slice_set flags n c) + one b ≡ rank (block * width + width) flags + one c = rank_after (block * width + width) n flags b c high e in
        let r : slice_index (slice_set counts block x) block ≡ x = get_or-set_same counts block x 0 inside in
        let s : rank (block * width) flags + slice_index counts block ≡ rank (block * width + width) flags = h.at block inside in
        omega (arith, p, q, r, s, step)

    below : (k : ℕ) → k < length counts → k < block → rank (k * width) (slice_set flags n c) + slice_index counts k ≡ rank (k * width + width) (slice_set flags n c)
    below k l m =
        let z : suc k * width ≤ block * width = mul-le-mul_right width (let y : suc k ≤ block = omega (arith, m) in y) in
        let y : suc k * width ≡ k * width + width = omega arith in
        let p : rank (k * width) (slice_set flags n c) ≡ rank (k * width) flags = rank_before (k * width) n flags c (omega (arith, z, y, low)) in
        let q : rank (k * width + width) (slice_set flags n c) ≡ rank (k * width + width) flags = rank_before (k * width + width) n flags c (omega (arith, z, y, low)) in
        let s : rank (k * width) flags + slice_index counts k ≡ rank (k * width + width) flags = h.at k l in
        omega (arith, p, q, s)

    above : (k : ℕ) → k < length counts → block < k → rank (k * width) (slice_set flags n c) + slice_index counts k ≡ rank (k * width + width) (slice_set flags n c)
    above k l m =
        let z : suc block * width ≤ k * width = mul-le-mul_right width (let y : suc block ≤ k = omega (arith, m) in y) in
        let y : suc block * width ≡ block * width + width = omega arith in
        let p : rank (k * width) (slice_set flags n c) + one b ≡ rank (k * width) flags + one c = rank_after (k * width) n flags b c (omega (arith, z, y, high)) e in
        let q : rank (k * width + width) (slice_set flags n c) + one b ≡ rank (k * width + width) flags + one c = rank_after (k * width + width) n flags b c (omega (arith, z, y, high)) e in
        let s : rank (k * width) flags + slice_index counts k ≡ rank (k * width + width) flags = h.at k l in
        omega (arith, p, q, s)

    apart : (k : ℕ) → k < length counts → k ≢ block → rank (k * width) (slice_set flags n c) + slice_index counts k ≡ rank (k * width + width) (slice_set flags n c)
    apart k l ne = elim (cases_lt k block) as (λ _. rank (k * width) (slice_set flags n c) + slice_index counts k ≡ rank (k * width + width) (slice_set flags n c)) [ inl m ↦ below k l m | inr m ↦ above k l (omega (arith, m, ne)) ]

    at : (k : ℕ) → k < length (slice_set counts block x) → rank (k * width) (slice_set flags n c) + slice_index (slice_set counts block x) k ≡ rank (k * width + width) (slice_set flags n c)
    at k l = elim (cases_eq k block) as (λ _. rank (k * width) (slice_set flags n c) + slice_index (slice_set counts block x) k ≡ rank (k * width + width) (slice_set flags n c)) [
      | inl q ↦ subst (λ j. rank (j * width) (slice_set flags n c) + slice_index (slice_set counts block x) j ≡ rank (j * width + width) (slice_set flags n c)) (sym q) same
      | inr ne ↦
          let g : slice_index (slice_set counts block x) k ≡ slice_index counts k = get_or-set_other counts block k x 0 ne in
          let s : rank (k * width) (slice_set flags n c) + slice_index counts k ≡ rank (k * width + width) (slice_set flags n c) = apart k (let y : length (slice_set counts block x) ≡ length counts = length-set counts block x in omega (arith, l, y)) ne in
          omega (arith, g, s)
    ]

-- one more flag that is not set, where there is a block for it
pub counts_pushed : (width : ℕ) (flags : List Bool) (counts : List ℕ) → AreCounts width flags counts → length flags < length counts * width → AreCounts width (flags ++ false ∷ []) counts
counts_pushed width flags counts h l = record {
  cover = let p : length (flags ++ false ∷ []) ≡ length flags + 1 = length_push flags false in omega (arith, p, l);
  at = λ b m.
      let p : rank (b * width) (flags ++ false ∷ []) ≡ rank (b * width) flags = rank_push (b * width) flags in
      let q : rank (b * width + width) (flags ++ false ∷ []) ≡ rank (b * width + width) flags = rank_push (b * width + width) flags in
      let s : rank (b * width) flags + slice_index counts b ≡ rank (b * width + width) flags = h.at b m in
      omega (arith, p, q, s);
}

-- a further block, of which no number is in the set
pub counts_more : (width : ℕ) (flags : List Bool) (counts : List ℕ) → AreCounts width flags counts → AreCounts width flags (counts ++ 0 ∷ [])
counts_more width flags counts h = record { cover = covers; at = at }
  where
    grown : length (counts ++ 0 ∷ []) ≡ length counts + 1
    grown = length_push counts 0

    covers : length flags ≤ length (counts ++ 0 ∷ []) * width
    covers =
        let q : length (counts ++ 0 ∷ []) * width ≡ (length counts + 1) * width = ap (λ m. m * width) grown in
        let c : length flags ≤ length counts * width = h.cover in omega (arith, q, c)

    last : rank (length counts * width) flags + slice_index (counts ++ 0 ∷ []) (length counts) ≡ rank (length counts * width + width) flags
    last =
        let c : length flags ≤ length counts * width = h.cover in
        let p : rank (length counts * width) flags ≡ rank (length flags) flags = rank_past (length counts * width) flags c in
        let q : rank (length counts * width + width) flags ≡ rank (length flags) flags = rank_past (length counts * width + width) flags (omega (arith, c)) in
        let r : slice_index (counts ++ 0 ∷ []) (length counts) ≡ 0 = get_or_push counts 0 0 (length counts) refl in
        omega (arith, p, q, r)

    at : (b : ℕ) → b < length (counts ++ 0 ∷ []) → rank (b * width) flags + slice_index (counts ++ 0 ∷ []) b ≡ rank (b * width + width) flags
    at b l = elim (cases_lt b (length counts)) as (λ _. rank (b * width) flags + slice_index (counts ++ 0 ∷ []) b ≡ rank (b * width + width) flags) [
      | inl m ↦
          let g : slice_index (counts ++ 0 ∷ []) b ≡ slice_index counts b = get_or_append_left counts (0 ∷ []) 0 b m in
          let s : rank (b * width) flags + slice_index counts b ≡ rank (b * width + width) flags = h.at b m in
          omega (arith, g, s)
      | inr m ↦
          let q : length counts ≡ b = omega (arith, m, l, grown) in
          subst (λ j. rank (j * width) flags + slice_index (counts ++ 0 ∷ []) j ≡ rank (j * width + width) flags) q last
    ]

-- the same counts without the last flag, which is not set
pub counts_before : (width : ℕ) (flags : List Bool) (counts : List ℕ) → AreCounts width (flags ++ false ∷ []) counts → AreCounts width flags counts
counts_before width flags counts h = record {
  cover = let p : length (flags ++ false ∷ []) ≡ length flags + 1 = length_push flags false in let c : length (flags ++ false ∷ []) ≤ length counts * width = h.cover in omega (arith, p, c);
  at = λ b m.
      let p : rank (b * width) (flags ++ false ∷ []) ≡ rank (b * width) flags = rank_push (b * width) flags in
      let q : rank (b * width + width) (flags ++ false ∷ []) ≡ rank (b * width + width) flags = rank_push (b * width + width) flags in
      let s : rank (b * width) (flags ++ false ∷ []) + slice_index counts b ≡ rank (b * width + width) (flags ++ false ∷ []) = h.at b m in
      omega (arith, p, q, s);
}
