-- A set of numbers by its flags and counts: what its calls rest on.
use Rattle.std.proofs.Common.{ℕ, suc, ◌+◌, ◌-◌, ◌*◌, ◌/◌, ◌^◌, ◌<◌, ◌≤◌, ◌≡◌, ◌↔◌, ◌⊎◌, inl, inr, refl, sym, ap, ap₂, ◌∙◌, subst, Bool, true, false, IsTrue, List, [], ◌∷◌, ◌++◌, length, sum, take, slice_get, slice_set, slice_index, Some, None, arith}
use Rattle.std.proofs.lemmas.Bool.{cases_lt}
use Rattle.std.proofs.Math.Nat.{mul-div_cancel}
use Rattle.std.proofs.lemmas.Option.{same_Some, slice_get_past, slice_get_within}
use Rattle.std.proofs.lemmas.List.{length-set, length_push}
use Rattle.asl_model.specs.Laws.{In}
use Rattle.world_plans.specs.Three.{numbers_from}
use Rattle.world_plans.specs.Changes.{numbers_set}
use Rattle.world_plans.proofs.Numbers.{number_in, in_number}
use Rattle.invoke_queue.specs.Numbers.{NumberSet, by_flag, set_of, rank, AreCounts, IsCountedSet}
use Rattle.invoke_queue.proofs.Ranks.{one, rank_none, rank_next, rank_within, rank_past, rank_top, rank_most, rank_less, rank_after, rank_push, at_rank, numbers_count, numbers_push, numbers_written, set_same}
use Rattle.invoke_queue.proofs.Counts.{sum_counts, sum_all, count_most, counts_written, counts_more, counts_pushed, counts_before}

-- the set without room
pub nothing_counted : IsCountedSet [] [] [] 0
nothing_counted = record {
  fits = omega arith;
  len_is = sym (rank_none 0);
  blocks_are = record { cover = omega arith; at = λ b l. absurd (omega arith) };
  wide_are = record { cover = omega arith; at = λ b l. absurd (omega arith) };
}

pub nothing_in : set_of [] ≡ record { numbers = []; room = 0 }
unfolding numbers_from
nothing_in = refl

module _ (flags : List Bool) (blocks wide : List ℕ) (len : ℕ) (h : IsCountedSet flags blocks wide len) where
  pub len_numbers : (s : NumberSet) → set_of flags ≡ s → len ≡ length s.numbers
  len_numbers s e = h.len_is ∙ sym (numbers_count 0 flags) ∙ ap (λ (t : NumberSet). length t.numbers) e

  pub past_numbers : (s : NumberSet) → set_of flags ≡ s → (index : ℕ) → len ≤ index → slice_get s.numbers index ≡ None
  past_numbers s e index l = slice_get_past s.numbers index (let q : len ≡ length s.numbers = len_numbers s e in omega (arith, q, l))

  -- ---------------------------------------------------------------- finding

  -- what the search in the wide blocks found
  pub record Wide (index w left : ℕ) : Type 0 where
    pub start : rank (w * 65536) flags + left ≡ index
    pub within : w * 65536 < length flags

  pub wide_found : (index w left : ℕ) → w < length wide → left < slice_index wide w → sum (take w wide) + left ≡ sum (take 0 wide) + index → Wide index w left
  wide_found index w left l m e =
      let s : sum (take w wide) ≡ rank (w * 65536) flags = sum_counts 65536 flags wide h.wide_are w (omega (arith, l)) in
      let q : rank (w * 65536) flags + slice_index wide w ≡ rank (w * 65536 + 65536) flags = h.wide_are.at w l in
      let e' : sum (take w wide) + left ≡ 0 + index = e in
      record {
        start = omega (arith, s, e');
        within = rank_less (w * 65536) (w * 65536 + 65536) flags (omega (arith, q, m));
      }

  pub wide_there : (index : ℕ) → index < len → sum wide ≤ sum (take 0 wide) + index → ⊥
  wide_there index l m =
      let s : sum wide ≡ rank (length flags) flags = sum_all 65536 flags wide h.wide_are in
      let q : len ≡ rank (length flags) flags = h.len_is in
      let m' : sum wide ≤ 0 + index = m in
      omega (arith, s, q, l, m')

  -- what the search in the blocks found
  pub record Block (index b left : ℕ) : Type 0 where
    pub start : rank (b * 256) flags + left ≡ index
    pub within : b * 256 < length flags

  from_wide : (index w left : ℕ) → Wide index w left → sum (take (w * 256) blocks) ≡ rank (w * 65536) flags
  from_wide index w left f =
      let c : length flags ≤ length blocks * 256 = h.blocks_are.cover in
      let i : w * 65536 < length flags = f.within in
      let z : w * 256 * 256 ≡ w * 65536 = omega arith in
      sum_counts 256 flags blocks h.blocks_are (w * 256) (omega (arith, c, i)) ∙ ap (λ n. rank n flags) z

  pub block_found : (index w left : ℕ) → Wide index w left → (b rest : ℕ) → b < length blocks → rest < slice_index blocks b → sum (take b blocks) + rest ≡ sum (take (w * 256) blocks) + left → Block index b rest
  block_found index w left f b rest l m e =
      let s : sum (take b blocks) ≡ rank (b * 256) flags = sum_counts 256 flags blocks h.blocks_are b (omega (arith, l)) in
      let q : rank (b * 256) flags + slice_index blocks b ≡ rank (b * 256 + 256) flags = h.blocks_are.at b l in
      let t : sum (take (w * 256) blocks) ≡ rank (w * 65536) flags = from_wide index w left f in
      let u : rank (w * 65536) flags + left ≡ index = f.start in
      record {
        start = omega (arith, s, e, t, u);
        within = rank_less (b * 256) (b * 256 + 256) flags (omega (arith, q, m));
      }

  pub block_there : (index w left : ℕ) → index < len → Wide index w left → sum blocks ≤ sum (take (w * 256) blocks) + left → ⊥
  block_there index w left l f m =
      let s : sum blocks ≡ rank (length flags) flags = sum_all 256 flags blocks h.blocks_are in
      let t : sum (take (w * 256) blocks) ≡ rank (w * 65536) flags = from_wide index w left f in
      let u : rank (w * 65536) flags + left ≡ index = f.start in
      let q : len ≡ rank (length flags) flags = h.len_is in
      omega (arith, s, t, u, q, l, m)

  pub flag_there : (index b left : ℕ) → index < len → Block index b left → rank (length flags) flags ≤ rank (b * 256) flags + left → ⊥
  flag_there index b left l f m =
      let u : rank (b * 256) flags + left ≡ index = f.start in
      let q : len ≡ rank (length flags) flags = h.len_is in
      omega (arith, u, q, l, m)

  pub number_found : (s : NumberSet) → set_of flags ≡ s → (index b left at : ℕ) → Block index b left → slice_get flags at ≡ Some true → rank at flags ≡ rank (b * 256) flags + left → slice_get s.numbers index ≡ Some at
  number_found s e index b left at f g r =
      let u : rank (b * 256) flags + left ≡ index = f.start in
      let i : index ≡ rank at flags = omega (arith, u, r) in
      let z : 0 + at ≡ at = omega arith in
      ap (λ (t : NumberSet). slice_get t.numbers index) (sym e) ∙ ap (slice_get (numbers_from by_flag 0 flags)) i ∙ at_rank 0 at flags g ∙ ap (λ n. Some n) z

  pub number_small : (at : ℕ) → slice_get flags at ≡ Some true → at < 4294967295
  number_small at g = let l : at < length flags = slice_get_within flags at true g in let f : length flags ≤ 4294967295 = h.fits in omega (arith, l, f)

  -- ---------------------------------------------------------------- membership

  pub flag_says : (s : NumberSet) → set_of flags ≡ s → (number : ℕ) (flag : Bool) → slice_get flags number ≡ Some flag → IsTrue flag ↔ In number s.numbers
  flag_says s e number flag g = (to flag g, from)
    where
      to : (b : Bool) → slice_get flags number ≡ Some b → IsTrue b → In number s.numbers
      to true q t = let z : 0 + number ≡ number = omega arith in
          subst (λ (u : NumberSet). In number u.numbers) e (subst (λ n. In n (numbers_from by_flag 0 flags)) z (number_in by_flag 0 flags number true q refl))
      to false q t = absurd (cc)

      from : In number s.numbers → IsTrue flag
      from i =
          let (n, x, z, q, t) = in_number by_flag 0 flags number (subst (λ (u : NumberSet). In number u.numbers) (sym e) i) in
          let y : number ≡ n = omega (arith, z) in
          let w : flag ≡ x = same_Some flag x (sym g ∙ ap (slice_get flags) y ∙ q) in
          w ∙ t

  pub no_flag : (s : NumberSet) → set_of flags ≡ s → (number : ℕ) → slice_get flags number ≡ None → In number s.numbers → ⊥
  no_flag s e number g i =
      let (n, x, z, q, t) = in_number by_flag 0 flags number (subst (λ (u : NumberSet). In number u.numbers) (sym e) i) in
      let y : number ≡ n = omega (arith, z) in
      let w : None ≡ Some x = sym g ∙ ap (slice_get flags) y ∙ q in
      absurd (cc)

  -- ---------------------------------------------------------------- putting in and out

  -- where a flag is not set, there are fewer numbers than room
  pub room_left : (n : ℕ) → slice_get flags n ≡ Some false → rank (length flags) flags < 4294967295
  room_left n g =
      let i : n < length flags = slice_get_within flags n false g in
      let r : rank (length flags) (slice_set flags n true) + 0 ≡ rank (length flags) flags + 1 = rank_after (length flags) n flags false true i g in
      let z : length (slice_set flags n true) ≡ length flags = length-set flags n true in
      let m : rank (length (slice_set flags n true)) (slice_set flags n true) ≤ length (slice_set flags n true) = rank_most (slice_set flags n true) in
      let y : rank (length (slice_set flags n true)) (slice_set flags n true) ≡ rank (length flags) (slice_set flags n true) = ap (λ k. rank k (slice_set flags n true)) z in
      let f : length flags ≤ 4294967295 = h.fits in
      omega (arith, r, z, m, y, f)

  -- so each count has room for one more
  pub block_room : (n b : ℕ) → slice_get flags n ≡ Some false → b < length blocks → slice_index blocks b + 1 < 2 ^ 32
  block_room n b g l = let p : rank (length flags) flags < 4294967295 = room_left n g in let q : slice_index blocks b ≤ rank (length flags) flags = count_most 256 flags blocks h.blocks_are b l in omega (arith, p, q)

  pub wide_room : (n w : ℕ) → slice_get flags n ≡ Some false → w < length wide → slice_index wide w + 1 < 2 ^ 32
  wide_room n w g l = let p : rank (length flags) flags < 4294967295 = room_left n g in let q : slice_index wide w ≤ rank (length flags) flags = count_most 65536 flags wide h.wide_are w l in omega (arith, p, q)

  pub len_room : (n : ℕ) → slice_get flags n ≡ Some false → len + 1 < 2 ^ 32
  len_room n g = let p : rank (length flags) flags < 4294967295 = room_left n g in let q : len ≡ rank (length flags) flags = h.len_is in omega (arith, p, q)

  -- where a flag is set, each count of it is at least one
  some_in : (width : ℕ) (counts : List ℕ) → AreCounts width flags counts → (n b : ℕ) → slice_get flags n ≡ Some true → b < length counts → b * width ≤ n → n < b * width + width → 1 ≤ slice_index counts b
  some_in width counts a n b g l low high =
      let q : rank (b * width) flags + slice_index counts b ≡ rank (b * width + width) flags = a.at b l in
      let r : rank (suc n) flags ≡ rank n flags + 1 = rank_next n flags true g in
      let u : rank (b * width) flags ≤ rank n flags = rank_within (b * width) n flags low in
      let v : rank (suc n) flags ≤ rank (b * width + width) flags = rank_within (suc n) (b * width + width) flags (omega (arith, high)) in
      omega (arith, q, r, u, v)

  pub block_some : (n : ℕ) → slice_get flags n ≡ Some true → 1 ≤ slice_index blocks (n / 256)
  block_some n g = let c : length flags ≤ length blocks * 256 = h.blocks_are.cover in let i : n < length flags = slice_get_within flags n true g in some_in 256 blocks h.blocks_are n (n / 256) g (omega (arith, c, i)) (omega arith) (omega arith)

  pub wide_some : (n : ℕ) → slice_get flags n ≡ Some true → 1 ≤ slice_index wide (n / 65536)
  wide_some n g = let c : length flags ≤ length wide * 65536 = h.wide_are.cover in let i : n < length flags = slice_get_within flags n true g in some_in 65536 wide h.wide_are n (n / 65536) g (omega (arith, c, i)) (omega arith) (omega arith)

  pub len_some : (n : ℕ) → slice_get flags n ≡ Some true → 1 ≤ len
  len_some n g =
      let r : rank (suc n) flags ≡ rank n flags + 1 = rank_next n flags true g in
      let t : rank (suc n) flags ≤ rank (length flags) flags = rank_top (suc n) flags in
      let q : len ≡ rank (length flags) flags = h.len_is in
      omega (arith, r, t, q)

  -- the counts after a flag is written
  written : (n x y l : ℕ) (b c : Bool) → slice_get flags n ≡ Some b → x + one b ≡ slice_index blocks (n / 256) + one c → y + one b ≡ slice_index wide (n / 65536) + one c → l + one b ≡ len + one c →
      IsCountedSet (slice_set flags n c) (slice_set blocks (n / 256) x) (slice_set wide (n / 65536) y) l
  written n x y l b c g p q r =
      let i : n < length flags = slice_get_within flags n b g in
      let z : length (slice_set flags n c) ≡ length flags = length-set flags n c in
      let f : length flags ≤ 4294967295 = h.fits in
      let a : rank (length flags) (slice_set flags n c) + one b ≡ rank (length flags) flags + one c = rank_after (length flags) n flags b c i g in
      let w : rank (length (slice_set flags n c)) (slice_set flags n c) ≡ rank (length flags) (slice_set flags n c) = ap (λ k. rank k (slice_set flags n c)) z in
      let d : len ≡ rank (length flags) flags = h.len_is in
      let bc : length flags ≤ length blocks * 256 = h.blocks_are.cover in
      let wc : length flags ≤ length wide * 65536 = h.wide_are.cover in
      record {
        fits = omega (arith, z, f);
        len_is = omega (arith, a, w, d, r);
        blocks_are = counts_written 256 flags blocks h.blocks_are n (n / 256) x b c g (omega (arith, i, bc)) (omega arith) (omega arith) p;
        wide_are = counts_written 65536 flags wide h.wide_are n (n / 65536) y b c g (omega (arith, i, wc)) (omega arith) (omega arith) q;
      }

  pub put_in : (n x y : ℕ) → slice_get flags n ≡ Some false → x ≡ slice_index blocks (n / 256) → y ≡ slice_index wide (n / 65536) →
      IsCountedSet (slice_set flags n true) (slice_set blocks (n / 256) (x + 1)) (slice_set wide (n / 65536) (y + 1)) (len + 1)
  put_in n x y g p q = written n (x + 1) (y + 1) (len + 1) false true g (omega (arith, p)) (omega (arith, q)) (omega arith)

  pub taken_out : (n x y : ℕ) → slice_get flags n ≡ Some true → x ≡ slice_index blocks (n / 256) → y ≡ slice_index wide (n / 65536) →
      IsCountedSet (slice_set flags n false) (slice_set blocks (n / 256) (x - 1)) (slice_set wide (n / 65536) (y - 1)) (len - 1)
  taken_out n x y g p q =
      let i : 1 ≤ slice_index blocks (n / 256) = block_some n g in
      let j : 1 ≤ slice_index wide (n / 65536) = wide_some n g in
      let k : 1 ≤ len = len_some n g in
      written n (x - 1) (y - 1) (len - 1) true false g (omega (arith, p, i)) (omega (arith, q, j)) (omega (arith, k))

  -- ---------------------------------------------------------------- more room

  pub room_more : (more far : List ℕ) → length flags < 4294967295 → AreCounts 256 (flags ++ false ∷ []) more → AreCounts 65536 (flags ++ false ∷ []) far → IsCountedSet (flags ++ false ∷ []) more far len
  room_more more far l b w =
      let z : length (flags ++ false ∷ []) ≡ length flags + 1 = length_push flags false in
      let p : rank (length (flags ++ false ∷ [])) (flags ++ false ∷ []) ≡ rank (length (flags ++ false ∷ [])) flags = rank_push (length (flags ++ false ∷ [])) flags in
      let q : rank (length (flags ++ false ∷ [])) flags ≡ rank (length flags) flags = rank_past (length (flags ++ false ∷ [])) flags (omega (arith, z)) in
      let d : len ≡ rank (length flags) flags = h.len_is in
      record { fits = omega (arith, z, l); len_is = omega (arith, p, q, d); blocks_are = b; wide_are = w }

  -- and the set as it was, where only counts were added
  pub blocks_more : (more : List ℕ) → AreCounts 256 (flags ++ false ∷ []) more → IsCountedSet flags more wide len
  blocks_more more b = record { fits = h.fits; len_is = h.len_is; blocks_are = counts_before 256 flags more b; wide_are = h.wide_are }

  pub both_more : (more far : List ℕ) → AreCounts 256 (flags ++ false ∷ []) more → AreCounts 65536 (flags ++ false ∷ []) far → IsCountedSet flags more far len
  both_more more far b w = record { fits = h.fits; len_is = h.len_is; blocks_are = counts_before 256 flags more b; wide_are = counts_before 65536 flags far w }

-- the set after a flag is written
pub set_written : (flags : List Bool) (s : NumberSet) → set_of flags ≡ s → (n : ℕ) (b c : Bool) → slice_get flags n ≡ Some b → set_of (slice_set flags n c) ≡ record s { numbers = numbers_set c n s.numbers }
set_written flags s e n b c g =
    ap₂ (λ ns r. record { numbers = ns; room = r }) (numbers_written by_flag n flags b c g) (length-set flags n c) ∙ ap (λ (t : NumberSet). record t { numbers = numbers_set c n t.numbers }) e

-- and where it was so already
pub set_kept : (flags : List Bool) (s : NumberSet) → set_of flags ≡ s → (n : ℕ) (c : Bool) → slice_get flags n ≡ Some c → s ≡ record s { numbers = numbers_set c n s.numbers }
set_kept flags s e n c g = sym e ∙ ap set_of (sym (set_same flags n c g)) ∙ set_written flags s e n c c g

pub set_grown : (flags : List Bool) (s : NumberSet) → set_of flags ≡ s → set_of (flags ++ false ∷ []) ≡ record s { room = s.room + 1 }
set_grown flags s e =
    ap₂ (λ ns r. record { numbers = ns; room = r }) (numbers_push 0 flags) (length_push flags false) ∙ ap (λ (t : NumberSet). record t { room = t.room + 1 }) e

-- ---------------------------------------------------------------- a block for one number more

pub covered_yet : (width : ℕ) → 0 < width → (flags : List Bool) (counts : List ℕ) (number : ℕ) → length flags ≡ number → AreCounts width flags counts → (number / width ≡ length counts → ⊥) → AreCounts width (flags ++ false ∷ []) counts
covered_yet width p flags counts number e a ne = counts_pushed width flags counts a (by (cases_lt (length flags) (length counts * width)))
  where
    by : (length flags < length counts * width) ⊎ (length counts * width ≤ length flags) → length flags < length counts * width
    by (inl x) = x
    by (inr y) =
        let c : length flags ≤ length counts * width = a.cover in
        let q : number ≡ length counts * width = omega (arith, e, y, c) in
        absurd (ne (ap (λ n. n / width) q ∙ mul-div_cancel (length counts) p))

pub covered_now : (width : ℕ) → 0 < width → (flags : List Bool) (counts : List ℕ) (number : ℕ) → length flags ≡ number → AreCounts width flags counts → number / width ≡ length counts → AreCounts width (flags ++ false ∷ []) (counts ++ 0 ∷ [])
covered_now width p flags counts number e a q =
    let b : AreCounts width flags (counts ++ 0 ∷ []) = counts_more width flags counts a in
    let c : length flags ≤ length counts * width = a.cover in
    let z : length (counts ++ 0 ∷ []) ≡ length counts + 1 = length_push counts 0 in
    let y : length (counts ++ 0 ∷ []) * width ≡ (length counts + 1) * width = ap (λ m. m * width) z in
    counts_pushed width flags (counts ++ 0 ∷ []) b (omega (arith, c, y, p))
