-- Places of runs of a valid machine are in range.
use Rattle.std.proofs.Common.{◌≡◌, ℕ, zero, suc, ◌-◌, ◌<◌, ◌≤◌, List, [], ◌∷◌, ◌++◌, Some, Ok, Bool, true, false, length, slice_get, refl, ap, ◌∙◌, subst, inl, inr, arith, length-append, if◌then◌else◌}
use Rattle.asl_model.specs.Data.{Text, Json, prepared, parallel_inputs, map_inputs, same_text, repeat, item_limit}
use Rattle.place_name.specs.Names.{Seg, Scope, Place, scope_of, child_of}
use Rattle.asl_model.specs.Machine.{Block, block, States, no_state, and_state, State, Task, Pass, Choice, Succeed, Fail, Parallel, Map, Blocks, no_block, and_block, find_state, state_of, blocks_in, branches_of, depth, depth_in, depth_of, depth_all}
use Rattle.asl_model.specs.Head.{or_caught}
use Rattle.asl_model.specs.Step.{Calls, Fans, standard}
use Rattle.asl_model.specs.Blocks.{Nested, Row, rows, rows_of, nested_at, nested_within, nested_under, nested_all}
use Rattle.asl_model.specs.Laws.{In}
use Rattle.asl_model.specs.Valid.{IsValid, HasParts}
use Rattle.asl_model.proofs.Lists.{In-left, In-right}
use Rattle.asl_model.proofs.NameLaw.{few_inputs}
use Rattle.asl_model.proofs.WaysLaw.{caught_or, parallel_count}
use Rattle.central_model.specs.Fits.{FitsIn, FitWithin, FitsUnder, FitAll}

-- ---- a valid machine fits

-- each state of these blocks has its parts
abbrev Parts : List Nested → Type 0
Parts ns = (n : Nested) → In n ns → (r : Row) → In r (rows n.block) → HasParts r.1

abbrev RowsHave : States → Type 0
RowsHave states = (r : Row) → In r (rows_of states) → HasParts r.1

mutual
  fits_block : (n d : ℕ) (b : Block) → depth b ≤ n → Parts (nested_at d b) → FitsIn n b
  fits_block zero d (block start states) h parts = absurd (omega arith)
  fits_block (suc n) d (block start states) h parts =
      fit_states n (suc d) states (omega arith) (λ r i. parts (record { depth = d; block = block start states }) (inl refl) r i) (λ m i. parts m (inr i))

  fit_states : (n d : ℕ) (states : States) → depth_in states ≤ n → RowsHave states → Parts (nested_within d states) → FitWithin n states
  fit_states n d no_state h have parts = tt
  fit_states n d (and_state name s rest) h have parts = (
    fits_state n d s (omega arith) (have (name, s) (inl refl)) (λ m i. parts m (In-left (nested_under d s) (nested_within d rest) m i)),
    fit_states n d rest (omega arith) (λ r i. have r (inr i)) (λ m i. parts m (In-right (nested_under d s) (nested_within d rest) m i)),
  )

  fits_state : (n d : ℕ) (s : State) → depth_of s ≤ n → HasParts s → Parts (nested_under d s) → FitsUnder n s
  fits_state n d (Task shape resource after care) h has parts = tt
  fits_state n d (Pass shape result after) h has parts = tt
  fits_state n d (Choice shape rules default) h has parts = tt
  fits_state n d (Succeed shape) h has parts = tt
  fits_state n d (Fail error cause) h has parts = tt
  fits_state n d (Parallel shape bs after care) h has parts = let few = has.1 in (omega (arith, few), fit_blocks n d bs h parts)
  fits_state n d (Map shape items selector b after care limit) h has parts = fits_block n d b h parts

  fit_blocks : (n d : ℕ) (bs : Blocks) → depth_all bs ≤ n → Parts (nested_all d bs) → FitAll n bs
  fit_blocks n d no_block h parts = tt
  fit_blocks n d (and_block b bs) h parts =
      (fits_block n d b (omega arith) (λ m i. parts m (In-left (nested_at d b) (nested_all d bs) m i)), fit_blocks n d bs (omega arith) (λ m i. parts m (In-right (nested_at d b) (nested_all d bs) m i)))

pub valid_fits : (root : Block) → IsValid root → FitsIn 8 root
valid_fits root valid = fits_block 8 1 root valid.shallow valid.parts

-- ---- a state of a block that fits, and a branch of a state that fits

found_by : (n : ℕ) (st : State) (rest : States) (name : Text) (s : State) → FitsUnder n st → FitWithin n rest → (find_state rest name ≡ Some s → FitsUnder n s) → (t : Bool) → (if t then Some st else find_state rest name) ≡ Some s → FitsUnder n s
found_by n st rest name s here there later true e = let same : st ≡ s = cc in subst (FitsUnder n) same here
found_by n st rest name s here there later false e = later e

found_in : (n : ℕ) (states : States) (name : Text) (s : State) → FitWithin n states → find_state states name ≡ Some s → FitsUnder n s
found_in n no_state name s h e = absurd (cc)
found_in n (and_state m st rest) name s h e = found_by n st rest name s h.0 h.1 (found_in n rest name s h.1) (same_text m name) e

state_fits : (n : ℕ) (b : Block) (name : Text) (s : State) → FitsIn (suc n) b → state_of b name ≡ Some s → FitsUnder n s
state_fits n (block start states) name s h e = found_in n states name s h e

by_levels : (k m : ℕ) (b : Block) (name : Text) (s : State) → k ≡ 8 - m → FitsIn k b → state_of b name ≡ Some s → FitsUnder (7 - m) s
by_levels zero m b name s e h f = absurd h
by_levels (suc k) m b name s e h f = let same : k ≡ 7 - m = omega arith in subst (λ n. FitsUnder n s) same (state_fits k b name s h f)

pub found_fits : (m : ℕ) (b : Block) (name : Text) (s : State) → FitsIn (8 - m) b → state_of b name ≡ Some s → FitsUnder (7 - m) s
found_fits m b name s h f = by_levels (8 - m) m b name s refl h f

branch_of_all : (n : ℕ) (bs : Blocks) (i : ℕ) (c : Block) → FitAll n bs → slice_get (blocks_in bs) i ≡ Some c → FitsIn n c
branch_of_all n no_block i c h e = absurd (cc)
branch_of_all n (and_block b bs) zero c h e = let same : b ≡ c = cc in subst (FitsIn n) same h.0
branch_of_all n (and_block b bs) (suc i) c h e = branch_of_all n bs i c h.1 e

repeated : (n k i : ℕ) (b c : Block) → slice_get (repeat k b) i ≡ Some c → FitsIn n b → FitsIn n c
repeated n zero i b c e h = absurd (cc)
repeated n (suc k) zero b c e h = let same : b ≡ c = cc in subst (FitsIn n) same h
repeated n (suc k) (suc i) b c e h = repeated n k i b c e h

pub branch_fits : (n k i : ℕ) (s : State) (c : Block) → FitsUnder n s → slice_get (branches_of s k) i ≡ Some c → FitsIn n c
branch_fits n k i (Task shape resource after care) c h e = absurd (cc)
branch_fits n k i (Pass shape result after) c h e = absurd (cc)
branch_fits n k i (Choice shape rules default) c h e = absurd (cc)
branch_fits n k i (Succeed shape) c h e = absurd (cc)
branch_fits n k i (Fail error cause) c h e = absurd (cc)
branch_fits n k i (Parallel shape bs after care) c h e = branch_of_all n bs i c h.1 e
branch_fits n k i (Map shape items selector b after care limit) c h e = repeated n k i b c e h

-- a block that fits has a level
pub has_level : (n : ℕ) (b : Block) → FitsIn n b → 0 < n
has_level zero b h = absurd h
has_level (suc n) b h = omega arith

-- ---- a fan has at most 1,000 branches

pub few_branches : (n : ℕ) (name : Text) (s : State) (raw : Json) (inputs : List Json) → FitsUnder n s → standard.begin name s raw ≡ Fans inputs → length inputs ≤ 1000
unfolding standard item_limit
few_branches n name (Task shape resource after care) raw inputs h e =
    let (x, a, f) = caught_or name raw care (prepared shape raw) (λ x. Calls resource x) inputs e in absurd (cc)
few_branches n name (Pass shape result after) raw inputs h e = absurd (cc)
few_branches n name (Choice shape rules default) raw inputs h e = absurd (cc)
few_branches n name (Succeed shape) raw inputs h e = absurd (cc)
few_branches n name (Fail error cause) raw inputs h e = absurd (cc)
few_branches n name (Parallel shape bs after care) raw inputs h e =
    let k = length (blocks_in bs) in
    let (x, a, f) = caught_or name raw care (prepared shape raw) (λ x. or_caught name raw care (parallel_inputs k x) (λ inputs. Fans inputs)) inputs e in
    let (ys, c, d) = caught_or name raw care (parallel_inputs k x) (λ inputs. Fans inputs) inputs f in
    let same : ys ≡ inputs = cc in
    let m : k ≡ length inputs = parallel_count k x inputs (c ∙ ap (λ z. Ok z) same) in
    let l : k ≤ 1000 = h.0 in
    omega arith
few_branches n name (Map shape items selector b after care limit) raw inputs h e =
    let (x, a, f) = caught_or name raw care (prepared shape raw) (λ x. or_caught name raw care (map_inputs items selector x) (λ inputs. Fans inputs)) inputs e in
    let (ys, c, d) = caught_or name raw care (map_inputs items selector x) (λ inputs. Fans inputs) inputs f in
    let same : ys ≡ inputs = cc in
    few_inputs items selector x inputs (c ∙ ap (λ z. Ok z) same)

-- ---- a branch stands one step further down

pub one_longer : (s : Scope) (p q : Place) (i n : ℕ) → s ≡ scope_of q → q ≡ child_of p i n → length s.trail ≡ suc (length p.trail)
one_longer s p q i n e f =
    let g : Seg = record { hop = p.hop; index = i; count = n } in
    ap (λ (z : Scope). length z.trail) e ∙ ap (λ (z : Place). length z.trail) f ∙ (let k : length (p.trail ++ g ∷ []) ≡ suc (length p.trail) = omega (arith, length-append p.trail (g ∷ [])) in k)
