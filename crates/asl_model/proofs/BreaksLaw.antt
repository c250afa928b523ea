-- A valid machine breaks no rule.
use Rattle.std.proofs.Common.{◌≡◌, ℕ, suc, ◌+◌, ◌<◌, ◌≤◌, Bool, true, false, not, ◌&&◌, nat_lt, map, filter, flat_map, is_some, length, slice_get, List, [], ◌∷◌, Some, refl, sym, ap, ◌∙◌, subst, inl, inr, arith, ◌↔◌}
use Rattle.std.proofs.lemmas.Bool.{le-ltb}
use Rattle.std.specs.Bool.{beq}
use Rattle.std.specs.Str.{chars}
use Rattle.asl_model.specs.declared.validity.VRule.{VRule}
use Rattle.asl_model.specs.declared.validity.VRule.TheVariants.{V1, V2, V3, V4, V5, V6, V7, V8, V9, V10, V11}
use Rattle.asl_model.specs.Data.{Text}
use Rattle.asl_model.specs.Machine.{Block, block, States, no_state, and_state, State, Task, Pass, Choice, Succeed, Fail, Parallel, Map, Blocks, no_block, and_block, start_of, blocks_in, head_of, limit_of, depth, depth_in, depth_of, depth_all}
use Rattle.asl_model.specs.Blocks.{Nested, Row, nested, nested_at, nested_within, nested_under, nested_all, blocks, rows, rows_of, nodes}
use Rattle.asl_model.specs.Laws.{In}
use Rattle.asl_model.specs.Valid.{has_state, labels, stands_in, is_misnamed, is_lost, lacks_after, lacks_choices, has_bad_branches, is_too_deep, has_bad_care, has_bad_limit, names_rule, broken_if, broken_in, broken_at, shared_names, HasState, EachState, HasOneAfter, HasParts, BreaksNothing}
use Rattle.asl_model.proofs.Found.{has_test, test_has}
use Rattle.asl_model.proofs.Lists.{In-cases}
use Rattle.asl_model.proofs.ValidWords.{or_either, any_none, some_false, image_of, label_leads, no_bad_care}
use Rattle.asl_model.proofs.ValidLaw.{NoneTooDeep}

flat_empty : {X Y : Type 0} (f : X → List Y) (xs : List X) → ((x : X) → In x xs → f x ≡ []) → flat_map f xs ≡ []
flat_empty f [] h = refl
flat_empty f (x ∷ xs) h = rw (h x (inl refl)) (flat_empty f xs (λ y i. h y (inr i)))

filter_empty : {X Y : Type 0} (f : X → Y) (t : X → Bool) (xs : List X) → ((x : X) → In x xs → t x ≡ false) → map f (filter t xs) ≡ []
filter_empty f t [] h = refl
filter_empty f t (x ∷ xs) h = rw (h x (inl refl)) (filter_empty f t xs (λ y i. h y (inr i)))

none_in : (rule : VRule) (test : Row → Bool) (b : Block) → ((r : Row) → In r (rows b) → test r ≡ false) → broken_in rule test b ≡ []
none_in rule test b h = filter_empty (λ (r : Row). names_rule rule r.0) test (rows b) h

none_at : (rule : VRule) (test : Nested → State → Bool) (root : Block) → EachState root (λ n r. test n r.1 ≡ false) → broken_at rule test root ≡ []
none_at rule test root h =
    flat_empty (λ n. broken_in rule (λ r. test n r.1) n.block) (nested root) (λ n i. none_in rule (λ r. test n r.1) n.block (h n i))

none_if : (t : Bool) (rule : VRule) (name : Text) → t ≡ false → broken_if t rule name ≡ []
none_if t rule name e = rw e refl

has_it : (b : Block) (name : Text) → HasState b name → not (has_state b name) ≡ false
has_it b name h = rw (has_test b name h) refl

and_false : (a : Bool) → a && false ≡ false
and_false true = refl
and_false false = refl

-- ---- names

never_true : (t : Bool) → (t ≡ true → ⊥) → t ≡ false
never_true true h = absurd (h refl)
never_true false h = refl

abbrev StandsAt : Text → List Block → Type 0
StandsAt name bs = (j : ℕ) × (c : Block) × (slice_get bs j ≡ Some c) × HasState c name

next_stands : (name : Text) (b : Block) (bs : List Block) → StandsAt name bs → StandsAt name (b ∷ bs)
next_stands name b bs (j, c, g, h) = (suc j, c, g, h)

stands_at : (name : Text) (bs : List Block) → stands_in name bs ≡ true → StandsAt name bs
stands_at name [] e = absurd (cc)
stands_at name (b ∷ bs) e =
    elim (or_either (has_state b name) (stands_in name bs) e) [
      | inl h ↦ (0, b, refl, test_has b name h)
      | inr t ↦ next_stands name b bs (stands_at name bs t)
    ]

-- a name of one block is in no later one
abbrev AreApart : List Block → Type 0
AreApart bs = (i j : ℕ) (b c : Block) → i < j → slice_get bs i ≡ Some b → slice_get bs j ≡ Some c → (name : Text) → In name (map (λ (r : Row). r.0) (rows b)) → HasState c name → ⊥

name_in : (rs : List Row) (r : Row) → In r rs → In r.0 (map (λ (q : Row). q.0) rs)
name_in [] r i = absurd i
name_in (q ∷ qs) r i = elim i [ inl e ↦ inl (ap (λ (z : Row). z.0) e) | inr t ↦ inr (name_in qs r t) ]

not_later : (b : Block) (later : List Block) → AreApart (b ∷ later) → (r : Row) → In r (rows b) → stands_in r.0 later ≡ true → ⊥
not_later b later apart r i e =
    let (j, c, g, h) = stands_at r.0 later e in
    apart 0 (suc j) b c (omega arith) refl g r.0 (name_in (rows b) r i) h

none_shared : (earlier bs : List Block) → AreApart bs → shared_names earlier bs ≡ []
none_shared earlier [] apart = refl
none_shared earlier (b ∷ later) apart =
    let first : broken_in V3 (λ r. not (stands_in r.0 earlier) && stands_in r.0 later) b ≡ [] =
    none_in V3 (λ r. not (stands_in r.0 earlier) && stands_in r.0 later) b
    (λ r i. ap (λ t. not (stands_in r.0 earlier) && t) (never_true (stands_in r.0 later) (not_later b later apart r i)) ∙ and_false (not (stands_in r.0 earlier))) in
    rw first (none_shared (b ∷ earlier) later (λ i j c d l f g name k h. apart (suc i) (suc j) c d (omega arith) f g name k h))

-- ---- states

not_decided : (s t : Bool) → (s ≡ true) ↔ (t ≡ false) → beq s t ≡ false
not_decided true true h = absurd (let e : true ≡ false = h.0 refl in cc)
not_decided true false h = refl
not_decided false true h = refl
not_decided false false h = absurd (let e : false ≡ true = h.1 refl in cc)

has_after : (s : State) → HasOneAfter s → lacks_after s ≡ false
has_after (Task shape resource after care) h = not_decided (is_some after.next) after.end h
has_after (Pass shape result after) h = not_decided (is_some after.next) after.end h
has_after (Choice shape rules default) h = refl
has_after (Succeed shape) h = refl
has_after (Fail error cause) h = refl
has_after (Parallel shape bs after care) h = not_decided (is_some after.next) after.end h
has_after (Map shape items selector b after care limit) h = not_decided (is_some after.next) after.end h

has_choices : (s : State) → HasParts s → lacks_choices s ≡ false
has_choices (Task shape resource after care) h = refl
has_choices (Pass shape result after) h = refl
has_choices (Choice shape rules default) h = some_false (length rules) h
has_choices (Succeed shape) h = refl
has_choices (Fail error cause) h = refl
has_choices (Parallel shape bs after care) h = refl
has_choices (Map shape items selector b after care limit) h = refl

has_branches : (s : State) → HasParts s → has_bad_branches s ≡ false
has_branches (Task shape resource after care) h = refl
has_branches (Pass shape result after) h = refl
has_branches (Choice shape rules default) h = refl
has_branches (Succeed shape) h = refl
has_branches (Fail error cause) h = refl
has_branches (Parallel shape bs after care) h = rw (some_false (length (blocks_in bs)) h.0, le-ltb 100 (length (blocks_in bs)) h.1) refl
has_branches (Map shape items selector b after care limit) h = refl

-- ---- how deep blocks nest

branches_fit : (d : ℕ) (bs : Blocks) → d + depth_all bs ≤ 8 → nat_lt 0 (length (blocks_in bs)) && nat_lt 8 (d + 1) ≡ false
branches_fit d no_block l = refl
branches_fit d (and_block (block start states) bs) l =
    ap (λ t. nat_lt 0 (length (blocks_in (and_block (block start states) bs))) && t) (le-ltb 8 (d + 1) (omega arith)) ∙ and_false (nat_lt 0 (length (blocks_in (and_block (block start states) bs))))

body_fits : (d : ℕ) (b : Block) → d + depth b ≤ 8 → nat_lt 8 (d + 1) ≡ false
body_fits d (block start states) l = le-ltb 8 (d + 1) (omega arith)

state_fits : (d : ℕ) (s : State) → d + depth_of s ≤ 8 → is_too_deep d s ≡ false
state_fits d (Task shape resource after care) l = refl
state_fits d (Pass shape result after) l = refl
state_fits d (Choice shape rules default) l = refl
state_fits d (Succeed shape) l = refl
state_fits d (Fail error cause) l = refl
state_fits d (Parallel shape bs after care) l = branches_fit d bs l
state_fits d (Map shape items selector b after care limit) l = body_fits d b l

rows_fit : (d : ℕ) (states : States) → d + depth_in states ≤ 8 → (r : Row) → In r (rows_of states) → is_too_deep d r.1 ≡ false
rows_fit d no_state l r i = absurd i
rows_fit d (and_state name s rest) l r i =
    elim i [
      | inl e ↦ subst (λ (q : Row). is_too_deep d q.1 ≡ false) (sym e) (state_fits d s (omega arith))
      | inr t ↦ rows_fit d rest (omega arith) r t
    ]

abbrev AllFit : Nested → Type 0
AllFit n = (r : Row) → In r (rows n.block) → is_too_deep n.depth r.1 ≡ false

mutual
  fits_at : (d : ℕ) (b : Block) → d + depth b ≤ 9 → NoneTooDeep (nested_at d b)
  fits_at d (block start states) l n i =
      elim i [
        | inl e ↦ subst AllFit (sym e) (rows_fit d states (omega arith))
        | inr t ↦ fits_within d states (omega arith) n t
      ]

  fits_within : (d : ℕ) (states : States) → d + depth_in states ≤ 8 → NoneTooDeep (nested_within (suc d) states)
  fits_within d no_state l n i = absurd i
  fits_within d (and_state name s rest) l n i =
      elim (In-cases (nested_under (suc d) s) (nested_within (suc d) rest) n i) [
        | inl a ↦ fits_under d s (omega arith) n a
        | inr b ↦ fits_within d rest (omega arith) n b
      ]

  fits_under : (d : ℕ) (s : State) → d + depth_of s ≤ 8 → NoneTooDeep (nested_under (suc d) s)
  fits_under d (Task shape resource after care) l n i = absurd i
  fits_under d (Pass shape result after) l n i = absurd i
  fits_under d (Choice shape rules default) l n i = absurd i
  fits_under d (Succeed shape) l n i = absurd i
  fits_under d (Fail error cause) l n i = absurd i
  fits_under d (Parallel shape bs after care) l n i = fits_all d bs l n i
  fits_under d (Map shape items selector b after care limit) l n i = fits_at (suc d) b (omega arith) n i

  fits_all : (d : ℕ) (bs : Blocks) → d + depth_all bs ≤ 8 → NoneTooDeep (nested_all (suc d) bs)
  fits_all d no_block l n i = absurd i
  fits_all d (and_block b bs) l n i =
      elim (In-cases (nested_at (suc d) b) (nested_all (suc d) bs) n i) [
        | inl a ↦ fits_at (suc d) b (omega arith) n a
        | inr c ↦ fits_all d bs (omega arith) n c
      ]

-- ---- all together

pub breaks_nothing : BreaksNothing
breaks_nothing root valid =
    let e1 : flat_map (λ b. broken_if (not (has_state b (start_of b))) V1 (start_of b)) (blocks root) ≡ [] =
    flat_empty (λ b. broken_if (not (has_state b (start_of b))) V1 (start_of b)) (blocks root)
    (λ b i. none_if (not (has_state b (start_of b))) V1 (start_of b) (has_it b (start_of b) (valid.starts b i))) in
    let e2 : broken_at V2 (λ n s. is_lost n.block s) root ≡ [] =
    none_at V2 (λ n s. is_lost n.block s) root
    (λ n i r j. any_none (λ name. not (has_state n.block name)) (labels (head_of r.1)) (λ name k. has_it n.block name (valid.goes n i r j name (label_leads r.1 name k)))) in
    let e3 : shared_names [] (blocks root) ≡ [] = none_shared [] (blocks root) valid.apart in
    let e4 : flat_map (λ b. broken_in V4 (λ r. is_misnamed r.0) b) (blocks root) ≡ [] =
    flat_empty (λ b. broken_in V4 (λ r. is_misnamed r.0) b) (blocks root)
    (λ b i. let (n, j, same) = image_of (λ (n : Nested). n.block) (nested root) b i in
    none_in V4 (λ r. is_misnamed r.0) b
    (λ r k. let p = valid.named n j r (subst (λ (z : Block). In r (rows z)) (sym same) k) in
    rw (some_false (length (chars r.0)) p.0, le-ltb 80 (length (chars r.0)) p.1) refl)) in
    let e5 : broken_at V5 (λ n s. lacks_after s) root ≡ [] = none_at V5 (λ n s. lacks_after s) root (λ n i r j. has_after r.1 (valid.decided n i r j)) in
    let e6 : broken_at V6 (λ n s. lacks_choices s) root ≡ [] = none_at V6 (λ n s. lacks_choices s) root (λ n i r j. has_choices r.1 (valid.parts n i r j)) in
    let e7 : broken_at V7 (λ n s. has_bad_branches s) root ≡ [] = none_at V7 (λ n s. has_bad_branches s) root (λ n i r j. has_branches r.1 (valid.parts n i r j)) in
    let shallow : depth root ≤ 8 = valid.shallow in
    let e8 : broken_at V8 (λ n s. is_too_deep n.depth s) root ≡ [] = none_at V8 (λ n s. is_too_deep n.depth s) root (fits_at 1 root (omega arith)) in
    let e9 : broken_if (nat_lt 1000 (length (nodes root))) V9 (start_of root) ≡ [] = none_if (nat_lt 1000 (length (nodes root))) V9 (start_of root) (le-ltb 1000 (length (nodes root)) valid.few) in
    let e10 : broken_at V10 (λ n s. has_bad_care s) root ≡ [] = none_at V10 (λ n s. has_bad_care s) root (λ n i r j. no_bad_care r.1 (valid.careful n i r j)) in
    let e11 : broken_at V11 (λ n s. has_bad_limit s) root ≡ [] = none_at V11 (λ n s. has_bad_limit s) root (λ n i r j. le-ltb 1000000 (limit_of r.1) (valid.limited n i r j)) in
    rw (e1, e2, e3, e4, e5, e6, e7, e8, e9, e10, e11) refl
