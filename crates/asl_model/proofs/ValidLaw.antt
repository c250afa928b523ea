-- What holds of a machine that breaks no rule.
use Rattle.std.proofs.Common.{◌≡◌, ℕ, zero, suc, ◌+◌, ◌<◌, ◌≤◌, Bool, true, false, not, ◌&&◌, ◌==◌, nat_lt, map, filter, flat_map, is_some, length, slice_get, List, [], ◌∷◌, ◌++◌, Option, Some, None, refl, sym, ap, ◌∙◌, subst, inl, inr, arith, if◌then◌else◌, ◌↔◌}
use Rattle.std.proofs.lemmas.Bool.{ltb-false, lt-ltb}
use Rattle.std.specs.Bool.{beq}
use Rattle.std.specs.Str.{chars}
use Rattle.asl_model.specs.declared.validity.VRule.{VRule}
use Rattle.asl_model.specs.declared.validity.VRule.TheVariants.{V1, V2, V3, V4, V5, V6, V7, V8, V9, V10, V11}
use Rattle.asl_model.specs.Data.{Text}
use Rattle.asl_model.specs.Machine.{Block, block, States, no_state, and_state, State, Task, Pass, Choice, Succeed, Fail, Parallel, Map, Blocks, no_block, and_block, start_of, state_of, blocks_in, head_of, limit_of, depth, depth_in, depth_of, depth_all}
use Rattle.asl_model.specs.Blocks.{Nested, Row, nested, nested_at, nested_within, nested_under, nested_all, blocks, rows, rows_of, nodes}
use Rattle.asl_model.specs.Laws.{In}
use Rattle.asl_model.specs.Valid.{Broken, has_state, labels, is_lost, stands_in, is_misnamed, lacks_after, lacks_choices, has_bad_branches, is_too_deep, has_bad_care, has_bad_limit, names_rule, broken_if, broken_in, broken_at, shared_names, HasState, EachState, HasOneAfter, HasParts, NothingBroken}
use Rattle.asl_model.proofs.Found.{has_row, has_test, test_has, row_of}
use Rattle.asl_model.proofs.Lists.{In-left, In-right}
use Rattle.asl_model.proofs.ValidWords.{or_false, or_either, or_right, any_false, zero_false, leads_in, careful}

append_none : {X : Type 0} (xs ys : List X) → xs ++ ys ≡ [] → (xs ≡ []) × (ys ≡ [])
append_none [] ys e = (refl, e)
append_none (x ∷ xs) ys e = absurd (cc)

flat_none : {X Y : Type 0} (f : X → List Y) (xs : List X) → flat_map f xs ≡ [] → (x : X) → In x xs → f x ≡ []
flat_none f [] e x i = absurd i
flat_none f (y ∷ ys) e x i =
    let p = append_none (f y) (flat_map f ys) e in
    elim i [ inl q ↦ ap f q ∙ p.0 | inr t ↦ flat_none f ys p.1 x t ]

filtered_by : {X Y : Type 0} (f : X → Y) (t : X → Bool) (y : X) (rest : List X) (b : Bool) → t y ≡ b → map f (if b then y ∷ rest else rest) ≡ [] → (t y ≡ false) × (map f rest ≡ [])
filtered_by f t y rest true h e = absurd (cc)
filtered_by f t y rest false h e = (h, e)

filter_none : {X Y : Type 0} (f : X → Y) (t : X → Bool) (xs : List X) → map f (filter t xs) ≡ [] → (x : X) → In x xs → t x ≡ false
filter_none f t [] e x i = absurd i
filter_none f t (y ∷ ys) e x i =
    let p = filtered_by f t y (filter t ys) (t y) refl e in
    elim i [ inl q ↦ ap t q ∙ p.0 | inr k ↦ filter_none f t ys p.1 x k ]

some_state : (b : Block) (name : Text) (m : Option State) → state_of b name ≡ m → not (is_some m) ≡ false → HasState b name
some_state b name None e h = absurd (cc)
some_state b name (Some s) e h = (s, e)

has_it : (b : Block) (name : Text) → not (has_state b name) ≡ false → HasState b name
has_it b name h = some_state b name (state_of b name) refl h

-- no state breaks the rule
each_state : (rule : VRule) (test : Nested → State → Bool) (root : Block) → broken_at rule test root ≡ [] → EachState root (λ n r. test n r.1 ≡ false)
each_state rule test root e n i r j =
    filter_none (λ (q : Row). names_rule rule q.0) (λ (q : Row). test n q.1) (rows n.block) (flat_none (λ n. broken_in rule (λ r. test n r.1) n.block) (nested root) e n i) r j

if_none : (t : Bool) (rule : VRule) (name : Text) → broken_if t rule name ≡ [] → t ≡ false
if_none true rule name e = absurd (cc)
if_none false rule name e = refl

block_in : (n : Nested) (ns : List Nested) → In n ns → In n.block (map (λ (n : Nested). n.block) ns)
block_in n [] i = absurd i
block_in n (m ∷ ms) i = elim i [ inl e ↦ inl (ap (λ (k : Nested). k.block) e) | inr t ↦ inr (block_in n ms t) ]

later_has : (name : Text) (bs : List Block) (j : ℕ) (c : Block) → slice_get bs j ≡ Some c → has_state c name ≡ true → stands_in name bs ≡ true
later_has name [] j c e h = absurd (cc)
later_has name (b ∷ bs) zero c e h =
    let same : b ≡ c = cc in
    let here : has_state b name ≡ true = ap (λ d. has_state d name) same ∙ h in
    rw here refl
later_has name (b ∷ bs) (suc j) c e h = rw (later_has name bs j c e h) (or_right (has_state b name))

both_false : (s t : Bool) → not s && t ≡ false → t ≡ true → s ≡ true
both_false true t e h = refl
both_false false true e h = absurd (cc)
both_false false false e h = absurd (cc)

-- a name that stands in an earlier block stands in no later one
abbrev AreApart : List Block → List Block → Type 0
AreApart earlier bs = (name : Text) → stands_in name earlier ≡ true → stands_in name bs ≡ true → ⊥

-- a name of the first block is in no later one
first_apart : (earlier : List Block) (b : Block) (later : List Block) → AreApart earlier (b ∷ later) → broken_in V3 (λ r. not (stands_in r.0 earlier) && stands_in r.0 later) b ≡ [] → (r : Row) → In r (rows b) → stands_in r.0 later ≡ true → ⊥
first_apart earlier b later apart e r i h =
    let test : not (stands_in r.0 earlier) && stands_in r.0 later ≡ false = filter_none (λ (q : Row). names_rule V3 q.0) (λ (q : Row). not (stands_in q.0 earlier) && stands_in q.0 later) (rows b) e r i in
    let before : stands_in r.0 earlier ≡ true = both_false (stands_in r.0 earlier) (stands_in r.0 later) test h in
    let here : has_state b r.0 ≡ true = has_row b r i in
    apart r.0 before (rw here refl)

next_apart : (earlier : List Block) (b : Block) (later : List Block) → AreApart earlier (b ∷ later) → broken_in V3 (λ r. not (stands_in r.0 earlier) && stands_in r.0 later) b ≡ [] → AreApart (b ∷ earlier) later
next_apart earlier b later apart e name h k =
    elim (or_either (has_state b name) (stands_in name earlier) h) [
      | inl here ↦
          let (s, f) = test_has b name here in
          let (r, i, n, q) = row_of b name s f in
          first_apart earlier b later apart e r i (subst (λ z. stands_in z later ≡ true) (sym n) k)
      | inr before ↦ apart name before (rw k (or_right (has_state b name)))
    ]

no_shared : (earlier bs : List Block) → AreApart earlier bs → shared_names earlier bs ≡ [] → (i j : ℕ) (b c : Block) → i < j → slice_get bs i ≡ Some b → slice_get bs j ≡ Some c → (r : Row) → In r (rows b) → HasState c r.0 → ⊥
no_shared earlier [] apart e i j b c l f g r k h = absurd (cc)
no_shared earlier (d ∷ ds) apart e i zero b c l f g r k h = absurd (omega arith)
no_shared earlier (d ∷ ds) apart e zero (suc j) b c l f g r k h =
    let p = append_none (broken_in V3 (λ r. not (stands_in r.0 earlier) && stands_in r.0 ds) d) (shared_names (d ∷ earlier) ds) e in
    let same : d ≡ b = cc in
    first_apart earlier d ds apart p.0 r (subst (λ z. In r (rows z)) (sym same) k) (later_has r.0 ds j c g (has_test c r.0 h))
no_shared earlier (d ∷ ds) apart e (suc i) (suc j) b c l f g r k h =
    let p = append_none (broken_in V3 (λ r. not (stands_in r.0 earlier) && stands_in r.0 ds) d) (shared_names (d ∷ earlier) ds) e in
    no_shared (d ∷ earlier) ds (next_apart earlier d ds apart p.0) p.1 i j b c (omega arith) f g r k h

name_row : (name : Text) (rs : List Row) → In name (map (λ (r : Row). r.0) rs) → (r : Row) × In r rs × (r.0 ≡ name)
name_row name [] i = absurd i
name_row name (r ∷ rs) i = elim i [ inl e ↦ (r, inl refl, sym e) | inr t ↦ let (q, j, n) = name_row name rs t in (q, inr j, n) ]

decided_by : (s t : Bool) → beq s t ≡ false → (s ≡ true) ↔ (t ≡ false)
decided_by true true e = absurd (cc)
decided_by true false e = (λ h. refl, λ h. refl)
decided_by false true e = (λ h. absurd (cc), λ h. absurd (cc))
decided_by false false e = absurd (cc)

one_after : (s : State) → lacks_after s ≡ false → HasOneAfter s
one_after (Task shape resource after care) e = decided_by (is_some after.next) after.end e
one_after (Pass shape result after) e = decided_by (is_some after.next) after.end e
one_after (Choice shape rules default) e = tt
one_after (Succeed shape) e = tt
one_after (Fail error cause) e = tt
one_after (Parallel shape bs after care) e = decided_by (is_some after.next) after.end e
one_after (Map shape items selector b after care limit) e = decided_by (is_some after.next) after.end e

has_parts : (s : State) → lacks_choices s ≡ false → has_bad_branches s ≡ false → HasParts s
has_parts (Task shape resource after care) e f = tt
has_parts (Pass shape result after) e f = tt
has_parts (Choice shape rules default) e f = zero_false (length rules) e
has_parts (Succeed shape) e f = tt
has_parts (Fail error cause) e f = tt
has_parts (Parallel shape bs after care) e f =
    let p = or_false (length (blocks_in bs) == 0) (nat_lt 100 (length (blocks_in bs))) f in
    (zero_false (length (blocks_in bs)) p.0, ltb-false 100 (length (blocks_in bs)) p.1)
has_parts (Map shape items selector b after care limit) e f = tt

-- ---- how deep blocks nest

abbrev pub NoneTooDeep : List Nested → Type 0
NoneTooDeep ns = (n : Nested) → In n ns → (r : Row) → In r (rows n.block) → is_too_deep n.depth r.1 ≡ false

room_by : (t : Bool) (d : ℕ) → t ≡ true → t && nat_lt 8 (d + 1) ≡ false → suc d ≤ 8
room_by true d h e = let l : d + 1 ≤ 8 = ltb-false 8 (d + 1) e in omega arith
room_by false d h e = absurd (cc)

mutual
  shallow_at : (d : ℕ) (b : Block) → NoneTooDeep (nested_at d b) → d ≤ 8 → d + depth b ≤ 9
  shallow_at d (block start states) h l =
      let k : d + depth_in states ≤ 8 = shallow_within d states (λ r i. h (record { depth = d; block = block start states }) (inl refl) r i) (λ n i. h n (inr i)) l in
      omega arith

  shallow_within : (d : ℕ) (states : States) → ((r : Row) → In r (rows_of states) → is_too_deep d r.1 ≡ false) → NoneTooDeep (nested_within (suc d) states) → d ≤ 8 → d + depth_in states ≤ 8
  shallow_within d no_state g h l = omega arith
  shallow_within d (and_state name s rest) g h l =
      let a : d + depth_of s ≤ 8 = shallow_under d s (g (name, s) (inl refl)) (λ n i. h n (In-left (nested_under (suc d) s) (nested_within (suc d) rest) n i)) l in
      let c : d + depth_in rest ≤ 8 = shallow_within d rest (λ r i. g r (inr i)) (λ n i. h n (In-right (nested_under (suc d) s) (nested_within (suc d) rest) n i)) l in
      omega arith

  shallow_under : (d : ℕ) (s : State) → is_too_deep d s ≡ false → NoneTooDeep (nested_under (suc d) s) → d ≤ 8 → d + depth_of s ≤ 8
  shallow_under d (Task shape resource after care) g h l = omega arith
  shallow_under d (Pass shape result after) g h l = omega arith
  shallow_under d (Choice shape rules default) g h l = omega arith
  shallow_under d (Succeed shape) g h l = omega arith
  shallow_under d (Fail error cause) g h l = omega arith
  shallow_under d (Parallel shape bs after care) g h l = shallow_all d bs (λ z. room_by (nat_lt 0 (length (blocks_in bs))) d (lt-ltb 0 (length (blocks_in bs)) z) g) h l
  shallow_under d (Map shape items selector b after care limit) g h l =
      let k : suc d ≤ 8 = room_by true d refl g in
      let m : suc d + depth b ≤ 9 = shallow_at (suc d) b h k in
      omega arith

  shallow_all : (d : ℕ) (bs : Blocks) → (0 < length (blocks_in bs) → suc d ≤ 8) → NoneTooDeep (nested_all (suc d) bs) → d ≤ 8 → d + depth_all bs ≤ 8
  shallow_all d no_block room h l = omega arith
  shallow_all d (and_block b bs) room h l =
      let k : suc d ≤ 8 = room (omega arith) in
      let a : suc d + depth b ≤ 9 = shallow_at (suc d) b (λ n i. h n (In-left (nested_at (suc d) b) (nested_all (suc d) bs) n i)) k in
      let c : d + depth_all bs ≤ 8 = shallow_all d bs (λ z. k) (λ n i. h n (In-right (nested_at (suc d) b) (nested_all (suc d) bs) n i)) l in
      omega arith

-- ---- all together

record AllEmpty (a1 a2 a3 a4 a5 a6 a7 a8 a9 a10 a11 : Broken) : Type 0 where
  e1 : a1 ≡ []
  e2 : a2 ≡ []
  e3 : a3 ≡ []
  e4 : a4 ≡ []
  e5 : a5 ≡ []
  e6 : a6 ≡ []
  e7 : a7 ≡ []
  e8 : a8 ≡ []
  e9 : a9 ≡ []
  e10 : a10 ≡ []
  e11 : a11 ≡ []

all_empty : (a1 a2 a3 a4 a5 a6 a7 a8 a9 a10 a11 : Broken) → a1 ++ a2 ++ a3 ++ a4 ++ a5 ++ a6 ++ a7 ++ a8 ++ a9 ++ a10 ++ a11 ≡ [] → AllEmpty a1 a2 a3 a4 a5 a6 a7 a8 a9 a10 a11
all_empty a1 a2 a3 a4 a5 a6 a7 a8 a9 a10 a11 e =
    let p10 = append_none (a1 ++ a2 ++ a3 ++ a4 ++ a5 ++ a6 ++ a7 ++ a8 ++ a9 ++ a10) a11 e in
    let p9 = append_none (a1 ++ a2 ++ a3 ++ a4 ++ a5 ++ a6 ++ a7 ++ a8 ++ a9) a10 p10.0 in
    let p8 = append_none (a1 ++ a2 ++ a3 ++ a4 ++ a5 ++ a6 ++ a7 ++ a8) a9 p9.0 in
    let p7 = append_none (a1 ++ a2 ++ a3 ++ a4 ++ a5 ++ a6 ++ a7) a8 p8.0 in
    let p6 = append_none (a1 ++ a2 ++ a3 ++ a4 ++ a5 ++ a6) a7 p7.0 in
    let p5 = append_none (a1 ++ a2 ++ a3 ++ a4 ++ a5) a6 p6.0 in
    let p4 = append_none (a1 ++ a2 ++ a3 ++ a4) a5 p5.0 in
    let p3 = append_none (a1 ++ a2 ++ a3) a4 p4.0 in
    let p2 = append_none (a1 ++ a2) a3 p3.0 in
    let p1 = append_none (a1) a2 p2.0 in
    record { e1 = p1.0; e2 = p1.1; e3 = p2.1; e4 = p3.1; e5 = p4.1; e6 = p5.1; e7 = p6.1; e8 = p7.1; e9 = p8.1; e10 = p9.1; e11 = p10.1 }

pub nothing_broken : NothingBroken
nothing_broken root e =
    let all = all_empty
    (flat_map (λ b. broken_if (not (has_state b (start_of b))) V1 (start_of b)) (blocks root))
    (broken_at V2 (λ n s. is_lost n.block s) root)
    (shared_names [] (blocks root))
    (flat_map (λ b. broken_in V4 (λ r. is_misnamed r.0) b) (blocks root))
    (broken_at V5 (λ n s. lacks_after s) root)
    (broken_at V6 (λ n s. lacks_choices s) root)
    (broken_at V7 (λ n s. has_bad_branches s) root)
    (broken_at V8 (λ n s. is_too_deep n.depth s) root)
    (broken_if (nat_lt 1000 (length (nodes root))) V9 (start_of root))
    (broken_at V10 (λ n s. has_bad_care s) root)
    (broken_at V11 (λ n s. has_bad_limit s) root)
    e in
    let e1 = all.e1 in
    let e2 = all.e2 in
    let e3 = all.e3 in
    let e4 = all.e4 in
    let e5 = all.e5 in
    let e6 = all.e6 in
    let e7 = all.e7 in
    let e8 = all.e8 in
    let e9 = all.e9 in
    let e10 = all.e10 in
    let e11 = all.e11 in
    record {
      starts = λ b i. has_it b (start_of b) (if_none (not (has_state b (start_of b))) V1 (start_of b) (flat_none (λ b. broken_if (not (has_state b (start_of b))) V1 (start_of b)) (blocks root) e1 b i));
      goes = λ n i r j name k. has_it n.block name (any_false (λ name. not (has_state n.block name)) (labels (head_of r.1)) (each_state V2 (λ n s. is_lost n.block s) root e2 n i r j) name (leads_in r.1 name k));
      apart = λ i j b c l f g name k h. let (r, x, n) = name_row name (rows b) k in no_shared [] (blocks root) (λ name h k. absurd (cc)) e3 i j b c l f g r x (subst (HasState c) (sym n) h);
      named = λ n i r j.
          let t : is_misnamed r.0 ≡ false = filter_none (λ (q : Row). names_rule V4 q.0) (λ (q : Row). is_misnamed q.0) (rows n.block) (flat_none (λ b. broken_in V4 (λ r. is_misnamed r.0) b) (blocks root) e4 n.block (block_in n (nested root) i)) r j in
          let p = or_false (length (chars r.0) == 0) (nat_lt 80 (length (chars r.0))) t in
          (zero_false (length (chars r.0)) p.0, ltb-false 80 (length (chars r.0)) p.1);
      decided = λ n i r j. one_after r.1 (each_state V5 (λ n s. lacks_after s) root e5 n i r j);
      parts = λ n i r j. has_parts r.1 (each_state V6 (λ n s. lacks_choices s) root e6 n i r j) (each_state V7 (λ n s. has_bad_branches s) root e7 n i r j);
      shallow = let l : 1 + depth root ≤ 9 = shallow_at 1 root (each_state V8 (λ n s. is_too_deep n.depth s) root e8) (omega arith) in omega arith;
      few = ltb-false 1000 (length (nodes root)) (if_none (nat_lt 1000 (length (nodes root))) V9 (start_of root) e9);
      careful = λ n i r j. careful r.1 (each_state V10 (λ n s. has_bad_care s) root e10 n i r j);
      limited = λ n i r j. ltb-false 1000000 (limit_of r.1) (each_state V11 (λ n s. has_bad_limit s) root e11 n i r j);
    }
