-- The flat form of a valid machine is well formed.
use Rattle.std.proofs.Common.{◌≡◌, ℕ, zero, suc, ◌+◌, ◌<◌, ◌≤◌, ◌⊎◌, Bool, true, false, not, ◌&&◌, ◌||◌, ◌==◌, nat_lt, nat_le, List, [], ◌∷◌, ◌++◌, Option, Some, None, map, length, slice_get, option_map, refl, sym, ap, ap₂, ◌∙◌, subst, inl, inr, arith}
use Rattle.std.specs.List.{AllByRecursion, list_all, list_any}
use Rattle.std.specs.List.Sorted.{IsStrictlySortedBy}
use Rattle.std.specs.Ordering.{nat_cmp}
use Rattle.std.specs.declared.cmp.Ordering.TheVariants.{Less}
use Rattle.std.specs.Cmp.Lexicographic.{slice_cmp}
use Rattle.std.specs.Str.{chars}
use Rattle.std.proofs.lemmas.Bool.{eq-eqb, lt-ltb, le-leb, and_from, or_left}
use Rattle.std.proofs.lemmas.Option.{same_Some, slice_get_within}
use Rattle.std.proofs.lemmas.List.{length-map, map-append}
use Rattle.unum_json.specs.Keys.{IsRising}
use Rattle.asl_model.specs.Data.{Text}
use Rattle.asl_model.specs.Head.{CatcherOf, care_in}
use Rattle.asl_model.specs.Machine.{Block, block, States, no_state, and_state, State, Task, Pass, Choice, Succeed, Fail, Parallel, Map, Blocks, no_block, and_block, blocks_in, states_of, state_of, start_of, head_of, limit_of, Care, Catcher}
use Rattle.asl_model.specs.Laws.{In}
use Rattle.asl_model.specs.Blocks.{Nested, nested, Row, rows, nodes as states_in}
use Rattle.asl_model.specs.Walked.{HasRisingNames, names_of}
use Rattle.asl_model.specs.declared.machine.Retrier.{Retrier}
use Rattle.asl_model.specs.Valid.{IsValid, HasParts, has_bad_care, has_bad_errors, labels, one_or_none, catch_labels}
use Rattle.asl_model.proofs.Lists.{In-left, In-right, In-cases}
use Rattle.asl_model.proofs.Found.{row_of as row_found}
use Rattle.asl_model.proofs.NumberLaw.{in_map}
use Rattle.asl_model.proofs.ValidWords.{no_bad_care}
use Rattle.unum_ir.specs.Flat as ir
use Rattle.unum_ir.specs.WellFormed.{range, scopes_of, has_parent, is_node_in, starts_from, is_less, is_before, follows, are_in_order, name_of, has_parts, is_bad_care, is_well_made, Tag, Enters, tag_of, enter_tags, func_numbers, IsWellFormed}
use Rattle.continuation_gen.specs.Tables.{Node, NodeRule, TopRule, Op, Scope, Ir}
use Rattle.continuation_gen.specs.Numbering.{At, plus, own, size, size_under, calls, Placed, place, place_all, place_under, first_at, placed, all_of, scope_numbers, number_rule, number_catcher, number_care, op_of, nodes_from, nodes_of, funcs_of, scope_of, node_number, enters, flat_form}
use Rattle.continuation_gen.specs.Laws.{name_in, FormIsWellFormed}
use Rattle.continuation_gen.proofs.Lists.{in_get}
use Rattle.continuation_gen.proofs.Place.{Runs, place_head}
use Rattle.continuation_gen.proofs.InBlock.{Rises}
use Rattle.continuation_gen.proofs.Stands.{last_at, all_run, block_at, block_listed, scope_found, scope_placed, many, NodeAt, node_at, NumberOf, NodeIs, node_is, nexts_number, start_number, number_of, rises, nested_of}
use Rattle.continuation_gen.proofs.Ordered.{scopes_ordered, numbers_of_run, tags_of_run, length-range}
use Rattle.continuation_gen.proofs.Counted.{same_nodes}
use Rattle.continuation_gen.proofs.Maps.{limit_same}
use Rattle.continuation_gen.proofs.Tests.{all_hold, or_right, not_of, same_numbers_are, same_number_is, same_tags_are, is_named, apart_from}

-- ---------------------------------------------------------------- the order of nodes

abbrev Before : Node → Node → Type 0
Before m n = is_before m n ≡ true

abbrev AreOrdered : List Node → Type 0
AreOrdered [] = Unit {0}
AreOrdered (n ∷ ns) = ((m : Node) → In m ns → Before n m) × AreOrdered ns

ordered_append : (xs ys : List Node) → AreOrdered xs → AreOrdered ys → ((m n : Node) → In m xs → In n ys → Before m n) → AreOrdered (xs ++ ys)
ordered_append [] ys h k l = k
ordered_append (x ∷ xs) ys h k l =
    (λ m i. elim (In-cases xs ys m i) [ inl a ↦ h.0 m a | inr b ↦ l x m (inl refl) b ], ordered_append xs ys h.1 k (λ m n i j. l m n (inr i) j))

node_in : (g : Text → ℕ) (scope func : ℕ) (at : At) (states : States) (n : Node) → In n (nodes_from g scope func at states) → (n.scope ≡ scope) × In n.name (names_of states)
node_in g scope func at no_state n h = absurd h
node_in g scope func at (and_state name s rest) n h = elim h [
  | inl e ↦ (ap (λ (x : Node). x.scope) e, inl (ap (λ (x : Node). x.name) e))
  | inr t ↦ let (a, b) = node_in g scope (func + calls s) (plus at (size_under s)) rest n t in (a, inr b)
]

below_all : (n m : Text) (ns : List Text) → AllByRecursion (λ y. slice_cmp nat_cmp n y ≡ Less) ns → In m ns → slice_cmp nat_cmp n m ≡ Less
below_all n m [] h i = absurd i
below_all n m (k ∷ ks) h i = elim i [ inl e ↦ subst (λ z. slice_cmp nat_cmp n z ≡ Less) (sym e) h.0 | inr t ↦ below_all n m ks h.1 t ]

own_ordered : (g : Text → ℕ) (scope func : ℕ) (at : At) (states : States) → IsRising (names_of states) → AreOrdered (nodes_from g scope func at states)
unfolding IsStrictlySortedBy
own_ordered g scope func at no_state h = tt
own_ordered g scope func at (and_state name s rest) h = (
  λ m i.
      let (sc, k) = node_in g scope (func + calls s) (plus at (size_under s)) rest m i in
      or_right (nat_lt scope m.scope) ((scope == m.scope) && is_less (slice_cmp nat_cmp name m.name))
      (and_from (scope == m.scope) (is_less (slice_cmp nat_cmp name m.name)) (eq-eqb scope m.scope (sym sc)) (ap is_less (below_all name m.name (names_of rest) h.0 k))),
  own_ordered g scope (func + calls s) (plus at (size_under s)) rest h.1,
)

from_on : (a c : At) (ps : List Placed) → Runs a ps c → (n : Node) → In n (all_of nodes_of ps) → a.scope ≤ n.scope
from_on a c [] r n h = absurd h
from_on a c (p ∷ ps) r n h =
    let e : p.at.scope ≡ a.scope = ap (λ (z : At). z.scope) r.0 in
    elim (In-cases (nodes_of p) (all_of nodes_of ps) n h) [
      | inl i ↦ let (sc, rest) = node_in (node_number p) p.at.scope p.at.func (plus p.at (own p.block)) (states_of p.block) n i in omega (arith, sc)
      | inr i ↦ let k = from_on (plus a (own p.block)) c ps r.1 n i in omega (arith, k)
    ]

run_ordered : (a c : At) (ps : List Placed) → Runs a ps c → ((p : Placed) → In p ps → Rises p) → AreOrdered (all_of nodes_of ps)
run_ordered a c [] r h = tt
run_ordered a c (p ∷ ps) r h =
    let e : p.at.scope ≡ a.scope = ap (λ (z : At). z.scope) r.0 in
    ordered_append (nodes_of p) (all_of nodes_of ps)
    (own_ordered (node_number p) p.at.scope p.at.func (plus p.at (own p.block)) (states_of p.block) (h p (inl refl)))
    (run_ordered (plus a (own p.block)) c ps r.1 (λ q i. h q (inr i)))
    (λ m n i j.
    let (sc, rest) = node_in (node_number p) p.at.scope p.at.func (plus p.at (own p.block)) (states_of p.block) m i in
    let k = from_on (plus a (own p.block)) c ps r.1 n j in
    let l : m.scope < n.scope = omega (arith, k, sc) in
    or_left (nat_lt m.scope n.scope) ((m.scope == n.scope) && is_less (slice_cmp nat_cmp m.name n.name)) (lt-ltb m.scope n.scope l))

next_follows : (n : Node) (ns : List Node) → ((m : Node) → In m ns → Before n m) → follows n ns ≡ true
next_follows n [] h = refl
next_follows n (m ∷ ms) h = h m (inl refl)

in_order : (ns : List Node) → AreOrdered ns → are_in_order ns ≡ true
in_order [] h = refl
in_order (n ∷ ns) h = and_from (follows n ns) (are_in_order ns) (next_follows n ns h.0) (in_order ns h.1)

-- ---------------------------------------------------------------- where a node may go

after_label : (g : Text → ℕ) (after : Option Text) (l : ℕ) → In l (one_or_none (option_map g after)) → (t : Text) × In t (one_or_none after) × (l ≡ g t)
after_label g None l h = absurd h
after_label g (Some t) l h = elim h [ inl e ↦ (t, inl refl, e) | inr a ↦ absurd a ]

rule_label : (g : Text → ℕ) (rs : List TopRule) (l : ℕ) → In l (map (λ (r : NodeRule). r.next) (map (number_rule g) rs)) → (t : Text) × In t (map (λ (r : TopRule). r.next) rs) × (l ≡ g t)
rule_label g [] l h = absurd h
rule_label g (r ∷ rs) l h = elim h [ inl e ↦ (r.next, inl refl, e) | inr a ↦ let (u, i, e) = rule_label g rs l a in (u, inr i, e) ]

catch_label : (g : Text → ℕ) (cs : List Catcher) (l : ℕ) → In l (map (λ (c : CatcherOf ℕ). c.next) (map ir.catcher_of (map (number_catcher g) cs))) → (t : Text) × In t (map (λ (c : Catcher). c.next) cs) × (l ≡ g t)
catch_label g [] l h = absurd h
catch_label g (c ∷ cs) l h = elim h [ inl e ↦ (c.next, inl refl, e) | inr a ↦ let (u, i, e) = catch_label g cs l a in (u, inr i, e) ]

both_label : (g : Text → ℕ) (after : Option Text) (care : Care) (l : ℕ) → In l (one_or_none (option_map g after) ++ catch_labels (ir.care_of (number_care g care))) → (t : Text) × In t (one_or_none after ++ catch_labels care) × (l ≡ g t)
both_label g after care l h =
    elim (In-cases (one_or_none (option_map g after)) (catch_labels (ir.care_of (number_care g care))) l h) [
      | inl a ↦ let (t, i, e) = after_label g after l a in (t, In-left (one_or_none after) (catch_labels care) t i, e)
      | inr b ↦ let (t, i, e) = catch_label g care.catch l b in (t, In-right (one_or_none after) (catch_labels care) t i, e)
    ]

op_label : (g : Text → ℕ) (func : ℕ) (at : At) (s : State) (l : ℕ) → In l (labels (ir.head_of (op_of g func at s))) → (t : Text) × In t (labels (head_of s)) × (l ≡ g t)
op_label g func at (Task shape resource after care) l h = both_label g after.next care l h
op_label g func at (Pass shape result after) l h = after_label g after.next l h
op_label g func at (Choice shape rules default) l h =
    elim (In-cases (map (λ (r : NodeRule). r.next) (map (number_rule g) rules)) (one_or_none (option_map g default)) l h) [
      | inl a ↦ let (t, i, e) = rule_label g rules l a in (t, In-left (map (λ (r : TopRule). r.next) rules) (one_or_none default) t i, e)
      | inr b ↦ let (t, i, e) = after_label g default l b in (t, In-right (map (λ (r : TopRule). r.next) rules) (one_or_none default) t i, e)
    ]
op_label g func at (Succeed shape) l h = absurd h
op_label g func at (Fail error cause) l h = absurd h
op_label g func at (Parallel shape bs after care) l h = both_label g after.next care l h
op_label g func at (Map shape items selector b after care limit) l h = both_label g after.next care l h

-- ---------------------------------------------------------------- what a node has

length-scopes : (at : At) (bs : Blocks) → length (scope_numbers at bs) ≡ length (blocks_in bs)
length-scopes at no_block = refl
length-scopes at (and_block b bs) = ap suc (length-scopes (plus at (size b)) bs)

op_parts : (g : Text → ℕ) (func : ℕ) (at : At) (s : State) → HasParts s → has_parts (op_of g func at s) ≡ true
op_parts g func at (Task shape resource after care) h = refl
op_parts g func at (Pass shape result after) h = refl
op_parts g func at (Choice shape rules default) h = let k : length (map (number_rule g) rules) ≡ length rules = length-map rules (number_rule g) in lt-ltb 0 (length (map (number_rule g) rules)) (omega arith)
op_parts g func at (Succeed shape) h = refl
op_parts g func at (Fail error cause) h = refl
op_parts g func at (Parallel shape bs after care) h =
    let k = length-scopes at bs in
    and_from (nat_lt 0 (length (scope_numbers at bs))) (nat_le (length (scope_numbers at bs)) 100)
    (lt-ltb 0 (length (scope_numbers at bs)) (omega (arith, k, h.0)))
    (le-leb (length (scope_numbers at bs)) 100 (omega (arith, k, h.1)))
op_parts g func at (Map shape items selector b after care limit) h = refl

same_errors : (g : Text → ℕ) (cs : List Catcher) → map (λ (c : CatcherOf ℕ). c.errors) (map ir.catcher_of (map (number_catcher g) cs)) ≡ map (λ (c : Catcher). c.errors) cs
same_errors g [] = refl
same_errors g (c ∷ cs) = ap (λ l. c.errors ∷ l) (same_errors g cs)

same_catchers : (g : Text → ℕ) (cs : List Catcher) → length (map ir.catcher_of (map (number_catcher g) cs)) ≡ length cs
same_catchers g cs = length-map (map (number_catcher g) cs) ir.catcher_of ∙ length-map cs (number_catcher g)

-- the test of care, by the errors of catchers and how many there are
abbrev bad_care : Care → List (List Text) → ℕ → Bool
bad_care care es k =
    has_bad_errors (map (λ (r : Retrier). r.errors) care.retry) || has_bad_errors es || list_any (λ (r : Retrier). nat_lt 99999999 r.most) care.retry || nat_lt 16 (length care.retry) || nat_lt 16 k

same_care : (g : Text → ℕ) (care : Care) → is_bad_care (ir.care_of (number_care g care)) ≡ bad_care care (map (λ (c : Catcher). c.errors) care.catch) (length care.catch)
same_care g care = ap₂ (bad_care care) (same_errors g care.catch) (same_catchers g care.catch)

op_care : (g : Text → ℕ) (func : ℕ) (at : At) (s : State) → is_bad_care (care_in (ir.head_of (op_of g func at s))) ≡ has_bad_care s
op_care g func at (Task shape resource after care) = same_care g care
op_care g func at (Pass shape result after) = refl
op_care g func at (Choice shape rules default) = refl
op_care g func at (Succeed shape) = refl
op_care g func at (Fail error cause) = refl
op_care g func at (Parallel shape bs after care) = same_care g care
op_care g func at (Map shape items selector b after care limit) = same_care g care

op_made : (g : Text → ℕ) (func : ℕ) (at : At) (s : State) → HasParts s → has_bad_care s ≡ false → limit_of s ≤ 1000000 → is_well_made (op_of g func at s) ≡ true
op_made g func at s h k l =
    let op : Op = op_of g func at s in
    let m : ir.limit_of op ≤ 1000000 = omega (arith, l, limit_same g func at s) in
    and_from (has_parts op && not (is_bad_care (care_in (ir.head_of op)))) (nat_le (ir.limit_of op) 1000000)
    (and_from (has_parts op) (not (is_bad_care (care_in (ir.head_of op)))) (op_parts g func at s h) (not_of (is_bad_care (care_in (ir.head_of op))) (op_care g func at s ∙ k)))
    (le-leb (ir.limit_of op) 1000000 m)

-- ---------------------------------------------------------------- scopes that a fan holds

held_all : (func : ℕ) (at : At) (bs : Blocks) (k : ℕ) → In k (scope_numbers at bs) → (q : Placed) × In q (place_all func at bs) × (q.at.scope ≡ k) × (q.parent ≡ Some func)
held_all func at no_block k h = absurd h
held_all func at (and_block b bs) k h =
    let p : Placed = record { at = at; parent = Some func; block = b } in
    elim h [
      | inl e ↦ (p, In-left (place (Some func) at b) (place_all func (plus at (size b)) bs) p (place_head (Some func) at b), sym e, refl)
      | inr t ↦ let (q, i, e, f) = held_all func (plus at (size b)) bs k t in (q, In-right (place (Some func) at b) (place_all func (plus at (size b)) bs) q i, e, f)
    ]

held_under : (g : Text → ℕ) (func : ℕ) (at : At) (s : State) (k : ℕ) → In k (scopes_of (op_of g func at s)) → (q : Placed) × In q (place_under func at s) × (q.at.scope ≡ k) × (q.parent ≡ ir.func_of (op_of g func at s))
held_under g func at (Task shape resource after care) k h = absurd h
held_under g func at (Pass shape result after) k h = absurd h
held_under g func at (Choice shape rules default) k h = absurd h
held_under g func at (Succeed shape) k h = absurd h
held_under g func at (Fail error cause) k h = absurd h
held_under g func at (Parallel shape bs after care) k h = held_all func at bs k h
held_under g func at (Map shape items selector b after care limit) k h =
    let p : Placed = record { at = at; parent = Some func; block = b } in
    elim h [ inl e ↦ (p, place_head (Some func) at b, sym e, refl) | inr t ↦ absurd t ]

root_scope : (b : Block) (at : At) → (s : Scope) × (slice_get (map scope_of (place None at b)) 0 ≡ Some s) × (s.parent ≡ None)
root_scope (block start states) at = let p : Placed = record { at = at; parent = None; block = block start states } in (scope_of p, refl, refl)

start_all : (form : Ir) (k : ℕ) (ss : List Scope) → ((i : ℕ) (s : Scope) → slice_get ss i ≡ Some s → is_node_in (k + i) (ir.node_at form s.start) ≡ true) → starts_from form k ss ≡ true
start_all form k [] h = refl
start_all form k (s ∷ ss) h =
    let z : k + 0 ≡ k = omega arith in
    and_from (is_node_in k (ir.node_at form s.start)) (starts_from form (suc k) ss) (subst (λ n. is_node_in n (ir.node_at form s.start) ≡ true) z (h 0 s refl))
    (start_all form (suc k) ss (λ i t e. let w : k + suc i ≡ suc k + i = omega arith in subst (λ n. is_node_in n (ir.node_at form t.start) ≡ true) w (h (suc i) t e)))

enter_tags_are : (k n : ℕ) → map tag_of (enters k n) ≡ enter_tags k n
enter_tags_are k zero = refl
enter_tags_are k (suc n) = ap (λ l. Enters k ∷ l) (enter_tags_are (suc k) n)

split : (k l : ℕ) → (k < l) ⊎ ((k ≡ l) ⊎ (l < k))
split zero zero = inr (inl refl)
split zero (suc l) = inl (omega arith)
split (suc k) zero = inr (inr (omega arith))
split (suc k) (suc l) = elim (split k l) [ inl h ↦ inl (omega arith) | inr t ↦ elim t [ inl same ↦ inr (inl (ap suc same)) | inr h ↦ inr (inr (omega arith)) ] ]

module _ (root : Block) (valid : IsValid root) (rise : HasRisingNames root) where
  abbrev form : Ir
  form = flat_form root

  -- a node of the flat form, with its block and its state
  record Made (n : Node) : Type 0 where
    pub label : ℕ
    pub is : NodeIs root rise label n
    pub t : NodeAt root is.p n.name is.s
    pub op : n.op ≡ op_of (node_number is.p) t.its_func t.its_at is.s

  made : (n : Node) → In n form.nodes → Made n
  made n h =
      let (label, e) = in_get form.nodes n h in
      let w = node_is root rise label n e in
      let t = node_at root w.p w.here n.name w.s w.found in
      let m : Node = record { name = n.name; scope = w.p.at.scope; op = op_of (node_number w.p) t.its_func t.its_at w.s } in
      let same : n ≡ m = same_Some n m (sym e ∙ ap (slice_get form.nodes) w.number ∙ t.found) in
      record { label = label; is = w; t = t; op = ap (λ (z : Node). z.op) same }

  -- a fact of the node's state
  state_fact : (P : Nested → Row → Type 0) → ((n : Nested) → In n (nested root) → (r : Row) → In r (rows n.block) → P n r) → (p : Placed) → In p (placed root) → (name : Text) (s : State) → state_of p.block name ≡ Some s →
      (n : Nested) × (r : Row) × (r.0 ≡ name) × (r.1 ≡ s) × P n r
  state_fact P h p here name s e =
      let (n, i, b) = nested_of root p.block (block_listed root p here) in
      let (r, j, named, is) = row_found p.block name s e in
      (n, r, named, is, h n i r (subst (λ (y : Block). In r (rows y)) (sym b) j))

  -- a number of that block has a node in its scope
  number_in : (p : Placed) → In p (placed root) → (name : Text) (label : ℕ) → NumberOf root p name label → is_node_in p.at.scope (ir.node_at form label) ≡ true
  number_in p h name label r =
      let t = node_at root p h name r.0 r.1 in
      ap (λ k. is_node_in p.at.scope (slice_get form.nodes k)) r.2 ∙ ap (is_node_in p.at.scope) t.found ∙ eq-eqb p.at.scope p.at.scope refl

  scopes_many : length form.scopes ≡ (size root).scope
  scopes_many = length-map (placed root) scope_of ∙ sym (many root)

  parents_are : (n : Node) → In n form.nodes → list_all (λ k. has_parent (ir.func_of n.op) (slice_get form.scopes k)) (scopes_of n.op) ≡ true
  parents_are n h =
      let w = made n h in
      all_hold (λ k. has_parent (ir.func_of n.op) (slice_get form.scopes k)) (scopes_of n.op) (λ k i.
      let (q, j, at_k, parent) = held_under (node_number w.is.p) w.t.its_func w.t.its_at w.is.s k (subst (λ z. In k (scopes_of z)) w.op i) in
      let there : slice_get form.scopes k ≡ Some (scope_of q) = ap (slice_get form.scopes) (sym at_k) ∙ scope_found root q (w.t.inside q j) in
      ap (has_parent (ir.func_of n.op)) there ∙ same_number_is q.parent (ir.func_of n.op) (parent ∙ sym (ap ir.func_of w.op)))

  root_parent : has_parent None (slice_get form.scopes 0) ≡ true
  root_parent = let (s, e, none) = root_scope root (first_at root) in ap (has_parent None) e ∙ same_number_is s.parent None none

  starts_are : starts_from form 0 form.scopes ≡ true
  starts_are = start_all form 0 form.scopes (λ i s e.
      let (p, h, at_i, same) = scope_placed root i s e in
      let z : p.at.scope ≡ 0 + i = omega (arith, at_i) in
      subst (λ (x : Scope). is_node_in (0 + i) (ir.node_at form x.start) ≡ true) same
      (subst (λ k. is_node_in k (ir.node_at form (scope_of p).start) ≡ true) z (number_in p h (start_of p.block) (node_number p (start_of p.block)) (start_number root valid p h))))

  nexts_are : (n : Node) → In n form.nodes → list_all (λ l. is_node_in n.scope (ir.node_at form l)) (labels (ir.head_of n.op)) ≡ true
  nexts_are n h =
      let w = made n h in
      all_hold (λ l. is_node_in n.scope (ir.node_at form l)) (labels (ir.head_of n.op)) (λ l i.
      let (t, j, l_is) = op_label (node_number w.is.p) w.t.its_func w.t.its_at w.is.s l (subst (λ z. In l (labels (ir.head_of z))) w.op i) in
      let (s, found, number) = nexts_number root valid w.is.p w.is.here n.name w.is.s w.is.found t j in
      subst (λ k. is_node_in k (ir.node_at form l) ≡ true) (sym w.is.in_scope) (number_in w.is.p w.is.here t l (s, found, l_is)))

  apart_names : (i j : ℕ) (a b : Text) → i < j → slice_get (map name_of form.nodes) i ≡ Some a → slice_get (map name_of form.nodes) j ≡ Some b → a ≡ b → ⊥
  apart_names i j a b l e f same =
      let (m, me, ma) = of_map form.nodes i a e in
      let (n, ne, nb) = of_map form.nodes j b f in
      let v = node_is root rise i m me in
      let w = node_is root rise j n ne in
      let names : m.name ≡ n.name = ma ∙ same ∙ sym nb in
      elim (split v.p.at.scope w.p.at.scope) [
        | inl less ↦ differ v.p w.p v.here w.here less m.name v.s v.found n.name w.s w.found names
        | inr t ↦ elim t [
          | inl one ↦
              let p_is : v.p ≡ w.p = same_Some v.p w.p (sym (number_of root v.p v.here) ∙ ap (slice_get (placed root)) one ∙ number_of root w.p w.here) in
              let k : i ≡ j = v.number ∙ ap₂ (λ (z : Placed) (y : Text). node_number z y) p_is names ∙ sym w.number in
              omega (arith, k, l)
          | inr more ↦ differ w.p v.p w.here v.here more n.name w.s w.found m.name v.s v.found (sym names)
        ]
      ]
    where
      of_map : (xs : List Node) (k : ℕ) (y : Text) → slice_get (map name_of xs) k ≡ Some y → (x : Node) × (slice_get xs k ≡ Some x) × (x.name ≡ y)
      of_map [] k y e = absurd (cc)
      of_map (x ∷ xs) zero y e = (x, refl, same_Some x.name y e)
      of_map (x ∷ xs) (suc k) y e = of_map xs k y e

      differ : (p q : Placed) → In p (placed root) → In q (placed root) → p.at.scope < q.at.scope → (name : Text) (s : State) → state_of p.block name ≡ Some s → (other : Text) (t : State) → state_of q.block other ≡ Some t → name ≡ other → ⊥
      differ p q h k less name s found other t there same =
          let (r, i, named, is) = row_found p.block name s found in
          valid.apart p.at.scope q.at.scope p.block q.block less (block_at root p h) (block_at root q k) name
          (subst (λ z. In z (map (λ (x : Row). x.0) (rows p.block))) named (in_map (λ (x : Row). x.0) (rows p.block) r i))
          (t, ap (state_of q.block) same ∙ there)

  pub well_formed : IsWellFormed form
  well_formed = record {
    scopes = same_numbers_are _ _ (scopes_ordered root 8 valid.shallow ∙ ap (range 0) (sym scopes_many));
    parents = and_from (has_parent None (slice_get form.scopes 0)) _ root_parent (all_hold (λ (n : Node). list_all (λ k. has_parent (ir.func_of n.op) (slice_get form.scopes k)) (scopes_of n.op)) form.nodes parents_are);
    starts = starts_are;
    nodes =
        and_from (are_in_order form.nodes) _ (in_order form.nodes (run_ordered (first_at root) (last_at root) (placed root) (all_run root) (rises root rise)))
        (all_hold (λ (n : Node). nat_lt n.scope (length form.scopes)) form.nodes (λ n h.
        let w = made n h in
        let l = slice_get_within (placed root) w.is.p.at.scope w.is.p (number_of root w.is.p w.is.here) in
        let k : n.scope < length form.scopes = omega (arith, l, w.is.in_scope, length-map (placed root) scope_of) in
        lt-ltb n.scope (length form.scopes) k));
    nexts = all_hold (λ (n : Node). list_all (λ l. is_node_in n.scope (ir.node_at form l)) (labels (ir.head_of n.op))) form.nodes nexts_are;
    funcs =
        and_from _ _
        (same_tags_are _ _
        (map-append tag_of (enters 0 (size root).scope) (all_of funcs_of (placed root))
        ∙ ap₂ (λ (x y : List Tag). x ++ y) (enter_tags_are 0 (size root).scope ∙ ap (enter_tags 0) (sym scopes_many)) (tags_of_run (first_at root) (last_at root) (placed root) (all_run root))))
        (same_numbers_are _ _ (numbers ∙ ap₂ range (sym scopes_many) (sym many_numbers)));
    names =
        and_from _ _ (apart_from (map name_of form.nodes) apart_names)
        (all_hold _ form.nodes (λ n h.
        let w = made n h in
        let (k, r, named, is, f) = state_fact (λ n r. (0 < length (chars r.0)) × (length (chars r.0) ≤ 80)) valid.named w.is.p w.is.here n.name w.is.s w.is.found in
        let f' = subst (λ z. (0 < length (chars z)) × (length (chars z) ≤ 80)) named f in
        is_named (length (chars n.name)) f'.0 f'.1));
    ops = all_hold (λ (n : Node). is_well_made n.op) form.nodes (λ n h.
        let w = made n h in
        let (k, r, named, is, f) = state_fact (λ n r. HasParts r.1) valid.parts w.is.p w.is.here n.name w.is.s w.is.found in
        let (k', r', named', is', f') = state_fact (λ n r. has_bad_care r.1 ≡ false) (λ m j r' l. no_bad_care r'.1 (valid.careful m j r' l)) w.is.p w.is.here n.name w.is.s w.is.found in
        let (k'', r'', named'', is'', f'') = state_fact (λ n r. limit_of r.1 ≤ 1000000) valid.limited w.is.p w.is.here n.name w.is.s w.is.found in
        subst (λ z. is_well_made z ≡ true) (sym w.op)
        (op_made (node_number w.is.p) w.t.its_func w.t.its_at w.is.s (subst HasParts is f) (subst (λ z. has_bad_care z ≡ false) is' f') (subst (λ z. limit_of z ≤ 1000000) is'' f'')));
    few =
        let k : length form.nodes ≡ length (states_in root) = sym (length-map form.nodes name_of) ∙ ap length (same_nodes root) ∙ length-map (states_in root) name_in in
        le-leb (length form.nodes) 1000 (omega (arith, k, valid.few));
  }
    where
      numbers : func_numbers form.nodes ≡ range (size root).scope (length (all_of funcs_of (placed root)))
      numbers = numbers_of_run (first_at root) (last_at root) (placed root) (all_run root)

      many_numbers : length (func_numbers form.nodes) ≡ length (all_of funcs_of (placed root))
      many_numbers = ap length numbers ∙ length-range (size root).scope (length (all_of funcs_of (placed root)))

pub form_is_well_formed : FormIsWellFormed
form_is_well_formed root valid rise = well_formed root valid rise
