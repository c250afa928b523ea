-- What stands at a key of an object is read as the part of it that it is, and is less deep.
use Rattle.std.proofs.Common.{◌≡◌, ℕ, ◌<◌, ◌≤◌, suc, max, List, [], ◌∷◌, ◌++◌, map, get_or, length, append_assoc, zero, Option, Some, None, codes, refl, sym, ap, ◌∙◌, subst, arith, Global, Vec, nat_cmp, Less, Equal, Greater}
use Rattle.std.proofs.lemmas.List.{map-append}
use Rattle.std.specs.Map.{keys_of}
use Rattle.unum_json.specs.Keys.{IsRising}
use Rattle.std.specs.Prelude.{option_map}
use Rattle.std.specs.Ordering.{match_ordering}
use Rattle.std.specs.declared.cmp.Ordering.{Ordering}
use Rattle.std.specs.Cmp.Lexicographic.{slice_cmp}
use Rattle.serde_json.specs.Data.{Data, null, boolean, number, string, array, object, Members, no_members, member, depth, items_depth, members_depth}
use Rattle.serde_json.specs.Find.{get, get_member}
use Rattle.unum_json.specs.Parsed.{view, items_view, members_view}
use Rattle.unum_json.specs.declared.parsed.Value.{Value, Array, Object}
use Rattle.unum_json.proofs.Views.{view-Array, view-Object}
use Rattle.choice_rules.specs.declared.rule.Rule.{Rule}
use Rattle.asl_model.specs.declared.machine.Block.{Block}
use Rattle.asl_model.specs.declared.machine.State.{State}
use Rattle.asl_read.specs.Objects.{Key}
use Rattle.asl_read.specs.Found.{find}
use Rattle.asl_read.specs.Rules.{Ruled, ruled, ruled_items, ruled_members, rules_at, rule_at, rule_by, rule_of, rules_of}
use Rattle.asl_read.specs.Machines.{Blocked, blocked, blocked_items, blocked_members, states_at, blocks_at, block_at, block_by, state_by, type_of, or_else, block_of, blocks_of, state_of, states_of}

-- ---------------------------------------------------------------- rules

-- what was read at a key, where the value there is looked up first
abbrev looked_up : {A : Type 0} → (o : Ordering) → (f : Data → A) → (ds : Option Data) → (rs : Option A) → Data → Type 0
looked_up o f ds rs d = match_ordering o rs (Some (f d)) rs ≡ option_map f (match_ordering o ds (Some d) ds)

found_by : {A : Type 0} (o : Ordering) (f : Data → A) (ds : Option Data) (rs : Option A) (d : Data) → rs ≡ option_map f ds → looked_up o f ds rs d
found_by Less f ds rs d h = h
found_by Equal f ds rs d h = refl
found_by Greater f ds rs d h = h

ruled_inside : (k : Key) (ms : Members) → find k (ruled_members ms) ≡ option_map ruled (get_member k ms)
ruled_inside k no_members = refl
ruled_inside k (member l d ms) = found_by (slice_cmp nat_cmp k l) ruled (get_member k ms) (find k (ruled_members ms)) d (ruled_inside k ms)

blocked_inside : (k : Key) (ms : Members) → find k (blocked_members ms) ≡ option_map blocked (get_member k ms)
blocked_inside k no_members = refl
blocked_inside k (member l d ms) = found_by (slice_cmp nat_cmp k l) blocked (get_member k ms) (find k (blocked_members ms)) d (blocked_inside k ms)

part_of : {A B : Type 0} (f : Data → A) (g : A → B) (o : Option Data) → option_map g (option_map f o) ≡ option_map (λ d. g (f d)) o
part_of f g None = refl
part_of f g (Some d) = refl

rules_inside : (k : Key) (ms : Members) → rules_at k (ruled_members ms) ≡ option_map rules_of (get_member k ms)
rules_inside k ms = ap (option_map (λ (r : Ruled). r.rules)) (ruled_inside k ms) ∙ part_of ruled (λ (r : Ruled). r.rules) (get_member k ms)

rule_inside : (k : Key) (ms : Members) → rule_at k (ruled_members ms) ≡ option_map rule_of (get_member k ms)
rule_inside k ms = ap (option_map (λ (r : Ruled). r.rule)) (ruled_inside k ms) ∙ part_of ruled (λ (r : Ruled). r.rule) (get_member k ms)

-- a rule, by what stands at its keys
pub rule_here : (d : Data) → rule_of d ≡ rule_by d (option_map rules_of (get (codes "And") d)) (option_map rules_of (get (codes "Or") d)) (option_map rule_of (get (codes "Not") d))
rule_here null = refl
rule_here (boolean b) = refl
rule_here (number n) = refl
rule_here (string s) = refl
rule_here (array ds) = refl
rule_here (object ms) =
    ap (λ x. rule_by (object ms) x (rules_at (codes "Or") (ruled_members ms)) (rule_at (codes "Not") (ruled_members ms))) (rules_inside (codes "And") ms)
    ∙ ap (λ x. rule_by (object ms) (option_map rules_of (get_member (codes "And") ms)) x (rule_at (codes "Not") (ruled_members ms))) (rules_inside (codes "Or") ms)
    ∙ ap (λ x. rule_by (object ms) (option_map rules_of (get_member (codes "And") ms)) (option_map rules_of (get_member (codes "Or") ms)) x) (rule_inside (codes "Not") ms)

-- ---------------------------------------------------------------- blocks and states

states_inside : (k : Key) (ms : Members) → states_at k (blocked_members ms) ≡ option_map states_of (get_member k ms)
states_inside k ms = ap (option_map (λ (b : Blocked). b.states)) (blocked_inside k ms) ∙ part_of blocked (λ (b : Blocked). b.states) (get_member k ms)

blocks_inside : (k : Key) (ms : Members) → blocks_at k (blocked_members ms) ≡ option_map blocks_of (get_member k ms)
blocks_inside k ms = ap (option_map (λ (b : Blocked). b.blocks)) (blocked_inside k ms) ∙ part_of blocked (λ (b : Blocked). b.blocks) (get_member k ms)

block_inside : (k : Key) (ms : Members) → block_at k (blocked_members ms) ≡ option_map block_of (get_member k ms)
block_inside k ms = ap (option_map (λ (b : Blocked). b.block)) (blocked_inside k ms) ∙ part_of blocked (λ (b : Blocked). b.block) (get_member k ms)

-- a block, by what stands at its States
pub block_here : (d : Data) → block_of d ≡ block_by d (option_map states_of (get (codes "States") d))
block_here null = refl
block_here (boolean b) = refl
block_here (number n) = refl
block_here (string s) = refl
block_here (array ds) = refl
block_here (object ms) = ap (block_by (object ms)) (states_inside (codes "States") ms)

abbrev pub body_at : Data → Option Data
body_at d = or_else (get (codes "ItemProcessor") d) (get (codes "Iterator") d)

either_body : (a b : Option Data) → or_else (option_map block_of a) (option_map block_of b) ≡ option_map block_of (or_else a b)
either_body (Some x) b = refl
either_body None b = refl

-- a state, by what stands at the keys that hold blocks
pub state_here : (d : Data) → state_of d ≡ state_by (type_of d) d (option_map blocks_of (get (codes "Branches") d)) (option_map block_of (body_at d))
state_here null = refl
state_here (boolean b) = refl
state_here (number n) = refl
state_here (string s) = refl
state_here (array ds) = refl
state_here (object ms) =
    ap (λ x. state_by (type_of (object ms)) (object ms) x (or_else (block_at (codes "ItemProcessor") (blocked_members ms)) (block_at (codes "Iterator") (blocked_members ms)))) (blocks_inside (codes "Branches") ms)
    ∙ ap (λ x. state_by (type_of (object ms)) (object ms) (option_map blocks_of (get_member (codes "Branches") ms)) (or_else x (block_at (codes "Iterator") (blocked_members ms)))) (block_inside (codes "ItemProcessor") ms)
    ∙ ap (λ x. state_by (type_of (object ms)) (object ms) (option_map blocks_of (get_member (codes "Branches") ms)) (or_else (option_map block_of (get_member (codes "ItemProcessor") ms)) x)) (block_inside (codes "Iterator") ms)
    ∙ ap (state_by (type_of (object ms)) (object ms) (option_map blocks_of (get_member (codes "Branches") ms))) (either_body (get_member (codes "ItemProcessor") ms) (get_member (codes "Iterator") ms))

-- ---------------------------------------------------------------- depth

member_found : (o : Ordering) (m : Option Data) (d e : Data) (n : ℕ) → match_ordering o m (Some d) m ≡ Some e → (m ≡ Some e → depth e ≤ n) → depth e ≤ max (depth d) n
member_found Less m d e n is h = let low = h is in omega arith
member_found Equal m d e n is h = let same : depth d ≡ depth e = ap (λ o. elim o [ None ↦ 0 | Some x ↦ depth x ]) is in omega arith
member_found Greater m d e n is h = let low = h is in omega arith

member_depth : (k : Key) (ms : Members) (e : Data) → get_member k ms ≡ Some e → depth e ≤ members_depth ms
member_depth k no_members e is = absurd (cc)
member_depth k (member l d ms) e is = member_found (slice_cmp nat_cmp k l) (get_member k ms) d e (members_depth ms) is (member_depth k ms e)

-- the value at a key is less deep
pub get_depth : (k : Key) (d e : Data) → Some e ≡ get k d → depth e < depth d
get_depth k null e is = absurd (cc)
get_depth k (boolean b) e is = absurd (cc)
get_depth k (number n) e is = absurd (cc)
get_depth k (string s) e is = absurd (cc)
get_depth k (array ds) e is = absurd (cc)
get_depth k (object ms) e is = let low = member_depth k ms e (sym is) in omega arith

-- an item of an array is less deep
pub item_depth : (vs : List Value) (i : ℕ) (v : Value) → i < length vs → v ≡ get_or vs i v → depth (view v) ≤ items_depth (items_view vs)
item_depth [] i v lt is = absurd (omega arith)
item_depth (w ∷ ws) zero v lt is = let same : depth (view v) ≡ depth (view w) = ap (λ x. depth (view x)) is in omega arith
item_depth (w ∷ ws) (suc i) v lt is = let low = item_depth ws i v (omega arith) is in omega arith

-- ---------------------------------------------------------------- arrays

-- the rules that values spell
abbrev pub rules_in : List Value → List Rule
rules_in vs = map (λ (r : Ruled). r.rule) (ruled_items (items_view vs))

-- the blocks that values spell
abbrev pub blocks_in : List Value → List Block
blocks_in vs = map (λ (b : Blocked). b.block) (blocked_items (items_view vs))

-- the pairs of an object
abbrev pub Entries : Type 0
Entries = List (Key × Value)

-- the states that members spell
abbrev pub states_in : Entries → List (Key × State)
states_in es = map (λ (m : Key × Blocked). (m.0, m.1.state)) (blocked_members (members_view es))

-- the keys so far, and those that are left
pub rising_more : (found : List (Key × State)) (rest left : Entries) (e : Key × Value) (k : Key) (x : State) → IsRising (keys_of found ++ keys_of rest) → rest ≡ e ∷ left → k ≡ e.0
    → IsRising (keys_of (found ++ (k, x) ∷ []) ++ keys_of left)
rising_more found rest left e k x h is key =
    let one : keys_of found ++ keys_of (e ∷ left) ≡ keys_of (found ++ (k, x) ∷ []) ++ keys_of left
    = sym (append_assoc (keys_of found) (e.0 ∷ []) (keys_of left)) ∙ ap (λ n. (keys_of found ++ n ∷ []) ++ keys_of left) (sym key)
    ∙ ap (λ ks. ks ++ keys_of left) (sym (map-append (λ (f : Key × State). f.0) found ((k, x) ∷ []))) in
    subst IsRising (ap (λ es. keys_of found ++ keys_of es) is ∙ one) h

-- the states of an object, none of which was read yet
pub states_start : (d : Value) (m es : Entries) (found : List (Key × State)) → d ≡ Object m → es ≡ m → found ≡ [] → states_of (view d) ≡ found ++ states_in es
states_start d m es found is same none =
    ap (λ x. states_of (view x)) is ∙ ap states_of (view-Object m) ∙ ap states_in (sym same) ∙ ap (λ xs. xs ++ states_in es) (sym none)

pub rising_start : (all rest : Entries) (found : List (Key × State)) → found ≡ [] → rest ≡ all → IsRising (keys_of all) → IsRising (keys_of found ++ keys_of rest)
rising_start all rest found e f h = subst IsRising (ap keys_of (sym f) ∙ ap (λ xs. keys_of xs ++ keys_of rest) (sym e)) h

-- ---------------------------------------------------------------- depth of what the code takes out

pub array_item : (d : Value) (items : Vec Value Global) (vs : List Value) (i : ℕ) (v : Value) → d ≡ Array items → vs ≡ items.items → i < length vs → v ≡ get_or vs i v → depth (view v) < depth (view d)
array_item d items vs i v is same lt at =
    let low : depth (view v) ≤ items_depth (items_view vs) = item_depth vs i v lt at in
    let whole : depth (view d) ≡ suc (items_depth (items_view vs))
    = ap (λ x. depth (view x)) is ∙ ap depth (view-Array items) ∙ ap (λ xs. suc (items_depth (items_view xs))) (sym same) in
    omega arith

pub members_low : (d : Value) (m es : Entries) → d ≡ Object m → es ≡ m → members_depth (members_view es) < depth (view d)
members_low d m es is same =
    let whole : depth (view d) ≡ suc (members_depth (members_view es))
    = ap (λ x. depth (view x)) is ∙ ap depth (view-Object m) ∙ ap (λ xs. suc (members_depth (members_view xs))) (sym same) in
    omega arith

pub member_low : (n : ℕ) (rest left : Entries) (e : Key × Value) → rest ≡ e ∷ left → members_depth (members_view rest) < n → depth (view e.1) < n
member_low n rest left e is low =
    let whole : members_depth (members_view rest) ≡ max (depth (view e.1)) (members_depth (members_view left)) = ap (λ es. members_depth (members_view es)) is in
    omega arith

-- the body of a Map is less deep
pub body_depth : (d e : Data) → Some e ≡ body_at d → depth e < depth d
body_depth d e is = by (get (codes "ItemProcessor") d) refl is
  where
    by : (o : Option Data) → get (codes "ItemProcessor") d ≡ o → Some e ≡ or_else o (get (codes "Iterator") d) → depth e < depth d
    by (Some x) g h = get_depth (codes "ItemProcessor") d e (h ∙ sym g)
    by None g h = get_depth (codes "Iterator") d e h
