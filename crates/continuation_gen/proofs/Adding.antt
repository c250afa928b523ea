-- What one more state or block adds to what is counted, listed and filled in.
use Rattle.std.proofs.Common.{◌≡◌, ℕ, zero, suc, ◌+◌, ◌<◌, ◌≤◌, List, [], ◌∷◌, ◌++◌, map, length, drop, get_or, Option, Some, option_map, refl, sym, ap, ap₂, ◌∙◌, subst, append_assoc, add-one, arith}
use Rattle.std.proofs.Math.Seq.{drop-cons}
use Rattle.std.proofs.lemmas.List.{drop_all, append-nil}
use Rattle.asl_model.specs.declared.machine.Block.{Block}
use Rattle.asl_model.specs.declared.machine.State.{State}
use Rattle.asl_model.specs.Data.{Text}
use Rattle.asl_model.specs.Machine as m
use Rattle.asl_model.specs.Machine.{states_of}
use Rattle.asl_model.specs.Tree.{state_tree, block_tree, states_from, blocks_from}
use Rattle.asl_model.proofs.Trees.{row, block_tree-out}
use Rattle.continuation_gen.specs.Tables.{Node, Op, ParallelOp, MapOp, EnterFunc}
use Rattle.continuation_gen.specs.Numbering as n
use Rattle.continuation_gen.specs.Numbering.{At, plus, own, size, size_within, size_under, size_all, calls, callers, count, Placed, IsSmall, enters}
use Rattle.continuation_gen.specs.Filling.{inner_at}
use Rattle.continuation_gen.proofs.Place.{at_eq, plus_assoc, plus_none}

-- ---------------------------------------------------------------- lists of rows and blocks

-- the rest of a list, with its first
pub drop_item : {X : Type 0} (xs : List X) (i : ℕ) (x : X) → i < length xs → x ≡ get_or xs i x → drop i xs ≡ x ∷ drop (i + 1) xs
drop_item xs i x h is =
    drop-cons xs i x h ∙ ap (λ y. y ∷ drop (suc i) xs) (sym is) ∙ ap (λ k. x ∷ drop k xs) (sym (add-one i))

-- the states of the rows from an index on
abbrev pub states_at : List (Text × State) → ℕ → m.States
states_at rows i = states_from (map row (drop i rows))

abbrev pub blocks_at : List Block → ℕ → m.Blocks
blocks_at bs i = blocks_from (map block_tree (drop i bs))

pub next_row : (rows : List (Text × State)) (i : ℕ) (e : Text × State) → i < length rows → e ≡ get_or rows i e → states_at rows i ≡ m.and_state e.0 (state_tree e.1) (states_at rows (i + 1))
next_row rows i e h is = ap (λ l. states_from (map row l)) (drop_item rows i e h is)

pub next_block : (bs : List Block) (i : ℕ) (b : Block) → i < length bs → b ≡ get_or bs i b → blocks_at bs i ≡ m.and_block (block_tree b) (blocks_at bs (i + 1))
next_block bs i b h is = ap (λ l. blocks_from (map block_tree l)) (drop_item bs i b h is)

pub states_out : (b : Block) → states_of (block_tree b) ≡ states_from (map row b.states)
states_out b = ap states_of (block_tree-out b)

count_rows : (rows : List (Text × State)) → count (states_from (map row rows)) ≡ length rows
count_rows [] = refl
count_rows (e ∷ rows) = ap suc (count_rows rows)

-- a block has as many states as rows
pub count_states : (b : Block) → count (states_of (block_tree b)) ≡ length b.states
count_states b = ap count (states_out b) ∙ count_rows b.states

-- ---------------------------------------------------------------- sizes

size_parts : (c : m.Block) → size c ≡ plus (own c) (size_within (states_of c))
size_parts (m.block start states) = refl

-- what a block takes, from where it stands
pub size_from : (at : At) (c : m.Block) → plus at (size c) ≡ plus (plus at (own c)) (size_within (states_of c))
size_from at c = ap (plus at) (size_parts c) ∙ sym (plus_assoc at (own c) (size_within (states_of c)))

pub small_within : (at : At) (c : m.Block) → IsSmall (plus at (size c)) → IsSmall (plus (plus at (own c)) (size_within (states_of c)))
small_within at c h = subst IsSmall (size_from at c) h

-- so many more come to that
abbrev pub ComesTo : (from more to : At) → Type 0
ComesTo a b c = (a.scope + b.scope ≡ c.scope) × (a.node + b.node ≡ c.node) × (a.func + b.func ≡ c.func)

-- the same as one equation
pub sum_is : (a b c : At) → ComesTo a b c → plus a b ≡ c
sum_is a b c h = at_eq (plus a b) c h.0 h.1 h.2

pub sum_comes : (a b c : At) → plus a b ≡ c → ComesTo a b c
sum_comes a b c e = (ap (λ (z : At). z.scope) e, ap (λ (z : At). z.node) e, ap (λ (z : At). z.func) e)

pub size_next : (at next total : At) (name : Text) (s : m.State) (r r' : m.States) → r ≡ m.and_state name s r' → next ≡ plus at (size_under s) → ComesTo at (size_within r) total → ComesTo next (size_within r') total
size_next at next total name s r r' e k h =
    sum_comes next (size_within r') total
    (ap (λ (z : At). plus z (size_within r')) k ∙ plus_assoc at (size_under s) (size_within r') ∙ ap (λ z. plus at (size_within z)) (sym e) ∙ sum_is at (size_within r) total h)

pub size_next_block : (at next total : At) (b : m.Block) (r r' : m.Blocks) → r ≡ m.and_block b r' → next ≡ plus at (size b) → ComesTo at (size_all r) total → ComesTo next (size_all r') total
size_next_block at next total b r r' e k h =
    sum_comes next (size_all r') total
    (ap (λ (z : At). plus z (size_all r')) k ∙ plus_assoc at (size b) (size_all r') ∙ ap (λ z. plus at (size_all z)) (sym e) ∙ sum_is at (size_all r) total h)

-- ---------------------------------------------------------------- listing

-- what was added, and what is still to be added, come to the same as before
joined : {X : Type 0} (now new more rest all left : List X) → new ≡ now ++ more → left ≡ more ++ rest → now ++ left ≡ all → new ++ rest ≡ all
joined now new more rest all left e f h = ap (λ l. l ++ rest) e ∙ append_assoc now more rest ∙ ap (λ l. now ++ l) (sym f) ∙ h

pub place_out : (parent : Option ℕ) (at : At) (c : m.Block) → n.place parent at c ≡ record { at = at; parent = parent; block = c } ∷ n.place_within at.func (plus at (own c)) (states_of c)
place_out parent at (m.block start states) = refl

pub listed_next : (func : ℕ) (at : At) (name : Text) (s : m.State) (r r' : m.States) → r ≡ m.and_state name s r' → (now new all : List Placed) (func' : ℕ) (at' : At) →
    new ≡ now ++ n.place_under func at s → func' ≡ func + calls s → at' ≡ plus at (size_under s) →
    now ++ n.place_within func at r ≡ all → new ++ n.place_within func' at' r' ≡ all
listed_next func at name s r r' e now new all func' at' k f a h =
    ap₂ (λ (x : ℕ) (y : At). new ++ n.place_within x y r') f a
    ∙ joined now new (n.place_under func at s) (n.place_within (func + calls s) (plus at (size_under s)) r') all (n.place_within func at r) k (ap (n.place_within func at) e) h

pub listed_next_block : (func : ℕ) (at : At) (b : m.Block) (r r' : m.Blocks) → r ≡ m.and_block b r' → (now new all : List Placed) (at' : At) →
    new ≡ now ++ n.place (Some func) at b → at' ≡ plus at (size b) →
    now ++ n.place_all func at r ≡ all → new ++ n.place_all func at' r' ≡ all
listed_next_block func at b r r' e now new all at' k a h =
    ap (λ y. new ++ n.place_all func y r') a
    ∙ joined now new (n.place (Some func) at b) (n.place_all func (plus at (size b)) r') all (n.place_all func at r) k (ap (n.place_all func at) e) h

pub rows_out : (b : Block) (rows : List (Text × State)) → rows ≡ b.states → states_from (map row rows) ≡ states_of (block_tree b)
rows_out b rows e = ap (λ l. states_from (map row l)) e ∙ sym (states_out b)

-- the block itself, and then what is inside it
pub listed_block : (old mid new : List Placed) (parent : Option ℕ) (at inner : At) (c : m.Block) →
    mid ≡ old ++ record { at = at; parent = parent; block = c } ∷ [] → inner ≡ plus at (own c) → new ≡ mid ++ n.place_within at.func inner (states_of c) → new ≡ old ++ n.place parent at c
listed_block old mid new parent at inner c e a k =
    let p : Placed = record { at = at; parent = parent; block = c } in
    k
    ∙ ap₂ (λ (x : List Placed) (y : At). x ++ n.place_within at.func y (states_of c)) e a
    ∙ append_assoc old (p ∷ []) (n.place_within at.func (plus at (own c)) (states_of c))
    ∙ ap (λ l. old ++ l) (sym (place_out parent at c))

-- nothing is left
pub no_states : (rows : List (Text × State)) (i : ℕ) → length rows ≤ i → states_at rows i ≡ m.no_state
no_states rows i h = ap (λ l. states_from (map row l)) (drop_all i rows h)

pub no_blocks : (bs : List Block) (i : ℕ) → length bs ≤ i → blocks_at bs i ≡ m.no_block
no_blocks bs i h = ap (λ l. blocks_from (map block_tree l)) (drop_all i bs h)

pub listed_all : (func : ℕ) (at : At) (r : m.States) → r ≡ m.no_state → (now all : List Placed) → now ++ n.place_within func at r ≡ all → now ≡ all
listed_all func at r e now all h = sym (append-nil now) ∙ ap (λ z. now ++ n.place_within func at z) (sym e) ∙ h

pub listed_all_blocks : (func : ℕ) (at : At) (r : m.Blocks) → r ≡ m.no_block → (now all : List Placed) → now ++ n.place_all func at r ≡ all → now ≡ all
listed_all_blocks func at r e now all h = sym (append-nil now) ∙ ap (λ z. now ++ n.place_all func at z) (sym e) ∙ h

pub size_all_through : (at total : At) (r : m.States) → r ≡ m.no_state → ComesTo at (size_within r) total → at ≡ total
size_all_through at total r e h = plus_none at ∙ ap (λ z. plus at (size_within z)) (sym e) ∙ sum_is at (size_within r) total h

pub size_through_blocks : (at total : At) (r : m.Blocks) → r ≡ m.no_block → ComesTo at (size_all r) total → at ≡ total
size_through_blocks at total r e h = plus_none at ∙ ap (λ z. plus at (size_all z)) (sym e) ∙ sum_is at (size_all r) total h

-- ---------------------------------------------------------------- nodes

-- of where the scopes inside stand, a node tells the scope alone
scopes_alike : (a b : At) (bs : m.Blocks) → a.scope ≡ b.scope → n.scope_numbers a bs ≡ n.scope_numbers b bs
scopes_alike a b m.no_block e = refl
scopes_alike a b (m.and_block c bs) e = ap₂ (λ (x : ℕ) (y : List ℕ). x ∷ y) e (scopes_alike (plus a (size c)) (plus b (size c)) bs (ap (λ k. k + (size c).scope) e))

op_alike : (g : Text → ℕ) (func : ℕ) (a b : At) (s : m.State) → a.scope ≡ b.scope → n.op_of g func a s ≡ n.op_of g func b s
op_alike g func a b (m.Task shape resource after care) e = refl
op_alike g func a b (m.Pass shape result after) e = refl
op_alike g func a b (m.Choice shape rules default) e = refl
op_alike g func a b (m.Succeed shape) e = refl
op_alike g func a b (m.Fail error cause) e = refl
op_alike g func a b (m.Parallel shape bs after care) e = ap (λ l. ParallelOp shape func (option_map g after.next) (n.number_care g care) l) (scopes_alike a b bs e)
op_alike g func a b (m.Map shape items selector body after care limit) e = ap (λ k. MapOp shape func (option_map g after.next) (n.number_care g care) k items selector limit) e

pub nodes_alike : (g : Text → ℕ) (scope func : ℕ) (a b : At) (states : m.States) → a.scope ≡ b.scope → n.nodes_from g scope func a states ≡ n.nodes_from g scope func b states
nodes_alike g scope func a b m.no_state e = refl
nodes_alike g scope func a b (m.and_state name s rest) e =
    ap₂ (λ (x : Op) (y : List Node). record { name = name; scope = scope; op = x } ∷ y) (op_alike g func a b s e)
    (nodes_alike g scope (func + calls s) (plus a (size_under s)) (plus b (size_under s)) rest (ap (λ k. k + (size_under s).scope) e))

pub scopes_next : (first : ℕ) (b : m.Block) (r r' : m.Blocks) → r ≡ m.and_block b r' → (now new all : List ℕ) (next : ℕ) →
    new ≡ now ++ first ∷ [] → next ≡ first + (size b).scope → now ++ n.scope_numbers (inner_at first) r ≡ all → new ++ n.scope_numbers (inner_at next) r' ≡ all
scopes_next first b r r' e now new all next k a h =
    ap (λ l. new ++ l) (scopes_alike (inner_at next) (plus (inner_at first) (size b)) r' a)
    ∙ joined now new (first ∷ []) (n.scope_numbers (plus (inner_at first) (size b)) r') all (n.scope_numbers (inner_at first) r) k (ap (n.scope_numbers (inner_at first)) e) h

pub nodes_next : (g : Text → ℕ) (scope func inner : ℕ) (name : Text) (s : m.State) (r r' : m.States) → r ≡ m.and_state name s r' → (now new all : List Node) (func' inner' : ℕ) →
    new ≡ now ++ record { name = name; scope = scope; op = n.op_of g func (inner_at inner) s } ∷ [] → func' ≡ func + calls s → inner' ≡ inner + (size_under s).scope →
    now ++ n.nodes_from g scope func (inner_at inner) r ≡ all → new ++ n.nodes_from g scope func' (inner_at inner') r' ≡ all
nodes_next g scope func inner name s r r' e now new all func' inner' k f a h =
    let x : Node = record { name = name; scope = scope; op = n.op_of g func (inner_at inner) s } in
    let rest : List Node = n.nodes_from g scope (func + calls s) (plus (inner_at inner) (size_under s)) r' in
    ap (λ l. new ++ l) (nodes_alike g scope func' (inner_at inner') (plus (inner_at inner) (size_under s)) r' a ∙ ap (λ z. n.nodes_from g scope z (plus (inner_at inner) (size_under s)) r') f)
    ∙ joined now new (x ∷ []) rest all (n.nodes_from g scope func (inner_at inner) r) k (ap (n.nodes_from g scope func (inner_at inner)) e) h

-- ---------------------------------------------------------------- functions

pub enters_next : (from k : ℕ) → enters from k ++ EnterFunc (from + k) ∷ [] ≡ enters from (suc k)
enters_next from zero = let e : from + 0 ≡ from = omega arith in ap (λ z. EnterFunc z ∷ []) e
enters_next from (suc k) =
    let e : from + suc k ≡ suc from + k = omega arith in
    ap (λ l. EnterFunc from ∷ l) (ap (λ z. enters (suc from) k ++ EnterFunc z ∷ []) e ∙ enters_next (suc from) k)
