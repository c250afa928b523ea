-- Scopes are counted one after the other.
use Rattle.std.proofs.Common.{◌≡◌, ℕ, zero, suc, ◌+◌, ◌-◌, ◌<◌, ◌≤◌, Bool, true, false, if◌then◌else◌, ◌==◌, ◌&&◌, nat_lt, List, [], ◌∷◌, ◌++◌, drop, length, get_or, Option, Some, None, refl, sym, ap, ◌∙◌, append_assoc, add-one, arith}
use Rattle.std.specs.Str.{bytes_eq}
use Rattle.std.proofs.lemmas.Bool.{eq-eqb, ne_eqb, lt-ltb, le-ltb}
use Rattle.std.proofs.lemmas.List.{drop_more, at_drop_all}
use Rattle.unum_ir.specs.Flat.{Node}
use Rattle.unum_ir.specs.Forming.{counted_up}
use Rattle.unum_ir.specs.WellFormed.{each, held_by, scopes_of, scopes_below, range, same_numbers}

some_by : (t : Bool) (a b c : Option ℕ) (m : ℕ) → (Some m ≡ a → b ≡ c) → Some m ≡ (if t then a else None) → (if t then b else None) ≡ c
some_by true a b c m h e = h e
some_by false a b c m h e = absurd (cc)

none_by : (t : Bool) (a b : Option ℕ) → (None ≡ a → b ≡ None) → None ≡ (if t then a else None) → (if t then b else None) ≡ None
none_by true a b h e = h e
none_by false a b h e = refl

-- those that count up are followed by the rest
pub counted_more : (bound at : ℕ) (xs ys : List ℕ) (m : ℕ) → Some m ≡ counted_up bound at xs → counted_up bound at (xs ++ ys) ≡ counted_up bound m ys
counted_more bound at [] ys m e = ap (λ n. counted_up bound n ys) (sym (same m at e))
  where
    same : (a b : ℕ) → Some a ≡ Some b → a ≡ b
    same a b e = cc
counted_more bound at (k ∷ ks) ys m e =
    some_by ((k == at) && nat_lt at bound) (counted_up bound (suc at) ks) (counted_up bound (suc at) (ks ++ ys)) (counted_up bound m ys) m (counted_more bound (suc at) ks ys m) e

-- those that do not count up
pub counted_none : (bound at : ℕ) (xs ys : List ℕ) → None ≡ counted_up bound at xs → counted_up bound at (xs ++ ys) ≡ None
counted_none bound at [] ys e = absurd (cc)
counted_none bound at (k ∷ ks) ys e =
    none_by ((k == at) && nat_lt at bound) (counted_up bound (suc at) ks) (counted_up bound (suc at) (ks ++ ys)) (counted_none bound (suc at) ks ys) e

each-append : (f : ℕ → List ℕ) (xs ys : List ℕ) → each f (xs ++ ys) ≡ each f xs ++ each f ys
each-append f [] ys = refl
each-append f (x ∷ xs) ys = ap (λ l. f x ++ l) (each-append f xs ys) ∙ sym (append_assoc (f x) (each f xs) (each f ys))

held_first : (k : ℕ) (n : Node) (ns : List Node) (t : Bool) → t ≡ true → (n.scope == k) ≡ t → held_by k (n ∷ ns) ≡ scopes_of n.op ++ held_by k ns
held_first k n ns t e f = ap (λ b. (if b then scopes_of n.op else []) ++ held_by k ns) (f ∙ e)

held_not : (k : ℕ) (n : Node) (ns : List Node) (t : Bool) → t ≡ false → (n.scope == k) ≡ t → held_by k (n ∷ ns) ≡ held_by k ns
held_not k n ns t e f = ap (λ b. (if b then scopes_of n.op else []) ++ held_by k ns) (f ∙ e)

node_first : (k : ℕ) (nodes : List Node) (i : ℕ) (n : Node) → i < length nodes → n ≡ get_or nodes i n → held_by k (drop i nodes) ≡ held_by k (n ∷ drop (i + 1) nodes)
node_first k nodes i n h e = ap (held_by k) (drop_more nodes i n h ∙ ap (λ z. z ∷ drop (i + 1) nodes) (sym e))

abbrev Below : Type 0
Below = ℕ → List ℕ

-- a node of another scope
pub node_passed : (f : Below) (bound at k : ℕ) (nodes : List Node) (i : ℕ) (n : Node) (all : Option ℕ) → i < length nodes → n ≡ get_or nodes i n → (n.scope == k) ≡ false
    → counted_up bound at (each f (held_by k (drop i nodes))) ≡ all → counted_up bound at (each f (held_by k (drop (i + 1) nodes))) ≡ all
node_passed f bound at k nodes i n all h e t inv =
    ap (λ l. counted_up bound at (each f l)) (sym (node_first k nodes i n h e ∙ held_not k n (drop (i + 1) nodes) false refl t)) ∙ inv

by_node : (f : Below) (bound at k : ℕ) (nodes : List Node) (i : ℕ) (n : Node) (all : Option ℕ) → i < length nodes → n ≡ get_or nodes i n → (n.scope == k) ≡ true
    → counted_up bound at (each f (held_by k (drop i nodes))) ≡ all → counted_up bound at (each f (scopes_of n.op) ++ each f (held_by k (drop (i + 1) nodes))) ≡ all
by_node f bound at k nodes i n all h e t inv =
    ap (λ l. counted_up bound at l) (sym (each-append f (scopes_of n.op) (held_by k (drop (i + 1) nodes))))
    ∙ ap (λ l. counted_up bound at (each f l)) (sym (node_first k nodes i n h e ∙ held_first k n (drop (i + 1) nodes) true refl t))
    ∙ inv

-- a node of the scope, whose scopes count up
pub node_counted : (f : Below) (bound at k : ℕ) (nodes : List Node) (i : ℕ) (n : Node) (all : Option ℕ) (m : ℕ) → i < length nodes → n ≡ get_or nodes i n → (n.scope == k) ≡ true → Some m ≡ counted_up bound at (each f (scopes_of n.op))
    → counted_up bound at (each f (held_by k (drop i nodes))) ≡ all → counted_up bound m (each f (held_by k (drop (i + 1) nodes))) ≡ all
node_counted f bound at k nodes i n all m h e t c inv =
    sym (counted_more bound at (each f (scopes_of n.op)) (each f (held_by k (drop (i + 1) nodes))) m c) ∙ by_node f bound at k nodes i n all h e t inv

-- and one whose scopes do not
pub node_refused : (f : Below) (bound at k : ℕ) (nodes : List Node) (i : ℕ) (n : Node) (all : Option ℕ) → i < length nodes → n ≡ get_or nodes i n → (n.scope == k) ≡ true → None ≡ counted_up bound at (each f (scopes_of n.op))
    → counted_up bound at (each f (held_by k (drop i nodes))) ≡ all → None ≡ all
node_refused f bound at k nodes i n all h e t c inv =
    sym (counted_none bound at (each f (scopes_of n.op)) (each f (held_by k (drop (i + 1) nodes))) c) ∙ by_node f bound at k nodes i n all h e t inv

scope_first : (f : Below) (scopes : List ℕ) (i k : ℕ) → i < length scopes → k ≡ get_or scopes i 0 → each f (drop i scopes) ≡ f k ++ each f (drop (i + 1) scopes)
scope_first f scopes i k h e = ap (each f) (drop_more scopes i 0 h ∙ ap (λ z. z ∷ drop (i + 1) scopes) (sym e))

pub scope_counted : (f : Below) (bound at : ℕ) (scopes : List ℕ) (i k : ℕ) (all : Option ℕ) (m : ℕ) → i < length scopes → k ≡ get_or scopes i 0 → Some m ≡ counted_up bound at (f k)
    → counted_up bound at (each f (drop i scopes)) ≡ all → counted_up bound m (each f (drop (i + 1) scopes)) ≡ all
scope_counted f bound at scopes i k all m h e c inv =
    sym (counted_more bound at (f k) (each f (drop (i + 1) scopes)) m c) ∙ ap (λ l. counted_up bound at l) (sym (scope_first f scopes i k h e)) ∙ inv

pub scope_refused : (f : Below) (bound at : ℕ) (scopes : List ℕ) (i k : ℕ) (all : Option ℕ) → i < length scopes → k ≡ get_or scopes i 0 → None ≡ counted_up bound at (f k)
    → counted_up bound at (each f (drop i scopes)) ≡ all → None ≡ all
scope_refused f bound at scopes i k all h e c inv =
    sym (counted_none bound at (f k) (each f (drop (i + 1) scopes)) c) ∙ ap (λ l. counted_up bound at l) (sym (scope_first f scopes i k h e)) ∙ inv

depth_more : (depth : ℕ) → (depth ≡ 0 → ⊥) → depth ≡ suc (depth - 1)
depth_more depth h = omega arith

-- a scope that is the next one
pub scope_opens : (depth : ℕ) (nodes : List Node) (scope at bound : ℕ) → (depth ≡ 0 → ⊥) → scope ≡ at → at < bound
    → counted_up bound at (scopes_below depth nodes scope) ≡ counted_up bound (at + 1) (each (scopes_below (depth - 1) nodes) (held_by scope nodes))
scope_opens depth nodes scope at bound d e h =
    ap (λ z. counted_up bound at (scopes_below z nodes scope)) (depth_more depth d)
    ∙ ap (λ t. if t && nat_lt at bound then counted_up bound (suc at) rest else None) (eq-eqb scope at e)
    ∙ ap (λ t. if t then counted_up bound (suc at) rest else None) (lt-ltb at bound h)
    ∙ ap (λ n. counted_up bound n rest) (sym (add-one at))
  where
    rest : List ℕ
    rest = each (scopes_below (depth - 1) nodes) (held_by scope nodes)

pub nodes_over : (f : Below) (bound at k : ℕ) (nodes : List Node) (i : ℕ) → length nodes ≤ i → Some at ≡ counted_up bound at (each f (held_by k (drop i nodes)))
nodes_over f bound at k nodes i h = sym (at_drop_all (λ l. counted_up bound at (each f (held_by k l))) nodes i h)

-- ---- all scopes

abbrev is_end : ℕ → Option ℕ → Bool
is_end bound None = false
is_end bound (Some m) = m == bound

runs_to : (t u : Bool) (a : Option ℕ) (b : Bool) (bound : ℕ) → (t ≡ true → b ≡ is_end bound a) → u ≡ true → (t && b) ≡ is_end bound (if t && u then a else None)
runs_to true true a b bound h e = h refl
runs_to true false a b bound h e = absurd (cc)
runs_to false u a b bound h e = refl

over_by : (t u : Bool) (a : Option ℕ) (bound : ℕ) → u ≡ false → false ≡ is_end bound (if t && u then a else None)
over_by true true a bound e = absurd (cc)
over_by true false a bound e = refl
over_by false u a bound e = refl

counts_range : (bound at left : ℕ) (xs : List ℕ) → at + left ≡ bound → bytes_eq xs (range at left) ≡ is_end bound (counted_up bound at xs)
counts_range bound at zero [] h = sym (eq-eqb at bound (omega arith))
counts_range bound at (suc n) [] h = sym (ne_eqb at bound (λ e. omega arith))
counts_range bound at zero (k ∷ ks) h = over_by (k == at) (nat_lt at bound) (counted_up bound (suc at) ks) bound (le-ltb at bound (omega arith))
counts_range bound at (suc n) (k ∷ ks) h =
    runs_to (k == at) (nat_lt at bound) (counted_up bound (suc at) ks) (bytes_eq ks (range (suc at) n)) bound (λ e. counts_range bound (suc at) n ks (omega arith)) (lt-ltb at bound (omega arith))

-- scopes count up to their number exactly where they are all numbers in their order
pub counts_all : (bound : ℕ) (xs : List ℕ) (o : Option ℕ) → o ≡ counted_up bound 0 xs → is_end bound o ≡ same_numbers xs (range 0 bound)
unfolding same_numbers
counts_all bound xs o e = ap (is_end bound) e ∙ sym (counts_range bound 0 bound xs (omega arith))
