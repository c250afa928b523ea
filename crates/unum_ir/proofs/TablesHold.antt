-- What the tests of a flat form say.
use Rattle.std.proofs.Common.{◌≡◌, ℕ, zero, suc, ◌+◌, ◌<◌, ◌⊎◌, Bool, true, nat_lt, List, [], ◌∷◌, ◌++◌, Option, Some, None, map, length, slice_get, option_map, refl, sym, ap, ap₂, ◌∙◌, subst, inl, inr, arith}
use Rattle.std.specs.List.{list_all}
use Rattle.std.proofs.lemmas.Bool.{eqb-true, ltb-true, and_parts}
use Rattle.std.proofs.lemmas.Option.{same_Some, slice_get-map}
use Rattle.std.proofs.lemmas.Slice.Eq.{bytes_eq-Decides}
use Rattle.asl_model.specs.Laws.{In}
use Rattle.asl_model.specs.Valid.{labels, one_or_none}
use Rattle.unum_ir.specs.Flat.{Ir, Node, Scope, Op, PassOp, ChoiceOp, SucceedOp, FailOp, TaskOp, ParallelOp, MapOp, Func, EnterFunc, TaskFunc, JoinFunc, head_of, func_of, node_at}
use Rattle.unum_ir.specs.WellFormed.{IsWellFormed, range, same_numbers, same_number, scopes_of, has_parent, is_node_in, starts_from, are_in_order, Tag, Enters, Calls, Joins, tag_of, same_tag, same_tags, enter_tags, op_tag, tags_from, func_numbers}
use Rattle.unum_ir.specs.Laws.{HasNode, NextsThere, StartsThere, FuncsThere, ScopesThere}

-- ---------------------------------------------------------------- lists

all_of : {X : Type 0} (test : X → Bool) (xs : List X) → list_all test xs ≡ true → (x : X) → In x xs → test x ≡ true
all_of test [] e x i = absurd i
all_of test (y ∷ ys) e x i = let (p, q) = and_parts (test y) (list_all test ys) e in elim i [ inl s ↦ ap test s ∙ p | inr t ↦ all_of test ys q x t ]

get_in : {X : Type 0} (xs : List X) (i : ℕ) (x : X) → slice_get xs i ≡ Some x → In x xs
get_in [] i x e = absurd (cc)
get_in (z ∷ zs) zero x e = inl (sym (same_Some z x e))
get_in (z ∷ zs) (suc i) x e = inr (get_in zs i x e)

get_cases : {X : Type 0} (xs ys : List X) (i : ℕ) (x : X) → slice_get (xs ++ ys) i ≡ Some x → (slice_get xs i ≡ Some x) ⊎ ((j : ℕ) × (i ≡ length xs + j) × (slice_get ys j ≡ Some x))
get_cases [] ys i x e = inr (i, omega arith, e)
get_cases (z ∷ zs) ys zero x e = inl e
get_cases (z ∷ zs) ys (suc i) x e = elim (get_cases zs ys i x e) [ inl a ↦ inl a | inr b ↦ let (j, k, f) = b in inr (j, omega arith, f) ]

same_numbers_is : (a b : List ℕ) → same_numbers a b ≡ true → a ≡ b
unfolding same_numbers
same_numbers_is a b e = (bytes_eq-Decides a b).0 e

same_number_is : (a b : Option ℕ) → same_number a b ≡ true → a ≡ b
same_number_is None None e = refl
same_number_is None (Some b) e = absurd (cc)
same_number_is (Some a) None e = absurd (cc)
same_number_is (Some a) (Some b) e = ap Some (eqb-true a b e)

same_tag_is : (t u : Tag) → same_tag t u ≡ true → t ≡ u
same_tag_is (Enters a) (Enters b) e = ap (λ n. Enters n) (eqb-true a b e)
same_tag_is (Calls a) (Calls b) e = ap (λ n. Calls n) (eqb-true a b e)
same_tag_is (Joins a) (Joins b) e = ap (λ n. Joins n) (eqb-true a b e)
same_tag_is (Enters a) (Calls b) e = absurd (cc)
same_tag_is (Enters a) (Joins b) e = absurd (cc)
same_tag_is (Calls a) (Enters b) e = absurd (cc)
same_tag_is (Calls a) (Joins b) e = absurd (cc)
same_tag_is (Joins a) (Enters b) e = absurd (cc)
same_tag_is (Joins a) (Calls b) e = absurd (cc)

same_tags_is : (ts us : List Tag) → same_tags ts us ≡ true → ts ≡ us
same_tags_is [] [] e = refl
same_tags_is [] (u ∷ us) e = absurd (cc)
same_tags_is (t ∷ ts) [] e = absurd (cc)
same_tags_is (t ∷ ts) (u ∷ us) e = let (p, q) = and_parts (same_tag t u) (same_tags ts us) e in ap₂ (λ (x : Tag) (l : List Tag). x ∷ l) (same_tag_is t u p) (same_tags_is ts us q)

range_get : (k n j f : ℕ) → slice_get (range k n) j ≡ Some f → f ≡ k + j
range_get k zero j f e = absurd (cc)
range_get k (suc n) zero f e = let s : k ≡ f = same_Some k f e in omega arith
range_get k (suc n) (suc j) f e = let s : f ≡ suc k + j = range_get (suc k) n j f e in omega arith

length-enter_tags : (k n : ℕ) → length (enter_tags k n) ≡ n
length-enter_tags k zero = refl
length-enter_tags k (suc n) = ap suc (length-enter_tags (suc k) n)

enter_get : (k n j : ℕ) (t : Tag) → slice_get (enter_tags k n) j ≡ Some t → (t ≡ Enters (k + j)) × (j < n)
enter_get k zero j t e = absurd (cc)
enter_get k (suc n) zero t e = let z : k ≡ k + 0 = omega arith in (sym (same_Some (Enters k) t e) ∙ ap (λ m. Enters m) z, omega arith)
enter_get k (suc n) (suc j) t e =
    let (s, l) = enter_get (suc k) n j t e in
    let z : suc k + j ≡ k + suc j = omega arith in
    (s ∙ ap (λ m. Enters m) z, omega arith)

-- ---------------------------------------------------------------- nodes

has_node : (ir : Ir) (scope label : ℕ) (m : Option Node) → node_at ir label ≡ m → is_node_in scope m ≡ true → HasNode ir scope label
has_node ir scope label None e h = absurd (cc)
has_node ir scope label (Some n) e h = (n, e, eqb-true n.scope scope h)

pub nexts_there : NextsThere
nexts_there ir w label n e l i =
    let inner = all_of (λ (m : Node). list_all (λ l. is_node_in m.scope (node_at ir l)) (labels (head_of m.op))) ir.nodes w.nexts n (get_in ir.nodes label n e) in
    has_node ir n.scope l (node_at ir l) refl (all_of (λ l. is_node_in n.scope (node_at ir l)) (labels (head_of n.op)) inner l i)

starts_at : (ir : Ir) (k : ℕ) (ss : List Scope) → starts_from ir k ss ≡ true → (i : ℕ) (s : Scope) → slice_get ss i ≡ Some s → is_node_in (k + i) (node_at ir s.start) ≡ true
starts_at ir k [] h i s e = absurd (cc)
starts_at ir k (t ∷ ss) h zero s e =
    let (p, q) = and_parts (is_node_in k (node_at ir t.start)) (starts_from ir (suc k) ss) h in
    let z : k ≡ k + 0 = omega arith in
    subst (λ (x : Scope). is_node_in (k + 0) (node_at ir x.start) ≡ true) (same_Some t s e) (subst (λ m. is_node_in m (node_at ir t.start) ≡ true) z p)
starts_at ir k (t ∷ ss) h (suc i) s e =
    let (p, q) = and_parts (is_node_in k (node_at ir t.start)) (starts_from ir (suc k) ss) h in
    let z : suc k + i ≡ k + suc i = omega arith in
    subst (λ m. is_node_in m (node_at ir s.start) ≡ true) z (starts_at ir (suc k) ss q i s e)

pub starts_there : StartsThere
starts_there ir w k s e =
    let z : 0 + k ≡ k = omega arith in
    has_node ir k s.start (node_at ir s.start) refl (subst (λ m. is_node_in m (node_at ir s.start) ≡ true) z (starts_at ir 0 ir.scopes w.starts k s e))

held : (ir : Ir) (k : ℕ) (parent : Option ℕ) (m : Option Scope) → slice_get ir.scopes k ≡ m → has_parent parent m ≡ true → (s : Scope) × (slice_get ir.scopes k ≡ Some s) × (s.parent ≡ parent)
held ir k parent None e h = absurd (cc)
held ir k parent (Some s) e h = (s, e, same_number_is s.parent parent h)

pub scopes_there : ScopesThere
scopes_there ir w label n e =
    let i : In n ir.nodes = get_in ir.nodes label n e in
    let (a, b) = and_parts (are_in_order ir.nodes) (list_all (λ (m : Node). nat_lt m.scope (length ir.scopes)) ir.nodes) w.nodes in
    let (c, d) = and_parts (has_parent None (slice_get ir.scopes 0)) (list_all (λ (m : Node). list_all (λ k. has_parent (func_of m.op) (slice_get ir.scopes k)) (scopes_of m.op)) ir.nodes) w.parents in (
      ltb-true n.scope (length ir.scopes) (all_of (λ (m : Node). nat_lt m.scope (length ir.scopes)) ir.nodes b n i),
      λ k j.
          let inner = all_of (λ (m : Node). list_all (λ k. has_parent (func_of m.op) (slice_get ir.scopes k)) (scopes_of m.op)) ir.nodes d n i in
          held ir k (func_of n.op) (slice_get ir.scopes k) refl (all_of (λ k. has_parent (func_of n.op) (slice_get ir.scopes k)) (scopes_of n.op) inner k j),
    )

-- ---------------------------------------------------------------- functions

-- a node has a tag exactly where it has a function
op_kind : (node : ℕ) (op : Op) → ((op_tag node op ≡ []) × (func_of op ≡ None)) ⊎ ((t : Tag) × (f : ℕ) × (op_tag node op ≡ t ∷ []) × (func_of op ≡ Some f))
op_kind node (PassOp shape result next) = inl (refl, refl)
op_kind node (ChoiceOp shape rules default) = inl (refl, refl)
op_kind node (SucceedOp shape) = inl (refl, refl)
op_kind node (FailOp error cause) = inl (refl, refl)
op_kind node (TaskOp shape func next care) = inr (Calls node, func, refl, refl)
op_kind node (ParallelOp shape func next care scopes) = inr (Joins node, func, refl, refl)
op_kind node (MapOp shape func next care scope items selector limit) = inr (Joins node, func, refl, refl)

-- the node of a tag, and its function
record Tagged (k : ℕ) (ns : List Node) (j : ℕ) (t : Tag) : Type 0 where
  pub i : ℕ
  pub n : Node
  pub f : ℕ
  pub found : slice_get ns i ≡ Some n
  pub tag : op_tag (k + i) n.op ≡ t ∷ []
  pub func : func_of n.op ≡ Some f
  pub number : slice_get (func_numbers ns) j ≡ Some f

later : (k : ℕ) (m : Node) (ns : List Node) (j j' : ℕ) (t : Tag) → slice_get (func_numbers (m ∷ ns)) j' ≡ slice_get (func_numbers ns) j → Tagged (suc k) ns j t → Tagged k (m ∷ ns) j' t
later k m ns j j' t e w =
    let z : suc k + w.i ≡ k + suc w.i = omega arith in
    record { i = suc w.i; n = w.n; f = w.f; found = w.found; tag = subst (λ x. op_tag x w.n.op ≡ t ∷ []) z w.tag; func = w.func; number = e ∙ w.number }

tagged : (k : ℕ) (ns : List Node) (j : ℕ) (t : Tag) → slice_get (tags_from k ns) j ≡ Some t → Tagged k ns j t
tagged k [] j t e = absurd (cc)
tagged k (m ∷ ns) j t e = elim (op_kind k m.op) [
  | inl a ↦
      let f : slice_get (tags_from (suc k) ns) j ≡ Some t = ap (λ (l : List Tag). slice_get (l ++ tags_from (suc k) ns) j) (sym a.0) ∙ e in
      later k m ns j j t (ap (λ (o : Option ℕ). slice_get (one_or_none o ++ func_numbers ns) j) a.1) (tagged (suc k) ns j t f)
  | inr b ↦
      let (u, f, tag, func) = b in
      by (λ i h. tagged (suc k) ns i t h) u f tag func j (ap (λ (l : List Tag). slice_get (l ++ tags_from (suc k) ns) j) (sym tag) ∙ e)
]
  where
    by : ((i : ℕ) → slice_get (tags_from (suc k) ns) i ≡ Some t → Tagged (suc k) ns i t) → (u : Tag) (f : ℕ) → op_tag k m.op ≡ u ∷ [] → func_of m.op ≡ Some f → (j : ℕ) → slice_get (u ∷ tags_from (suc k) ns) j ≡ Some t → Tagged k (m ∷ ns) j t
    by more u f tag func zero g =
        let z : k ≡ k + 0 = omega arith in
        let same : op_tag k m.op ≡ t ∷ [] = tag ∙ ap (λ x. x ∷ []) (same_Some u t g) in
        record { i = 0; n = m; f = f; found = refl; tag = subst (λ x. op_tag x m.op ≡ t ∷ []) z same; func = func; number = ap (λ (o : Option ℕ). slice_get (one_or_none o ++ func_numbers ns) 0) func }
    by more u f tag func (suc j) g = later k m ns j (suc j) t (ap (λ (o : Option ℕ). slice_get (one_or_none o ++ func_numbers ns) (suc j)) func) (more j g)

-- a node has its own tag
own_tag : (node other : ℕ) (op : Op) (t : Tag) → op_tag node op ≡ t ∷ [] → (t ≡ Calls other) ⊎ (t ≡ Joins other) → node ≡ other
own_tag node other (PassOp shape result next) t e h = absurd (cc)
own_tag node other (ChoiceOp shape rules default) t e h = absurd (cc)
own_tag node other (SucceedOp shape) t e h = absurd (cc)
own_tag node other (FailOp error cause) t e h = absurd (cc)
own_tag node other (TaskOp shape func next care) t e h = elim h [ inl s ↦ cc | inr s ↦ absurd (cc) ]
own_tag node other (ParallelOp shape func next care scopes) t e h = elim h [ inl s ↦ absurd (cc) | inr s ↦ cc ]
own_tag node other (MapOp shape func next care scope items selector limit) t e h = elim h [ inl s ↦ absurd (cc) | inr s ↦ cc ]

no_enter : (node k : ℕ) (op : Op) → op_tag node op ≡ Enters k ∷ [] → ⊥
no_enter node k (PassOp shape result next) e = absurd (cc)
no_enter node k (ChoiceOp shape rules default) e = absurd (cc)
no_enter node k (SucceedOp shape) e = absurd (cc)
no_enter node k (FailOp error cause) e = absurd (cc)
no_enter node k (TaskOp shape func next care) e = absurd (cc)
no_enter node k (ParallelOp shape func next care scopes) e = absurd (cc)
no_enter node k (MapOp shape func next care scope items selector limit) e = absurd (cc)

tag_case : (ir : Ir) → IsWellFormed ir → (f : ℕ) (x : Func) → slice_get ir.funcs f ≡ Some x → ((tag_of x ≡ Enters f) × (f < length ir.scopes)) ⊎ ((j : ℕ) × (f ≡ length ir.scopes + j) × Tagged 0 ir.nodes j (tag_of x))
tag_case ir w f x e =
    let (a, b) = and_parts (same_tags (map tag_of ir.funcs) (enter_tags 0 (length ir.scopes) ++ tags_from 0 ir.nodes)) (same_numbers (func_numbers ir.nodes) (range (length ir.scopes) (length (func_numbers ir.nodes)))) w.funcs in
    let same : map tag_of ir.funcs ≡ enter_tags 0 (length ir.scopes) ++ tags_from 0 ir.nodes = same_tags_is (map tag_of ir.funcs) (enter_tags 0 (length ir.scopes) ++ tags_from 0 ir.nodes) a in
    let there : slice_get (enter_tags 0 (length ir.scopes) ++ tags_from 0 ir.nodes) f ≡ Some (tag_of x) =
    ap (λ (l : List Tag). slice_get l f) (sym same) ∙ slice_get-map tag_of ir.funcs f ∙ ap (option_map tag_of) e in
    elim (get_cases (enter_tags 0 (length ir.scopes)) (tags_from 0 ir.nodes) f (tag_of x) there) [
      | inl c ↦ let (s, l) = enter_get 0 (length ir.scopes) f (tag_of x) c in let z : 0 + f ≡ f = omega arith in inl (s ∙ ap (λ n. Enters n) z, l)
      | inr c ↦ let (j, k, g) = c in let n = length-enter_tags 0 (length ir.scopes) in inr (j, omega (arith, k, n), tagged 0 ir.nodes j (tag_of x) g)
    ]

number_is : (ir : Ir) → IsWellFormed ir → (f j g : ℕ) → f ≡ length ir.scopes + j → slice_get (func_numbers ir.nodes) j ≡ Some g → g ≡ f
number_is ir w f j g k e =
    let (a, b) = and_parts (same_tags (map tag_of ir.funcs) (enter_tags 0 (length ir.scopes) ++ tags_from 0 ir.nodes)) (same_numbers (func_numbers ir.nodes) (range (length ir.scopes) (length (func_numbers ir.nodes)))) w.funcs in
    let same : func_numbers ir.nodes ≡ range (length ir.scopes) (length (func_numbers ir.nodes)) = same_numbers_is (func_numbers ir.nodes) (range (length ir.scopes) (length (func_numbers ir.nodes))) b in
    let s : g ≡ length ir.scopes + j = range_get (length ir.scopes) (length (func_numbers ir.nodes)) j g (ap (λ (l : List ℕ). slice_get l j) (sym same) ∙ e) in
    omega (arith, s, k)

-- the node of a Task's or a fan's tag
node_of_tag : (ir : Ir) (w : IsWellFormed ir) (f j node : ℕ) (t : Tag) → f ≡ length ir.scopes + j → Tagged 0 ir.nodes j t → (t ≡ Calls node) ⊎ (t ≡ Joins node) →
    (n : Node) × (node_at ir node ≡ Some n) × (op_tag node n.op ≡ t ∷ []) × (func_of n.op ≡ Some f)
node_of_tag ir w f j node t k v h =
    let z : 0 + v.i ≡ node = own_tag (0 + v.i) node v.n.op t v.tag h in
    let i_is : v.i ≡ node = omega (arith, z) in
    (v.n, ap (slice_get ir.nodes) (sym i_is) ∙ v.found, subst (λ x. op_tag x v.n.op ≡ t ∷ []) z v.tag, v.func ∙ ap Some (number_is ir w f j v.f k v.number))

pub funcs_there : FuncsThere
funcs_there ir w f (EnterFunc scope) e = elim (tag_case ir w f (EnterFunc scope) e) [
  | inl a ↦ (scope_is scope f a.0, a.1)
  | inr b ↦ let (j, k, v) = b in absurd (no_enter (0 + v.i) scope v.n.op v.tag)
]
  where
    scope_is : (a b : ℕ) → Enters a ≡ Enters b → a ≡ b
    scope_is a b s = ap number s
      where
        number : Tag → ℕ
        number (Enters k) = k
        number (Calls k) = k
        number (Joins k) = k
funcs_there ir w f (TaskFunc node resource) e = elim (tag_case ir w f (TaskFunc node resource) e) [
  | inl a ↦ absurd (let bad : Calls node ≡ Enters f = a.0 in cc)
  | inr b ↦ let (j, k, v) = b in node_of_tag ir w f j node (Calls node) k v (inl refl)
]
funcs_there ir w f (JoinFunc node) e = elim (tag_case ir w f (JoinFunc node) e) [
  | inl a ↦ absurd (let bad : Joins node ≡ Enters f = a.0 in cc)
  | inr b ↦ let (j, k, v) = b in node_of_tag ir w f j node (Joins node) k v (inr refl)
]
