-- The functions of a well formed flat form: the Enter of each scope, and that of each Task's and each fan's node.
use Rattle.std.proofs.Common.{◌≡◌, ℕ, zero, suc, ◌+◌, ◌<◌, ◌≤◌, ◌⊎◌, inl, inr, Bool, true, List, [], ◌∷◌, ◌++◌, Option, Some, None, map, length, slice_get, option_map, refl, sym, ap, ◌∙◌, arith}
use Rattle.std.specs.List.{list_all}
use Rattle.std.proofs.lemmas.Bool.{and_parts, eqb-true}
use Rattle.std.proofs.lemmas.Option.{same_Some, slice_get-map}
use Rattle.std.proofs.lemmas.Slice.Eq.{bytes_eq-Decides}
use Rattle.asl_model.specs.Laws.{In}
use Rattle.asl_model.specs.Valid.{one_or_none}
use Rattle.place_name.specs.declared.kind.Kind.{Kind}
use Rattle.place_name.specs.declared.kind.Kind.TheVariants as kinds
use Rattle.unum_ir.specs.declared.ir.Ir.{Ir}
use Rattle.unum_ir.specs.declared.ir.Node.{Node}
use Rattle.unum_ir.specs.declared.ir.Op.{Op}
use Rattle.unum_ir.specs.declared.ir.Func.{Func}
use Rattle.unum_ir.specs.declared.ir.Op.TheVariants.{Pass as PassOp, Choice as ChoiceOp, Succeed as SucceedOp, Fail as FailOp, Task as TaskOp, Parallel as ParallelOp, Map as MapOp}
use Rattle.unum_ir.specs.declared.ir.Func.TheVariants.{Enter as EnterFunc, Task as TaskFunc, Join as JoinFunc}
use Rattle.unum_ir.specs.Flat.{func_of, node_at}
use Rattle.unum_ir.specs.Calls.{scope_by, scope_in, enter_of}
use Rattle.unum_ir.specs.WellFormed.{IsWellFormed, range, same_numbers, Tag, Enters, Calls, Joins, tag_of, same_tag, same_tags, enter_tags, op_tag, tags_from, func_numbers}
use Rattle.continuation_gen.proofs.Lists.{get_left, get_right}
use Rattle.world_ranges.specs.Roles.{Role, IsSite}
use Rattle.world_ranges.specs.Flat.{fans_round, kind_of, role_in}

-- ---------------------------------------------------------------- tests

pub all_of : {X : Type 0} (test : X → Bool) (xs : List X) → list_all test xs ≡ true → (x : X) → In x xs → test x ≡ true
all_of test [] e x i = absurd i
all_of test (y ∷ ys) e x i = let (p, q) = and_parts (test y) (list_all test ys) e in elim i [ inl s ↦ ap test s ∙ p | inr t ↦ all_of test ys q x t ]

pub same_numbers_is : (a b : List ℕ) → same_numbers a b ≡ true → a ≡ b
unfolding same_numbers
same_numbers_is a b e = (bytes_eq-Decides a b).0 e

same_tag_is : (t u : Tag) → same_tag t u ≡ true → t ≡ u
same_tag_is (Enters a) (Enters b) e = ap (λ n. Enters n) (eqb-true a b e)
same_tag_is (Calls a) (Calls b) e = ap (λ n. Calls n) (eqb-true a b e)
same_tag_is (Joins a) (Joins b) e = ap (λ n. Joins n) (eqb-true a b e)
same_tag_is (Enters a) (Calls b) e = absurd (cc)
same_tag_is (Enters a) (Joins b) e = absurd (cc)
same_tag_is (Calls a) (Enters b) e = absurd (cc)
same_tag_is (Calls a) (Joins b) e = absurd (cc)
same_tag_is (Joins a) (Enters b) e = absurd (cc)
same_tag_is (Joins a) (Calls b) e = absurd (cc)

same_tags_is : (ts us : List Tag) → same_tags ts us ≡ true → ts ≡ us
same_tags_is [] [] e = refl
same_tags_is [] (u ∷ us) e = absurd (cc)
same_tags_is (t ∷ ts) [] e = absurd (cc)
same_tags_is (t ∷ ts) (u ∷ us) e =
    let (p, q) = and_parts (same_tag t u) (same_tags ts us) e in
    let s : t ≡ u = same_tag_is t u p in
    let r : ts ≡ us = same_tags_is ts us q in
    cc

range_get : (k n j f : ℕ) → slice_get (range k n) j ≡ Some f → f ≡ k + j
range_get k zero j f e = absurd (cc)
range_get k (suc n) zero f e = let s : k ≡ f = same_Some k f e in omega arith
range_get k (suc n) (suc j) f e = let s : f ≡ suc k + j = range_get (suc k) n j f e in omega arith

le_cases : (a b : ℕ) → a ≤ b → (b ≡ a) ⊎ (suc a ≤ b)
le_cases zero zero l = inl refl
le_cases zero (suc b) l = inr (omega arith)
le_cases (suc a) zero l = absurd (omega arith)
le_cases (suc a) (suc b) l = elim (le_cases a b (omega arith)) [ inl e ↦ inl (ap suc e) | inr m ↦ inr (omega arith) ]

pub range_in : (k n x : ℕ) → k ≤ x → x < k + n → In x (range k n)
range_in k zero x l h = absurd (omega arith)
range_in k (suc n) x l h = elim (le_cases k x l) [ inl e ↦ inl e | inr m ↦ inr (range_in (suc k) n x m (omega arith)) ]

enter_get : (k n j : ℕ) → j < n → slice_get (enter_tags k n) j ≡ Some (Enters (k + j))
enter_get k zero j l = absurd (omega arith)
enter_get k (suc n) zero l = let z : k ≡ k + 0 = omega arith in ap (λ m. Some (Enters m)) z
enter_get k (suc n) (suc j) l = let z : suc k + j ≡ k + suc j = omega arith in enter_get (suc k) n j (omega arith) ∙ ap (λ m. Some (Enters m)) z

length-enter_tags : (k n : ℕ) → length (enter_tags k n) ≡ n
length-enter_tags k zero = refl
length-enter_tags k (suc n) = ap suc (length-enter_tags (suc k) n)

-- ---------------------------------------------------------------- nodes

-- a node has a tag exactly where it has a function
as_many : (node : ℕ) (op : Op) → length (op_tag node op) ≡ length (one_or_none (func_of op))
as_many node (PassOp shape result next) = refl
as_many node (ChoiceOp shape rules default) = refl
as_many node (SucceedOp shape) = refl
as_many node (FailOp error cause) = refl
as_many node (TaskOp shape func next care) = refl
as_many node (ParallelOp shape func next care scopes) = refl
as_many node (MapOp shape func next care scope items selector limit) = refl

-- where a node's tag and its function stand
placed_tag : (k : ℕ) (ns : List Node) (i : ℕ) (n : Node) → slice_get ns i ≡ Some n → (t : Tag) (f : ℕ) → op_tag (k + i) n.op ≡ t ∷ [] → func_of n.op ≡ Some f →
    (j : ℕ) × (slice_get (tags_from k ns) j ≡ Some t) × (slice_get (func_numbers ns) j ≡ Some f)
placed_tag k [] i n e t f a b = absurd (cc)
placed_tag k (m ∷ ns) zero n e t f a b =
    let same : n ≡ m = sym (same_Some m n e) in
    let z : k + 0 ≡ k = omega arith in
    let tag : op_tag k m.op ≡ t ∷ [] = ap (λ (x : Node). op_tag k x.op) (sym same) ∙ ap (λ j. op_tag j n.op) (sym z) ∙ a in
    let func : func_of m.op ≡ Some f = ap (λ (x : Node). func_of x.op) (sym same) ∙ b in (
      0,
      ap (λ (l : List Tag). slice_get (l ++ tags_from (suc k) ns) 0) tag,
      ap (λ (o : Option ℕ). slice_get (one_or_none o ++ func_numbers ns) 0) func,
    )
placed_tag k (m ∷ ns) (suc i) n e t f a b =
    let z : k + suc i ≡ suc k + i = omega arith in
    let (j, p, q) = placed_tag (suc k) ns i n e t f (ap (λ x. op_tag x n.op) (sym z) ∙ a) b in
    let c = as_many k m.op in (
      length (op_tag k m.op) + j,
      get_right (op_tag k m.op) (tags_from (suc k) ns) (length (op_tag k m.op) + j) j refl ∙ p,
      get_right (one_or_none (func_of m.op)) (func_numbers ns) (length (op_tag k m.op) + j) j (ap (λ x. x + j) c) ∙ q,
    )

-- ---------------------------------------------------------------- functions

found_tag : (o : Option Func) (t : Tag) → option_map tag_of o ≡ Some t → (x : Func) × (o ≡ Some x) × (tag_of x ≡ t)
found_tag None t e = absurd (cc)
found_tag (Some x) t e = (x, refl, same_Some (tag_of x) t e)

enter_is : (x : Func) (k : ℕ) → tag_of x ≡ Enters k → x ≡ EnterFunc k
enter_is (EnterFunc scope) k e = ap (λ n. EnterFunc n) (number e)
  where
    at : Tag → ℕ
    at (Enters j) = j
    at (Calls j) = j
    at (Joins j) = j

    number : {a b : ℕ} → Enters a ≡ Enters b → a ≡ b
    number e = ap at e
enter_is (TaskFunc node resource) k e = absurd (cc)
enter_is (JoinFunc node) k e = absurd (cc)

-- ---------------------------------------------------------------- roles

module _ (ir : Ir) where
  abbrev role : Func → ℕ → Role
  role x f = record { kind = kind_of x; fans = fans_round ir f }

  pub role_at : (f : ℕ) (x : Func) → slice_get ir.funcs f ≡ Some x → IsSite (role_in ir) f (kind_of x) (fans_round ir f)
  role_at f x e = ap (option_map (λ (y : Func). role y f)) e

  role_by : (f : ℕ) (o : Option Func) (kind : Kind) (n : ℕ) → option_map (λ (y : Func). role y f) o ≡ Some (record { kind = kind; fans = n }) → (x : Func) × (o ≡ Some x) × (kind_of x ≡ kind) × (fans_round ir f ≡ n)
  role_by f None kind n e = absurd (cc)
  role_by f (Some x) kind n e =
      let r : Role = record { kind = kind; fans = n } in
      let same : role x f ≡ r = same_Some (role x f) r e in
      (x, refl, ap (λ (y : Role). y.kind) same, ap (λ (y : Role). y.fans) same)

  pub role_back : (f : ℕ) (kind : Kind) (n : ℕ) → IsSite (role_in ir) f kind n → (x : Func) × (slice_get ir.funcs f ≡ Some x) × (kind_of x ≡ kind) × (fans_round ir f ≡ n)
  role_back f kind n e = role_by f (slice_get ir.funcs f) kind n e

module _ (ir : Ir) (w : IsWellFormed ir) where
  parts : (same_tags (map tag_of ir.funcs) (enter_tags 0 (length ir.scopes) ++ tags_from 0 ir.nodes) ≡ true) × (same_numbers (func_numbers ir.nodes) (range (length ir.scopes) (length (func_numbers ir.nodes))) ≡ true)
  parts = and_parts (same_tags (map tag_of ir.funcs) (enter_tags 0 (length ir.scopes) ++ tags_from 0 ir.nodes)) (same_numbers (func_numbers ir.nodes) (range (length ir.scopes) (length (func_numbers ir.nodes)))) w.funcs

  tags_are : map tag_of ir.funcs ≡ enter_tags 0 (length ir.scopes) ++ tags_from 0 ir.nodes
  tags_are = same_tags_is (map tag_of ir.funcs) (enter_tags 0 (length ir.scopes) ++ tags_from 0 ir.nodes) parts.0

  func_at : (f : ℕ) (t : Tag) → slice_get (enter_tags 0 (length ir.scopes) ++ tags_from 0 ir.nodes) f ≡ Some t → (x : Func) × (slice_get ir.funcs f ≡ Some x) × (tag_of x ≡ t)
  func_at f t e = found_tag (slice_get ir.funcs f) t (sym (slice_get-map tag_of ir.funcs f) ∙ ap (λ (l : List Tag). slice_get l f) tags_are ∙ e)

  -- a scope's number is that of its Enter
  pub enter_there : (k : ℕ) → k < length ir.scopes → slice_get ir.funcs k ≡ Some (EnterFunc k)
  enter_there k l =
      let z : 0 + k ≡ k = omega arith in
      let tag : slice_get (enter_tags 0 (length ir.scopes) ++ tags_from 0 ir.nodes) k ≡ Some (Enters k) =
      get_left (enter_tags 0 (length ir.scopes)) (tags_from 0 ir.nodes) k (Enters k) (enter_get 0 (length ir.scopes) k l ∙ ap (λ m. Some (Enters m)) z) in
      let (x, e, t) = func_at k (Enters k) tag in
      e ∙ ap Some (enter_is x k t)

  -- a node with a tag has a function of that tag
  pub func_there : (label : ℕ) (n : Node) → node_at ir label ≡ Some n → (t : Tag) (f : ℕ) → op_tag label n.op ≡ t ∷ [] → func_of n.op ≡ Some f → (x : Func) × (slice_get ir.funcs f ≡ Some x) × (tag_of x ≡ t)
  func_there label n e t f a b =
      let z : 0 + label ≡ label = omega arith in
      let (j, p, q) = placed_tag 0 ir.nodes label n e t f (ap (λ x. op_tag x n.op) z ∙ a) b in
      let numbers : func_numbers ir.nodes ≡ range (length ir.scopes) (length (func_numbers ir.nodes)) = same_numbers_is (func_numbers ir.nodes) (range (length ir.scopes) (length (func_numbers ir.nodes))) parts.1 in
      let f_is : f ≡ length ir.scopes + j = range_get (length ir.scopes) (length (func_numbers ir.nodes)) j f (ap (λ (l : List ℕ). slice_get l j) (sym numbers) ∙ q) in
      let c = length-enter_tags 0 (length ir.scopes) in
      func_at f t (get_right (enter_tags 0 (length ir.scopes)) (tags_from 0 ir.nodes) f j (omega (arith, f_is, c)) ∙ p)

  -- the function of a Task's node, and that of a fan's, run in the node's scope
  pub task_there : (label : ℕ) (n : Node) → node_at ir label ≡ Some n → (f : ℕ) → op_tag label n.op ≡ Calls label ∷ [] → func_of n.op ≡ Some f → IsSite (role_in ir) f kinds.Task (fans_round ir f) × (enter_of ir f ≡ n.scope)
  task_there label n e f a b = let (x, g, t) = func_there label n e (Calls label) f a b in by x g t
    where
      by : (x : Func) → slice_get ir.funcs f ≡ Some x → tag_of x ≡ Calls label → IsSite (role_in ir) f kinds.Task (fans_round ir f) × (enter_of ir f ≡ n.scope)
      by (EnterFunc scope) g t = absurd (cc)
      by (JoinFunc node) g t = absurd (cc)
      by (TaskFunc node resource) g t =
          let s : node ≡ label = number t in
          (role_at ir f (TaskFunc node resource) g, ap (scope_by ir) g ∙ ap (λ k. scope_in (node_at ir k)) s ∙ ap scope_in e)
        where
          at : Tag → ℕ
          at (Enters j) = j
          at (Calls j) = j
          at (Joins j) = j

          number : {a b : ℕ} → Calls a ≡ Calls b → a ≡ b
          number t = ap at t

  pub join_there : (label : ℕ) (n : Node) → node_at ir label ≡ Some n → (f : ℕ) → op_tag label n.op ≡ Joins label ∷ [] → func_of n.op ≡ Some f → IsSite (role_in ir) f kinds.Join (fans_round ir f) × (enter_of ir f ≡ n.scope)
  join_there label n e f a b = let (x, g, t) = func_there label n e (Joins label) f a b in by x g t
    where
      by : (x : Func) → slice_get ir.funcs f ≡ Some x → tag_of x ≡ Joins label → IsSite (role_in ir) f kinds.Join (fans_round ir f) × (enter_of ir f ≡ n.scope)
      by (EnterFunc scope) g t = absurd (cc)
      by (TaskFunc node resource) g t = absurd (cc)
      by (JoinFunc node) g t =
          let s : node ≡ label = number t in
          (role_at ir f (JoinFunc node) g, ap (scope_by ir) g ∙ ap (λ k. scope_in (node_at ir k)) s ∙ ap scope_in e)
        where
          at : Tag → ℕ
          at (Enters j) = j
          at (Calls j) = j
          at (Joins j) = j

          number : {a b : ℕ} → Joins a ≡ Joins b → a ≡ b
          number t = ap at t
