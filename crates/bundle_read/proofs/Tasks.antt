-- Each Task among a machine's functions calls a function of the table, where no state calls another one.
use Rattle.std.proofs.Common.{◌≡◌, ◌⊎◌, inl, inr, ℕ, zero, suc, Bool, true, false, not, ◌||◌, IsFalse, List, [], ◌∷◌, ◌++◌, map, flat_map, slice_get, Some, None, Option, is_some, refl, sym, ap, ◌∙◌, subst}
use Rattle.std.specs.List.{list_any}
use Rattle.unum_json.specs.Keys.{find_key}
use Rattle.fn_table.specs.declared.kind.FnKind.{FnKind}
use Rattle.asl_model.specs.Machine.{Block, State, Task, Pass, Choice, Succeed, Fail, Parallel, Map}
use Rattle.asl_model.specs.Central.{Visited, Entered, Called, Joined}
use Rattle.asl_model.specs.Blocks.{Row, Function, blocks, rows, nodes, visited_at, calls_of, functions, function_at}
use Rattle.asl_model.specs.Laws.{In}
use Rattle.asl_model.proofs.Lists.{In-left, In-right, In-cases}
use Rattle.world_model.proofs.Gets.{get_in}
use Rattle.bundle_read.specs.Bounds.{Text, Functions, knows, calls_another, calls_others}

-- ---------------------------------------------------------------- lists

neither : (a b : Bool) → a || b ≡ false → (a ≡ false) × (b ≡ false)
neither true b h = absurd (cc)
neither false b h = (refl, h)

-- what stands in a list, where nothing in it passes a test
none_passes : {A : Type 0} (test : A → Bool) (xs : List A) → list_any test xs ≡ false → (x : A) → In x xs → test x ≡ false
none_passes test [] h x i = absurd i
none_passes test (y ∷ xs) h x i = let (e, q) = neither (test y) (list_any test xs) h in elim i [ inl j ↦ ap test j ∙ e | inr j ↦ none_passes test xs q x j ]

in_map : {A B : Type 0} (f : A → B) (xs : List A) (y : B) → In y (map f xs) → (x : A) × In x xs × (y ≡ f x)
in_map f [] y i = absurd i
in_map f (x ∷ xs) y (inl e) = (x, inl refl, e)
in_map f (x ∷ xs) y (inr i) = let (z, j, e) = in_map f xs y i in (z, inr j, e)

in_each : {A B : Type 0} (f : A → List B) (xs : List A) (y : B) → In y (flat_map f xs) → (x : A) × In x xs × In y (f x)
in_each f [] y i = absurd i
in_each f (x ∷ xs) y i = elim (In-cases (f x) (flat_map f xs) y i) [
  | inl j ↦ (x, inl refl, j)
  | inr j ↦ let (z, k, l) = in_each f xs y j in (z, inr k, l)
]

each_in : {A B : Type 0} (f : A → List B) (xs : List A) (x : A) (y : B) → In x xs → In y (f x) → In y (flat_map f xs)
each_in f [] x y i j = absurd i
each_in f (z ∷ xs) x y (inl e) j = In-left (f z) (flat_map f xs) y (subst (λ t. In y (f t)) e j)
each_in f (z ∷ xs) x y (inr i) j = In-right (f z) (flat_map f xs) y (each_in f xs x y i j)

-- ---------------------------------------------------------------- machines

-- what a state that is visited as that Task calls
calls_it : (fns : Functions) (name : Text) (s : State) (state resource : Text) → In (Called state resource) (visited_at name s) → calls_another fns s ≡ not (knows fns resource)
calls_it fns name (Task shape r after care) state resource (inl e) = let q : resource ≡ r = cc in ap (λ (z : Text). not (knows fns z)) (sym q)
calls_it fns name (Task shape r after care) state resource (inr i) = absurd i
calls_it fns name (Parallel shape bs after care) state resource (inl e) = absurd (cc)
calls_it fns name (Parallel shape bs after care) state resource (inr i) = absurd i
calls_it fns name (Map shape items selector b after care limit) state resource (inl e) = absurd (cc)
calls_it fns name (Map shape items selector b after care limit) state resource (inr i) = absurd i
calls_it fns name (Pass shape result after) state resource i = absurd i
calls_it fns name (Choice shape choices default) state resource i = absurd i
calls_it fns name (Succeed shape) state resource i = absurd i
calls_it fns name (Fail error cause) state resource i = absurd i

-- the state of a Task among the functions
task_row : (root b : Block) (state resource : Text) → In (b, Called state resource) (functions root) → (r : Row) × In r (nodes root) × In (Called state resource) (visited_at r.0 r.1)
task_row root b state resource i = elim (In-cases (map (λ (c : Block). (c, Entered)) (blocks root)) (flat_map calls_of (blocks root)) (b, Called state resource) i) [
  | inl j ↦ let (c, k, e) = in_map (λ (c : Block). (c, Entered)) (blocks root) (b, Called state resource) j in absurd (let q : Called state resource ≡ Entered = ap (λ (z : Function). z.1) e in cc)
  | inr j ↦
      let (c, k, l) = in_each calls_of (blocks root) (b, Called state resource) j in
      let (v, m, e) = in_map (λ (v : Visited). (c, v)) (flat_map (λ (r : Row). visited_at r.0 r.1) (rows c)) (b, Called state resource) l in
      let (r, n, o) = in_each (λ (r : Row). visited_at r.0 r.1) (rows c) v m in
      let q : v ≡ Called state resource = sym (ap (λ (z : Function). z.1) e) in
      (r, each_in rows (blocks root) c r k n, subst (λ z. In z (visited_at r.0 r.1)) q o)
]

known_by : (b : Bool) → not b ≡ false → b ≡ true
known_by true e = refl
known_by false e = absurd (cc)

found : {V : Type 0} (x : Option V) → is_some x ≡ true → (v : V) × (x ≡ Some v)
found None e = absurd (cc)
found (Some v) e = (v, refl)

-- the function of a Task, where no state calls one that is not there
pub task_known : (fns : Functions) (root : Block) → IsFalse (calls_others fns root) → (n : ℕ) (b : Block) (state resource : Text) →
    function_at root n ≡ Some (b, Called state resource) → (kind : FnKind) × (find_key resource fns ≡ Some kind)
task_known fns root h n b state resource e =
    let (r, j, k) = task_row root b state resource (get_in (functions root) n (b, Called state resource) e) in
    let q : not (knows fns resource) ≡ false = sym (calls_it fns r.0 r.1 state resource k) ∙ none_passes (λ (r : Row). calls_another fns r.1) (nodes root) h r j in
    found (find_key resource fns) (known_by (knows fns resource) q)
