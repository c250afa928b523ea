-- Functions and their numbers.
use Rattle.std.proofs.Common.{◌≡◌, ℕ, zero, suc, ◌<◌, map, flat_map, slice_get, List, [], ◌∷◌, ◌++◌, Some, Bool, true, false, refl, sym, ap, ◌∙◌, subst, inl, inr, arith, if◌then◌else◌}
use Rattle.std.specs.declared.cmp.Ordering.TheVariants.{Less, Equal}
use Rattle.std.specs.Ordering.{nat_cmp}
use Rattle.std.specs.List.{AllByRecursion}
use Rattle.std.specs.List.Sorted.{IsStrictlySortedBy}
use Rattle.std.specs.Cmp.Lexicographic.{slice_cmp}
use Rattle.std.proofs.lemmas.Cmp.{nat_list_cmp_total, tied_itself}
use Rattle.unum_json.specs.Keys.{IsRising}
use Rattle.asl_model.specs.Data.{Text, same_text}
use Rattle.asl_model.specs.Machine.{Block, block, States, no_state, and_state, State, Task, Pass, Choice, Succeed, Fail, Parallel, Map, Blocks, no_block, and_block, start_of, state_of, states_of, find_state}
use Rattle.asl_model.specs.Central.{Visited, Entered, Called, Joined}
use Rattle.asl_model.specs.Laws.{In}
use Rattle.asl_model.specs.Blocks.{Nested, nested_at, nested_within, nested_under, nested_all, blocks, Row, rows, rows_of, visited_at, Function, calls_of, functions}
use Rattle.asl_model.specs.Walked.{HasRisingNames, RisesWithin, RisesUnder, RisesAll, names_of}
use Rattle.asl_model.specs.Valid.{IsValid}
use Rattle.asl_model.specs.Numbers.{EnterNumber, IsVisitIn, NumberMeans, EachHasNumber, OneNumber, StateFound}
use Rattle.asl_model.proofs.Lists.{In-left, In-right, In-cases}
use Rattle.asl_model.proofs.Found.{same_text_is, same_text_itself, row_of}

-- ---- lists

index_of : {X : Type 0} (xs : List X) (x : X) → In x xs → (i : ℕ) × (slice_get xs i ≡ Some x)
index_of [] x h = absurd h
index_of (y ∷ ys) x h = elim h [ inl e ↦ (0, ap Some (sym e)) | inr t ↦ let (i, g) = index_of ys x t in (suc i, g) ]

at_index : {X : Type 0} (xs : List X) (i : ℕ) (x : X) → slice_get xs i ≡ Some x → In x xs
at_index [] i x e = absurd (cc)
at_index (y ∷ ys) zero x e = inl (cc)
at_index (y ∷ ys) (suc i) x e = inr (at_index ys i x e)

get_left : {X : Type 0} (xs ys : List X) (i : ℕ) (x : X) → slice_get xs i ≡ Some x → slice_get (xs ++ ys) i ≡ Some x
get_left [] ys i x e = absurd (cc)
get_left (z ∷ zs) ys zero x e = e
get_left (z ∷ zs) ys (suc i) x e = get_left zs ys i x e

get_map : {X Y : Type 0} (f : X → Y) (xs : List X) (i : ℕ) (x : X) → slice_get xs i ≡ Some x → slice_get (map f xs) i ≡ Some (f x)
get_map f [] i x e = absurd (cc)
get_map f (y ∷ ys) zero x e = let same : y ≡ x = cc in ap (λ z. Some (f z)) same
get_map f (y ∷ ys) (suc i) x e = get_map f ys i x e

pub in_map : {X Y : Type 0} (f : X → Y) (xs : List X) (x : X) → In x xs → In (f x) (map f xs)
in_map f [] x h = absurd h
in_map f (y ∷ ys) x h = elim h [ inl e ↦ inl (ap f e) | inr t ↦ inr (in_map f ys x t) ]

of_map : {X Y : Type 0} (f : X → Y) (xs : List X) (y : Y) → In y (map f xs) → (x : X) × In x xs × (y ≡ f x)
of_map f [] y h = absurd h
of_map f (x ∷ xs) y h = elim h [ inl e ↦ (x, inl refl, e) | inr t ↦ let (z, i, q) = of_map f xs y t in (z, inr i, q) ]

in_flat : {X Y : Type 0} (f : X → List Y) (xs : List X) (x : X) (y : Y) → In x xs → In y (f x) → In y (flat_map f xs)
in_flat f [] x y h k = absurd h
in_flat f (z ∷ zs) x y h k =
    elim h [ inl e ↦ In-left (f z) (flat_map f zs) y (subst (λ w. In y (f w)) e k) | inr t ↦ In-right (f z) (flat_map f zs) y (in_flat f zs x y t k) ]

of_flat : {X Y : Type 0} (f : X → List Y) (xs : List X) (y : Y) → In y (flat_map f xs) → (x : X) × In x xs × In y (f x)
of_flat f [] y h = absurd h
of_flat f (z ∷ zs) y h =
    elim (In-cases (f z) (flat_map f zs) y h) [ inl a ↦ (z, inl refl, a) | inr t ↦ let (x, i, j) = of_flat f zs y t in (x, inr i, j) ]

-- no element stands twice
abbrev AreDifferent : {X : Type 0} → List X → Type 0
AreDifferent [] = Unit {0}
AreDifferent (x ∷ xs) = (In x xs → ⊥) × AreDifferent xs

one_index : {X : Type 0} (xs : List X) (i j : ℕ) (x : X) → AreDifferent xs → slice_get xs i ≡ Some x → slice_get xs j ≡ Some x → i ≡ j
one_index [] i j x d e f = absurd (cc)
one_index (y ∷ ys) zero zero x d e f = refl
one_index (y ∷ ys) zero (suc j) x d e f = let same : y ≡ x = cc in absurd (d.0 (at_index ys j y (f ∙ ap Some (sym same))))
one_index (y ∷ ys) (suc i) zero x d e f = let same : y ≡ x = cc in absurd (d.0 (at_index ys i y (e ∙ ap Some (sym same))))
one_index (y ∷ ys) (suc i) (suc j) x d e f = ap suc (one_index ys i j x d.1 e f)

different_append : {X : Type 0} (xs ys : List X) → AreDifferent xs → AreDifferent ys → ((x : X) → In x xs → In x ys → ⊥) → AreDifferent (xs ++ ys)
different_append [] ys d e h = e
different_append (x ∷ xs) ys d e h =
    ((λ i. elim (In-cases xs ys x i) [ inl a ↦ d.0 a | inr b ↦ h x (inl refl) b ]), different_append xs ys d.1 e (λ z i j. h z (inr i) j))

different_map : {X Y : Type 0} (f : X → Y) (xs : List X) → ((x y : X) → f x ≡ f y → x ≡ y) → AreDifferent xs → AreDifferent (map f xs)
different_map f [] h d = tt
different_map f (x ∷ xs) h d = ((λ i. let (y, j, e) = of_map f xs (f x) i in d.0 (subst (λ z. In z xs) (sym (h x y e)) j)), different_map f xs h d.1)

different_by : {X : Type 0} (xs : List X) → ((i j : ℕ) (x : X) → i < j → slice_get xs i ≡ Some x → slice_get xs j ≡ Some x → ⊥) → AreDifferent xs
different_by [] h = tt
different_by (x ∷ xs) h = ((λ i. let (j, e) = index_of xs x i in h 0 (suc j) x (omega arith) refl e), different_by xs (λ i j y l e f. h (suc i) (suc j) y (omega arith) e f))

-- ---- names within a block

below_all : (n m : Text) (ns : List Text) → AllByRecursion (λ y. slice_cmp nat_cmp n y ≡ Less) ns → In m ns → slice_cmp nat_cmp n m ≡ Less
below_all n m [] h i = absurd i
below_all n m (k ∷ ks) h i = elim i [ inl e ↦ subst (λ z. slice_cmp nat_cmp n z ≡ Less) (sym e) h.0 | inr t ↦ below_all n m ks h.1 t ]

rising_different : (ns : List Text) → IsRising ns → AreDifferent ns
unfolding IsStrictlySortedBy
rising_different [] r = tt
rising_different (n ∷ ns) r =
    ((λ i. let l : slice_cmp nat_cmp n n ≡ Less = below_all n n ns r.0 i in let e : slice_cmp nat_cmp n n ≡ Equal = tied_itself nat_list_cmp_total n in absurd (cc)), rising_different ns r.1)

row_name : (states : States) (r : Row) → In r (rows_of states) → In r.0 (names_of states)
row_name no_state r i = absurd i
row_name (and_state m st rest) r i = elim i [ inl e ↦ inl (ap (λ (q : Row). q.0) e) | inr t ↦ inr (row_name rest r t) ]

row_first : (m : Text) (st : State) (rest : States) (t : Bool) → t ≡ true → (if t then Some st else find_state rest m) ≡ Some st
row_first m st rest true h = refl
row_first m st rest false h = absurd (cc)

row_later : (m : Text) (st : State) (rest : States) (r : Row) (t : Bool) → same_text m r.0 ≡ t → (In m (names_of rest) → ⊥) → In r (rows_of rest) → find_state rest r.0 ≡ Some r.1 → (if t then Some st else find_state rest r.0) ≡ Some r.1
row_later m st rest r true h d i e = absurd (d (subst (λ n. In n (names_of rest)) (sym (same_text_is m r.0 h)) (row_name rest r i)))
row_later m st rest r false h d i e = e

row_found : (states : States) → AreDifferent (names_of states) → (r : Row) → In r (rows_of states) → find_state states r.0 ≡ Some r.1
row_found no_state d r i = absurd i
row_found (and_state m st rest) d r i =
    elim i [
      | inl e ↦ subst (λ (q : Row). find_state (and_state m st rest) q.0 ≡ Some q.1) (sym e) (row_first m st rest (same_text m m) (same_text_itself m))
      | inr t ↦ row_later m st rest r (same_text m r.0) refl d.0 t (row_found rest d.1 r t)
    ]

abbrev HasDifferentNames : Block → Type 0
HasDifferentNames b = AreDifferent (names_of (states_of b))

mutual
  rising_at : (d : ℕ) (b : Block) → HasRisingNames b → (n : Nested) → In n (nested_at d b) → HasDifferentNames n.block
  rising_at d (block start states) h n i =
      elim i [ inl e ↦ subst (λ (k : Nested). HasDifferentNames k.block) (sym e) (rising_different (names_of states) h.0) | inr t ↦ rising_within (suc d) states h.1 n t ]

  rising_within : (d : ℕ) (states : States) → RisesWithin states → (n : Nested) → In n (nested_within d states) → HasDifferentNames n.block
  rising_within d no_state h n i = absurd i
  rising_within d (and_state name s rest) h n i =
      elim (In-cases (nested_under d s) (nested_within d rest) n i) [ inl a ↦ rising_under d s h.0 n a | inr t ↦ rising_within d rest h.1 n t ]

  rising_under : (d : ℕ) (s : State) → RisesUnder s → (n : Nested) → In n (nested_under d s) → HasDifferentNames n.block
  rising_under d (Task shape resource after care) h n i = absurd i
  rising_under d (Pass shape result after) h n i = absurd i
  rising_under d (Choice shape rules default) h n i = absurd i
  rising_under d (Succeed shape) h n i = absurd i
  rising_under d (Fail error cause) h n i = absurd i
  rising_under d (Parallel shape bs after care) h n i = rising_all d bs h n i
  rising_under d (Map shape items selector b after care limit) h n i = rising_at d b h n i

  rising_all : (d : ℕ) (bs : Blocks) → RisesAll bs → (n : Nested) → In n (nested_all d bs) → HasDifferentNames n.block
  rising_all d no_block h n i = absurd i
  rising_all d (and_block b bs) h n i =
      elim (In-cases (nested_at d b) (nested_all d bs) n i) [ inl a ↦ rising_at d b h.0 n a | inr t ↦ rising_all d bs h.1 n t ]

names_differ : (root : Block) → HasRisingNames root → (b : Block) → In b (blocks root) → HasDifferentNames b
names_differ root h b i =
    let (n, j, e) = of_map (λ (n : Nested). n.block) (nested_at 1 root) b i in
    subst HasDifferentNames (sym e) (rising_at 1 root h n j)

found_in : (b : Block) → HasDifferentNames b → (r : Row) → In r (rows b) → state_of b r.0 ≡ Some r.1
found_in (block start states) d r i = row_found states d r i

pub state_found_lem : StateFound
state_found_lem root h b i r j = found_in b (names_differ root h b i) r j

-- ---- functions

pub enter_number_lem : EnterNumber
enter_number_lem root s b e =
    get_left (map (λ b. (b, Entered)) (blocks root)) (flat_map calls_of (blocks root)) s (b, Entered) (get_map (λ b. (b, Entered)) (blocks root) s b e)

abbrev visited_in : Block → List Visited
visited_in b = flat_map (λ (r : Row). visited_at r.0 r.1) (rows b)

pub number_means_lem : NumberMeans
number_means_lem root h f x e =
    elim (In-cases (map (λ b. (b, Entered)) (blocks root)) (flat_map calls_of (blocks root)) x (at_index (functions root) f x e)) [
      | inl a ↦
          let (b, i, q) = of_map (λ b. let z : Function = (b, Entered) in z) (blocks root) x a in
          (subst (λ z. In z (blocks root)) (sym (ap (λ (z : Function). z.0) q)) i, inl (ap (λ (z : Function). z.1) q))
      | inr t ↦
          let (b, i, j) = of_flat calls_of (blocks root) x t in
          let (v, k, q) = of_map (λ v. let z : Function = (b, v) in z) (visited_in b) x j in
          let (r, l, m) = of_flat (λ (r : Row). visited_at r.0 r.1) (rows b) v k in
          let found : state_of b r.0 ≡ Some r.1 = state_found_lem root h b i r l in
          subst (λ (z : Function). In z.0 (blocks root) × IsVisitIn z.0 z.1) (sym q) (i, inr (r.0, r.1, found, m))
    ]

pub each_has_number_lem : EachHasNumber
each_has_number_lem root b v i h =
    elim h [
      | inl e ↦
          let (s, g) = index_of (blocks root) b i in
          (s, enter_number_lem root s b g ∙ ap (λ z. let y : Function = (b, z) in Some y) (sym e))
      | inr t ↦
          let (name, s, f, j) = t in
          let (r, k, n, q) = row_of b name s f in
          let j' : In v (visited_at r.0 r.1) = subst (λ z. In v (visited_at r.0 z)) (sym q) (subst (λ z. In v (visited_at z s)) (sym n) j) in
          let at : In v (visited_in b) = in_flat (λ (r : Row). visited_at r.0 r.1) (rows b) r v k j' in
          let call : In (b, v) (calls_of b) = in_map (λ v. let z : Function = (b, v) in z) (visited_in b) v at in
          index_of (functions root) (b, v) (In-right (map (λ b. (b, Entered)) (blocks root)) (flat_map calls_of (blocks root)) (b, v) (in_flat calls_of (blocks root) b (b, v) i call))
    ]

name_in : Visited → Text
name_in Entered = []
name_in (Called name resource) = name
name_in (Joined name) = name

visited_name : (name : Text) (s : State) (v : Visited) → In v (visited_at name s) → name_in v ≡ name
unfolding name_in
visited_name name (Task shape resource after care) v i = elim i [ inl e ↦ ap name_in e | inr t ↦ absurd t ]
visited_name name (Pass shape result after) v i = absurd i
visited_name name (Choice shape rules default) v i = absurd i
visited_name name (Succeed shape) v i = absurd i
visited_name name (Fail error cause) v i = absurd i
visited_name name (Parallel shape bs after care) v i = elim i [ inl e ↦ ap name_in e | inr t ↦ absurd t ]
visited_name name (Map shape items selector b after care limit) v i = elim i [ inl e ↦ ap name_in e | inr t ↦ absurd t ]

one_visited : (name : Text) (s : State) → AreDifferent (visited_at name s)
one_visited name (Task shape resource after care) = ((λ i. i), tt)
one_visited name (Pass shape result after) = tt
one_visited name (Choice shape rules default) = tt
one_visited name (Succeed shape) = tt
one_visited name (Fail error cause) = tt
one_visited name (Parallel shape bs after care) = ((λ i. i), tt)
one_visited name (Map shape items selector b after care limit) = ((λ i. i), tt)

visited_different : (states : States) → AreDifferent (names_of states) → AreDifferent (flat_map (λ (r : Row). visited_at r.0 r.1) (rows_of states))
visited_different no_state d = tt
visited_different (and_state m st rest) d =
    different_append (visited_at m st) (flat_map (λ (r : Row). visited_at r.0 r.1) (rows_of rest)) (one_visited m st) (visited_different rest d.1) (λ v i j.
    let (r, k, l) = of_flat (λ (r : Row). visited_at r.0 r.1) (rows_of rest) v j in
    let same : m ≡ r.0 = sym (visited_name m st v i) ∙ visited_name r.0 r.1 v l in
    d.0 (subst (λ n. In n (names_of rest)) (sym same) (row_name rest r k)))

calls_different : (b : Block) → HasDifferentNames b → AreDifferent (calls_of b)
calls_different (block start states) d =
    different_map (λ v. let z : Function = (block start states, v) in z) (visited_in (block start states)) (λ v w e. ap (λ (z : Function). z.1) e) (visited_different states d)

all_calls : (bs : List Block) → AreDifferent bs → ((b : Block) → In b bs → HasDifferentNames b) → AreDifferent (flat_map calls_of bs)
all_calls [] d h = tt
all_calls (b ∷ bs) d h =
    different_append (calls_of b) (flat_map calls_of bs) (calls_different b (h b (inl refl))) (all_calls bs d.1 (λ c i. h c (inr i))) (λ x i j.
    let (v, k, q) = of_map (λ v. let z : Function = (b, v) in z) (visited_in b) x i in
    let (c, l, m) = of_flat calls_of bs x j in
    let (w, n, r) = of_map (λ w. let z : Function = (c, w) in z) (visited_in c) x m in
    let same : b ≡ c = sym (ap (λ (z : Function). z.0) q) ∙ ap (λ (z : Function). z.0) r in
    d.0 (subst (λ z. In z bs) (sym same) l))

blocks_different : (root : Block) → IsValid root → AreDifferent (blocks root)
blocks_different root valid =
    different_by (blocks root) (λ i j b l e f.
    let (s, g) = valid.starts b (at_index (blocks root) i b e) in
    let (r, k, n, q) = row_of b (start_of b) s g in
    valid.apart i j b b l e f (start_of b) (subst (λ z. In z (map (λ (r : Row). r.0) (rows b))) n (in_map (λ (r : Row). r.0) (rows b) r k)) (s, g))

no_entered : (name : Text) (s : State) → In Entered (visited_at name s) → ⊥
no_entered name (Task shape resource after care) i = elim i [ inl e ↦ absurd (cc) | inr t ↦ absurd t ]
no_entered name (Pass shape result after) i = absurd i
no_entered name (Choice shape rules default) i = absurd i
no_entered name (Succeed shape) i = absurd i
no_entered name (Fail error cause) i = absurd i
no_entered name (Parallel shape bs after care) i = elim i [ inl e ↦ absurd (cc) | inr t ↦ absurd t ]
no_entered name (Map shape items selector b after care limit) i = elim i [ inl e ↦ absurd (cc) | inr t ↦ absurd t ]

functions_different : (root : Block) → IsValid root → HasRisingNames root → AreDifferent (functions root)
functions_different root valid h =
    let bs = blocks root in
    let d = blocks_different root valid in
    different_append (map (λ b. (b, Entered)) bs) (flat_map calls_of bs) (different_map (λ b. let z : Function = (b, Entered) in z) bs (λ b c e. ap (λ (z : Function). z.0) e) d) (all_calls bs d (names_differ root h)) (λ x i j.
    let (b, k, q) = of_map (λ b. let z : Function = (b, Entered) in z) bs x i in
    let (c, l, m) = of_flat calls_of bs x j in
    let (v, n, r) = of_map (λ v. let z : Function = (c, v) in z) (visited_in c) x m in
    let same : v ≡ Entered = sym (ap (λ (z : Function). z.1) r) ∙ ap (λ (z : Function). z.1) q in
    let (row, o, p) = of_flat (λ (r : Row). visited_at r.0 r.1) (rows c) v n in
    no_entered row.0 row.1 (subst (λ z. In z (visited_at row.0 row.1)) same p))

pub one_number_lem : OneNumber
one_number_lem root valid h f g x e k = one_index (functions root) f g x (functions_different root valid h) e k
