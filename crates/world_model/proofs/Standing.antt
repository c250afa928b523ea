-- The scopes of a machine stand in their list where their numbers say.
use Rattle.std.proofs.Common.{ℕ, zero, suc, ◌+◌, ◌<◌, ◌≡◌, ◌⊎◌, inl, inr, refl, sym, ap, ap₂, ◌∙◌, subst, Bool, true, false, List, [], ◌∷◌, ◌++◌, map, length, slice_get, Option, Some, None, option_map, arith, if◌then◌else◌, length-append}
use Rattle.std.proofs.lemmas.Option.{slice_get-map, same_Some}
use Rattle.std.proofs.lemmas.List.{length-map}
use Rattle.asl_model.specs.Data.{Text, Json, same_text, repeat}
use Rattle.asl_model.specs.Machine.{Block, block, States, no_state, and_state, State, Task, Pass, Choice, Succeed, Fail, Parallel, Map, Blocks, no_block, and_block, states_of, find_state, blocks_in}
use Rattle.asl_model.specs.Central.{Visited, Joined}
use Rattle.asl_model.specs.Stretch.{pairs, children}
use Rattle.asl_model.specs.Blocks.{visited_at}
use Rattle.asl_model.proofs.Found.{same_text_is}
use Rattle.world_model.specs.AnyCode.Acts.{firsts}
use Rattle.world_model.specs.Sites.{Frame}
use Rattle.world_model.specs.Flat.{Up, ScopeRow, size_of, size_within, size_under, size_all, scopes_at, scopes_within, scopes_under, scopes_all, scopes, starts_all, starts_of, starts_in, visits_in}

-- ---------------------------------------------------------------- lists in lists

-- ys stands in xs from k on
abbrev pub Stands : {A : Type 0} → List A → ℕ → List A → Type 0
Stands xs k ys = (i : ℕ) → i < length ys → slice_get xs (k + i) ≡ slice_get ys i

pub get_left : {A : Type 0} (xs ys : List A) (i : ℕ) → i < length xs → slice_get (xs ++ ys) i ≡ slice_get xs i
get_left [] ys i l = absurd (omega arith)
get_left (x ∷ xs) ys zero l = refl
get_left (x ∷ xs) ys (suc i) l = get_left xs ys i (omega arith)

pub get_right : {A : Type 0} (xs ys : List A) (i : ℕ) → slice_get (xs ++ ys) (length xs + i) ≡ slice_get ys i
get_right [] ys i = let z : 0 + i ≡ i = omega arith in ap (slice_get ys) z
get_right (x ∷ xs) ys i = let z : suc (length xs) + i ≡ suc (length xs + i) = omega arith in ap (slice_get (x ∷ (xs ++ ys))) z ∙ get_right xs ys i

pub stands_left : {A : Type 0} (xs : List A) (k : ℕ) (ys zs : List A) → Stands xs k (ys ++ zs) → Stands xs k ys
stands_left xs k ys zs s i l = s i (let e : length (ys ++ zs) ≡ length ys + length zs = length-append ys zs in omega arith) ∙ get_left ys zs i l

pub stands_right : {A : Type 0} (xs : List A) (k n : ℕ) (ys zs : List A) → length ys ≡ n → Stands xs k (ys ++ zs) → Stands xs (k + n) zs
stands_right xs k n ys zs e s i l =
    let z : k + n + i ≡ k + (length ys + i) = omega arith in
    ap (slice_get xs) z ∙ s (length ys + i) (let q : length (ys ++ zs) ≡ length ys + length zs = length-append ys zs in omega arith) ∙ get_right ys zs i

pub stands_tail : {A : Type 0} (xs : List A) (k : ℕ) (y : A) (ys : List A) → Stands xs k (y ∷ ys) → Stands xs (suc k) ys
stands_tail xs k y ys s i l = let z : suc k + i ≡ k + suc i = omega arith in ap (slice_get xs) z ∙ s (suc i) (omega arith)

pub stands_head : {A : Type 0} (xs : List A) (k : ℕ) (y : A) (ys : List A) → Stands xs k (y ∷ ys) → slice_get xs k ≡ Some y
stands_head xs k y ys s = let z : k ≡ k + 0 = omega arith in ap (slice_get xs) z ∙ s 0 (omega arith)

pub stands_all : {A : Type 0} (xs : List A) → Stands xs 0 xs
stands_all xs i l = let z : 0 + i ≡ i = omega arith in ap (slice_get xs) z

pub stands_map : {A B : Type 0} (f : A → B) (xs : List A) (k : ℕ) (ys : List A) → Stands xs k ys → Stands (map f xs) k (map f ys)
stands_map f xs k ys s i l =
    slice_get-map f xs (k + i) ∙ ap (option_map f) (s i (let e : length (map f ys) ≡ length ys = length-map ys f in omega arith)) ∙ sym (slice_get-map f ys i)

-- ---------------------------------------------------------------- sizes

mutual
  pub length_at : (n : ℕ) (around : List Frame) (up : Option Up) (b : Block) → length (scopes_at n around up b) ≡ size_of b
  length_at n around up (block start states) = ap suc (length_within n (suc n) 0 around (block start states) states)

  length_within : (n m v : ℕ) (around : List Frame) (b : Block) (states : States) → length (scopes_within n m v around b states) ≡ size_within states
  length_within n m v around b no_state = refl
  length_within n m v around b (and_state name s rest) =
      let xs : List ScopeRow = scopes_under m (record { block = b; name = name } ∷ around) (record { scope = n; visit = v }) s in
      let ys : List ScopeRow = scopes_within n (m + size_under s) (v + length (visited_at name s)) around b rest in
      length-append xs ys
      ∙ ap₂ (λ (x y : ℕ). x + y) (length_under m (record { block = b; name = name } ∷ around) (record { scope = n; visit = v }) s) (length_within n (m + size_under s) (v + length (visited_at name s)) around b rest)

  pub length_under : (m : ℕ) (around : List Frame) (u : Up) (s : State) → length (scopes_under m around u s) ≡ size_under s
  length_under m around u (Task shape resource after care) = refl
  length_under m around u (Pass shape result after) = refl
  length_under m around u (Choice shape rules default) = refl
  length_under m around u (Succeed shape) = refl
  length_under m around u (Fail error cause) = refl
  length_under m around u (Parallel shape bs after care) = length_all m around u bs
  length_under m around u (Map shape items selector b after care limit) = length_at m around (Some u) b

  length_all : (m : ℕ) (around : List Frame) (u : Up) (bs : Blocks) → length (scopes_all m around u bs) ≡ size_all bs
  length_all m around u no_block = refl
  length_all m around u (and_block b bs) =
      length-append (scopes_at m around (Some u) b) (scopes_all (m + size_of b) around u bs)
      ∙ ap₂ (λ (x y : ℕ). x + y) (length_at m around (Some u) b) (length_all (m + size_of b) around u bs)

-- ---------------------------------------------------------------- each scope

-- the scope is the root's, or a branch of the fan whose Join is that visit of a scope of the list
abbrev pub UpIs : List ScopeRow → ScopeRow → Type 0
UpIs T r =
    ((r.up ≡ None) × (r.around ≡ []))
    ⊎ ((u : Up) × (q : ScopeRow) × (name : Text) × (r.up ≡ Some u) × (slice_get T u.scope ≡ Some q) × (r.around ≡ record { block = q.block; name = name } ∷ q.around)
    × (slice_get (visits_in (states_of q.block)) u.visit ≡ Some (Joined name)))

-- it has its own number, and the scopes inside it follow
pub record RowIs (T : List ScopeRow) (k : ℕ) (r : ScopeRow) : Type 0 where
  pub inside : Stands T (suc k) (scopes_within k (suc k) 0 r.around r.block (states_of r.block))
  pub up_is : UpIs T r

module _ (T : List ScopeRow) where
  -- what is said of each row of a list that stands from k on
  abbrev RowsAre : ℕ → List ScopeRow → Type 0
  RowsAre k rs = (i : ℕ) (r : ScopeRow) → slice_get rs i ≡ Some r → RowIs T (k + i) r

  both : (k n : ℕ) (rs qs : List ScopeRow) → length rs ≡ n → RowsAre k rs → RowsAre (k + n) qs → RowsAre k (rs ++ qs)
  both k n [] qs e f g i r h = let z : k + n + i ≡ k + i = omega arith in subst (λ (y : ℕ). RowIs T y r) z (g i r h)
  both k n (x ∷ rs) qs e f g zero r h = f 0 r h
  both k n (x ∷ rs) qs e f g (suc i) r h =
      let y : suc k + i ≡ k + suc i = omega arith in
      subst (λ (z : ℕ). RowIs T z r) y
      (both (suc k) (length rs) rs qs refl
      (λ j p q. let w : k + suc j ≡ suc k + j = omega arith in subst (λ (z : ℕ). RowIs T z p) w (f (suc j) p q))
      (λ j p q. let w : k + n + j ≡ suc k + length rs + j = omega arith in subst (λ (z : ℕ). RowIs T z p) w (g j p q))
      i r h)

  -- the scope n, whose visits from v on those states have
  record Within (n v : ℕ) (around : List Frame) (b : Block) (states : States) : Type 0 where
    row : ScopeRow
    row_is : slice_get T n ≡ Some row
    block_is : row.block ≡ b
    around_is : row.around ≡ around
    visits : Stands (visits_in (states_of b)) v (visits_in states)

  fan_up : (n v : ℕ) (around : List Frame) (b : Block) (name : Text) (s : State) (rest : States) → Within n v around b (and_state name s rest) → visited_at name s ≡ Joined name ∷ [] → (r : ScopeRow) →
      r.around ≡ record { block = b; name = name } ∷ around → r.up ≡ Some (record { scope = n; visit = v }) → UpIs T r
  fan_up n v around b name s rest w e r p q =
      let first : visits_in (and_state name s rest) ≡ Joined name ∷ visits_in rest = ap (λ (l : List Visited). l ++ visits_in rest) e in
      let there : Stands (visits_in (states_of b)) v (Joined name ∷ visits_in rest) = subst (Stands (visits_in (states_of b)) v) first w.visits in
      inr (
        record { scope = n; visit = v },
        w.row,
        name,
        q,
        w.row_is,
        p ∙ ap₂ (λ (x : Block) (y : List Frame). record { block = x; name = name } ∷ y) (sym w.block_is) (sym w.around_is),
        ap (λ (x : Block). slice_get (visits_in (states_of x)) v) w.block_is ∙ stands_head (visits_in (states_of b)) v (Joined name) (visits_in rest) there,
      )

  later : (n v : ℕ) (around : List Frame) (b : Block) (name : Text) (s : State) (rest : States) → Within n v around b (and_state name s rest) → Within n (v + length (visited_at name s)) around b rest
  later n v around b name s rest w = record {
    row = w.row;
    row_is = w.row_is;
    block_is = w.block_is;
    around_is = w.around_is;
    visits = stands_right (visits_in (states_of b)) v (length (visited_at name s)) (visited_at name s) (visits_in rest) refl w.visits;
  }

  mutual
    at_all : (n : ℕ) (around : List Frame) (up : Option Up) (b : Block) → Stands T n (scopes_at n around up b) → UpIs T (record { around = around; block = b; up = up }) → RowsAre n (scopes_at n around up b)
    at_all n around up (block start states) s h zero r e =
        let me : ScopeRow = record { around = around; block = block start states; up = up } in
        let z : n ≡ n + 0 = omega arith in
        subst (RowIs T (n + 0)) (same_Some me r e)
        (subst (λ (k : ℕ). RowIs T k me) z (record { inside = stands_tail T n me (scopes_within n (suc n) 0 around (block start states) states) s; up_is = h }))
    at_all n around up (block start states) s h (suc i) r e =
        let me : ScopeRow = record { around = around; block = block start states; up = up } in
        let inner : List ScopeRow = scopes_within n (suc n) 0 around (block start states) states in
        let w : Within n 0 around (block start states) states =
        record { row = me; row_is = stands_head T n me inner s; block_is = refl; around_is = refl; visits = stands_all (visits_in states) } in
        let z : suc n + i ≡ n + suc i = omega arith in
        subst (λ (k : ℕ). RowIs T k r) z (within_all n (suc n) 0 around (block start states) states (stands_tail T n me inner s) w i r e)

    within_all : (n m v : ℕ) (around : List Frame) (b : Block) (states : States) → Stands T m (scopes_within n m v around b states) → Within n v around b states → RowsAre m (scopes_within n m v around b states)
    within_all n m v around b no_state s w = λ i r e. absurd (cc)
    within_all n m v around b (and_state name st rest) s w =
        let f : List Frame = record { block = b; name = name } ∷ around in
        let u : Up = record { scope = n; visit = v } in
        let xs : List ScopeRow = scopes_under m f u st in
        let ys : List ScopeRow = scopes_within n (m + size_under st) (v + length (visited_at name st)) around b rest in
        both m (size_under st) xs ys (length_under m f u st)
        (under_all m f u name st (λ e r p q. fan_up n v around b name st rest w e r p q) (stands_left T m xs ys s))
        (within_all n (m + size_under st) (v + length (visited_at name st)) around b rest (stands_right T m (size_under st) xs ys (length_under m f u st) s) (later n v around b name st rest w))

    under_all : (m : ℕ) (around : List Frame) (u : Up) (name : Text) (s : State) → (visited_at name s ≡ Joined name ∷ [] → (r : ScopeRow) → r.around ≡ around → r.up ≡ Some u → UpIs T r) →
        Stands T m (scopes_under m around u s) → RowsAre m (scopes_under m around u s)
    under_all m around u name (Task shape resource after care) h s = λ i r e. absurd (cc)
    under_all m around u name (Pass shape result after) h s = λ i r e. absurd (cc)
    under_all m around u name (Choice shape rules default) h s = λ i r e. absurd (cc)
    under_all m around u name (Succeed shape) h s = λ i r e. absurd (cc)
    under_all m around u name (Fail error cause) h s = λ i r e. absurd (cc)
    under_all m around u name (Parallel shape bs after care) h s = all_all m around u bs (h refl) s
    under_all m around u name (Map shape items selector b after care limit) h s = at_all m around (Some u) b s (h refl (record { around = around; block = b; up = Some u }) refl refl)

    all_all : (m : ℕ) (around : List Frame) (u : Up) (bs : Blocks) → ((r : ScopeRow) → r.around ≡ around → r.up ≡ Some u → UpIs T r) → Stands T m (scopes_all m around u bs) → RowsAre m (scopes_all m around u bs)
    all_all m around u no_block h s = λ i r e. absurd (cc)
    all_all m around u (and_block b bs) h s =
        let xs : List ScopeRow = scopes_at m around (Some u) b in
        let ys : List ScopeRow = scopes_all (m + size_of b) around u bs in
        both m (size_of b) xs ys (length_at m around (Some u) b)
        (at_all m around (Some u) b (stands_left T m xs ys s) (h (record { around = around; block = b; up = Some u }) refl refl))
        (all_all (m + size_of b) around u bs h (stands_right T m (size_of b) xs ys (length_at m around (Some u) b) s))

-- each scope of a machine
pub each_row : (root : Block) (k : ℕ) (r : ScopeRow) → slice_get (scopes root) k ≡ Some r → RowIs (scopes root) k r
each_row root k r e =
    let z : 0 + k ≡ k = omega arith in
    subst (λ (n : ℕ). RowIs (scopes root) n r) z (at_all (scopes root) 0 [] None root (stands_all (scopes root)) (inl (refl, refl)) k r e)

-- ---------------------------------------------------------------- the scopes of branches

-- that scope is that block in those fans
abbrev pub IsScope : List ScopeRow → List Frame → ℕ → Block → Type 0
IsScope T around k b = (r : ScopeRow) × (slice_get T k ≡ Some r) × (r.block ≡ b) × (r.around ≡ around)

-- each number is the scope of the branch of the same number
abbrev pub AreScopes : List ScopeRow → List Frame → List ℕ → List (Block × Json) → Type 0
AreScopes T around [] [] = Unit {0}
AreScopes T around (k ∷ ks) (c ∷ cs) = IsScope T around k c.0 × AreScopes T around ks cs
AreScopes T around _ _ = ⊥

first_scope : (T : List ScopeRow) (m : ℕ) (around : List Frame) (up : Option Up) (b : Block) → Stands T m (scopes_at m around up b) → IsScope T around m b
first_scope T m around up (block start states) s =
    let me : ScopeRow = record { around = around; block = block start states; up = up } in
    (me, stands_head T m me (scopes_within m (suc m) 0 around (block start states) states) s, refl, refl)

parallel_scopes : (T : List ScopeRow) (m : ℕ) (around : List Frame) (u : Up) (bs : Blocks) (inputs : List Json) → Stands T m (scopes_all m around u bs) →
    AreScopes T around (firsts (length (pairs (blocks_in bs) inputs)) (starts_all m bs)) (pairs (blocks_in bs) inputs)
parallel_scopes T m around u no_block inputs s = tt
parallel_scopes T m around u (and_block b bs) [] s = tt
parallel_scopes T m around u (and_block b bs) (x ∷ inputs) s =
    let xs : List ScopeRow = scopes_at m around (Some u) b in
    let ys : List ScopeRow = scopes_all (m + size_of b) around u bs in
    (first_scope T m around (Some u) b (stands_left T m xs ys s), parallel_scopes T (m + size_of b) around u bs inputs (stands_right T m (size_of b) xs ys (length_at m around (Some u) b) s))

map_scopes : (T : List ScopeRow) (m : ℕ) (around : List Frame) (b : Block) (n : ℕ) (inputs : List Json) → IsScope T around m b → AreScopes T around (repeat (length (pairs (repeat n b) inputs)) m) (pairs (repeat n b) inputs)
map_scopes T m around b zero inputs h = tt
map_scopes T m around b (suc n) [] h = tt
map_scopes T m around b (suc n) (x ∷ inputs) h = (h, map_scopes T m around b n inputs h)

state_scopes : (T : List ScopeRow) (m : ℕ) (around : List Frame) (u : Up) (s : State) (inputs : List Json) → Stands T m (scopes_under m around u s) → AreScopes T around (starts_of m s (length (children s inputs))) (children s inputs)
state_scopes T m around u (Task shape resource after care) inputs s = tt
state_scopes T m around u (Pass shape result after) inputs s = tt
state_scopes T m around u (Choice shape rules default) inputs s = tt
state_scopes T m around u (Succeed shape) inputs s = tt
state_scopes T m around u (Fail error cause) inputs s = tt
state_scopes T m around u (Parallel shape bs after care) inputs s = parallel_scopes T m around u bs inputs s
state_scopes T m around u (Map shape items selector b after care limit) inputs s = map_scopes T m around b (length inputs) inputs (first_scope T m around (Some u) b s)

-- of the state of a name among some states
pub found_scopes : (T : List ScopeRow) (n m v : ℕ) (around : List Frame) (b : Block) (states : States) → Stands T m (scopes_within n m v around b states) → (name : Text) (s : State) → find_state states name ≡ Some s → (inputs : List Json) →
    AreScopes T (record { block = b; name = name } ∷ around) (starts_in m states name (length (children s inputs))) (children s inputs)
found_scopes T n m v around b no_state h name s e inputs = absurd (cc)
found_scopes T n m v around b (and_state q st rest) h name s e inputs =
    by (found_scopes T n (m + size_under st) (v + length (visited_at q st)) around b rest (stands_right T m (size_under st) xs ys (length_under m f u st) h) name s) (same_text q name) refl e
  where
    f : List Frame
    f = record { block = b; name = q } ∷ around

    u : Up
    u = record { scope = n; visit = v }

    xs : List ScopeRow
    xs = scopes_under m f u st

    ys : List ScopeRow
    ys = scopes_within n (m + size_under st) (v + length (visited_at q st)) around b rest

    c : ℕ
    c = length (children s inputs)

    by : (find_state rest name ≡ Some s → (is : List Json) → AreScopes T (record { block = b; name = name } ∷ around) (starts_in (m + size_under st) rest name (length (children s is))) (children s is)) →
        (t : Bool) → same_text q name ≡ t → (if t then Some st else find_state rest name) ≡ Some s →
        AreScopes T (record { block = b; name = name } ∷ around) (if t then starts_of m st c else starts_in (m + size_under st) rest name c) (children s inputs)
    by more true p e =
        let same : st ≡ s = same_Some st s e in
        let here : AreScopes T f (starts_of m st (length (children st inputs))) (children st inputs) = state_scopes T m f u st inputs (stands_left T m xs ys h) in
        let named : AreScopes T (record { block = b; name = name } ∷ around) (starts_of m st (length (children st inputs))) (children st inputs) =
        subst (λ (z : Text). AreScopes T (record { block = b; name = z } ∷ around) (starts_of m st (length (children st inputs))) (children st inputs)) (same_text_is q name p) here in
        subst (λ (z : State). AreScopes T (record { block = b; name = name } ∷ around) (starts_of m st (length (children z inputs))) (children z inputs)) same named
    by more false p e = more e inputs
