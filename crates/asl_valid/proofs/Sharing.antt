-- Names that stand in two blocks, found by the first and the last block that each stands in.
use Rattle.std.proofs.Common.{◌≡◌, ℕ, suc, ◌+◌, ◌<◌, Bool, true, false, not, cond, ◌&&◌, ◌||◌, ◌==◌, nat_lt, List, [], ◌∷◌, ◌++◌, map, filter, drop, get_or, length, is_some, Option, Some, None, refl, sym, ap, ◌∙◌, inl, inr, arith, append_assoc, add-one, if◌then◌else◌}
use Rattle.std.proofs.lemmas.Bool.{lt-ltb, le-ltb, eq-eqb, ne_eqb}
use Rattle.std.proofs.lemmas.List.{drop_more}
use Rattle.std.proofs.lemmas.Slice.Eq.{bytes_eq-Decides}
use Rattle.std.specs.Map.{update}
use Rattle.std.specs.Str.{bytes_eq}
use mathlib.Core.Path.{fun_ext}
use Rattle.asl_model.specs.declared.machine.State.{State}
use Rattle.asl_model.specs.declared.validity.VRule.TheVariants.{V3}
use Rattle.asl_model.specs.Data.{Text, same_text}
use Rattle.asl_model.specs.Laws.{In}
use Rattle.asl_model.specs.Machine as m
use Rattle.asl_model.specs.Machine.{Block, block, find_state}
use Rattle.asl_model.specs.Tree.{states_from}
use Rattle.asl_model.specs.Blocks.{Row, rows, rows_of}
use Rattle.asl_model.specs.Valid.{Broken, broken_in, has_state, names_rule, shared_names, stands_in}
use Rattle.asl_valid.specs.declared.homes.Home.{Home}
use Rattle.asl_valid.specs.declared.levels.Level.{Level}
use Rattle.asl_valid.specs.Homes.{homes_among, is_shared, moved, shared_among}
use Rattle.asl_valid.specs.Levels.{Roomy, level_of, levels_of}
use Rattle.asl_valid.proofs.Trees.{row}

-- ---- noting

moved_is : (home : Option Home) (at first : ℕ) → first ≡ (moved home at).first → Some (record { first = first; last = at }) ≡ Some (moved home at)
moved_is None at first e = ap (λ n. Some (record { first = n; last = at })) e
moved_is (Some home) at first e = ap (λ n. Some (record { first = n; last = at })) e

noted_by : (h : Text → Option Home) (name q : Text) (at first : ℕ) → first ≡ (moved (h name) at).first → (t : Bool) → bytes_eq name q ≡ t → cond t (Some (record { first = first; last = at })) (h q) ≡ cond t (Some (moved (h q) at)) (h q)
noted_by h name q at first e true s =
    let same : name ≡ q = (bytes_eq-Decides name q).0 s in
    moved_is (h q) at first (e ∙ ap (λ z. (moved (h z) at).first) same)
noted_by h name q at first e false s = refl

-- one name is noted
pub noted : (h : Text → Option Home) (name text q : Text) (at first : ℕ) → text ≡ name → first ≡ (moved (h text) at).first → update bytes_eq h text (Some (record { first = first; last = at })) q ≡ cond (bytes_eq name q) (Some (moved (h q) at)) (h q)
noted h name text q at first s e = noted_by h text q at first e (bytes_eq text q) refl ∙ ap (λ z. cond (bytes_eq z q) (Some (moved (h q) at)) (h q)) s

moved_twice : (home : Option Home) (at : ℕ) → moved (Some (moved home at)) at ≡ moved home at
moved_twice None at = refl
moved_twice (Some home) at = refl

noted_once : (t : Bool) (s : m.State) (rest : Option m.State) (home : Option Home) (at : ℕ) → cond (is_some rest) (Some (moved (cond t (Some (moved home at)) home) at)) (cond t (Some (moved home at)) home) ≡ cond (is_some (if t then Some s else rest)) (Some (moved home at)) home
noted_once true s None home at = refl
noted_once true s (Some r) home at = ap (λ z. Some z) (moved_twice home at)
noted_once false s rest home at = refl

abbrev noted_in : List (Text × State) → Text → ℕ → Option Home → Option Home
noted_in items q at home = cond (is_some (find_state (states_from (map row items)) q)) (Some (moved home at)) home

-- one row's name is noted, and the others follow
pub row_noted : (items : List (Text × State)) (i : ℕ) (r : Text × State) (q : Text) (at : ℕ) (home next : Option Home) → i < length items → r ≡ get_or items i r → next ≡ cond (bytes_eq r.0 q) (Some (moved home at)) home → noted_in (drop (i + 1) items) q at next ≡ noted_in (drop i items) q at home
unfolding same_text
row_noted items i r q at home next l e n =
    let first : drop i items ≡ r ∷ drop (i + 1) items = drop_more items i r l ∙ ap (λ z. z ∷ drop (i + 1) items) (sym e) in
    ap (λ z. noted_in (drop (i + 1) items) q at z) n
    ∙ noted_once (bytes_eq r.0 q) (row r).1 (find_state (states_from (map row (drop (i + 1) items))) q) home at
    ∙ sym (ap (λ z. noted_in z q at home) first)

-- one block's shared names are added, and the others follow
pub shared_step : (homes : Text → Option Home) (levels : List Level) (at : ℕ) (level : Level) (found next : Broken) → at < length levels → level ≡ get_or levels at level → next ≡ found ++ broken_in V3 (λ r. is_shared (homes r.0) at) (level_of level).0 → next ++ shared_among homes (at + 1) (levels_of (drop (at + 1) levels)) ≡ found ++ shared_among homes at (levels_of (drop at levels))
shared_step homes levels at level found next l e n =
    let first : drop at levels ≡ level ∷ drop (at + 1) levels = drop_more levels at level l ∙ ap (λ z. z ∷ drop (at + 1) levels) (sym e) in
    let rest = levels_of (drop (at + 1) levels) in
    let here = broken_in V3 (λ r. is_shared (homes r.0) at) (level_of level).0 in
    ap (λ z. z ++ shared_among homes (at + 1) rest) n
    ∙ append_assoc found here (shared_among homes (at + 1) rest)
    ∙ ap (λ k. found ++ (here ++ shared_among homes k rest)) (add-one at)
    ∙ sym (ap (λ z. found ++ shared_among homes at (levels_of z)) first)

pub shared_same : (f g : Text → Option Home) → ((q : Text) → f q ≡ g q) → (at : ℕ) (ls : List Roomy) → shared_among f at ls ≡ shared_among g at ls
shared_same f g h at ls = ap (λ k. shared_among k at ls) (fun_ext h)

-- ---- what the first and the last block tell

abbrev pub blocks_of : List Roomy → List Block
blocks_of ls = map (λ (l : Roomy). l.0) ls

-- what is known of a name before the block with this index
abbrev Tracks : List Block → ℕ → Text → Option Home → Type 0
Tracks earlier at q None = stands_in q earlier ≡ false
Tracks earlier at q (Some home) = (stands_in q earlier ≡ true) × (home.first < at)

or_true : (a : Bool) → a || true ≡ true
or_true true = refl
or_true false = refl

or_false : (a : Bool) → a || false ≡ a
or_false true = refl
or_false false = refl

-- what is asked of a home among later blocks: the first stays, and the last is later where the name stands in one of them
abbrev IsLater : Text → ℕ → List Roomy → ℕ → Home → Type 0
IsLater q at ls i home = is_shared (homes_among q i (Some home) ls) at ≡ (home.first == at) && (nat_lt at home.last || stands_in q (blocks_of ls))

last_by : (q : Text) (at i : ℕ) (home : Home) (ls : List Roomy) → at < i → ((i : ℕ) (home : Home) → at < i → IsLater q at ls i home) → (t : Bool) → is_shared (homes_among q (suc i) (cond t (Some (moved (Some home) i)) (Some home)) ls) at ≡ (home.first == at) && (nat_lt at home.last || (t || stands_in q (blocks_of ls)))
last_by q at i home ls l later true =
    later (suc i) (record { first = home.first; last = i }) (omega arith)
    ∙ ap (λ t. (home.first == at) && (t || stands_in q (blocks_of ls))) (lt-ltb at i l)
    ∙ ap (λ t. (home.first == at) && t) (sym (or_true (nat_lt at home.last)))
last_by q at i home ls l later false = later (suc i) home (omega arith)

last_among : (q : Text) (at : ℕ) (ls : List Roomy) (i : ℕ) (home : Home) → at < i → IsLater q at ls i home
last_among q at [] i home l = ap (λ t. (home.first == at) && t) (sym (or_false (nat_lt at home.last)))
last_among q at (x ∷ ls) i home l = last_by q at i home ls l (last_among q at ls) (has_state x.0 q)

-- at a block that has the name
here_shared : (earlier : List Block) (q : Text) (at : ℕ) (home : Option Home) (ls : List Roomy) → Tracks earlier at q home → is_shared (homes_among q (suc at) (Some (moved home at)) ls) at ≡ not (stands_in q earlier) && stands_in q (blocks_of ls)
here_shared earlier q at None ls h =
    last_among q at ls (suc at) (record { first = at; last = at }) (omega arith)
    ∙ rw (eq-eqb at at refl, le-ltb at at (omega arith), h) refl
here_shared earlier q at (Some home) ls h =
    last_among q at ls (suc at) (record { first = home.first; last = at }) (omega arith)
    ∙ rw (ne_eqb home.first at (λ e. let l : home.first < at = h.1 in omega arith), h.0) refl

next_tracks : (b : Block) (earlier : List Block) (q : Text) (at : ℕ) (home : Option Home) → Tracks earlier at q home → (t : Bool) → has_state b q ≡ t → Tracks (b ∷ earlier) (suc at) q (cond t (Some (moved home at)) home)
next_tracks b earlier q at None h true e = (rw e refl, omega arith)
next_tracks b earlier q at (Some home) h true e = (rw e refl, let l : home.first < at = h.1 in omega arith)
next_tracks b earlier q at None h false e = rw e h
next_tracks b earlier q at (Some home) h false e = (rw e h.0, let l : home.first < at = h.1 in omega arith)

-- ---- a row's name is a state's

here_by : (s : m.State) (rest : m.States) (name : Text) (t : Bool) → t ≡ true → is_some (if t then Some s else find_state rest name) ≡ true
here_by s rest name true h = refl
here_by s rest name false h = absurd (cc)

there_by : (s : m.State) (rest : m.States) (name : Text) (t : Bool) → is_some (find_state rest name) ≡ true → is_some (if t then Some s else find_state rest name) ≡ true
there_by s rest name true h = refl
there_by s rest name false h = h

row_there : (states : m.States) (r : Row) → In r (rows_of states) → is_some (find_state states r.0) ≡ true
unfolding same_text
row_there m.no_state r i = absurd i
row_there (m.and_state name s rest) r i =
    elim i [
      | inl e ↦ here_by s rest r.0 (bytes_eq name r.0) ((bytes_eq-Decides name r.0).1 (sym (ap (λ (z : Row). z.0) e)))
      | inr t ↦ there_by s rest r.0 (bytes_eq name r.0) (row_there rest r t)
    ]

has_row : (b : Block) (r : Row) → In r (rows b) → has_state b r.0 ≡ true
has_row (block start states) r i = row_there states r i

-- tests that agree on the rows of a block find the same in it
filter_same : {X Y : Type 0} (f : X → Y) (t u : X → Bool) (xs : List X) → ((x : X) → In x xs → t x ≡ u x) → map f (filter t xs) ≡ map f (filter u xs)
filter_same f t u [] h = refl
filter_same {X} f t u (x ∷ xs) h =
    ap (λ b. map f (if b then x ∷ filter t xs else filter t xs)) (h x (inl refl)) ∙ same_by (u x) (filter_same f t u xs (λ y i. h y (inr i)))
  where
    same_by : (b : Bool) → map f (filter t xs) ≡ map f (filter u xs) → map f (if b then x ∷ filter t xs else filter t xs) ≡ map f (if b then x ∷ filter u xs else filter u xs)
    same_by true e = ap (λ l. f x ∷ l) e
    same_by false e = e

-- the names of a block that stand first in it and again later are those that the definition finds
pub shared_are : (earlier : List Block) (at : ℕ) (homes now : Text → Option Home) (ls : List Roomy) → ((q : Text) → Tracks earlier at q (now q)) → ((q : Text) → homes q ≡ homes_among q at (now q) ls) → shared_among homes at ls ≡ shared_names earlier (blocks_of ls)
shared_are earlier at homes now [] tracks among = refl
shared_are earlier at homes now (l ∷ ls) tracks among =
    let test : (r : Row) → In r (rows l.0) → is_shared (homes r.0) at ≡ (not (stands_in r.0 earlier) && stands_in r.0 (blocks_of ls)) =
    λ r i. ap (λ h. is_shared h at) (among r.0)
    ∙ ap (λ t. is_shared (homes_among r.0 (suc at) (cond t (Some (moved (now r.0) at)) (now r.0)) ls) at) (has_row l.0 r i)
    ∙ here_shared earlier r.0 at (now r.0) ls (tracks r.0) in
    let first : broken_in V3 (λ r. is_shared (homes r.0) at) l.0 ≡ broken_in V3 (λ r. not (stands_in r.0 earlier) && stands_in r.0 (blocks_of ls)) l.0 =
    filter_same (λ (r : Row). names_rule V3 r.0) (λ (r : Row). is_shared (homes r.0) at) (λ (r : Row). not (stands_in r.0 earlier) && stands_in r.0 (blocks_of ls)) (rows l.0) test in
    let rest = shared_are (l.0 ∷ earlier) (suc at) homes (λ q. cond (has_state l.0 q) (Some (moved (now q) at)) (now q)) ls (λ q. next_tracks l.0 earlier q at (now q) (tracks q) (has_state l.0 q) refl) among in
    ap (λ z. z ++ shared_among homes (suc at) ls) first
    ∙ ap (λ z. broken_in V3 (λ r. not (stands_in r.0 earlier) && stands_in r.0 (blocks_of ls)) l.0 ++ z) rest
