-- The numbers of the flat form are those by which worlds find a machine's sites.
use Rattle.std.proofs.Common.{◌≡◌, ℕ, zero, suc, ◌+◌, List, [], ◌∷◌, ◌++◌, Option, Some, None, map, flat_map, length, slice_get, refl, sym, ap, ap₂, ◌∙◌, subst, inl, inr, arith, length-append}
use Rattle.std.proofs.lemmas.Option.{same_Some}
use Rattle.std.proofs.lemmas.List.{length-map}
use Rattle.asl_model.specs.Data.{Text, Json, repeat}
use Rattle.asl_model.specs.Machine.{Block, block, States, no_state, and_state, State, Task, Pass, Choice, Succeed, Fail, Parallel, Map, Blocks, no_block, and_block, blocks_in, states_of, state_of}
use Rattle.asl_model.specs.Central.{Visited, Entered}
use Rattle.asl_model.specs.Stretch as model
use Rattle.asl_model.specs.Stretch.{pairs, children}
use Rattle.asl_model.specs.Laws.{In}
use Rattle.asl_model.specs.Blocks.{blocks, rows_of, visited_at, calls_of, functions}
use Rattle.asl_model.proofs.Lists.{In-left, In-right}
use Rattle.unum_ir.specs.Flat as ir
use Rattle.world_model.specs.AnyCode.Code as coded
use Rattle.world_model.specs.AnyCode.Acts.{firsts}
use Rattle.world_model.specs.Sites.{Frame, enter_site}
use Rattle.world_model.specs.Flat as flat
use Rattle.world_model.specs.Flat.{Up, ScopeRow, scopes_at, scopes_within, scopes_under, scopes_all, scopes, starts_all, starts_of, starts_in, visits_in, site_at, visit_sites, visit_in, visits_below, number_at, join_number, Entry, table, entry_at, flat_size, stop_at, of_entry, of_function}
use Rattle.world_model.proofs.Flat.{entry_is, enter_there, visit_there}
use Rattle.world_model.proofs.FlatNumbers.{scopes_blocks, numbers_are_right}
use Rattle.continuation_gen.specs.Tables.{Stop, CallAt, FanAt, EndsWith, Child}
use Rattle.continuation_gen.specs.Numbering.{At, plus, own, size, size_under, calls, Placed, place, place_within, place_under, place_all, first_at, placed, all_of, funcs_of, enters, scope_numbers, op_of, node_number, flat_form}
use Rattle.continuation_gen.specs.Coded.{bare_stop}
use Rattle.continuation_gen.specs.Laws.{ir_size}
use Rattle.continuation_gen.proofs.Place.{Runs, place_blocks, block_in}
use Rattle.continuation_gen.proofs.InBlock.{length-visited_at, length-visits_in, length-funcs_from, scopes_size, scopes_under_size, visit_found}
use Rattle.continuation_gen.proofs.Stands.{func_number, last_at, all_run, number_of, many, length-enters, with_enter, calls_in, length-calls_of, all_flat}
use Rattle.continuation_gen.proofs.WalkStops.{CallIs, FanIs, StopIs}

-- ---------------------------------------------------------------- functions before a scope

abbrev block_of_row : ScopeRow → Block
block_of_row r = r.block

abbrev others : {X : Type 0} → List X → List X
others [] = []
others (x ∷ xs) = xs

length-visit_sites : (r : ScopeRow) → length (visit_sites r) ≡ length (visits_in (states_of r.block))
length-visit_sites r = length-map (visits_in (states_of r.block)) (site_at r)

funcs_below : (a c : At) (ps : List Placed) (rs : List ScopeRow) → Runs a ps c → map block_in ps ≡ map block_of_row rs → (i : ℕ) (p : Placed) → slice_get ps i ≡ Some p → p.at.func ≡ a.func + visits_below i rs
funcs_below a c [] rs r e i p h = absurd (cc)
funcs_below a c (q ∷ qs) [] r e i p h = absurd (cc)
funcs_below a c (q ∷ qs) (s ∷ rs) r e zero p h =
    let k : p.at.func ≡ a.func = sym (ap (λ (z : Placed). z.at.func) (same_Some q p h)) ∙ ap (λ (z : At). z.func) r.0 in
    omega arith
funcs_below a c (q ∷ qs) (s ∷ rs) r e (suc i) p h =
    let k = funcs_below (plus a (own q.block)) c qs rs r.1 (ap others e) i p h in
    let same : q.block ≡ s.block = same_Some q.block s.block (ap (λ (l : List Block). slice_get l 0) e) in
    let m : length (visits_in (states_of q.block)) ≡ length (visits_in (states_of s.block)) = ap (λ (z : Block). length (visits_in (states_of z))) same in
    omega (arith, k, m, length-visits_in (states_of q.block), length-visit_sites s)

module _ (root : Block) where
  abbrev T : List ScopeRow
  T = scopes root

  same_blocks : map block_in (placed root) ≡ map block_of_row (scopes root)
  same_blocks = place_blocks None (first_at root) root ∙ sym (scopes_blocks root)

  same_many : (size root).scope ≡ length (scopes root)
  same_many = many root ∙ sym (length-map (placed root) block_in) ∙ ap length same_blocks ∙ length-map (scopes root) block_of_row

  first_func : (p : Placed) → In p (placed root) → p.at.func ≡ number_at (scopes root) p.at.scope 0
  first_func p h =
      let k = funcs_below (first_at root) (last_at root) (placed root) (scopes root) (all_run root) same_blocks p.at.scope p (number_of root p h) in
      omega (arith, k, same_many)

  -- ---------------------------------------------------------------- scopes and the fans that hold them

  -- the same block, and the Join of the same fan
  abbrev SameScope : Placed → ScopeRow → Type 0
  SameScope p r = (r.block ≡ p.block) × (p.parent ≡ join_number (scopes root) r.up)

  abbrev SameScopes : List Placed → List ScopeRow → Type 0
  SameScopes [] [] = Unit {0}
  SameScopes (p ∷ ps) (r ∷ rs) = SameScope p r × SameScopes ps rs
  SameScopes _ _ = ⊥

  both : (ps qs : List Placed) (rs ss : List ScopeRow) → SameScopes ps rs → SameScopes qs ss → SameScopes (ps ++ qs) (rs ++ ss)
  both [] qs [] ss h k = k
  both (p ∷ ps) qs (r ∷ rs) ss h k = (h.0, both ps qs rs ss h.1 k)
  both [] qs (r ∷ rs) ss h k = absurd h
  both (p ∷ ps) qs [] ss h k = absurd h

  found : (ps : List Placed) (rs : List ScopeRow) → SameScopes ps rs → (i : ℕ) (p : Placed) → slice_get ps i ≡ Some p → (r : ScopeRow) × (slice_get rs i ≡ Some r) × SameScope p r
  found [] rs h i p e = absurd (cc)
  found (q ∷ ps) [] h i p e = absurd h
  found (q ∷ ps) (r ∷ rs) h zero p e = (r, refl, subst (λ z. SameScope z r) (same_Some q p e) h.0)
  found (q ∷ ps) (r ∷ rs) h (suc i) p e = found ps rs h.1 i p e

  mutual
    at_same : (parent : Option ℕ) (at : At) (b : Block) (n : ℕ) (around : List Frame) (up : Option Up) → n ≡ at.scope → parent ≡ join_number (scopes root) up → ((q : Placed) → In q (place parent at b) → In q (placed root)) →
        SameScopes (place parent at b) (scopes_at n around up b)
    at_same parent at (block start states) n around up m e h =
        let b : Block = block start states in
        let p : Placed = record { at = at; parent = parent; block = b } in
        let f : at.func ≡ number_at (scopes root) n 0 = first_func p (h p (inl refl)) ∙ ap (λ k. number_at (scopes root) k 0) (sym m) in
        let next : suc n ≡ at.scope + 1 = omega arith in
        ((refl, e), within_same at.func (plus at (own b)) states n (suc n) 0 around b next f (λ q i. h q (inr i)))

    within_same : (func : ℕ) (at : At) (states : States) (n m v : ℕ) (around : List Frame) (b : Block) → m ≡ at.scope → func ≡ number_at (scopes root) n v → ((q : Placed) → In q (place_within func at states) → In q (placed root)) →
        SameScopes (place_within func at states) (scopes_within n m v around b states)
    within_same func at no_state n m v around b e f h = tt
    within_same func at (and_state name s rest) n m v around b e f h =
        let u : Up = record { scope = n; visit = v } in
        let a : At = plus at (size_under s) in
        let next : m + flat.size_under s ≡ a.scope = omega (arith, e, scopes_under_size s) in
        let later : func + calls s ≡ number_at (scopes root) n (v + length (visited_at name s)) = omega (arith, f, length-visited_at name s) in
        both (place_under func at s) (place_within (func + calls s) a rest)
        (scopes_under m (record { block = b; name = name } ∷ around) u s) (scopes_within n (m + flat.size_under s) (v + length (visited_at name s)) around b rest)
        (under_same func at s m (record { block = b; name = name } ∷ around) u e f (λ q i. h q (In-left (place_under func at s) (place_within (func + calls s) a rest) q i)))
        (within_same (func + calls s) a rest n (m + flat.size_under s) (v + length (visited_at name s)) around b next later (λ q i. h q (In-right (place_under func at s) (place_within (func + calls s) a rest) q i)))

    under_same : (func : ℕ) (at : At) (s : State) (m : ℕ) (around : List Frame) (u : Up) → m ≡ at.scope → func ≡ number_at (scopes root) u.scope u.visit → ((q : Placed) → In q (place_under func at s) → In q (placed root)) →
        SameScopes (place_under func at s) (scopes_under m around u s)
    under_same func at (Task shape resource after care) m around u e f h = tt
    under_same func at (Pass shape result after) m around u e f h = tt
    under_same func at (Choice shape rules default) m around u e f h = tt
    under_same func at (Succeed shape) m around u e f h = tt
    under_same func at (Fail error cause) m around u e f h = tt
    under_same func at (Parallel shape bs after care) m around u e f h = all_same func at bs m around u e f h
    under_same func at (Map shape items selector b after care limit) m around u e f h = at_same (Some func) at b m around (Some u) e (ap Some f) h

    all_same : (func : ℕ) (at : At) (bs : Blocks) (m : ℕ) (around : List Frame) (u : Up) → m ≡ at.scope → func ≡ number_at (scopes root) u.scope u.visit → ((q : Placed) → In q (place_all func at bs) → In q (placed root)) →
        SameScopes (place_all func at bs) (scopes_all m around u bs)
    all_same func at no_block m around u e f h = tt
    all_same func at (and_block b bs) m around u e f h =
        let a : At = plus at (size b) in
        let next : m + flat.size_of b ≡ a.scope = omega (arith, e, scopes_size b) in
        both (place (Some func) at b) (place_all func a bs) (scopes_at m around (Some u) b) (scopes_all (m + flat.size_of b) around u bs)
        (at_same (Some func) at b m around (Some u) e (ap Some f) (λ q i. h q (In-left (place (Some func) at b) (place_all func a bs) q i)))
        (all_same func a bs (m + flat.size_of b) around u next f (λ q i. h q (In-right (place (Some func) at b) (place_all func a bs) q i)))

  -- the scope of a placed block
  pub record RowOf (p : Placed) : Type 0 where
    pub row : ScopeRow
    pub row_is : slice_get (scopes root) p.at.scope ≡ Some row
    pub block_is : row.block ≡ p.block
    pub parent_is : p.parent ≡ join_number (scopes root) row.up

  pub row_of : (p : Placed) → In p (placed root) → RowOf p
  row_of p h =
      let (r, e, w) = found (placed root) (scopes root) (at_same None (first_at root) root 0 [] None refl refl (λ q i. i)) p.at.scope p (number_of root p h) in
      record { row = r; row_is = e; block_is = w.0; parent_is = w.1 }

  -- ---------------------------------------------------------------- functions

  pub number_is : (p : Placed) → In p (placed root) → (name : Text) → number_at (scopes root) p.at.scope (visit_in (rows_of (states_of p.block)) name) ≡ func_number p name
  number_is p h name = let k = first_func p h in omega (arith, k)

  pub enter_entry : (p : Placed) (h : In p (placed root)) → (r : RowOf p) → entry_at root p.at.scope ≡ (p.at.scope, site_at r.row Entered)
  enter_entry p h r = entry_is root p.at.scope (p.at.scope, enter_site r.row.around r.row.block) (enter_there root p.at.scope r.row r.row_is)

  pub call_entry : (p : Placed) (h : In p (placed root)) → (r : RowOf p) → (name : Text) (s : State) (v : Visited) → state_of p.block name ≡ Some s → visited_at name s ≡ v ∷ [] → entry_at root (func_number p name) ≡ (p.at.scope, site_at r.row v)
  call_entry p h r name s v e f =
      let w : ℕ = visit_in (rows_of (states_of p.block)) name in
      let there : slice_get (visits_in (states_of r.row.block)) w ≡ Some v = ap (λ (z : Block). slice_get (visits_in (states_of z)) w) r.block_is ∙ visit_found (states_of p.block) name s v e f in
      entry_is root (func_number p name) (p.at.scope, site_at r.row v) (ap (slice_get (table root)) (sym (number_is p h name)) ∙ visit_there root p.at.scope r.row w v r.row_is there)

  -- ---------------------------------------------------------------- how many

  length_funcs : (ps : List Placed) → length (all_of funcs_of ps) ≡ length (all_of calls_in ps)
  length_funcs [] = refl
  length_funcs (p ∷ ps) =
      length-append (funcs_of p) (all_of funcs_of ps) ∙ ap₂ (λ (a b : ℕ). a + b) (length-funcs_from p.at.node (states_of p.block) ∙ sym (length-calls_of p.block)) (length_funcs ps)
      ∙ sym (length-append (calls_in p) (all_of calls_in ps))

  pub same_length : length (flat_form root).funcs ≡ length (functions root)
  same_length =
      let e : length (map with_enter (blocks root)) ≡ (size root).scope =
      length-map (blocks root) with_enter ∙ ap length (sym (place_blocks None (first_at root) root)) ∙ length-map (placed root) block_in ∙ sym (many root) in
      let same : all_of calls_in (placed root) ≡ flat_map calls_of (blocks root) = all_flat calls_of (placed root) ∙ ap (flat_map calls_of) (place_blocks None (first_at root) root) in
      length-append (enters 0 (size root).scope) (all_of funcs_of (placed root))
      ∙ ap₂ (λ (a b : ℕ). a + b) (length-enters 0 (size root).scope ∙ sym e) (length_funcs (placed root) ∙ ap length same)
      ∙ sym (length-append (map with_enter (blocks root)) (flat_map calls_of (blocks root)))

  pub same_size : flat_size root ≡ ir_size root
  unfolding flat_size
  same_size = sym (length-map (table root) of_entry) ∙ ap length (numbers_are_right root) ∙ length-map (functions root) of_function ∙ sym same_length

  -- ---------------------------------------------------------------- stops

  abbrev func_of_child : Child → ℕ
  func_of_child c = c.func

  parallel_starts : (at : At) (m : ℕ) (bs : Blocks) (inputs : List Json) → at.scope ≡ m → map func_of_child (ir.children (scope_numbers at bs) inputs) ≡ firsts (length (pairs (blocks_in bs) inputs)) (starts_all m bs)
  parallel_starts at m no_block inputs e = refl
  parallel_starts at m (and_block b bs) [] e = refl
  parallel_starts at m (and_block b bs) (x ∷ inputs) e =
      let next : (plus at (size b)).scope ≡ m + flat.size_of b = omega (arith, e, scopes_size b) in
      ap₂ (λ (k : ℕ) (l : List ℕ). k ∷ l) e (parallel_starts (plus at (size b)) (m + flat.size_of b) bs inputs next)

  map_starts : (n k : ℕ) (b : Block) (inputs : List Json) → map func_of_child (ir.children (repeat n k) inputs) ≡ repeat (length (pairs (repeat n b) inputs)) k
  map_starts zero k b inputs = refl
  map_starts (suc n) k b [] = refl
  map_starts (suc n) k b (x ∷ inputs) = ap (λ l. k ∷ l) (map_starts n k b inputs)

  state_starts : (g : Text → ℕ) (func : ℕ) (at : At) (s : State) (inputs : List Json) → map func_of_child (ir.children (ir.branches_of (op_of g func at s) (length inputs)) inputs) ≡ starts_of at.scope s (length (children s inputs))
  state_starts g func at (Task shape resource after care) inputs = refl
  state_starts g func at (Pass shape result after) inputs = refl
  state_starts g func at (Choice shape rules default) inputs = refl
  state_starts g func at (Succeed shape) inputs = refl
  state_starts g func at (Fail error cause) inputs = refl
  state_starts g func at (Parallel shape bs after care) inputs = parallel_starts at at.scope bs inputs refl
  state_starts g func at (Map shape items selector b after care limit) inputs = map_starts (length inputs) at.scope b inputs

  pub bare_same : (p : Placed) → In p (placed root) → (a : model.Stop) (z : Stop) → StopIs root p a z → stop_at (scopes root) p.at.scope p.block a ≡ bare_stop z
  bare_same p here (model.Call name hop raw used) (CallAt f h r u) w =
      let c : CallIs root p name f = w.0 in
      let k : number_at (scopes root) p.at.scope (visit_in (rows_of (states_of p.block)) name) ≡ f = number_is p here name ∙ sym c.number in
      subst (λ x. coded.Call x hop raw used ≡ coded.Call f h r u) (sym k) (subst (λ x. coded.Call f hop raw used ≡ coded.Call f x r u) (sym w.1) (ap₂ (λ x y. coded.Call f hop x y) (sym w.2) (sym w.3)))
  bare_same p here (model.Fan name hop raw used cs) (FanAt f h r u ks) w =
      let c : FanIs root p name f cs ks = w.0 in
      let k : number_at (scopes root) p.at.scope (visit_in (rows_of (states_of p.block)) name) ≡ f = number_is p here name ∙ sym c.number in
      let next : suc p.at.scope ≡ p.at.scope + 1 = omega arith in
      let es : starts_in (suc p.at.scope) (states_of p.block) name (length cs) ≡ map func_of_child ks =
      ap (λ n. starts_in n (states_of p.block) name (length cs)) next
      ∙ ap (λ (l : List (Block × Json)). starts_in (p.at.scope + 1) (states_of p.block) name (length l)) c.are
      ∙ c.t.starts_are (length (children c.s c.inputs))
      ∙ sym (state_starts (node_number p) c.t.its_func c.t.its_at c.s c.inputs)
      ∙ ap (map func_of_child) (sym c.by) in
      subst (λ x. coded.Fan x hop raw used (starts_in (suc p.at.scope) (states_of p.block) name (length cs)) ≡ coded.Fan f h r u (map func_of_child ks)) (sym k)
      (subst (λ x. coded.Fan f hop raw used x ≡ coded.Fan f h r u (map func_of_child ks)) (sym es)
      (subst (λ x. coded.Fan f hop raw used (map func_of_child ks) ≡ coded.Fan f x r u (map func_of_child ks)) (sym w.1) (ap₂ (λ x y. coded.Fan f hop x y (map func_of_child ks)) (sym w.2) (sym w.3))))
  bare_same p here (model.Over o) (EndsWith q) w = ap (λ x. coded.Over x) (sym w)
  bare_same p here (model.Call name hop raw used) (FanAt f h r u ks) w = absurd w
  bare_same p here (model.Call name hop raw used) (EndsWith q) w = absurd w
  bare_same p here (model.Fan name hop raw used cs) (CallAt f h r u) w = absurd w
  bare_same p here (model.Fan name hop raw used cs) (EndsWith q) w = absurd w
  bare_same p here (model.Over o) (CallAt f h r u) w = absurd w
  bare_same p here (model.Over o) (FanAt f h r u ks) w = absurd w
