-- A placed block in the flat form of its machine: its scope, its nodes, its functions.
use Rattle.std.proofs.Common.{◌≡◌, ℕ, zero, suc, ◌+◌, ◌<◌, ◌⊎◌, List, [], ◌∷◌, ◌++◌, Some, None, map, flat_map, length, slice_get, option_map, refl, sym, ap, ◌∙◌, subst, inl, inr, arith}
use Rattle.std.proofs.lemmas.Option.{slice_get-map, slice_get_within, same_Some}
use Rattle.std.proofs.lemmas.List.{length-map}
use Rattle.asl_model.specs.Data.{Text}
use Rattle.asl_model.specs.Machine.{Block, State, states_of, state_of, start_of, head_of}
use Rattle.asl_model.specs.Central.{Visited, Entered}
use Rattle.asl_model.specs.Laws.{In}
use Rattle.asl_model.specs.Blocks.{Nested, nested, rows, rows_of, visited_at, Function, calls_of, blocks, function_at}
use Rattle.asl_model.specs.Walked.{HasRisingNames}
use Rattle.asl_model.specs.Valid.{IsValid, labels}
use Rattle.asl_model.proofs.Found.{row_of}
use Rattle.asl_model.proofs.ValidWords.{label_leads}
use Rattle.asl_model.proofs.NumberLaw.{enter_number_lem}
use Rattle.world_model.specs.Flat.{starts_in, starts_of, visit_in, visits_in}
use Rattle.continuation_gen.specs.Tables.{Node, Func, EnterFunc, Scope}
use Rattle.continuation_gen.specs.Numbering.{At, plus, own, size, callers, Placed, place_under, first_at, placed, all_of, nodes_of, funcs_of, scope_of, enters, flat_form, node_number, index_of, op_of, func_from}
use Rattle.continuation_gen.proofs.Lists.{get_left, get_right, get_cases, get_in}
use Rattle.continuation_gen.proofs.Place.{Runs, place_runs, runs_length, find_placed, find_part, part_find, place_closed, place_blocks, block_in}
use Rattle.continuation_gen.proofs.InBlock.{row_at, node_of, func_of, visit_found, length-nodes_from, length-funcs_from, length-visits_in, Rises, place_rises}

pub enters_get : (from n i : ℕ) → i < n → slice_get (enters from n) i ≡ Some (EnterFunc (from + i))
enters_get from zero i h = absurd (omega arith)
enters_get from (suc n) zero h = let k : from ≡ from + 0 = omega arith in ap (λ z. Some (EnterFunc z)) k
enters_get from (suc n) (suc i) h =
    let l : i < n = omega arith in
    let k : suc from + i ≡ from + suc i = omega arith in
    enters_get (suc from) n i l ∙ ap (λ z. Some (EnterFunc z)) k

pub length-enters : (from n : ℕ) → length (enters from n) ≡ n
length-enters from zero = refl
length-enters from (suc n) = ap suc (length-enters (suc from) n)

scope_at : (a c : At) (ps : List Placed) (i : ℕ) (p : Placed) → Runs a ps c → slice_get ps i ≡ Some p → p.at.scope ≡ a.scope + i
scope_at a c [] i p r e = absurd (cc)
scope_at a c (q ∷ qs) zero p r e =
    let same : q ≡ p = same_Some q p e in
    let k : p.at.scope ≡ a.scope = sym (ap (λ (z : Placed). z.at.scope) same) ∙ ap (λ (z : At). z.scope) r.0 in
    omega arith
scope_at a c (q ∷ qs) (suc i) p r e = let k = scope_at (plus a (own q.block)) c qs i p r.1 e in omega (arith, k)

get_map : {X Y : Type 0} (f : X → Y) (xs : List X) (i : ℕ) (y : Y) → slice_get (map f xs) i ≡ Some y → (x : X) × (slice_get xs i ≡ Some x) × (f x ≡ y)
get_map f [] i y e = absurd (cc)
get_map f (x ∷ xs) zero y e = (x, refl, same_Some (f x) y e)
get_map f (x ∷ xs) (suc i) y e = get_map f xs i y e

-- what the blocks have, block by block
pub all_flat : {X : Type 0} (f : Block → List X) (ps : List Placed) → all_of (λ p. f p.block) ps ≡ flat_map f (map block_in ps)
all_flat f [] = refl
all_flat f (p ∷ ps) = ap (λ l. f p.block ++ l) (all_flat f ps)

abbrev pub calls_in : Placed → List Function
calls_in p = calls_of p.block

abbrev pub with_enter : Block → Function
with_enter b = (b, Entered)

pub length-calls_of : (b : Block) → length (calls_of b) ≡ callers (states_of b)
length-calls_of b = length-map (visits_in (states_of b)) (λ v. (b, v)) ∙ length-visits_in (states_of b)

-- the function of the state of that name, and the number of its scope in the machine
abbrev pub func_number : Placed → Text → ℕ
func_number p name = p.at.func + visit_in (rows_of (states_of p.block)) name

module _ (root : Block) where
  abbrev pub last_at : At
  last_at = plus (first_at root) (size root)

  pub all_run : Runs (first_at root) (placed root) last_at
  all_run = place_runs None (first_at root) root

  pub number_of : (p : Placed) → In p (placed root) → slice_get (placed root) p.at.scope ≡ Some p
  number_of p h = let (i, g, k) = find_placed (first_at root) last_at (placed root) p all_run h in let same : i ≡ p.at.scope = omega arith in subst (λ z. slice_get (placed root) z ≡ Some p) same g

  pub index_is : (i : ℕ) (p : Placed) → slice_get (placed root) i ≡ Some p → p.at.scope ≡ i
  index_is i p e = let n = scope_at (first_at root) last_at (placed root) i p all_run e in omega (arith, n)

  pub block_at : (p : Placed) → In p (placed root) → slice_get (blocks root) p.at.scope ≡ Some p.block
  block_at p h =
      subst (λ l. slice_get l p.at.scope ≡ Some p.block) (place_blocks None (first_at root) root)
      (slice_get-map block_in (placed root) p.at.scope ∙ ap (option_map block_in) (number_of p h))

  pub block_listed : (p : Placed) → In p (placed root) → In p.block (blocks root)
  block_listed p h = get_in (blocks root) p.at.scope p.block (block_at p h)

  -- the block that a scope stands for
  pub placed_at : (k : ℕ) (b : Block) → slice_get (blocks root) k ≡ Some b → (p : Placed) × In p (placed root) × (p.block ≡ b) × (p.at.scope ≡ k)
  placed_at k b e =
      let (p, g, same) = get_map block_in (placed root) k b (subst (λ l. slice_get l k ≡ Some b) (sym (place_blocks None (first_at root) root)) e) in
      (p, get_in (placed root) k p g, same, index_is k p g)

  pub scope_found : (p : Placed) → In p (placed root) → slice_get (flat_form root).scopes p.at.scope ≡ Some (scope_of p)
  scope_found p h = slice_get-map scope_of (placed root) p.at.scope ∙ ap (option_map scope_of) (number_of p h)

  pub scope_placed : (k : ℕ) (r : Scope) → slice_get (flat_form root).scopes k ≡ Some r → (p : Placed) × In p (placed root) × (p.at.scope ≡ k) × (scope_of p ≡ r)
  scope_placed k r e =
      let (p, g, same) = get_map scope_of (placed root) k r e in
      (p, get_in (placed root) k p g, index_is k p g, same)

  pub many : (size root).scope ≡ length (placed root)
  many = let k = runs_length (first_at root) last_at (placed root) all_run in omega (arith, k)

  pub enter_at : (p : Placed) → In p (placed root) → slice_get (flat_form root).funcs p.at.scope ≡ Some (EnterFunc p.at.scope)
  enter_at p h =
      let l = slice_get_within (placed root) p.at.scope p (number_of p h) in
      let m = many in
      let k : p.at.scope < (size root).scope = omega (arith, l, m) in
      let z : 0 + p.at.scope ≡ p.at.scope = omega arith in
      get_left (enters 0 (size root).scope) (all_of funcs_of (placed root)) p.at.scope (EnterFunc p.at.scope) (enters_get 0 (size root).scope p.at.scope k ∙ ap (λ n. Some (EnterFunc n)) z)

  -- ---------------------------------------------------------------- a state of a placed block

  -- its node, its function, and the blocks inside it
  pub record NodeAt (p : Placed) (name : Text) (s : State) : Type 0 where
    pub its_func : ℕ
    pub its_at : At
    pub found : slice_get (flat_form root).nodes (node_number p name) ≡ Some (record { name = name; scope = p.at.scope; op = op_of (node_number p) its_func its_at s })
    pub inside : (q : Placed) → In q (place_under its_func its_at s) → In q (placed root)
    pub func_is : its_func ≡ func_number p name
    pub func_found : (x : Func) → slice_get (func_from (node_number p name) s) 0 ≡ Some x → slice_get (flat_form root).funcs (func_number p name) ≡ Some x
    pub starts_are : (c : ℕ) → starts_in (p.at.scope + 1) (states_of p.block) name c ≡ starts_of its_at.scope s c

  pub node_at : (p : Placed) → In p (placed root) → (name : Text) (s : State) → state_of p.block name ≡ Some s → NodeAt p name s
  node_at p h name s e =
      let states = states_of p.block in
      let j = index_of states name in
      let t = row_at (node_number p) p.at.scope p.at.func (plus p.at (own p.block)) states p.at.node name s e in
      let n : Node = record { name = name; scope = p.at.scope; op = op_of (node_number p) t.its_func t.its_at s } in
      let (i, g, k) = find_part nodes_of (λ (a : At). a.node) (λ a b. refl) (λ q. length-nodes_from (node_number q) q.at.scope q.at.func (plus q.at (own q.block)) (states_of q.block)) (first_at root) last_at (placed root) p all_run h j n t.node_at in
      let same : i ≡ node_number p name = omega arith in
      record {
        its_func = t.its_func;
        its_at = t.its_at;
        found = subst (λ z. slice_get (flat_form root).nodes z ≡ Some n) same g;
        inside = λ q m. place_closed None (first_at root) root p q h (t.inside q m);
        func_is = t.func_is;
        func_found = λ x m.
            let (i', g', k') = find_part funcs_of (λ (a : At). a.func) (λ a b. refl) (λ q. length-funcs_from q.at.node (states_of q.block)) (first_at root) last_at (placed root) p all_run h (visit_in (rows_of states) name) x (t.func_at x m) in
            let far : func_number p name ≡ length (enters 0 (size root).scope) + i' = omega (arith, k', length-enters 0 (size root).scope) in
            get_right (enters 0 (size root).scope) (all_of funcs_of (placed root)) (func_number p name) i' far ∙ g';
        starts_are = t.starts_are;
      }

  -- ---------------------------------------------------------------- the numbers that the machine gives

  pub enter_number : (p : Placed) → In p (placed root) → function_at root p.at.scope ≡ Some (p.block, Entered)
  enter_number p h = enter_number_lem root p.at.scope p.block (block_at p h)

  pub call_number : (p : Placed) → In p (placed root) → (name : Text) (s : State) (v : Visited) → state_of p.block name ≡ Some s → visited_at name s ≡ v ∷ [] → function_at root (func_number p name) ≡ Some (p.block, v)
  call_number p h name s v e f =
      let x : Function = (p.block, v) in
      let w : ℕ = visit_in (rows_of (states_of p.block)) name in
      let there : slice_get (calls_of p.block) w ≡ Some x =
      slice_get-map (λ (v : Visited). (p.block, v)) (visits_in (states_of p.block)) w ∙ ap (option_map (λ (v : Visited). (p.block, v))) (visit_found (states_of p.block) name s v e f) in
      let (i, g, k) = find_part calls_in (λ (a : At). a.func) (λ a b. refl) (λ q. length-calls_of q.block) (first_at root) last_at (placed root) p all_run h w x there in
      let same : all_of calls_in (placed root) ≡ flat_map calls_of (blocks root) = all_flat calls_of (placed root) ∙ ap (flat_map calls_of) (place_blocks None (first_at root) root) in
      let first : length (map with_enter (blocks root)) ≡ (size root).scope =
      length-map (blocks root) with_enter ∙ ap length (sym (place_blocks None (first_at root) root)) ∙ length-map (placed root) block_in ∙ sym many in
      let far : func_number p name ≡ length (map with_enter (blocks root)) + i = omega (arith, k, first) in
      get_right (map with_enter (blocks root)) (flat_map calls_of (blocks root)) (func_number p name) i far ∙ subst (λ l. slice_get l i ≡ Some x) same g

  -- ---------------------------------------------------------------- from numbers back

  -- this number is the name's in that block
  abbrev pub NumberOf : Placed → Text → ℕ → Type 0
  NumberOf p name label = (s : State) × (state_of p.block name ≡ Some s) × (label ≡ node_number p name)

  module _ (rise : HasRisingNames root) where
    pub rises : (p : Placed) → In p (placed root) → Rises p
    rises p h = place_rises None (first_at root) root rise p h

    -- the block and the state that a node stands for
    pub record NodeIs (label : ℕ) (n : Node) : Type 0 where
      pub p : Placed
      pub here : In p (placed root)
      pub s : State
      pub found : state_of p.block n.name ≡ Some s
      pub number : label ≡ node_number p n.name
      pub in_scope : n.scope ≡ p.at.scope

    pub node_is : (label : ℕ) (n : Node) → slice_get (flat_form root).nodes label ≡ Some n → NodeIs label n
    node_is label n e =
        let (p, h, j, l, m) = part_find nodes_of (λ (a : At). a.node) (λ a c. refl) (λ q. length-nodes_from (node_number q) q.at.scope q.at.func (plus q.at (own q.block)) (states_of q.block)) (first_at root) last_at (placed root) all_run label n e in
        let t = node_of (node_number p) p.at.scope p.at.func (plus p.at (own p.block)) (states_of p.block) (rises p h) j n l in
        record { p = p; here = h; s = t.s; found = t.found; number = omega (arith, m, t.index); in_scope = t.in_scope }

    -- the block and the state that a function stands for, if it is no Enter
    pub record FuncIs (f : ℕ) (x : Func) : Type 0 where
      pub p : Placed
      pub here : In p (placed root)
      pub name : Text
      pub s : State
      pub found : state_of p.block name ≡ Some s
      pub number : f ≡ func_number p name
      pub is : slice_get (func_from (node_number p name) s) 0 ≡ Some x

    -- an Enter, or such a function
    pub func_is : (f : ℕ) (x : Func) → slice_get (flat_form root).funcs f ≡ Some x → ((p : Placed) × In p (placed root) × (f ≡ p.at.scope) × (x ≡ EnterFunc p.at.scope)) ⊎ FuncIs f x
    func_is f x e = elim (get_cases (enters 0 (size root).scope) (all_of funcs_of (placed root)) f x e) [
      | inl a ↦
          let l : f < length (enters 0 (size root).scope) = slice_get_within (enters 0 (size root).scope) f x a in
          let m : f < length (placed root) = omega (arith, l, length-enters 0 (size root).scope, many) in
          let (p, g) = has_item (placed root) f m in
          let k : p.at.scope ≡ f = index_is f p g in
          let z : 0 + f ≡ p.at.scope = omega arith in
          let w : f < (size root).scope = omega (arith, l, length-enters 0 (size root).scope) in
          inl (p, get_in (placed root) f p g, sym k, same_Some x (EnterFunc p.at.scope) (sym a ∙ enters_get 0 (size root).scope f w ∙ ap (λ y. Some (EnterFunc y)) z))
      | inr b ↦
          let (i, k, g) = b in
          let (p, h, j, l, m) = part_find funcs_of (λ (a : At). a.func) (λ a c. refl) (λ q. length-funcs_from q.at.node (states_of q.block)) (first_at root) last_at (placed root) all_run i x g in
          let t = func_of p.at.node (states_of p.block) (rises p h) j x l in
          inr (record { p = p; here = h; name = t.name; s = t.s; found = t.found; number = omega (arith, k, m, t.visit, length-enters 0 (size root).scope); is = t.is })
    ]
      where
        has_item : (xs : List Placed) (i : ℕ) → i < length xs → (p : Placed) × (slice_get xs i ≡ Some p)
        has_item [] i l = absurd (omega arith)
        has_item (y ∷ xs) zero l = (y, refl)
        has_item (y ∷ xs) (suc i) l = has_item xs i (omega arith)

  pub nested_of : (b : Block) → In b (blocks root) → (n : Nested) × In n (nested root) × (n.block ≡ b)
  nested_of b h = by (nested root) h
    where
      by : (ns : List Nested) → In b (map (λ (n : Nested). n.block) ns) → (n : Nested) × In n ns × (n.block ≡ b)
      by [] i = absurd i
      by (n ∷ ns) i = elim i [ inl e ↦ (n, inl refl, sym e) | inr t ↦ let (m, j, e) = by ns t in (m, inr j, e) ]

  module _ (valid : IsValid root) where
    -- where a state may go stands in its block
    pub nexts_number : (p : Placed) → In p (placed root) → (name : Text) (s : State) → state_of p.block name ≡ Some s → (l : Text) → In l (labels (head_of s)) → NumberOf p l (node_number p l)
    nexts_number p h name s e l i =
        let (n, m, b) = nested_of p.block (block_listed p h) in
        let (r, k, named, is) = row_of p.block name s e in
        let (t, f) = valid.goes n m r (subst (λ z. In r (rows z)) (sym b) k) l (label_leads r.1 l (subst (λ z. In l (labels (head_of z))) (sym is) i)) in
        (t, subst (λ z. state_of z l ≡ Some t) b f, refl)

    pub start_number : (p : Placed) → In p (placed root) → NumberOf p (start_of p.block) (node_number p (start_of p.block))
    start_number p h = let (t, f) = valid.starts p.block (block_listed p h) in (t, f, refl)
