-- The functions of a machine's table are those that it has.
use Rattle.std.proofs.Common.{ℕ, suc, ◌+◌, ◌≡◌, refl, sym, ap, ap₂, ◌∙◌, List, [], ◌∷◌, ◌++◌, map, flat_map, length, Option, Some, None}
use Rattle.std.proofs.lemmas.List.{map-append}
use Rattle.asl_model.specs.Machine.{Block, block, States, no_state, and_state, State, Task, Pass, Choice, Succeed, Fail, Parallel, Map, Blocks, no_block, and_block, states_of}
use Rattle.asl_model.specs.Central.{Visited, Entered}
use Rattle.asl_model.specs.Blocks.{Nested, nested_at, nested_within, nested_under, nested_all, blocks, visited_at, calls_of}
use Rattle.world_model.specs.Sites.{Frame, Site}
use Rattle.world_model.specs.Flat.{Up, ScopeRow, size_of, size_under, scopes_at, scopes_within, scopes_under, scopes_all, scopes, visits_in, site_at, visit_sites, with_scope, enters_from, visits_from, Visiting, of_entry, of_function, NumbersAreRight}

-- ---------------------------------------------------------------- blocks

blocks_of : List ScopeRow → List Block
blocks_of ps = map (λ (p : ScopeRow). p.block) ps

inside : List Nested → List Block
inside ns = map (λ (n : Nested). n.block) ns

both : (ps qs : List ScopeRow) (ns ms : List Nested) → blocks_of ps ≡ inside ns → blocks_of qs ≡ inside ms → blocks_of (ps ++ qs) ≡ inside (ns ++ ms)
unfolding blocks_of inside
both ps qs ns ms e f =
    map-append (λ (p : ScopeRow). p.block) ps qs ∙ ap₂ (λ (x y : List Block). x ++ y) e f ∙ sym (map-append (λ (n : Nested). n.block) ns ms)

mutual
  unfolding blocks_of inside

  same_at : (d n : ℕ) (around : List Frame) (up : Option Up) (b : Block) → blocks_of (scopes_at n around up b) ≡ inside (nested_at d b)
  same_at d n around up (block start states) = ap (λ (l : List Block). block start states ∷ l) (same_within (suc d) n (suc n) 0 around (block start states) states)

  same_within : (d n m v : ℕ) (around : List Frame) (b : Block) (states : States) → blocks_of (scopes_within n m v around b states) ≡ inside (nested_within d states)
  same_within d n m v around b no_state = refl
  same_within d n m v around b (and_state name s rest) =
      let f : List Frame = record { block = b; name = name } ∷ around in
      let u : Up = record { scope = n; visit = v } in
      both (scopes_under m f u s) (scopes_within n (m + size_under s) (v + length (visited_at name s)) around b rest) (nested_under d s) (nested_within d rest)
      (same_under d m f u s) (same_within d n (m + size_under s) (v + length (visited_at name s)) around b rest)

  same_under : (d m : ℕ) (around : List Frame) (u : Up) (s : State) → blocks_of (scopes_under m around u s) ≡ inside (nested_under d s)
  same_under d m around u (Task shape resource after care) = refl
  same_under d m around u (Pass shape result after) = refl
  same_under d m around u (Choice shape rules default) = refl
  same_under d m around u (Succeed shape) = refl
  same_under d m around u (Fail error cause) = refl
  same_under d m around u (Parallel shape bs after care) = same_all d m around u bs
  same_under d m around u (Map shape items selector b after care limit) = same_at d m around (Some u) b

  same_all : (d m : ℕ) (around : List Frame) (u : Up) (bs : Blocks) → blocks_of (scopes_all m around u bs) ≡ inside (nested_all d bs)
  same_all d m around u no_block = refl
  same_all d m around u (and_block b bs) =
      both (scopes_at m around (Some u) b) (scopes_all (m + size_of b) around u bs) (nested_at d b) (nested_all d bs) (same_at d m around (Some u) b) (same_all d (m + size_of b) around u bs)

-- the blocks of the scopes are those of the machine, in their order
pub scopes_blocks : (root : Block) → map (λ (r : ScopeRow). r.block) (scopes root) ≡ blocks root
unfolding blocks_of inside
scopes_blocks root = same_at 1 0 [] None root

-- ---------------------------------------------------------------- lists

map_map : {A B C : Type 0} (f : B → C) (g : A → B) (xs : List A) → map f (map g xs) ≡ map (λ x. f (g x)) xs
map_map f g [] = refl
map_map f g (x ∷ xs) = ap (λ l. f (g x) ∷ l) (map_map f g xs)

map_flat : {A B C : Type 0} (f : B → C) (g : A → List B) (xs : List A) → map f (flat_map g xs) ≡ flat_map (λ x. map f (g x)) xs
map_flat f g [] = refl
map_flat f g (x ∷ xs) = map-append f (g x) (flat_map g xs) ∙ ap (λ l. map f (g x) ++ l) (map_flat f g xs)

-- what is visited in a block, by its rows
visiting : Block → List Visiting
visiting b = map of_function (calls_of b)

enters_same : (k : ℕ) (rs : List ScopeRow) → map of_entry (enters_from k rs) ≡ map (λ (b : Block). of_function (b, Entered)) (map (λ (r : ScopeRow). r.block) rs)
enters_same k [] = refl
enters_same k (r ∷ rs) = ap (λ (l : List Visiting). of_function (r.block, Entered) ∷ l) (enters_same (suc k) rs)

visits_as : (k : ℕ) (r : ScopeRow) → map of_entry (map (with_scope k) (visit_sites r)) ≡ visiting r.block
unfolding visiting
visits_as k r =
    let vs : List Visited = visits_in (states_of r.block) in
    map_map of_entry (with_scope k) (visit_sites r) ∙ map_map (λ (s : Site). of_entry (k, s)) (site_at r) vs ∙ sym (map_map of_function (λ (v : Visited). (r.block, v)) vs)

visits_same : (k : ℕ) (rs : List ScopeRow) → map of_entry (visits_from k rs) ≡ flat_map visiting (map (λ (r : ScopeRow). r.block) rs)
visits_same k [] = refl
visits_same k (r ∷ rs) =
    map-append of_entry (map (with_scope k) (visit_sites r)) (visits_from (suc k) rs) ∙ ap₂ (λ (x y : List Visiting). x ++ y) (visits_as k r) (visits_same (suc k) rs)

pub numbers_are_right : NumbersAreRight
unfolding blocks_of inside visiting
numbers_are_right root =
    let rs : List ScopeRow = scopes root in
    let e : map (λ (r : ScopeRow). r.block) rs ≡ blocks root = same_at 1 0 [] None root in
    let first : map of_entry (enters_from 0 rs) ≡ map of_function (map (λ (b : Block). (b, Entered)) (blocks root)) =
    enters_same 0 rs ∙ ap (map (λ (b : Block). of_function (b, Entered))) e ∙ sym (map_map of_function (λ (b : Block). (b, Entered)) (blocks root)) in
    let second : map of_entry (visits_from 0 rs) ≡ map of_function (flat_map calls_of (blocks root)) =
    visits_same 0 rs ∙ ap (flat_map visiting) e ∙ sym (map_flat of_function calls_of (blocks root)) in
    map-append of_entry (enters_from 0 rs) (visits_from 0 rs)
    ∙ ap₂ (λ (x y : List Visiting). x ++ y) first second
    ∙ sym (map-append of_function (map (λ (b : Block). (b, Entered)) (blocks root)) (flat_map calls_of (blocks root)))
