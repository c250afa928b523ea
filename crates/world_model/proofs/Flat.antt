-- Every machine's code by numbers is its code by the sites that they stand for.
use Rattle.std.proofs.Common.{ℕ, zero, suc, ◌+◌, ◌<◌, ◌≡◌, ◌⊎◌, inl, inr, refl, sym, ap, ap₂, ◌∙◌, subst, Bool, true, false, List, [], ◌∷◌, ◌++◌, map, length, slice_get, Option, Some, None, option_map, arith, if◌then◌else◌}
use Rattle.std.specs.List.{AllByRecursion}
use Rattle.std.proofs.lemmas.Option.{slice_get-map, same_Some, slice_get_within}
use Rattle.std.proofs.lemmas.List.{length-map}
use Rattle.asl_model.specs.Data.{Text, Json, Outcome, same_text}
use Rattle.asl_model.specs.Head.{Used}
use Rattle.asl_model.specs.Machine.{Block, block, States, no_state, and_state, State, state_of, states_of, find_state}
use Rattle.asl_model.specs.Central.{Visited, Called, Joined}
use Rattle.asl_model.specs.Stretch.{Stop, Call, Fan, Over, children, after}
use Rattle.asl_model.specs.Blocks.{visited_at, rows_of}
use Rattle.asl_model.proofs.Found.{same_text_is}
use Rattle.world_model.specs.AnyCode.Code as any_code
use Rattle.world_model.specs.AnyCode.Maps.{stop_as, LeadsIn}
use Rattle.world_model.specs.Sites.{rules, Spot, visited_at as visit_on, Frame, Site, enter_site, join_in, enter_sites, stop_by, machine_code}
use Rattle.world_model.specs.Flat.{Up, ScopeRow, scopes, starts_in, visits_in, site_at, visit_sites, visit_in, visits_below, number_at, Entry, enters_from, with_scope, visits_from, table, entry_or, entry_at, flat_site, flat_size, stop_at, up_of, join_number, flat_code, NumbersMap, block_at, block_of, flat_codes, flat_sites, EveryFlatRunIsSound, EveryRunIsFlat}
use Rattle.world_model.specs.Numbered.{StandsFor}
use Rattle.world_model.specs.World.{Session, Opening, first}
use Rattle.world_model.proofs.Numbers.{every_numbered_run_is_sound, every_run_is_numbered}
use Rattle.world_model.proofs.Standing.{get_left, get_right, RowIs, UpIs, each_row, AreScopes, found_scopes}
use Rattle.world_model.proofs.FlatKnown.{Known, after_known}

-- ---------------------------------------------------------------- the table

enters_length : (k : ℕ) (rs : List ScopeRow) → length (enters_from k rs) ≡ length rs
enters_length k [] = refl
enters_length k (r ∷ rs) = ap suc (enters_length (suc k) rs)

enter_get : (k : ℕ) (rs : List ScopeRow) (i : ℕ) (r : ScopeRow) → slice_get rs i ≡ Some r → slice_get (enters_from k rs) i ≡ Some (k + i, enter_site r.around r.block)
enter_get k [] i r e = absurd (cc)
enter_get k (q ∷ rs) zero r e =
    let z : k ≡ k + 0 = omega arith in
    ap₂ (λ (n : ℕ) (p : ScopeRow). let x : Entry = (n, enter_site p.around p.block) in Some x) z (same_Some q r e)
enter_get k (q ∷ rs) (suc i) r e =
    let z : suc k + i ≡ k + suc i = omega arith in
    enter_get (suc k) rs i r e ∙ ap (λ (n : ℕ). let x : Entry = (n, enter_site r.around r.block) in Some x) z

visit_get : (k : ℕ) (rs : List ScopeRow) (i : ℕ) (r : ScopeRow) (v : ℕ) (x : Site) → slice_get rs i ≡ Some r → slice_get (visit_sites r) v ≡ Some x → slice_get (visits_from k rs) (visits_below i rs + v) ≡ Some (k + i, x)
visit_get k [] i r v x e f = absurd (cc)
visit_get k (q ∷ rs) zero r v x e f =
    let z : k ≡ k + 0 = omega arith in
    let n : 0 + v ≡ v = omega arith in
    let g : slice_get (visit_sites q) v ≡ Some x = ap (λ (p : ScopeRow). slice_get (visit_sites p) v) (same_Some q r e) ∙ f in
    let l : v < length (map (with_scope k) (visit_sites q)) = let a : v < length (visit_sites q) = slice_get_within (visit_sites q) v x g in let b : length (map (with_scope k) (visit_sites q)) ≡ length (visit_sites q) = length-map (visit_sites q) (with_scope k) in omega arith in
    ap (slice_get (visits_from k (q ∷ rs))) n
    ∙ get_left (map (with_scope k) (visit_sites q)) (visits_from (suc k) rs) v l
    ∙ slice_get-map (with_scope k) (visit_sites q) v ∙ ap (option_map (with_scope k)) g ∙ ap (λ (m : ℕ). let y : Entry = (m, x) in Some y) z
visit_get k (q ∷ rs) (suc i) r v x e f =
    let xs : List Entry = map (with_scope k) (visit_sites q) in
    let a : length xs ≡ length (visit_sites q) = length-map (visit_sites q) (with_scope k) in
    let n : length (visit_sites q) + visits_below i rs + v ≡ length xs + (visits_below i rs + v) = omega arith in
    let z : suc k + i ≡ k + suc i = omega arith in
    ap (slice_get (visits_from k (q ∷ rs))) n
    ∙ get_right xs (visits_from (suc k) rs) (visits_below i rs + v)
    ∙ visit_get (suc k) rs i r v x e f ∙ ap (λ (m : ℕ). let y : Entry = (m, x) in Some y) z

-- an entry is of a scope of the list, at a site of it
pub record IsEntryAt (k : ℕ) (rs : List ScopeRow) (e : Entry) : Type 0 where
  pub index : ℕ
  pub row : ScopeRow
  pub row_is : slice_get rs index ≡ Some row
  pub scope_is : e.0 ≡ k + index
  pub site_is : e.1 ≡ record { block = row.block; around = row.around; spot = e.1.spot }

further : (k : ℕ) (q : ScopeRow) (rs : List ScopeRow) (e : Entry) → IsEntryAt (suc k) rs e → IsEntryAt k (q ∷ rs) e
further k q rs e x = record {
  index = suc x.index;
  row = x.row;
  row_is = x.row_is;
  scope_is = let a : e.0 ≡ suc k + x.index = x.scope_is in omega arith;
  site_is = x.site_is;
}

enters_are : (k : ℕ) (rs : List ScopeRow) (i : ℕ) (e : Entry) → slice_get (enters_from k rs) i ≡ Some e → IsEntryAt k rs e
enters_are k [] i e h = absurd (cc)
enters_are k (q ∷ rs) zero e h =
    let me : Entry = (k, enter_site q.around q.block) in
    let z : k ≡ k + 0 = omega arith in
    subst (IsEntryAt k (q ∷ rs)) (same_Some me e h) (record { index = 0; row = q; row_is = refl; scope_is = z; site_is = refl })
enters_are k (q ∷ rs) (suc i) e h = further k q rs e (enters_are (suc k) rs i e h)

-- an element of two lists is one of the first or of the second
get_either : {A : Type 0} (xs ys : List A) (i : ℕ) (x : A) → slice_get (xs ++ ys) i ≡ Some x → (slice_get xs i ≡ Some x) ⊎ ((j : ℕ) × (slice_get ys j ≡ Some x))
get_either [] ys i x e = inr (i, e)
get_either (y ∷ xs) ys zero x e = inl e
get_either (y ∷ xs) ys (suc i) x e = get_either xs ys i x e

mapped : {A B : Type 0} (f : A → B) (z : Option A) (y : B) → option_map f z ≡ Some y → (x : A) × (z ≡ Some x) × (f x ≡ y)
mapped f None y e = absurd (cc)
mapped f (Some x) y e = (x, refl, same_Some (f x) y e)

visit_is : (q : ScopeRow) (v : ℕ) (x : Site) → slice_get (visit_sites q) v ≡ Some x → x ≡ record { block = q.block; around = q.around; spot = x.spot }
visit_is q v x e =
    let (w, p, s) = mapped (site_at q) (slice_get (visits_in (states_of q.block)) v) x (sym (slice_get-map (site_at q) (visits_in (states_of q.block)) v) ∙ e) in
    subst (λ (z : Site). z ≡ record { block = q.block; around = q.around; spot = z.spot }) s refl

visits_are : (k : ℕ) (rs : List ScopeRow) (i : ℕ) (e : Entry) → slice_get (visits_from k rs) i ≡ Some e → IsEntryAt k rs e
visits_are k [] i e h = absurd (cc)
visits_are k (q ∷ rs) i e h = elim (get_either (map (with_scope k) (visit_sites q)) (visits_from (suc k) rs) i e h) [
  | inl p ↦
      let (x, f, s) = mapped (with_scope k) (slice_get (visit_sites q) i) e (sym (slice_get-map (with_scope k) (visit_sites q) i) ∙ p) in
      let z : k ≡ k + 0 = omega arith in
      subst (IsEntryAt k (q ∷ rs)) s (record { index = 0; row = q; row_is = refl; scope_is = z; site_is = visit_is q i x f })
  | inr p ↦ further k q rs e (visits_are (suc k) rs p.0 e p.1)
]

-- ---------------------------------------------------------------- visits by name

visit_found : (states : States) (name : Text) (s : State) (v : Visited) → find_state states name ≡ Some s → visited_at name s ≡ v ∷ [] → slice_get (visits_in states) (visit_in (rows_of states) name) ≡ Some v
visit_found no_state name s v e f = absurd (cc)
visit_found (and_state q st rest) name s v e f = by (visit_found rest name s v) (same_text q name) refl e
  where
    by : (find_state rest name ≡ Some s → visited_at name s ≡ v ∷ [] → slice_get (visits_in rest) (visit_in (rows_of rest) name) ≡ Some v) → (t : Bool) → same_text q name ≡ t → (if t then Some st else find_state rest name) ≡ Some s →
        slice_get (visited_at q st ++ visits_in rest) (if t then 0 else length (visited_at q st) + visit_in (rows_of rest) name) ≡ Some v
    by more true p e =
        let one : visited_at q st ≡ v ∷ [] = ap₂ visited_at (same_text_is q name p) (same_Some st s e) ∙ f in
        ap (λ (l : List Visited). slice_get (l ++ visits_in rest) 0) one
    by more false p e = get_right (visited_at q st) (visits_in rest) (visit_in (rows_of rest) name) ∙ more e f

module _ (root : Block) where
  T : List ScopeRow
  T = scopes root

  -- the entry of a number that has one
  pub entry_is : (f : ℕ) (e : Entry) → slice_get (table root) f ≡ Some e → entry_at root f ≡ e
  unfolding entry_at
  entry_is f e h = ap (entry_or root) h

  pub within : (f : ℕ) (e : Entry) → slice_get (table root) f ≡ Some e → f < flat_size root
  unfolding flat_size
  within f e h = slice_get_within (table root) f e h

  has_entry : (f : ℕ) → f < flat_size root → (e : Entry) × (slice_get (table root) f ≡ Some e)
  unfolding flat_size
  has_entry f l = by (table root) f l
    where
      by : (xs : List Entry) (i : ℕ) → i < length xs → (e : Entry) × (slice_get xs i ≡ Some e)
      by [] i l = absurd (omega arith)
      by (x ∷ xs) zero l = (x, refl)
      by (x ∷ xs) (suc i) l = by xs i (omega arith)

  -- the Enter of a scope
  pub enter_there : (k : ℕ) (r : ScopeRow) → slice_get (scopes root) k ≡ Some r → slice_get (table root) k ≡ Some (k, enter_site r.around r.block)
  enter_there k r e =
      let l : k < length (enters_from 0 (scopes root)) = let a : k < length (scopes root) = slice_get_within (scopes root) k r e in let b : length (enters_from 0 (scopes root)) ≡ length (scopes root) = enters_length 0 (scopes root) in omega arith in
      let z : 0 + k ≡ k = omega arith in
      get_left (enters_from 0 (scopes root)) (visits_from 0 (scopes root)) k l ∙ enter_get 0 (scopes root) k r e ∙ ap (λ (n : ℕ). let x : Entry = (n, enter_site r.around r.block) in Some x) z

  -- a Task or a Join
  pub visit_there : (k : ℕ) (r : ScopeRow) (v : ℕ) (x : Visited) → slice_get (scopes root) k ≡ Some r → slice_get (visits_in (states_of r.block)) v ≡ Some x → slice_get (table root) (number_at (scopes root) k v) ≡ Some (k, site_at r x)
  visit_there k r v x e f =
      let xs : List Entry = enters_from 0 (scopes root) in
      let a : length xs ≡ length (scopes root) = enters_length 0 (scopes root) in
      let n : number_at (scopes root) k v ≡ length xs + (visits_below k (scopes root) + v) = omega arith in
      let z : 0 + k ≡ k = omega arith in
      ap (slice_get (table root)) n
      ∙ get_right xs (visits_from 0 (scopes root)) (visits_below k (scopes root) + v)
      ∙ visit_get 0 (scopes root) k r v (site_at r x) e (slice_get-map (site_at r) (visits_in (states_of r.block)) v ∙ ap (option_map (site_at r)) f)
      ∙ ap (λ (m : ℕ). let y : Entry = (m, site_at r x) in Some y) z

  all_entries : (f : ℕ) (e : Entry) → slice_get (table root) f ≡ Some e → IsEntryAt 0 (scopes root) e
  all_entries f e h = elim (get_either (enters_from 0 (scopes root)) (visits_from 0 (scopes root)) f e h) [
    | inl p ↦ enters_are 0 (scopes root) f e p
    | inr p ↦ visits_are 0 (scopes root) p.0 e p.1
  ]

  -- what is known of a function
  record Good (f : ℕ) : Type 0 where
    row : ScopeRow
    row_is : slice_get (scopes root) (entry_at root f).0 ≡ Some row
    site_is : flat_site root f ≡ record { block = row.block; around = row.around; spot = (flat_site root f).spot }

  good_of : (f : ℕ) → f < flat_size root → Good f
  good_of f l =
      let (e, h) = has_entry f l in
      let x : IsEntryAt 0 (scopes root) e = all_entries f e h in
      let same : e ≡ entry_at root f = sym (entry_is f e h) in
      let at : slice_get (scopes root) e.0 ≡ Some x.row = let z : e.0 ≡ x.index = let a : e.0 ≡ 0 + x.index = x.scope_is in omega arith in ap (slice_get (scopes root)) z ∙ x.row_is in
      record {
        row = x.row;
        row_is = subst (λ (y : Entry). slice_get (scopes root) y.0 ≡ Some x.row) same at;
        site_is = subst (λ (y : Entry). y.1 ≡ record { block = x.row.block; around = x.row.around; spot = y.1.spot }) same x.site_is;
      }

  good_at : ℕ → Type 0
  good_at f = f < flat_size root

  -- ---------------------------------------------------------------- branches

  enters_same : (around : List Frame) (ks : List ℕ) (cs : List (Block × Json)) → AreScopes (scopes root) around ks cs → enter_sites around cs ≡ map (flat_site root) ks
  enters_same around [] [] h = refl
  enters_same around (k ∷ ks) (c ∷ cs) h =
      let (r, p, b, a) = h.0 in
      let here : flat_site root k ≡ enter_site r.around r.block = ap (λ (e : Entry). e.1) (entry_is k (k, enter_site r.around r.block) (enter_there k r p)) in
      ap₂ (λ (x : Site) (l : List Site). x ∷ l) (ap₂ enter_site (sym a) (sym b) ∙ sym here) (enters_same around ks cs h.1)
  enters_same around _ _ h = absurd h

  enters_within : (around : List Frame) (ks : List ℕ) (cs : List (Block × Json)) → AreScopes (scopes root) around ks cs → AllByRecursion (λ (f : ℕ). f < flat_size root) ks
  enters_within around [] [] h = tt
  enters_within around (k ∷ ks) (c ∷ cs) h = let (r, p, b, a) = h.0 in (within k (k, enter_site r.around r.block) (enter_there k r p), enters_within around ks cs h.1)
  enters_within around _ _ h = absurd h

  -- ---------------------------------------------------------------- stops

  module _ (k : ℕ) (r : ScopeRow) (at : slice_get (scopes root) k ≡ Some r) where
    abbrev number : Text → ℕ
    number name = number_at (scopes root) k (visit_in (rows_of (states_of r.block)) name)

    there : (name : Text) (s : State) (v : Visited) → state_of r.block name ≡ Some s → visited_at name s ≡ v ∷ [] → slice_get (table root) (number name) ≡ Some (k, site_at r v)
    there name s v e f = visit_there k r (visit_in (rows_of (states_of r.block)) name) v at (visit_found (states_of r.block) name s v e f)

    site_there : (name : Text) (s : State) (v : Visited) → state_of r.block name ≡ Some s → visited_at name s ≡ v ∷ [] → flat_site root (number name) ≡ site_at r v
    site_there name s v e f = ap (λ (x : Entry). x.1) (entry_is (number name) (k, site_at r v) (there name s v e f))

    branches : (name : Text) (s : State) (inputs : List Json) → state_of r.block name ≡ Some s →
        AreScopes (scopes root) (record { block = r.block; name = name } ∷ r.around) (starts_in (suc k) (states_of r.block) name (length (children s inputs))) (children s inputs)
    branches name s inputs e =
        let R : RowIs (scopes root) k r = each_row root k r at in
        found_scopes (scopes root) k (suc k) 0 r.around r.block (states_of r.block) R.inside name s e inputs

    stop_same : (spot : Spot) (stop : Stop) → Known r.block stop → stop_by (record { block = r.block; around = r.around; spot = spot }) stop ≡ stop_as (flat_site root) (stop_at (scopes root) k r.block stop)
    stop_same spot (Call name hop raw used) (s, resource, e, f) = ap (λ (x : Site). any_code.Call x hop raw used) (sym (site_there name s (Called name resource) e f))
    stop_same spot (Fan name hop raw used cs) (s, inputs, e, f, c) =
        let here : Site = record { block = r.block; around = r.around; spot = spot } in
        let P : List (Block × Json) → Type 0 = λ z. AreScopes (scopes root) (record { block = r.block; name = name } ∷ r.around) (starts_in (suc k) (states_of r.block) name (length z)) z in
        let scopes_are : P cs = subst P (sym c) (branches name s inputs e) in
        ap₂ (λ (x : Site) (l : List Site). any_code.Fan x hop raw used l) (sym (site_there name s (Joined name) e f))
        (enters_same (record { block = r.block; name = name } ∷ r.around) (starts_in (suc k) (states_of r.block) name (length cs)) cs scopes_are)
    stop_same spot (Over o) h = refl

    stop_leads : (stop : Stop) → Known r.block stop → LeadsIn (λ (f : ℕ). f < flat_size root) (stop_at (scopes root) k r.block stop)
    stop_leads (Call name hop raw used) (s, resource, e, f) = within (number name) (k, site_at r (Called name resource)) (there name s (Called name resource) e f)
    stop_leads (Fan name hop raw used cs) (s, inputs, e, f, c) =
        let P : List (Block × Json) → Type 0 = λ z. AreScopes (scopes root) (record { block = r.block; name = name } ∷ r.around) (starts_in (suc k) (states_of r.block) name (length z)) z in
        let scopes_are : P cs = subst P (sym c) (branches name s inputs e) in (
          within (number name) (k, site_at r (Joined name)) (there name s (Joined name) e f),
          enters_within (record { block = r.block; name = name } ∷ r.around) (starts_in (suc k) (states_of r.block) name (length cs)) cs scopes_are,
        )
    stop_leads (Over o) h = tt

    -- ---------------------------------------------------------------- the Join around

    join_same : (z : Option ScopeRow) → z ≡ Some r → UpIs (scopes root) r → join_in r.around ≡ option_map (flat_site root) (join_number (scopes root) (up_of z))
    join_same z q (inl h) =
        ap join_in h.1 ∙ sym (ap (λ (y : Option ScopeRow). option_map (flat_site root) (join_number (scopes root) (up_of y))) q ∙ ap (λ (y : Option Up). option_map (flat_site root) (join_number (scopes root) y)) h.0)
    join_same z q (inr (u, p, name, up, p_is, around, visit)) =
        let here : flat_site root (number_at (scopes root) u.scope u.visit) ≡ site_at p (Joined name) =
        ap (λ (x : Entry). x.1) (entry_is (number_at (scopes root) u.scope u.visit) (u.scope, site_at p (Joined name)) (visit_there u.scope p u.visit (Joined name) p_is visit)) in
        ap join_in around ∙ ap Some (sym here)
        ∙ sym (ap (λ (y : Option ScopeRow). option_map (flat_site root) (join_number (scopes root) (up_of y))) q ∙ ap (λ (y : Option Up). option_map (flat_site root) (join_number (scopes root) y)) up)

    join_within : (z : Option ScopeRow) → z ≡ Some r → UpIs (scopes root) r → (j : ℕ) → join_number (scopes root) (up_of z) ≡ Some j → j < flat_size root
    join_within z q (inl h) j e =
        absurd (let a : join_number (scopes root) (up_of z) ≡ None = ap (λ (y : Option ScopeRow). join_number (scopes root) (up_of y)) q ∙ ap (join_number (scopes root)) h.0 in cc)
    join_within z q (inr (u, p, name, up, p_is, around, visit)) j e =
        let a : join_number (scopes root) (up_of z) ≡ Some (number_at (scopes root) u.scope u.visit) = ap (λ (y : Option ScopeRow). join_number (scopes root) (up_of y)) q ∙ ap (join_number (scopes root)) up in
        let same : number_at (scopes root) u.scope u.visit ≡ j = same_Some _ j (sym a ∙ e) in
        subst (λ (y : ℕ). y < flat_size root) same (within (number_at (scopes root) u.scope u.visit) (u.scope, site_at p (Joined name)) (visit_there u.scope p u.visit (Joined name) p_is visit))

  -- ---------------------------------------------------------------- all of it

  after_same : (f : ℕ) → f < flat_size root → (hop : ℕ) (raw : Json) (used : Used) (o : Outcome) → machine_code.after (flat_site root f) hop raw used o ≡ stop_as (flat_site root) ((flat_code root).after f hop raw used o)
  after_same f l hop raw used o =
      let g : Good f = good_of f l in
      let k : ℕ = (entry_at root f).0 in
      let P : Site → Type 0 = λ z. stop_by z (after rules z.block (visit_on z.spot) hop raw used o) ≡ stop_as (flat_site root) (stop_at (scopes root) k z.block (after rules z.block (visit_on z.spot) hop raw used o)) in
      let spot : Spot = (flat_site root f).spot in
      subst P (sym g.site_is) (stop_same k g.row g.row_is spot (after rules g.row.block (visit_on spot) hop raw used o) (after_known g.row.block (visit_on spot) hop raw used o))

  after_leads : (f : ℕ) → f < flat_size root → (hop : ℕ) (raw : Json) (used : Used) (o : Outcome) → LeadsIn (λ (n : ℕ). n < flat_size root) ((flat_code root).after f hop raw used o)
  after_leads f l hop raw used o =
      let g : Good f = good_of f l in
      let k : ℕ = (entry_at root f).0 in
      let P : Site → Type 0 = λ z. LeadsIn (λ (n : ℕ). n < flat_size root) (stop_at (scopes root) k z.block (after rules z.block (visit_on z.spot) hop raw used o)) in
      let spot : Spot = (flat_site root f).spot in
      subst P (sym g.site_is) (stop_leads k g.row g.row_is (after rules g.row.block (visit_on spot) hop raw used o) (after_known g.row.block (visit_on spot) hop raw used o))

  around_same : (f : ℕ) → f < flat_size root → join_in (flat_site root f).around ≡ option_map (flat_site root) ((flat_code root).join_around f)
  around_same f l =
      let g : Good f = good_of f l in
      let k : ℕ = (entry_at root f).0 in
      ap (λ (z : Site). join_in z.around) g.site_is ∙ join_same k g.row g.row_is (slice_get (scopes root) k) g.row_is (each_row root k g.row g.row_is).up_is

  around_within : (f j : ℕ) → f < flat_size root → (flat_code root).join_around f ≡ Some j → j < flat_size root
  around_within f j l e =
      let g : Good f = good_of f l in
      let k : ℕ = (entry_at root f).0 in
      join_within k g.row g.row_is (slice_get (scopes root) k) g.row_is (each_row root k g.row g.row_is).up_is j e

  enter_same : (f : ℕ) → f < flat_size root → enter_site (flat_site root f).around (flat_site root f).block ≡ flat_site root (entry_at root f).0
  enter_same f l =
      let g : Good f = good_of f l in
      let k : ℕ = (entry_at root f).0 in
      ap (λ (z : Site). enter_site z.around z.block) g.site_is
      ∙ sym (ap (λ (x : Entry). x.1) (entry_is k (k, enter_site g.row.around g.row.block) (enter_there k g.row g.row_is)))

  enter_within : (f : ℕ) → f < flat_size root → (entry_at root f).0 < flat_size root
  enter_within f l =
      let g : Good f = good_of f l in
      let k : ℕ = (entry_at root f).0 in
      within k (k, enter_site g.row.around g.row.block) (enter_there k g.row g.row_is)

pub numbers_map : NumbersMap
numbers_map root = record {
  after = after_same root;
  call_of = λ f l raw. refl;
  join_around = around_same root;
  enter_of = enter_same root;
  width = λ f l. refl;
  input_of = λ f l index raw. refl;
  combine = λ f l outs. refl;
  leads = after_leads root;
  around = around_within root;
  enters = enter_within root;
}

-- ---------------------------------------------------------------- worlds of whole machines

-- function 0 is the root's Enter
first_there : (root : Block) → slice_get (scopes root) 0 ≡ Some (record { around = []; block = root; up = None })
first_there (block start states) = refl

pub first_is : (root : Block) → (0 < flat_size root) × (flat_site root 0 ≡ first root)
first_is root =
    let r : ScopeRow = record { around = []; block = root; up = None } in
    let h : slice_get (table root) 0 ≡ Some (0, enter_site [] root) = enter_there root 0 r (first_there root) in
    (within root 0 (0, enter_site [] root) h, ap (λ (x : Entry). x.1) (entry_is root 0 (0, enter_site [] root) h))

begins_at : (z : Option Session) (x : Session) → z ≡ Some x → (0 < flat_size (block_at z)) × (flat_site (block_at z) 0 ≡ first x.machine)
begins_at None x e = absurd (cc)
begins_at (Some y) x e =
    let (l, h) = first_is y.machine in
    (l, h ∙ ap (λ (v : Session). first v.machine) (same_Some y x e))

pub stands : (o : Opening) → StandsFor o (flat_codes o) (flat_sites o) (λ s. flat_size (block_of o s))
stands o = record { maps = λ s. numbers_map (block_of o s); begins = λ s x q. begins_at (slice_get o.sessions s) x q }

pub every_flat_run_is_sound : EveryFlatRunIsSound
every_flat_run_is_sound o events w e = every_numbered_run_is_sound o (flat_codes o) (flat_sites o) (λ s. flat_size (block_of o s)) (stands o) events w e

pub every_run_is_flat : EveryRunIsFlat
every_run_is_flat o events v e = every_run_is_numbered o (flat_codes o) (flat_sites o) (λ s. flat_size (block_of o s)) (stands o) events v e
