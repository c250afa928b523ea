-- Blocks, inputs and places of visits.
use Rattle.std.proofs.Common.{◌≡◌, ℕ, zero, suc, ◌<◌, ◌≤◌, length, List, [], ◌∷◌, ◌++◌, Option, Some, None, Result, Ok, Err, Bool, true, false, refl, sym, ap, ◌∙◌, subst, inl, inr, arith, if◌then◌else◌, nat_le, leb-true, append_assoc, append-nil}
use Rattle.std.specs.List.{AllByRecursion}
use Rattle.unum_json.specs.declared.value.Json as json
use Rattle.unum_json.specs.Tree.{nodes}
use Rattle.place_name.specs.Names.{IsSeg, IsTrail, IsPlace, IsName}
use Rattle.place_name.specs.declared.limits.TheConstants.{SESSIONS}
use Rattle.asl_model.specs.Data.{Text, Json, Path, Template, Made, prepared, parallel_inputs, map_inputs, item_limit, item_limit_error, repeat, and_then, array_in, few, selected, selected_by, with_first, fitting, same_text}
use Rattle.asl_model.specs.Names.{Seg, Scope, Place, Answers}
use Rattle.asl_model.specs.Machine.{Block, block, States, no_state, and_state, State, Task, Pass, Choice, Succeed, Fail, Parallel, Map, Blocks, no_block, and_block, state_of, find_state, blocks_in, branches_of, head_of}
use Rattle.asl_model.specs.Head.{begins, or_caught}
use Rattle.asl_model.specs.Step.{Calls, Fans, standard}
use Rattle.asl_model.specs.Central.{hop_limit, Visited, Entered, Called, Joined, Visit, kind_of}
use Rattle.asl_model.specs.Laws.{In, IsSound, IsBelowScope}
use Rattle.asl_model.specs.Blocks.{Nested, nested_at, nested_within, nested_under, nested_all, blocks, visited_at}
use Rattle.asl_model.specs.Valid.{IsValid, HasParts}
use Rattle.asl_model.specs.Numbers.{IsVisitIn, VisitHasNumber, NamesInRange}
use Rattle.asl_model.proofs.Lists.{In-left, In-right}
use Rattle.asl_model.proofs.Found.{row_of}
use Rattle.asl_model.proofs.NumberLaw.{in_map, each_has_number_lem}
use Rattle.asl_model.proofs.WaysLaw.{caught_or, fitting_is, parallel_count}
use Rattle.asl_model.proofs.StandsLaw.{stands_lem}
use Rattle.asl_model.proofs.Ones.{standard_one}
use Rattle.asl_model.proofs.Induct.{IsClosed, visits_by}
use Rattle.asl_model.proofs.RangeLaw.{ranges_lem}

-- ---- a fan has at most 1,000 branches

then_is : {X Y : Type 0} (m : Result X Text) (go : X → Result Y Text) (y : Y) → and_then m go ≡ Ok y → (x : X) × (m ≡ Ok x) × (go x ≡ Ok y)
then_is (Ok x) go y e = (x, refl, e)
then_is (Err f) go y e = absurd (cc)

few_by : (t : Bool) (vs ws : List Json) → nat_le (length vs) item_limit ≡ t → (if t then Ok vs else Err item_limit_error) ≡ Ok ws → length ws ≤ item_limit
few_by true vs ws h e = let same : vs ≡ ws = cc in subst (λ l. length l ≤ item_limit) same (leb-true (length vs) item_limit h)
few_by false vs ws h e = absurd (cc)

first_length : (m : Made) (rest : Result (List Json) Text) (n : ℕ) → ((ws : List Json) → rest ≡ Ok ws → length ws ≡ n) → (ws : List Json) → with_first m rest ≡ Ok ws → length ws ≡ suc n
first_length (Err f) rest n h ws e = absurd (cc)
first_length (Ok v) (Err f) n h ws e = absurd (cc)
first_length (Ok v) (Ok vs) n h ws e = let same : v ∷ vs ≡ ws = cc in sym (ap length same) ∙ ap suc (h vs refl)

selected_length : (t : Template) (x : Json) (i : ℕ) (vs ws : List Json) → selected t x i vs ≡ Ok ws → length ws ≡ length vs
selected_length t x i [] ws e = let same : [] ≡ ws = cc in sym (ap length same)
selected_length t x i (v ∷ vs) ws e = first_length _ (selected t x (suc i) vs) (length vs) (λ us k. selected_length t x (suc i) vs us k) ws e

selected_by_length : (t : Option Template) (x : Json) (vs ws : List Json) → selected_by t x vs ≡ Ok ws → length ws ≡ length vs
selected_by_length None x vs ws e = let same : vs ≡ ws = cc in sym (ap length same)
selected_by_length (Some t) x vs ws e = selected_length t x 0 vs ws e

pub few_inputs : (items : Path) (selector : Option Template) (x : Json) (inputs : List Json) → map_inputs items selector x ≡ Ok inputs → length inputs ≤ item_limit
unfolding map_inputs
few_inputs items selector x inputs e =
    let (vs, a, f) = then_is (array_in _) (λ vs. and_then (few vs) (λ vs. and_then (selected_by selector x vs) (λ inputs. fitting inputs))) inputs e in
    let (ws, c, g) = then_is (few vs) (λ vs. and_then (selected_by selector x vs) (λ inputs. fitting inputs)) inputs f in
    let (us, d, h) = then_is (selected_by selector x ws) (λ inputs. fitting inputs) inputs g in
    let l : length ws ≤ item_limit = few_by (nat_le (length vs) item_limit) vs ws refl c in
    let k : length us ≡ length ws = selected_by_length selector x ws us d in
    let m : us ≡ inputs = fitting_is (nat_le (nodes (json.Arr us)) 200000) us inputs h in
    subst (λ z. length z ≤ item_limit) m (subst (λ n. n ≤ item_limit) (sym k) l)

few_branches : (name : Text) (s : State) (raw : Json) (inputs : List Json) → HasParts s → begins name (head_of s) raw ≡ Fans inputs → length inputs ≤ 1000
unfolding item_limit
few_branches name (Task shape resource after care) raw inputs h e =
    let (x, a, f) = caught_or name raw care (prepared shape raw) (λ x. Calls resource x) inputs e in absurd (cc)
few_branches name (Pass shape result after) raw inputs h e = absurd (cc)
few_branches name (Choice shape rules default) raw inputs h e = absurd (cc)
few_branches name (Succeed shape) raw inputs h e = absurd (cc)
few_branches name (Fail error cause) raw inputs h e = absurd (cc)
few_branches name (Parallel shape bs after care) raw inputs h e =
    let n = length (blocks_in bs) in
    let (x, a, f) = caught_or name raw care (prepared shape raw) (λ x. or_caught name raw care (parallel_inputs n x) (λ inputs. Fans inputs)) inputs e in
    let (ys, c, d) = caught_or name raw care (parallel_inputs n x) (λ inputs. Fans inputs) inputs f in
    let same : ys ≡ inputs = cc in
    let k : n ≡ length inputs = parallel_count n x inputs (c ∙ ap (λ z. Ok z) same) in
    let l : n ≤ 100 = h.1 in
    omega arith
few_branches name (Map shape items selector b after care limit) raw inputs h e =
    let (x, a, f) = caught_or name raw care (prepared shape raw) (λ x. or_caught name raw care (map_inputs items selector x) (λ inputs. Fans inputs)) inputs e in
    let (ys, c, d) = caught_or name raw care (map_inputs items selector x) (λ inputs. Fans inputs) inputs f in
    let same : ys ≡ inputs = cc in
    few_inputs items selector x inputs (c ∙ ap (λ z. Ok z) same)

-- ---- what is inside a branch is inside the block

below_all : (d : ℕ) (bs : Blocks) (c : Block) → In c (blocks_in bs) → (n : Nested) → In n (nested_at d c) → In n (nested_all d bs)
below_all d no_block c i n j = absurd i
below_all d (and_block b bs) c i n j =
    elim i [ inl e ↦ In-left (nested_at d b) (nested_all d bs) n (subst (λ z. In n (nested_at d z)) e j) | inr t ↦ In-right (nested_at d b) (nested_all d bs) n (below_all d bs c t n j) ]

in_repeat : (k : ℕ) (b c : Block) → In c (repeat k b) → c ≡ b
in_repeat zero b c i = absurd i
in_repeat (suc k) b c i = elim i [ inl e ↦ e | inr t ↦ in_repeat k b c t ]

below_state : (d k : ℕ) (s : State) (c : Block) → In c (branches_of s k) → (n : Nested) → In n (nested_at d c) → In n (nested_under d s)
below_state d k (Task shape resource after care) c i n j = absurd i
below_state d k (Pass shape result after) c i n j = absurd i
below_state d k (Choice shape rules default) c i n j = absurd i
below_state d k (Succeed shape) c i n j = absurd i
below_state d k (Fail error cause) c i n j = absurd i
below_state d k (Parallel shape bs after care) c i n j = below_all d bs c i n j
below_state d k (Map shape items selector b after care limit) c i n j = subst (λ z. In n (nested_at d z)) (in_repeat k b c i) j

below_by : (d : ℕ) (st : State) (rest : States) (name : Text) (s : State) (n : Nested) → In n (nested_under d s) → (find_state rest name ≡ Some s → In n (nested_within d rest)) → (t : Bool) → (if t then Some st else find_state rest name) ≡ Some s → In n (nested_under d st ++ nested_within d rest)
below_by d st rest name s n j later true e = let same : st ≡ s = cc in In-left (nested_under d st) (nested_within d rest) n (subst (λ z. In n (nested_under d z)) (sym same) j)
below_by d st rest name s n j later false e = In-right (nested_under d st) (nested_within d rest) n (later e)

below_found : (d : ℕ) (states : States) (name : Text) (s : State) → find_state states name ≡ Some s → (n : Nested) → In n (nested_under d s) → In n (nested_within d states)
below_found d no_state name s e n j = absurd (cc)
below_found d (and_state m st rest) name s e n j = below_by d st rest name s n j (λ f. below_found d rest name s f n j) (same_text m name) e

below_branch : (d k : ℕ) (b c : Block) (name : Text) (s : State) → state_of b name ≡ Some s → In c (branches_of s k) → (n : Nested) → In n (nested_at (suc d) c) → In n (nested_at d b)
below_branch d k (block start states) c name s e i n j = inr (below_found (suc d) states name s e n (below_state (suc d) k s c i n j))

itself : (d : ℕ) (b : Block) → In (record { depth = d; block = b }) (nested_at d b)
itself d (block start states) = inl refl

-- ---- the block of a visit is one of the machine's

abbrev IsWithin : Block → Scope → Visit → Type 0
IsWithin b s v = (d : ℕ) → (n : Nested) × In n (nested_at d b) × (n.block ≡ v.block)

within_closed : IsClosed standard IsWithin
within_closed = record {
  own = λ b s hop v h eb ep d. (record { depth = d; block = b }, itself d b, sym eb);
  inner = λ b c s hop i name st raw inputs v h f g k l r d. let (n, j, e) = r (suc d) in (n, below_branch d (length inputs) b c name st f k n j, e);
}

visited_as : (name : Text) (s : State) (raw : Json) (resource : Text) (x : Json) → begins name (head_of s) raw ≡ Calls resource x → In (Called name resource) (visited_at name s)
visited_as name (Task shape resource' after care) raw resource x e = inl (called_by (prepared shape raw) e)
  where
    called_by : (m : Made) → or_caught name raw care m (λ y. Calls resource' y) ≡ Calls resource x → Called name resource ≡ Called name resource'
    called_by (Ok y) k = let same : resource' ≡ resource = cc in ap (λ z. Called name z) (sym same)
    called_by (Err f) k = absurd (cc)
visited_as name (Pass shape result after) raw resource x e = absurd (cc)
visited_as name (Choice shape rules default) raw resource x e = absurd (cc)
visited_as name (Succeed shape) raw resource x e = absurd (cc)
visited_as name (Fail error cause) raw resource x e = absurd (cc)
visited_as name (Parallel shape bs after care) raw resource x e = absurd (no_call (prepared shape raw) e)
  where
    no_inner : (m : Result (List Json) Text) → or_caught name raw care m (λ inputs. Fans inputs) ≡ Calls resource x → ⊥
    no_inner (Ok y) k = cc
    no_inner (Err f) k = cc

    no_call : (m : Made) → or_caught name raw care m (λ y. or_caught name raw care (parallel_inputs (length (blocks_in bs)) y) (λ inputs. Fans inputs)) ≡ Calls resource x → ⊥
    no_call (Ok y) k = no_inner (parallel_inputs (length (blocks_in bs)) y) k
    no_call (Err f) k = cc
visited_as name (Map shape items selector b after care limit) raw resource x e = absurd (no_call (prepared shape raw) e)
  where
    no_inner : (m : Result (List Json) Text) → or_caught name raw care m (λ inputs. Fans inputs) ≡ Calls resource x → ⊥
    no_inner (Ok y) k = cc
    no_inner (Err f) k = cc

    no_call : (m : Made) → or_caught name raw care m (λ y. or_caught name raw care (map_inputs items selector y) (λ inputs. Fans inputs)) ≡ Calls resource x → ⊥
    no_call (Ok y) k = no_inner (map_inputs items selector y) k
    no_call (Err f) k = cc

joined_as : (name : Text) (s : State) (raw : Json) (inputs : List Json) → begins name (head_of s) raw ≡ Fans inputs → In (Joined name) (visited_at name s)
joined_as name (Task shape resource after care) raw inputs e =
    let (x, a, f) = caught_or name raw care (prepared shape raw) (λ x. Calls resource x) inputs e in absurd (cc)
joined_as name (Pass shape result after) raw inputs e = absurd (cc)
joined_as name (Choice shape rules default) raw inputs e = absurd (cc)
joined_as name (Succeed shape) raw inputs e = absurd (cc)
joined_as name (Fail error cause) raw inputs e = absurd (cc)
joined_as name (Parallel shape bs after care) raw inputs e = inl refl
joined_as name (Map shape items selector b after care limit) raw inputs e = inl refl

sound_visit : (A : Answers) (v : Visit) (z : Visited) → IsSound standard A v z → IsVisitIn v.block z
unfolding standard
sound_visit A v Entered h = inl refl
sound_visit A v (Called name resource) h = inr (name, h.state, h.found, visited_as name h.state v.raw resource v.given h.begins)
sound_visit A v (Joined name) h = inr (name, h.state, h.found, joined_as name h.state v.raw h.inputs h.begins)

pub visit_has_number_lem : VisitHasNumber
visit_has_number_lem root A session input v i =
    let s : Scope = record { session = session; trail = [] } in
    let (n, j, e) = visits_by standard A IsWithin within_closed root s input v i 1 in
    let at : In v.block (blocks root) = subst (λ z. In z (blocks root)) e (in_map (λ (n : Nested). n.block) (nested_at 1 root) n j) in
    each_has_number_lem root v.block v.visited at (sound_visit A v v.visited (stands_lem standard standard_one A root s input v i).sound)

-- ---- places of visits are places of names

abbrev FewAt : ℕ → Block → Type 0
FewAt d b = (n : Nested) → In n (nested_at d b) → (name : Text) (s : State) (raw : Json) (inputs : List Json) → state_of n.block name ≡ Some s → standard.begin name s raw ≡ Fans inputs → length inputs ≤ 1000

abbrev HasSegs : Block → Scope → Visit → Type 0
HasSegs b s v = (d : ℕ) → FewAt d b → (rest : List Seg) × (v.place.trail ≡ s.trail ++ rest) × AllByRecursion IsSeg rest

below_hops : (hop : ℕ) → hop < hop_limit → hop < 2000
unfolding hop_limit
below_hops hop h = h

segs_closed : IsClosed standard HasSegs
segs_closed = record {
  own = λ b s hop v h eb ep d few. ([], ap (λ (p : Place). p.trail) ep ∙ sym (append-nil s.trail), tt);
  inner = λ b c s hop i name st raw inputs v h f g k l r d few.
      let seg : Seg = record { hop = hop; index = i; count = length inputs } in
      let (rest, e, all) = r (suc d) (λ n j. few n (below_branch d (length inputs) b c name st f k n j)) in
      let here : IsSeg seg = record { below_hops = below_hops hop h; below_count = l; within = few (record { depth = d; block = b }) (itself d b) name st raw inputs f g } in
      (seg ∷ rest, e ∙ append_assoc s.trail (seg ∷ []) rest, (here, all));
}

few_root : (root : Block) → IsValid root → FewAt 1 root
unfolding standard
few_root root valid n i name s raw inputs e f =
    let (r, j, m, q) = row_of n.block name s e in
    few_branches name s raw inputs (subst HasParts q (valid.parts n i r j)) f

kind_at : (A : Answers) (v : Visit) (z : Visited) → IsSound standard A v z → Rattle.place_name.specs.Names.IsKindAt v.place.hop (kind_of z)
kind_at A v Entered h = h.0
kind_at A v (Called name resource) h = tt
kind_at A v (Joined name) h = tt

pub names_in_range_lem : NamesInRange
names_in_range_lem root valid A session h input v i =
    let s : Scope = record { session = session; trail = [] } in
    let (rest, e, all) = visits_by standard A HasSegs segs_closed root s input v i 1 (few_root root valid) in
    let r : IsBelowScope root s v.place = ranges_lem standard A root s input v i in
    let t : IsTrail v.place.trail = record {
      within = let a : length v.place.trail ≡ length r.rest = ap length r.trail in let c = r.depth_is in let f = valid.shallow in omega arith;
      segs = subst (AllByRecursion IsSeg) (sym e) all;
    } in
    record {
      is_place = record { below_sessions = subst (λ n. n < SESSIONS) (sym r.session) h; is_trail = t; below_hops = below_hops v.place.hop r.hop };
      is_kind = kind_at A v v.visited (stands_lem standard standard_one A root s input v i).sound;
    }
