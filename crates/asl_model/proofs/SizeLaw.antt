-- No run has more visits than its block's size.
use Rattle.std.proofs.Common.{◌≡◌, ℕ, zero, suc, ◌+◌, ◌*◌, ◌≤◌, List, [], ◌∷◌, map, Option, Some, None, Ok, Bool, true, false, length, refl, sym, ap, ◌∙◌, subst, inl, inr, arith, length-append, if◌then◌else◌, mul-le-mul_right}
use Rattle.asl_model.specs.Data.{Text, Json, Outcome, prepared, map_inputs, item_limit, repeat, same_text}
use Rattle.asl_model.specs.Names.{Scope, Place, Answers, child, at_hop}
use Rattle.asl_model.specs.Machine.{Used, Block, block, States, no_state, and_state, State, Task, Pass, Choice, Succeed, Fail, Parallel, Map, Blocks, no_block, and_block, start_of, states_of, find_state, state_of, blocks_in, branches_of, head_of}
use Rattle.asl_model.specs.Head.{begins, or_caught}
use Rattle.asl_model.specs.Step.{Goes, Ends, Begun, On, Calls, Fans, standard}
use Rattle.asl_model.specs.Central.{hop_limit, used_by, Visit, Run, Then, Then_on, Stays, Gathered, All_ended, Some_wait, visits_of, gather, each, then_go, called, joined, turn, enter, walk, scope}
use Rattle.asl_model.specs.Sequential.{size, size_in, size_of, size_all, Bounded}
use Rattle.asl_model.specs.Laws.{In}
use Rattle.asl_model.proofs.Tree.{branches_at, runners, unroll, by_branches}
use Rattle.asl_model.proofs.WaysLaw.{caught_or}
use Rattle.asl_model.proofs.NameLaw.{few_inputs}

total : List Block → ℕ
total [] = 0
total (b ∷ bs) = size b + total bs

total_all : (bs : Blocks) → total (blocks_in bs) ≡ size_all bs
unfolding total
total_all no_block = refl
total_all (and_block b bs) = ap (λ n. size b + n) (total_all bs)

total_repeat : (n : ℕ) (b : Block) → total (repeat n b) ≡ n * size b
unfolding total
total_repeat zero b = omega arith
total_repeat (suc n) b = let e : total (repeat n b) ≡ n * size b = total_repeat n b in omega arith

total_branches : (name : Text) (s : State) (raw : Json) (inputs : List Json) → begins name (head_of s) raw ≡ Fans inputs → total (branches_of s (length inputs)) ≤ size_of s
unfolding total
total_branches name (Task shape resource after care) raw inputs e = omega arith
total_branches name (Pass shape result after) raw inputs e = omega arith
total_branches name (Choice shape rules default) raw inputs e = omega arith
total_branches name (Succeed shape) raw inputs e = omega arith
total_branches name (Fail error cause) raw inputs e = omega arith
total_branches name (Parallel shape bs after care) raw inputs e = let t : total (blocks_in bs) ≡ size_all bs = total_all bs in omega arith
total_branches name (Map shape items selector b after care limit) raw inputs e =
    let (x, a, f) = caught_or name raw care (prepared shape raw) (λ x. or_caught name raw care (map_inputs items selector x) (λ inputs. Fans inputs)) inputs e in
    let (ys, c, d) = caught_or name raw care (map_inputs items selector x) (λ inputs. Fans inputs) inputs f in
    let same : ys ≡ inputs = cc in
    let l : length inputs ≤ item_limit = few_inputs items selector x inputs (c ∙ ap (λ z. Ok z) same) in
    let t : total (repeat (length inputs) b) ≡ length inputs * size b = total_repeat (length inputs) b in
    let m : length inputs * size b ≤ item_limit * size b = mul-le-mul_right (size b) l in
    omega arith

total_fans : (name : Text) (s : State) (raw : Json) (inputs : List Json) → standard.begin name s raw ≡ Fans inputs → total (branches_of s (length inputs)) ≤ size_of s
unfolding standard
total_fans name s raw inputs e = total_branches name s raw inputs e

size_found : (states : States) (name : Text) (s : State) → find_state states name ≡ Some s → suc (size_of s) ≤ size_in states
size_found no_state name s e = absurd (cc)
size_found (and_state m st rest) name s e = size_chosen m st rest name s (size_found rest name) (same_text m name) e
  where
    size_chosen : (m : Text) (st : State) (rest : States) (name : Text) (s : State) → ((s : State) → find_state rest name ≡ Some s → suc (size_of s) ≤ size_in rest) → (t : Bool) → (if t then Some st else find_state rest name) ≡ Some s → suc (size_of s) ≤ size_in (and_state m st rest)
    size_chosen m st rest name s k true e = let same : st ≡ s = cc in let l : size_of st ≡ size_of s = ap size_of same in omega arith
    size_chosen m st rest name s k false e = let l : suc (size_of s) ≤ size_in rest = k s e in omega arith

go_size : (vs : List Visit) (t : Then) (go : Text → Json → Option Used → Run) (n : ℕ) → ((m : Text) (v : Json) (a : Option Used) → length (go m v a).visits ≤ n) → length (then_go vs t go).visits ≤ length vs + n
go_size vs (Then_on (Goes m x a)) go n h = let l : length (go m x a).visits ≤ n = h m x a in omega (arith, length-append vs (go m x a).visits)
go_size vs (Then_on (Ends o)) go n h = omega arith
go_size vs (Stays ps) go n h = omega arith

module _ (A : Answers) where
  abbrev Fits : Block → Type 0
  Fits b = (s : Scope) (x : Json) → length (scope standard A b s x).visits ≤ size b

  each_size : (p : Place) (count index : ℕ) (bs : List Block) (xs : List Json) → ((c : Block) → In c bs → Fits c) → length (visits_of (each p count index (map (scope standard A) bs) xs)) ≤ total bs
  unfolding total
  each_size p count index [] xs ih = omega arith
  each_size p count index (b ∷ bs) [] ih = omega arith
  each_size p count index (b ∷ bs) (x ∷ xs) ih =
      let l : length (scope standard A b (child p index count) x).visits ≤ size b = ih b (inl refl) (child p index count) x in
      let k : length (visits_of (each p count (suc index) (map (scope standard A) bs) xs)) ≤ total bs = each_size p count (suc index) bs xs (λ c i. ih c (inr i)) in
      omega (arith, length-append (scope standard A b (child p index count) x).visits (visits_of (each p count (suc index) (map (scope standard A) bs) xs)))

  joined_size : (b : Block) (name : Text) (st : State) (p : Place) (raw : Json) (used : Used) (vs : List Visit) (g : Gathered) → length (joined standard b name st p raw used vs g).visits ≤ suc (length vs)
  joined_size b name st p raw used vs (All_ended os) = omega arith
  joined_size b name st p raw used vs (Some_wait ps) = omega arith

  called_size : (b : Block) (name : Text) (st : State) (p : Place) (raw : Json) (used : Used) (resource : Text) (x : Json) (o : Option Outcome) → length (called standard b name st p raw used resource x o).visits ≤ 1
  called_size b name st p raw used resource x None = omega arith
  called_size b name st p raw used resource x (Some o) = omega arith

  turn_size : (b : Block) (name : Text) (st : State) → ((n : ℕ) (c : Block) → In c (branches_of st n) → Fits c) → (p : Place) (raw : Json) (used : Used) (u : Begun) → standard.begin name st raw ≡ u → length (turn standard A b name st (λ n. map (scope standard A) (branches_of st n)) p raw used u).visits ≤ suc (size_of st)
  turn_size b name st ih p raw used (On o) e = omega arith
  turn_size b name st ih p raw used (Calls resource x) e = let l : length (called standard b name st p raw used resource x (A p)).visits ≤ 1 = called_size b name st p raw used resource x (A p) in omega arith
  turn_size b name st ih p raw used (Fans inputs) e =
      let n = length inputs in
      let runs = each p n 0 (map (scope standard A) (branches_of st n)) inputs in
      let l : length (joined standard b name st p raw used (visits_of runs) (gather runs)).visits ≤ suc (length (visits_of runs)) = joined_size b name st p raw used (visits_of runs) (gather runs) in
      let k : length (visits_of runs) ≤ total (branches_of st n) = each_size p n 0 (branches_of st n) inputs (ih n) in
      let m : total (branches_of st n) ≤ size_of st = total_fans name st raw inputs e in
      omega arith

  enter_size : (b : Block) (name : Text) (m : Option State) → ((n : ℕ) (c : Block) → In c (branches_at m n) → Fits c) → (top : ℕ) → ((s : State) → m ≡ Some s → suc (size_of s) ≤ top) → (s : Scope) (hop : ℕ) (raw : Json) (again : Option Used) (go : Text → Json → Option Used → Run) (n : ℕ) → ((k : Text) (v : Json) (a : Option Used) → length (go k v a).visits ≤ n) → length (enter standard A b name m (λ n. map (scope standard A) (branches_at m n)) s hop raw again go).visits ≤ top + n
  enter_size b name None ih top f s hop raw again go n h = omega arith
  enter_size b name (Some st) ih top f s hop raw again go n h =
      let t = turn standard A b name st (λ n. map (scope standard A) (branches_of st n)) (at_hop s hop) raw (used_by standard st again) (standard.begin name st raw) in
      let a : length t.visits ≤ suc (size_of st) = turn_size b name st ih (at_hop s hop) raw (used_by standard st again) (standard.begin name st raw) refl in
      let c : suc (size_of st) ≤ top = f st refl in
      let d : length (then_go t.visits t.onward go).visits ≤ length t.visits + n = go_size t.visits t.onward go n h in
      omega arith

  walk_size : (b : Block) → ((name : Text) (n : ℕ) (c : Block) → In c (branches_at (state_of b name) n) → Fits c) → (left : ℕ) (s : Scope) (name : Text) (hop : ℕ) (raw : Json) (again : Option Used) → length (walk standard A b (runners standard A b) left s name hop raw again).visits ≤ left * size_in (states_of b)
  walk_size b ih zero s name hop raw again = omega arith
  walk_size b ih (suc left) s name hop raw again =
      let l : length (walk standard A b (runners standard A b) (suc left) s name hop raw again).visits ≤ size_in (states_of b) + left * size_in (states_of b) =
      enter_size b name (state_of b name) (ih name) (size_in (states_of b)) (λ st e. size_found (states_of b) name st e) s hop raw again _ (left * size_in (states_of b)) (λ n v a. walk_size b ih left s n (suc hop) v a) in
      omega arith

  size_is : (b : Block) → size b ≡ suc (hop_limit * size_in (states_of b))
  size_is (block start states) = refl

  bounded : (b : Block) → Fits b
  bounded = by_branches Fits (λ b ih s x.
      let w = walk standard A b (runners standard A b) hop_limit s (start_of b) 0 x None in
      let l : length w.visits ≤ hop_limit * size_in (states_of b) = walk_size b ih hop_limit s (start_of b) 0 x None in
      let k : size b ≡ suc (hop_limit * size_in (states_of b)) = size_is b in
      subst (λ (r : Run). length r.visits ≤ size b) (sym (unroll standard A b s x)) (omega arith))

pub bounded_lem : Bounded
bounded_lem A b s x = bounded A b s x
