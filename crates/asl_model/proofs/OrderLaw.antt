-- Visits stand in the order of names, so names differ.
use Rattle.std.proofs.Common.{◌≡◌, ℕ, zero, suc, ◌<◌, ◌≤◌, List, [], ◌∷◌, ◌++◌, map, Option, Some, None, length, refl, sym, ap, ap₂, ◌∙◌, subst, subst₂, inl, inr, arith, append_assoc}
use Rattle.asl_model.specs.Data.{Text, Json, Outcome}
use Rattle.asl_model.specs.Names.{Seg, Scope, Place, Name, Answers, child, at_hop, scope_of}
use Rattle.place_name.specs.Order.{numbers, rank}
use Rattle.asl_model.proofs.Before.{key, IsBelow, IsBefore, Rises, rises_rising}
use Rattle.asl_model.specs.Machine.{Used, Block, State, start_of, state_of, branches_of}
use Rattle.asl_model.specs.Step.{Goes, Ends, Begun, On, Calls, Fans, Ways}
use Rattle.asl_model.specs.Central.{hop_limit, used_by, Visited, Entered, Visit, kind_of, name_of, Run, Then, Then_on, Stays, Gathered, All_ended, Some_wait, visits_of, then_go, called, joined, turn, enter, walk, scope}
use Rattle.asl_model.specs.Stretch.{pairs}
use Rattle.asl_model.specs.Laws.{In, runs_of, IsGrown, AreDistinct, Order, Distinct, OneVisit, SameVisit}
use Rattle.asl_model.proofs.Lists.{In-cases}
use Rattle.asl_model.proofs.Tree.{branches_at, runners, unroll, by_branches}
use Rattle.asl_model.proofs.Fans.{each-runs}
use Rattle.asl_model.proofs.GrowthLaw.{growth_lem}

below_after : (ps xs ys : List ℕ) → IsBelow xs ys → IsBelow (ps ++ xs) (ps ++ ys)
below_after [] xs ys h = h
below_after (p ∷ ps) xs ys h = inr (refl, below_after ps xs ys h)

below_irrefl : (xs : List ℕ) → IsBelow xs xs → ⊥
below_irrefl [] h = h
below_irrefl (x ∷ xs) h = elim h [ inl l ↦ omega arith | inr e ↦ below_irrefl xs e.1 ]

before_irrefl : (n m : Name) → IsBefore n m → n ≡ m → ⊥
before_irrefl n m h e =
    elim (subst (λ k. IsBefore n k) (sym e) h) [ inl b ↦ below_irrefl (key n.place) b | inr k ↦ let l = k.1 in omega arith ]

rising-append : (xs ys : List Visit) → Rises xs → Rises ys → ((x y : Visit) → In x xs → In y ys → IsBefore (name_of x) (name_of y)) → Rises (xs ++ ys)
rising-append [] ys r q h = q
rising-append (x ∷ xs) ys r q h =
    (λ w i. elim (In-cases xs ys w i) [ inl a ↦ r.0 w a | inr b ↦ h x w (inl refl) b ], rising-append xs ys r.1 q (λ y z i j. h y z (inr i) j))

-- the numbers of a scope
abbrev pub base : Scope → List ℕ
base s = s.session ∷ numbers s.trail

numbers-append : (t : List Seg) (g : Seg) → numbers (t ++ g ∷ []) ≡ numbers t ++ g.hop ∷ g.index ∷ g.count ∷ []
numbers-append [] g = refl
numbers-append (h ∷ t) g = ap (λ l. h.hop ∷ h.index ∷ h.count ∷ l) (numbers-append t g)

-- these numbers follow the scope's in the visit's key
abbrev pub Has : Scope → List ℕ → Visit → Type 0
Has s xs v = key v.place ≡ base s ++ xs

below_by : (s : Scope) (xs ys : List ℕ) (v w : Visit) → Has s xs v → Has s ys w → IsBelow xs ys → IsBefore (name_of v) (name_of w)
below_by s xs ys v w h k l = inl (subst₂ IsBelow (sym h) (sym k) (below_after (base s) xs ys l))

-- a visit of the state at that hop, or of one of its branches
record AtHop (s : Scope) (hop : ℕ) (v : Visit) : Type 0 where
  rest : List ℕ
  has : Has s (hop ∷ rest) v
  kind : rest ≡ [] → 0 < rank (kind_of v.visited)

record FromHop (s : Scope) (hop : ℕ) (v : Visit) : Type 0 where
  at : ℕ
  bound : hop ≤ at
  here : AtHop s at v

record FromBranch (p : Place) (index : ℕ) (v : Visit) : Type 0 where
  at : ℕ
  rest : List ℕ
  bound : index ≤ at
  has : Has (scope_of p) (p.hop ∷ at ∷ rest) v

pub record InScope (s : Scope) (v : Visit) : Type 0 where
  pub at : ℕ
  pub rest : List ℕ
  pub has : Has s (at ∷ rest) v

pub branch_has : (p : Place) (i c at : ℕ) (rest : List ℕ) (v : Visit) → Has (child p i c) (at ∷ rest) v → Has (scope_of p) (p.hop ∷ i ∷ c ∷ at ∷ rest) v
branch_has p i c at rest v h =
    h ∙ ap (λ l. (p.session ∷ l) ++ at ∷ rest) (numbers-append p.trail (record { hop = p.hop; index = i; count = c }))
    ∙ append_assoc (p.session ∷ numbers p.trail) (p.hop ∷ i ∷ c ∷ []) (at ∷ rest)

pub record Good (s : Scope) (vs : List Visit) : Type 0 where
  rising : Rises vs
  pub inside : (v : Visit) → In v vs → InScope s v

record GoodFrom (s : Scope) (hop : ℕ) (vs : List Visit) : Type 0 where
  rising : Rises vs
  from : (v : Visit) → In v vs → FromHop s hop v

record GoodAt (s : Scope) (hop : ℕ) (vs : List Visit) : Type 0 where
  rising : Rises vs
  at : (v : Visit) → In v vs → AtHop s hop v

record GoodBranches (p : Place) (index : ℕ) (vs : List Visit) : Type 0 where
  rising : Rises vs
  from : (v : Visit) → In v vs → FromBranch p index v

go_good : (s : Scope) (hop : ℕ) (vs : List Visit) (t : Then) (go : Text → Json → Option Used → Run) → GoodAt s hop vs → ((n : Text) (v : Json) (a : Option Used) → GoodFrom s (suc hop) (go n v a).visits) → GoodFrom s hop (then_go vs t go).visits
go_good s hop vs (Then_on (Goes n x u)) go g h =
    let k = h n x u in
    record {
      rising = rising-append vs (go n x u).visits g.rising k.rising
          (λ v w i j. let a = g.at v i in let b = k.from w j in let l : hop < b.at = let m = b.bound in omega arith in below_by s (hop ∷ a.rest) (b.at ∷ b.here.rest) v w a.has b.here.has (inl l));
      from = λ v i. elim (In-cases vs (go n x u).visits v i) [
        | inl a ↦ record { at = hop; bound = omega arith; here = g.at v a }
        | inr b ↦ let f = k.from v b in record { at = f.at; bound = let m = f.bound in omega arith; here = f.here }
      ];
    }
go_good s hop vs (Then_on (Ends o)) go g h = record { rising = g.rising; from = λ v i. record { at = hop; bound = omega arith; here = g.at v i } }
go_good s hop vs (Stays ps) go g h = record { rising = g.rising; from = λ v i. record { at = hop; bound = omega arith; here = g.at v i } }

one_good : (s : Scope) (hop : ℕ) (v : Visit) → v.place ≡ at_hop s hop → 0 < rank (kind_of v.visited) → GoodAt s hop (v ∷ [])
one_good s hop v e k =
    let it : AtHop s hop v = record { rest = []; has = ap key e; kind = λ z. k } in
    record { rising = ((λ w i. absurd i), tt); at = λ w i. elim i [ inl q ↦ subst (AtHop s hop) (sym q) it | inr t ↦ absurd t ] }

branches_good : (s : Scope) (hop : ℕ) (vs : List Visit) → GoodBranches (at_hop s hop) 0 vs → GoodAt s hop vs
branches_good s hop vs g = record { rising = g.rising; at = λ v i. let f = g.from v i in record { rest = f.at ∷ f.rest; has = f.has; kind = λ e. absurd (cc) } }

-- a Join before its branches
join_good : (s : Scope) (hop : ℕ) (v : Visit) (vs : List Visit) → v.place ≡ at_hop s hop → 0 < rank (kind_of v.visited) → GoodBranches (at_hop s hop) 0 vs → GoodAt s hop (v ∷ vs)
join_good s hop v vs e k g =
    let it : AtHop s hop v = record { rest = []; has = ap key e; kind = λ z. k } in
    record {
      rising = ((λ w i. let f = g.from w i in below_by s (hop ∷ []) (hop ∷ f.at ∷ f.rest) v w (ap key e) f.has (inr (refl, tt))), g.rising);
      at = λ w i. elim i [ inl q ↦ subst (AtHop s hop) (sym q) it | inr t ↦ (branches_good s hop vs g).at w t ];
    }

-- an Enter before all else
enter_good : (s : Scope) (v : Visit) (vs : List Visit) → v.place ≡ at_hop s 0 → v.visited ≡ Entered → GoodFrom s 0 vs → Good s (v ∷ vs)
enter_good s v vs e k g =
    record {
      rising = ((λ w i. before w (g.from w i)), g.rising);
      inside = λ w i. elim i [ inl q ↦ subst (InScope s) (sym q) (record { at = 0; rest = []; has = ap key e }) | inr t ↦ let f = g.from w t in record { at = f.at; rest = f.here.rest; has = f.here.has } ];
    }
  where
    at_first : (w : Visit) (rest : List ℕ) → Has s (0 ∷ rest) w → (rest ≡ [] → 0 < rank (kind_of w.visited)) → IsBefore (name_of v) (name_of w)
    at_first w [] h r = inr (ap key e ∙ sym h, subst (λ y. rank (kind_of y) < rank (kind_of w.visited)) (sym k) (r refl))
    at_first w (y ∷ ys) h r = below_by s (0 ∷ []) (0 ∷ y ∷ ys) v w (ap key e) h (inr (refl, tt))

    at_number : (n : ℕ) (w : Visit) (rest : List ℕ) → Has s (n ∷ rest) w → (rest ≡ [] → 0 < rank (kind_of w.visited)) → IsBefore (name_of v) (name_of w)
    at_number zero w rest h r = at_first w rest h r
    at_number (suc n) w rest h r = below_by s (0 ∷ []) (suc n ∷ rest) v w (ap key e) h (inl (omega arith))

    before : (w : Visit) → FromHop s 0 w → IsBefore (name_of v) (name_of w)
    before w f = at_number f.at w f.here.rest f.here.has f.here.kind

module _ (W : Ways) (A : Answers) where
  abbrev pub AllGood : Block → Type 0
  AllGood b = (s : Scope) (x : Json) → Good s (scope W A b s x).visits

  runs_good : (p : Place) (count index : ℕ) (bs : List Block) (xs : List Json) → ((c : Block) → In c bs → AllGood c) → GoodBranches p index (visits_of (runs_of W A p count index (pairs bs xs)))
  runs_good p count index [] xs ih = record { rising = tt; from = λ v i. absurd i }
  runs_good p count index (b ∷ bs) [] ih = record { rising = tt; from = λ v i. absurd i }
  runs_good p count index (b ∷ bs) (x ∷ xs) ih =
      let here = (scope W A b (child p index count) x).visits in
      let there = visits_of (runs_of W A p count (suc index) (pairs bs xs)) in
      let g : Good (child p index count) here = ih b (inl refl) (child p index count) x in
      let k : GoodBranches p (suc index) there = runs_good p count (suc index) bs xs (λ c i. ih c (inr i)) in
      let first : (v : Visit) → In v here → FromBranch p index v = λ v i. let f = g.inside v i in record { at = index; rest = count ∷ f.at ∷ f.rest; bound = omega arith; has = branch_has p index count f.at f.rest v f.has } in
      record {
        rising = rising-append here there g.rising k.rising
            (λ v w i j. let f = g.inside v i in let l = k.from w j in let m = l.bound in below_by (scope_of p) (p.hop ∷ index ∷ count ∷ f.at ∷ f.rest) (p.hop ∷ l.at ∷ l.rest) v w (branch_has p index count f.at f.rest v f.has) l.has (inr (refl, inl m)));
        from = λ v i. elim (In-cases here there v i) [ inl a ↦ first v a | inr t ↦ let f = k.from v t in record { at = f.at; rest = f.rest; bound = let m = f.bound in omega arith; has = f.has } ];
      }

  joined_good : (b : Block) (name : Text) (st : State) (s : Scope) (hop : ℕ) (raw : Json) (used : Used) (vs : List Visit) (g : Gathered) → GoodBranches (at_hop s hop) 0 vs → GoodAt s hop (joined W b name st (at_hop s hop) raw used vs g).visits
  joined_good b name st s hop raw used vs (All_ended os) k = join_good s hop _ vs refl (omega arith) k
  joined_good b name st s hop raw used vs (Some_wait ps) k = branches_good s hop vs k

  called_good : (b : Block) (name : Text) (st : State) (s : Scope) (hop : ℕ) (raw : Json) (used : Used) (resource : Text) (x : Json) (o : Option Outcome) → GoodAt s hop (called W b name st (at_hop s hop) raw used resource x o).visits
  called_good b name st s hop raw used resource x None = one_good s hop _ refl (omega arith)
  called_good b name st s hop raw used resource x (Some o) = one_good s hop _ refl (omega arith)

  turn_good : (b : Block) (name : Text) (st : State) (bs : ℕ → List Block) → ((n : ℕ) (c : Block) → In c (bs n) → AllGood c) → (s : Scope) (hop : ℕ) (raw : Json) (used : Used) (u : Begun) → GoodAt s hop (turn W A b name st (λ n. map (scope W A) (bs n)) (at_hop s hop) raw used u).visits
  turn_good b name st bs ih s hop raw used (On o) = record { rising = tt; at = λ v i. absurd i }
  turn_good b name st bs ih s hop raw used (Calls resource x) = called_good b name st s hop raw used resource x (A (at_hop s hop))
  turn_good b name st bs ih s hop raw used (Fans inputs) =
      let n = length inputs in
      joined_good b name st s hop raw used _ _ (subst (λ l. GoodBranches (at_hop s hop) 0 (visits_of l)) (sym (each-runs W A (at_hop s hop) n 0 (bs n) inputs)) (runs_good (at_hop s hop) n 0 (bs n) inputs (ih n)))

  entered_good : (b : Block) (name : Text) (m : Option State) → ((n : ℕ) (c : Block) → In c (branches_at m n) → AllGood c) → (s : Scope) (hop : ℕ) (raw : Json) (again : Option Used) (go : Text → Json → Option Used → Run) → ((n : Text) (v : Json) (a : Option Used) → GoodFrom s (suc hop) (go n v a).visits) → GoodFrom s hop (enter W A b name m (λ n. map (scope W A) (branches_at m n)) s hop raw again go).visits
  entered_good b name None k s hop raw again go h = record { rising = tt; from = λ v i. absurd i }
  entered_good b name (Some st) k s hop raw again go h = go_good s hop _ _ go (turn_good b name st (branches_of st) k s hop raw (used_by W st again) (W.begin name st raw)) h

  walk_good : (b : Block) → ((name : Text) (n : ℕ) (c : Block) → In c (branches_at (state_of b name) n) → AllGood c) → (left : ℕ) (s : Scope) (name : Text) (hop : ℕ) (raw : Json) (again : Option Used) → GoodFrom s hop (walk W A b (runners W A b) left s name hop raw again).visits
  walk_good b ih zero s name hop raw again = record { rising = tt; from = λ v i. absurd i }
  walk_good b ih (suc left) s name hop raw again =
      entered_good b name (state_of b name) (ih name) s hop raw again _ (λ n v a. walk_good b ih left s n (suc hop) v a)

  pub all_good : (b : Block) → AllGood b
  all_good = by_branches AllGood (λ b ih s x. subst (λ r. Good s r.visits) (sym (unroll W A b s x)) (enter_good s _ _ refl refl (walk_good b ih hop_limit s (start_of b) 0 x None)))

pub order_lem : (W : Ways) → Order W
order_lem W A b s x = rises_rising (scope W A b s x).visits (all_good W A b s x).rising

distinct_rising : (vs : List Visit) → Rises vs → AreDistinct vs
distinct_rising [] r = tt
distinct_rising (v ∷ vs) r = ((λ w i. before_irrefl (name_of v) (name_of w) (r.0 w i)), distinct_rising vs r.1)

pub distinct_lem : (W : Ways) → Distinct W
distinct_lem W A b s x = distinct_rising (scope W A b s x).visits (all_good W A b s x).rising

one_in : (vs : List Visit) → AreDistinct vs → (v w : Visit) → In v vs → In w vs → name_of v ≡ name_of w → v ≡ w
one_in [] d v w i j e = absurd i
one_in (u ∷ us) d v w i j e =
    elim i [
      | inl p ↦ elim j [ inl q ↦ p ∙ sym q | inr t ↦ absurd (d.0 w t (ap name_of (sym p) ∙ e)) ]
      | inr s ↦ elim j [ inl q ↦ absurd (d.0 v s (ap name_of (sym q) ∙ sym e)) | inr t ↦ one_in us d.1 v w s t e ]
    ]

pub one_visit_lem : (W : Ways) → OneVisit W
one_visit_lem W A b s x v w i j e = one_in (scope W A b s x).visits (distinct_lem W A b s x) v w i j e

pub same_visit_lem : (W : Ways) → SameVisit W
same_visit_lem W A B h b s x v w i j e =
    let (u, k, g) = (growth_lem W A B h b s x).visits v i in
    let names : name_of u ≡ name_of v = ap₂ (λ (p : Place) (y : Visited). let n : Name = record { place = p; kind = kind_of y } in n) g.place g.visited in
    let same : u ≡ w = one_visit_lem W B b s x u w k j (names ∙ e) in
    subst (IsGrown v) same g
