-- What holds of each visit of a run, if it holds of those of a scope's own and comes up from the branches of a fan.
use Rattle.std.proofs.Common.{◌≡◌, ℕ, zero, suc, ◌+◌, ◌<◌, List, [], ◌∷◌, map, Option, Some, None, length, refl, sym, subst, inl, inr, arith}
use Rattle.asl_model.specs.Data.{Text, Json, Outcome}
use Rattle.asl_model.specs.Names.{Scope, Answers, child, at_hop}
use Rattle.asl_model.specs.Machine.{Used, Block, State, start_of, state_of, branches_of}
use Rattle.asl_model.specs.Step.{Begun, On, Calls, Fans, Ways}
use Rattle.asl_model.specs.Central.{hop_limit, used_by, Visit, Run, Gathered, All_ended, Some_wait, visits_of, each, called, joined, entered, turn, enter, walk, scope}
use Rattle.asl_model.specs.Laws.{In}
use Rattle.asl_model.proofs.Lists.{In-cases}
use Rattle.asl_model.proofs.Tree.{branches_at, runners, unroll, by_branches}
use Rattle.asl_model.proofs.StandsLaw.{go_cases}

pub record IsClosed (W : Ways) (P : Block → Scope → Visit → Type 0) : Type 0 where
  pub own : (b : Block) (s : Scope) (hop : ℕ) (v : Visit) → hop < hop_limit → v.block ≡ b → v.place ≡ at_hop s hop → P b s v
  pub inner : (b c : Block) (s : Scope) (hop i : ℕ) (name : Text) (st : State) (raw : Json) (inputs : List Json) (v : Visit) → hop < hop_limit → state_of b name ≡ Some st → W.begin name st raw ≡ Fans inputs → In c (branches_of st (length inputs)) → i < length inputs → P c (child (at_hop s hop) i (length inputs)) v → P b s v

some_hops : 0 < hop_limit
unfolding hop_limit
some_hops = omega arith

module _ (W : Ways) (A : Answers) (P : Block → Scope → Visit → Type 0) (closed : IsClosed W P) where
  abbrev Fits : Block → Type 0
  Fits b = (s : Scope) (x : Json) (v : Visit) → In v (scope W A b s x).visits → P b s v

  only_own : (b : Block) (s : Scope) (hop : ℕ) → hop < hop_limit → (u : Visit) → u.block ≡ b → u.place ≡ at_hop s hop → (v : Visit) → v ≡ u → P b s v
  only_own b s hop h u eb ep v e = subst (P b s) (sym e) (closed.own b s hop u h eb ep)

  each_fits : (b : Block) (s : Scope) (hop : ℕ) → hop < hop_limit → (name : Text) (st : State) (raw : Json) (inputs : List Json) → state_of b name ≡ Some st → W.begin name st raw ≡ Fans inputs → (index : ℕ) (bs : List Block) (xs : List Json) → index + length xs ≡ length inputs → ((c : Block) → In c bs → In c (branches_of st (length inputs)) × Fits c) → (v : Visit) → In v (visits_of (each (at_hop s hop) (length inputs) index (map (scope W A) bs) xs)) → P b s v
  each_fits b s hop h name st raw inputs f g index [] xs e ih v i = absurd i
  each_fits b s hop h name st raw inputs f g index (c ∷ cs) [] e ih v i = absurd i
  each_fits b s hop h name st raw inputs f g index (c ∷ cs) (x ∷ xs) e ih v i =
      elim (In-cases (scope W A c (child (at_hop s hop) index (length inputs)) x).visits _ v i) [
        | inl a ↦ let (d, k) = ih c (inl refl) in closed.inner b c s hop index name st raw inputs v h f g d (omega arith) (k (child (at_hop s hop) index (length inputs)) x v a)
        | inr t ↦ each_fits b s hop h name st raw inputs f g (suc index) cs xs (omega arith) (λ k j. ih k (inr j)) v t
      ]

  joined_fits : (b : Block) (name : Text) (st : State) (s : Scope) (hop : ℕ) (raw : Json) (used : Used) → hop < hop_limit → (vs : List Visit) (g : Gathered) → ((v : Visit) → In v vs → P b s v) → (v : Visit) → In v (joined W b name st (at_hop s hop) raw used vs g).visits → P b s v
  joined_fits b name st s hop raw used h vs (Some_wait ps) k v i = k v i
  joined_fits b name st s hop raw used h vs (All_ended os) k v i = elim i [ inl e ↦ only_own b s hop h _ refl refl v e | inr t ↦ k v t ]

  called_fits : (b : Block) (name : Text) (st : State) (s : Scope) (hop : ℕ) (raw : Json) (used : Used) → hop < hop_limit → (resource : Text) (x : Json) (o : Option Outcome) (v : Visit) → In v (called W b name st (at_hop s hop) raw used resource x o).visits → P b s v
  called_fits b name st s hop raw used h resource x None v i = elim i [ inl e ↦ only_own b s hop h _ refl refl v e | inr t ↦ absurd t ]
  called_fits b name st s hop raw used h resource x (Some o) v i = elim i [ inl e ↦ only_own b s hop h _ refl refl v e | inr t ↦ absurd t ]

  turn_fits : (b : Block) (name : Text) (st : State) → state_of b name ≡ Some st → ((n : ℕ) (c : Block) → In c (branches_of st n) → Fits c) → (s : Scope) (hop : ℕ) (raw : Json) (used : Used) → hop < hop_limit → (u : Begun) → W.begin name st raw ≡ u → (v : Visit) → In v (turn W A b name st (λ n. map (scope W A) (branches_of st n)) (at_hop s hop) raw used u).visits → P b s v
  turn_fits b name st f ih s hop raw used h (On o) g v i = absurd i
  turn_fits b name st f ih s hop raw used h (Calls resource x) g v i = called_fits b name st s hop raw used h resource x (A (at_hop s hop)) v i
  turn_fits b name st f ih s hop raw used h (Fans inputs) g v i =
      joined_fits b name st s hop raw used h _ _ (λ w j. each_fits b s hop h name st raw inputs f g 0 (branches_of st (length inputs)) inputs (omega arith) (λ c k. (k, ih (length inputs) c k)) w j) v i

  enter_fits : (b : Block) (name : Text) (m : Option State) → state_of b name ≡ m → ((n : ℕ) (c : Block) → In c (branches_at m n) → Fits c) → (s : Scope) (hop : ℕ) (raw : Json) (again : Option Used) → hop < hop_limit → (go : Text → Json → Option Used → Run) → ((n : Text) (x : Json) (a : Option Used) (v : Visit) → In v (go n x a).visits → P b s v) → (v : Visit) → In v (enter W A b name m (λ n. map (scope W A) (branches_at m n)) s hop raw again go).visits → P b s v
  enter_fits b name None f ih s hop raw again h go k v i = absurd i
  enter_fits b name (Some st) f ih s hop raw again h go k v i =
      let t = turn W A b name st (λ n. map (scope W A) (branches_of st n)) (at_hop s hop) raw (used_by W st again) (W.begin name st raw) in
      elim (go_cases t.visits t.onward go v i) [
        | inl a ↦ turn_fits b name st f ih s hop raw (used_by W st again) h (W.begin name st raw) refl v a
        | inr g ↦ let (n, x, u, e, j) = g in k n x u v j
      ]

  walk_fits : (b : Block) → ((name : Text) (n : ℕ) (c : Block) → In c (branches_at (state_of b name) n) → Fits c) → (left : ℕ) (s : Scope) (name : Text) (hop : ℕ) (raw : Json) (again : Option Used) → hop + left ≡ hop_limit → (v : Visit) → In v (walk W A b (runners W A b) left s name hop raw again).visits → P b s v
  walk_fits b ih zero s name hop raw again e v i = absurd i
  walk_fits b ih (suc left) s name hop raw again e v i =
      let e' : suc hop + left ≡ hop_limit = omega arith in
      enter_fits b name (state_of b name) refl (ih name) s hop raw again (omega arith) _ (λ n x a w j. walk_fits b ih left s n (suc hop) x a e' w j) v i

  pub visits_by : (b : Block) → Fits b
  visits_by = by_branches Fits (λ b ih s x v i.
      let i' : In v (entered b s x (walk W A b (runners W A b) hop_limit s (start_of b) 0 x None)).visits = subst (λ r. In v r.visits) (unroll W A b s x) i in
      elim i' [
        | inl e ↦ only_own b s 0 some_hops _ refl refl v e
        | inr t ↦ walk_fits b ih hop_limit s (start_of b) 0 x None (omega arith) v t
      ])
