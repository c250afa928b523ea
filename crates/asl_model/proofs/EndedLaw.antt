-- A run that has ended stays as it is with more answers.
use Rattle.std.proofs.Common.{◌≡◌, ℕ, zero, suc, List, [], ◌∷◌, map, Option, Some, None, length, refl, sym, ap, ap₂, ◌∙◌, inl, inr}
use Rattle.asl_model.specs.Data.{Text, Json, Outcome}
use Rattle.asl_model.specs.Names.{Scope, Place, Answers, Holds, child, at_hop}
use Rattle.asl_model.specs.Machine.{Used, Block, State, start_of, state_of}
use Rattle.asl_model.specs.Step.{Goes, Ends, Begun, On, Calls, Fans, Ways}
use Rattle.asl_model.specs.Central.{hop_limit, used_by, Visit, Ended, Run, Turn, Then, Then_on, Stays, Gathered, All_ended, Some_wait, gather, visits_of, each, then_go, called, joined, entered, turn, enter, walk, scope}
use Rattle.asl_model.specs.Laws.{In}
use Rattle.asl_model.proofs.GrowthLaw.{with_end-all}
use Rattle.asl_model.proofs.Tree.{branches_at, runners, unroll, by_branches}

abbrev pub EndedStays : Ways → Type 0
EndedStays W = (A B : Answers) → Holds A B → (b : Block) (s : Scope) (x : Json) (o : Outcome) → (scope W A b s x).end ≡ Ended o → scope W B b s x ≡ scope W A b s x

abbrev GoesOn : Then → Type 0
GoesOn (Then_on o) = Unit {0}
GoesOn (Stays ps) = ⊥

-- what a turn goes on with ends where the whole does
goes_on : (vs : List Visit) (t : Then) (f : Text → Json → Option Used → Run) (o : Outcome) → (then_go vs t f).end ≡ Ended o → GoesOn t
goes_on vs (Then_on w) f o e = tt
goes_on vs (Stays ps) f o e = absurd (cc)

go-same : (vs : List Visit) (t : Then) (f g : Text → Json → Option Used → Run) (o : Outcome) → (then_go vs t f).end ≡ Ended o →
    ((n : Text) (v : Json) (a : Option Used) → (f n v a).end ≡ Ended o → g n v a ≡ f n v a) → then_go vs t g ≡ then_go vs t f
go-same vs (Then_on (Goes next v again)) f g o e h = ap (λ (r : Run). then_go vs (Then_on (Goes next v again)) (λ n x a. r)) (h next v again e)
go-same vs (Then_on (Ends r)) f g o e h = refl
go-same vs (Stays ps) f g o e h = refl

module _ (W : Ways) (A B : Answers) (holds : Holds A B) where
  abbrev Good : Block → Type 0
  Good b = (s : Scope) (v : Json) (o : Outcome) → (scope W A b s v).end ≡ Ended o → scope W B b s v ≡ scope W A b s v

  each-same : (bs : List Block) → ((c : Block) → In c bs → Good c) → (p : Place) (count index : ℕ) (xs : List Json) (os : List Outcome) → gather (each p count index (map (scope W A) bs) xs) ≡ All_ended os →
      each p count index (map (scope W B) bs) xs ≡ each p count index (map (scope W A) bs) xs
  each-same [] ih p count index xs os e = refl
  each-same (b ∷ bs) ih p count index [] os e = refl
  each-same (b ∷ bs) ih p count index (x ∷ xs) os e =
      let (o, more, a, c, d) = with_end-all (scope W A b (child p index count) x).end (gather (each p count (suc index) (map (scope W A) bs) xs)) os e in
      ap₂ (λ r rs. r ∷ rs) (ih b (inl refl) (child p index count) x o a) (each-same bs (λ c h. ih c (inr h)) p count (suc index) xs more c)

  called-same : (b : Block) (name : Text) (s : State) (p : Place) (raw : Json) (used : Used) (resource : Text) (x : Json) (o r : Option Outcome) → ((y : Outcome) → o ≡ Some y → r ≡ Some y) →
      GoesOn (called W b name s p raw used resource x o).onward → called W b name s p raw used resource x r ≡ called W b name s p raw used resource x o
  called-same b name s p raw used resource x None r h g = absurd g
  called-same b name s p raw used resource x (Some y) r h g = ap (λ z. called W b name s p raw used resource x z) (h y refl)

  all-ended : (b : Block) (name : Text) (s : State) (p : Place) (raw : Json) (used : Used) (vs : List Visit) (g : Gathered) → GoesOn (joined W b name s p raw used vs g).onward → (os : List Outcome) × (g ≡ All_ended os)
  all-ended b name s p raw used vs (All_ended os) h = (os, refl)
  all-ended b name s p raw used vs (Some_wait ps) h = absurd h

  turn-same : (b : Block) (name : Text) (s : State) (bs : ℕ → List Block) → ((n : ℕ) (c : Block) → In c (bs n) → Good c) → (p : Place) (raw : Json) (used : Used) (u : Begun) →
      GoesOn (turn W A b name s (λ n. map (scope W A) (bs n)) p raw used u).onward →
      turn W B b name s (λ n. map (scope W B) (bs n)) p raw used u ≡ turn W A b name s (λ n. map (scope W A) (bs n)) p raw used u
  turn-same b name s bs ih p raw used (On o) g = refl
  turn-same b name s bs ih p raw used (Calls resource x) g = called-same b name s p raw used resource x (A p) (B p) (holds p) g
  turn-same b name s bs ih p raw used (Fans inputs) g =
      let rs = each p (length inputs) 0 (map (scope W A) (bs (length inputs))) inputs in
      let (os, all) = all-ended b name s p raw used (visits_of rs) (gather rs) g in
      ap (λ (qs : List Run). joined W b name s p raw used (visits_of qs) (gather qs)) (each-same (bs (length inputs)) (ih (length inputs)) p (length inputs) 0 inputs os all)

  enter-same : (b : Block) (name : Text) (m : Option State) → ((n : ℕ) (c : Block) → In c (branches_at m n) → Good c) → (s : Scope) (hop : ℕ) (raw : Json) (again : Option Used) (f g : Text → Json → Option Used → Run) (o : Outcome) →
      (enter W A b name m (λ n. map (scope W A) (branches_at m n)) s hop raw again f).end ≡ Ended o → ((n : Text) (v : Json) (a : Option Used) → (f n v a).end ≡ Ended o → g n v a ≡ f n v a) →
      enter W B b name m (λ n. map (scope W B) (branches_at m n)) s hop raw again g ≡ enter W A b name m (λ n. map (scope W A) (branches_at m n)) s hop raw again f
  enter-same b name None ih s hop raw again f g o e h = refl
  enter-same b name (Some st) ih s hop raw again f g o e h =
      let t = turn W A b name st (λ n. map (scope W A) (branches_at (Some st) n)) (at_hop s hop) raw (used_by W st again) (W.begin name st raw) in
      let same = turn-same b name st (branches_at (Some st)) ih (at_hop s hop) raw (used_by W st again) (W.begin name st raw) (goes_on t.visits t.onward f o e) in
      ap (λ (u : Turn). then_go u.visits u.onward g) same ∙ go-same t.visits t.onward f g o e h

  walk-same : (b : Block) → ((name : Text) (n : ℕ) (c : Block) → In c (branches_at (state_of b name) n) → Good c) → (left : ℕ) (s : Scope) (name : Text) (hop : ℕ) (raw : Json) (again : Option Used) (o : Outcome) →
      (walk W A b (runners W A b) left s name hop raw again).end ≡ Ended o → walk W B b (runners W B b) left s name hop raw again ≡ walk W A b (runners W A b) left s name hop raw again
  walk-same b ih zero s name hop raw again o e = refl
  walk-same b ih (suc left) s name hop raw again o e =
      enter-same b name (state_of b name) (ih name) s hop raw again (λ next v again. walk W A b (runners W A b) left s next (suc hop) v again) (λ next v again. walk W B b (runners W B b) left s next (suc hop) v again) o e
      (λ next v again k. walk-same b ih left s next (suc hop) v again o k)

  ended_at : (b : Block) → Good b
  ended_at = by_branches Good (λ b ih s v o e.
      let k : (walk W A b (runners W A b) hop_limit s (start_of b) 0 v None).end ≡ Ended o = ap (λ (r : Run). r.end) (sym (unroll W A b s v)) ∙ e in
      unroll W B b s v ∙ ap (λ (r : Run). entered b s v r) (walk-same b ih hop_limit s (start_of b) 0 v None o k) ∙ sym (unroll W A b s v))

pub ended_stays_lem : (W : Ways) → EndedStays W
ended_stays_lem W A B holds b s x o e = ended_at W A B holds b s x o e
