-- The runs of a fan's branches.
use Rattle.std.proofs.Common.{◌≡◌, ℕ, zero, suc, ◌+◌, List, [], ◌∷◌, map, Some, length, slice_get, refl, sym, ap, ◌∙◌, subst, inl, inr, arith}
use Rattle.asl_model.specs.Data.{Text, Json}
use Rattle.asl_model.specs.Names.{Scope, Place, Answers, child}
use Rattle.asl_model.specs.Machine.{Block, State, branches_of}
use Rattle.asl_model.specs.Step.{Fans, Ways, HasOneEach}
use Rattle.asl_model.specs.Central.{Visit, scope, each, visits_of}
use Rattle.asl_model.specs.Stretch.{pairs, children}
use Rattle.asl_model.specs.Laws.{In, Within, runs_of}
use Rattle.asl_model.proofs.Lists.{In-left, In-right, In-cases}

length-pairs : (bs : List Block) (xs : List Json) → length bs ≡ length xs → length (pairs bs xs) ≡ length xs
length-pairs [] [] e = refl
length-pairs [] (x ∷ xs) e = absurd (omega arith)
length-pairs (b ∷ bs) [] e = refl
length-pairs (b ∷ bs) (x ∷ xs) e = let e' : length bs ≡ length xs = omega arith in ap suc (length-pairs bs xs e')

pub child_count : (W : Ways) → HasOneEach W → (name : Text) (s : State) (raw : Json) (inputs : List Json) → W.begin name s raw ≡ Fans inputs → length (children s inputs) ≡ length inputs
child_count W one name s raw inputs e = length-pairs (branches_of s (length inputs)) inputs (one name s raw inputs e)

pub each-runs : (W : Ways) (A : Answers) (p : Place) (count index : ℕ) (bs : List Block) (xs : List Json) → each p count index (map (scope W A) bs) xs ≡ runs_of W A p count index (pairs bs xs)
each-runs W A p count index [] xs = refl
each-runs W A p count index (b ∷ bs) [] = refl
each-runs W A p count index (b ∷ bs) (x ∷ xs) = ap (λ l. scope W A b (child p index count) x ∷ l) (each-runs W A p count (suc index) bs xs)

-- a fan's runs, as the law says them
pub fan_runs_are : (W : Ways) → HasOneEach W → (A : Answers) (p : Place) (name : Text) (s : State) (raw : Json) (inputs : List Json) → W.begin name s raw ≡ Fans inputs → each p (length inputs) 0 (map (scope W A) (branches_of s (length inputs))) inputs ≡ runs_of W A p (length (children s inputs)) 0 (children s inputs)
fan_runs_are W one A p name s raw inputs e =
    each-runs W A p (length inputs) 0 (branches_of s (length inputs)) inputs
    ∙ ap (λ n. runs_of W A p n 0 (children s inputs)) (sym (child_count W one name s raw inputs e))

-- each branch's visits stand among the visits of all
pub branch_visits : (W : Ways) (A : Answers) (p : Place) (count index : ℕ) (cs : List (Block × Json)) (i : ℕ) (c : Block) (x : Json) → slice_get cs i ≡ Some (c, x) → Within (scope W A c (child p (index + i) count) x).visits (visits_of (runs_of W A p count index cs))
branch_visits W A p count index [] i c x e v h = absurd (cc)
branch_visits W A p count index (d ∷ ds) zero c x e v h =
    let a : d ≡ (c, x) = cc in
    let n : index + 0 ≡ index = omega arith in
    let h' = subst (λ k. In v (scope W A c (child p k count) x).visits) n h in
    In-left (scope W A d.0 (child p index count) d.1).visits (visits_of (runs_of W A p count (suc index) ds)) v (subst (λ (k : Block × Json). In v (scope W A k.0 (child p index count) k.1).visits) (sym a) h')
branch_visits W A p count index (d ∷ ds) (suc i) c x e v h =
    let n : index + suc i ≡ suc index + i = omega arith in
    let h' = subst (λ k. In v (scope W A c (child p k count) x).visits) n h in
    In-right (scope W A d.0 (child p index count) d.1).visits (visits_of (runs_of W A p count (suc index) ds)) v (branch_visits W A p count (suc index) ds i c x e v h')

-- a visit among them is one of a branch
pub branch_of_visit : (W : Ways) (A : Answers) (p : Place) (count index : ℕ) (bs : List Block) (xs : List Json) (v : Visit) → In v (visits_of (runs_of W A p count index (pairs bs xs))) → (c : Block) × (s : Scope) × (x : Json) × In c bs × In v (scope W A c s x).visits × Within (scope W A c s x).visits (visits_of (runs_of W A p count index (pairs bs xs))) × (i : ℕ) × (s ≡ child p i count)
branch_of_visit W A p count index [] xs v h = absurd h
branch_of_visit W A p count index (b ∷ bs) [] v h = absurd h
branch_of_visit W A p count index (b ∷ bs) (x ∷ xs) v h =
    let here = (scope W A b (child p index count) x).visits in
    let there = visits_of (runs_of W A p count (suc index) (pairs bs xs)) in
    elim (In-cases here there v h) [
      | inl a ↦ (b, child p index count, x, inl refl, a, (λ w k. In-left here there w k), index, refl)
      | inr t ↦ let (c, s, y, i, k, l, j, e) = branch_of_visit W A p count (suc index) bs xs v t in (c, s, y, inr i, k, (λ w m. In-right here there w (l w m)), j, e)
    ]
