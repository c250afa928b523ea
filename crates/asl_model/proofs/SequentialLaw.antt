-- The sequential run has ended.
use Rattle.std.proofs.Common.{◌≡◌, ℕ, zero, suc, ◌+◌, ◌<◌, ◌≤◌, List, [], ◌∷◌, ◌++◌, Option, Some, None, Bool, true, false, length, refl, sym, ap, ◌∙◌, subst, inl, inr, arith, length-append, if◌then◌else◌, ◌&&◌, ◌==◌, eq-eqb}
use Rattle.asl_model.specs.Data.{Json, Outcome}
use Rattle.asl_model.specs.Names.{Seg, Scope, Place, Answers, answers_of}
use Rattle.place_name.specs.Same.{place_same, seg_same, trail_same}
use Rattle.asl_model.specs.Machine.{Block}
use Rattle.asl_model.specs.Step.{standard}
use Rattle.asl_model.specs.Central.{Visited, Entered, Called, Joined, Visit, End, Ended, Waits, Run}
use Rattle.asl_model.specs.Laws.{In, IsSound, open_places, place_if_open, WaitsAt}
use Rattle.asl_model.specs.Sequential.{Functions, resource_in, size, if_open, first_open, so_far, answer_first, answering, SequentialEnds}
use Rattle.asl_model.proofs.Lists.{In-cases, In-left, In-right}
use Rattle.asl_model.proofs.GrowthLaw.{growth_lem}
use Rattle.asl_model.proofs.StandsLaw.{stands_lem}
use Rattle.asl_model.proofs.Ones.{standard_one}
use Rattle.asl_model.proofs.OpenLaw.{open_places_lem}
use Rattle.asl_model.proofs.RangeLaw.{adding_lem}
use Rattle.asl_model.proofs.WaitLaw.{waiting_lem}
use Rattle.asl_model.proofs.SizeLaw.{bounded_lem}

-- the first open visit is there, or no place is open
abbrev FirstIs : List Visit → Type 0
FirstIs vs = (first_open vs ≡ None → open_places vs ≡ []) × ((v : Visit) → first_open vs ≡ Some v → In v vs × (v.answer ≡ None))

first_by : (u : Visit) (us : List Visit) → FirstIs us → (o : Option Outcome) → u.answer ≡ o → (if_open u o (first_open us) ≡ None → place_if_open o u.place ++ open_places us ≡ []) × ((v : Visit) → if_open u o (first_open us) ≡ Some v → In v (u ∷ us) × (v.answer ≡ None))
first_by u us rest None e = ((λ k. absurd (cc)), (λ v k. let same : u ≡ v = cc in (inl (sym same), ap (λ (z : Visit). z.answer) (sym same) ∙ e)))
first_by u us rest (Some o) e = (rest.0, (λ v k. let (i, a) = rest.1 v k in (inr i, a)))

first_case : (vs : List Visit) → FirstIs vs
first_case [] = ((λ e. refl), (λ v e. absurd (cc)))
first_case (u ∷ us) = first_by u us (first_case us) u.answer refl

-- ---- no more answers than visits

abbrev AreApart : List (Place × Outcome) → Type 0
AreApart [] = Unit {0}
AreApart (e ∷ es) = ((f : Place × Outcome) → In f es → f.0 ≡ e.0 → ⊥) × AreApart es

apart_push : (es : List (Place × Outcome)) (n : Place × Outcome) → AreApart es → ((f : Place × Outcome) → In f es → n.0 ≡ f.0 → ⊥) → AreApart (es ++ n ∷ [])
apart_push [] n h k = ((λ f i e. i), tt)
apart_push (e ∷ es) n h k =
    ((λ f i q. elim (In-cases es (n ∷ []) f i) [ inl a ↦ h.0 f a q | inr b ↦ elim b [ inl z ↦ k e (inl refl) (sym (ap (λ (y : Place × Outcome). y.0) z) ∙ q) | inr t ↦ t ] ]), apart_push es n h.1 (λ f i. k f (inr i)))

parted : (vs : List Visit) (v : Visit) → In v vs → (xs : List Visit) × (ys : List Visit) × (vs ≡ xs ++ v ∷ ys)
parted [] v h = absurd h
parted (u ∷ us) v h =
    elim h [
      | inl e ↦ ([], us, ap (λ z. z ∷ us) (sym e))
      | inr t ↦ let (xs, ys, e) = parted us v t in (u ∷ xs, ys, ap (λ l. u ∷ l) e)
    ]

other : (xs ys : List Visit) (v w : Visit) → In w (xs ++ v ∷ ys) → (w ≡ v → ⊥) → In w (xs ++ ys)
other xs ys v w h apart =
    elim (In-cases xs (v ∷ ys) w h) [ inl a ↦ In-left xs ys w a | inr b ↦ elim b [ inl e ↦ absurd (apart e) | inr t ↦ In-right xs ys w t ] ]

no_more : (es : List (Place × Outcome)) (vs : List Visit) → AreApart es → ((e : Place × Outcome) → In e es → (v : Visit) × In v vs × (v.place ≡ e.0)) → length es ≤ length vs
no_more [] vs a h = omega arith
no_more (e ∷ es) vs a h =
    let (v, i, p) = h e (inl refl) in
    let (xs, ys, is) = parted vs v i in
    let k : length es ≤ length (xs ++ ys) = no_more es (xs ++ ys) a.1 (λ f j.
    let (w, l, q) = h f (inr j) in
    (w, other xs ys v w (subst (In w) is l) (λ same. a.0 f j (sym q ∙ ap (λ (z : Visit). z.place) same ∙ p)), q)) in
    let n : length vs ≡ length (xs ++ v ∷ ys) = ap length is in
    omega (arith, length-append xs ys, length-append xs (v ∷ ys))

both : (a b : Bool) → a ≡ true → b ≡ true → a && b ≡ true
both a b h k = rw (h, k) refl

segs_itself : (t : List Seg) → trail_same t t ≡ true
segs_itself [] = refl
segs_itself (g ∷ t) =
    both (seg_same g g) (trail_same t t) (both (g.hop == g.hop) (g.index == g.index && g.count == g.count) (eq-eqb g.hop g.hop refl) (both (g.index == g.index) (g.count == g.count) (eq-eqb g.index g.index refl) (eq-eqb g.count g.count refl))) (segs_itself t)

itself : (p : Place) → place_same p p ≡ true
itself p =
    both (p.session == p.session && trail_same p.trail p.trail) (p.hop == p.hop) (both (p.session == p.session) (trail_same p.trail p.trail) (eq-eqb p.session p.session refl) (segs_itself p.trail)) (eq-eqb p.hop p.hop refl)

-- a place in the list is found
found_by : (e : Place × Outcome) (es : List (Place × Outcome)) (f : Place × Outcome) → In f (e ∷ es) → (In f es → answers_of es f.0 ≡ None → ⊥) → (t : Bool) → place_same e.0 f.0 ≡ t → (if t then Some e.1 else answers_of es f.0) ≡ None → ⊥
found_by e es f h later true m q = absurd (cc)
found_by e es f h later false m q =
    elim h [
      | inl z ↦ let n : place_same e.0 f.0 ≡ true = ap (λ (y : Place × Outcome). place_same e.0 y.0) z ∙ itself e.0 in absurd (cc)
      | inr t ↦ later t q
    ]

found_in : (es : List (Place × Outcome)) (f : Place × Outcome) → In f es → answers_of es f.0 ≡ None → ⊥
unfolding answers_of
found_in [] f h k = h
found_in (e ∷ es) f h k = found_by e es f h (found_in es f) (place_same e.0 f.0) refl k

-- an open visit is a Task without an answer
open_task : (A : Answers) (v : Visit) (z : Visited) → IsSound standard A v z → v.answer ≡ None → A v.place ≡ None
open_task A v Entered h e = let a = h.2 in absurd (cc)
open_task A v (Called name resource) h e = sym h.answer ∙ e
open_task A v (Joined name) h e = let a = h.answer in absurd (cc)

module _ (root : Block) (session : ℕ) (input : Json) (call : Functions) where
  abbrev R : List (Place × Outcome) → Run
  R es = so_far root session input call es

  record Inv (es : List (Place × Outcome)) : Type 0 where
    apart : AreApart es
    there : (e : Place × Outcome) → In e es → (v : Visit) × In v (R es).visits × (v.place ≡ e.0)

  abbrev S : Scope
  S = record { session = session; trail = [] }

  more : (es : List (Place × Outcome)) (v : Visit) → Inv es → In v (R es).visits → v.answer ≡ None → (o : Outcome) → Inv (es ++ (v.place, o) ∷ [])
  more es v inv i e o =
      let A = answers_of es in
      let B = answers_of (es ++ (v.place, o) ∷ []) in
      let none : A v.place ≡ None = open_task A v v.visited (stands_lem standard standard_one A root S input v i).sound e in
      let grows = (growth_lem standard A B (adding_lem es v.place o) root S input).visits in
      record {
        apart = apart_push es (v.place, o) inv.apart (λ f j q. found_in es f j (ap A (sym q) ∙ none));
        there = λ f j. elim (In-cases es ((v.place, o) ∷ []) f j) [
          | inl a ↦ let (u, k, p) = inv.there f a in let (w, l, g) = grows u k in (w, l, g.place ∙ p)
          | inr b ↦ elim b [ inl z ↦ let (w, l, g) = grows v i in (w, l, g.place ∙ sym (ap (λ (y : Place × Outcome). y.0) z)) | inr t ↦ absurd t ]
        ];
      }

  ended : (es : List (Place × Outcome)) → open_places (R es).visits ≡ [] → (o : Outcome) × ((R es).end ≡ Ended o)
  ended es h = by (R es).end refl (open_places_lem standard (answers_of es) root S input)
    where
      by : (e : End) → (R es).end ≡ e → WaitsAt (R es).visits e → (o : Outcome) × ((R es).end ≡ Ended o)
      by (Ended o) q w = (o, q)
      by (Waits ps) q w = let none : ps ≡ [] = sym w ∙ h in let (p, i) = (waiting_lem standard (answers_of es) root S input).some ps q in absurd (subst (In p) none i)

  ends : (n : ℕ) (es : List (Place × Outcome)) → Inv es → size root < length es + n → (o : Outcome) × ((answering root session input call n es).end ≡ Ended o)
  ends zero es inv h =
      let l : length es ≤ length (R es).visits = no_more es (R es).visits inv.apart inv.there in
      let k : length (R es).visits ≤ size root = bounded_lem (answers_of es) root S input in
      absurd (omega arith)
  ends (suc n) es inv h = next (first_open (R es).visits) refl (λ es' i l. ends n es' i l)
    where
      next : (m : Option Visit) → first_open (R es).visits ≡ m → ((es' : List (Place × Outcome)) → Inv es' → size root < length es' + n → (o : Outcome) × ((answering root session input call n es').end ≡ Ended o)) → (o : Outcome) × ((answer_first root session input call es m (λ es. answering root session input call n es)).end ≡ Ended o)
      next None e go = ended es ((first_case (R es).visits).0 e)
      next (Some v) e go =
          let (i, a) = (first_case (R es).visits).1 v e in
          let o = call (resource_in v.visited) v.given (length es) in
          go (es ++ (v.place, o) ∷ []) (more es v inv i a o) (omega (arith, length-append es ((v.place, o) ∷ [])))

pub sequential_ends_lem : SequentialEnds
sequential_ends_lem root session input call =
    ends root session input call (suc (size root)) [] (record { apart = tt; there = λ e i. absurd i }) (omega arith)
