-- With more answers a run only grows.
use Rattle.std.proofs.Common.{◌≡◌, ℕ, zero, suc, List, [], ◌∷◌, ◌++◌, map, Option, Some, None, length, refl, sym, ap, ◌∙◌, subst, subst₂, ap₂, inl, inr}
use Rattle.asl_model.specs.Data.{Text, Json, Outcome}
use Rattle.asl_model.specs.Names.{Scope, Place, Answers, Holds, child, at_hop}
use Rattle.asl_model.specs.Machine.{Used, Block, State, start_of, state_of}
use Rattle.asl_model.specs.Step.{Goes, Ends, Begun, On, Calls, Fans, Ways}
use Rattle.asl_model.specs.Central.{hop_limit, used_by, Visit, End, Ended, Waits, Run, Turn, Then, Then_on, Stays, Gathered, All_ended, Some_wait, with_end, gather, visits_of, each, then_go, called, joined, entered, turn, enter, walk, scope}
use Rattle.asl_model.specs.Laws.{In, IsGrown, Grows, GrowsTo, Growth}
use Rattle.asl_model.proofs.Lists.{In-left, In-right, In-cases}
use Rattle.asl_model.proofs.Tree.{branches_at, runners, unroll, by_branches}

grown_same : (v : Visit) → IsGrown v v
grown_same v = record { place = refl; block = refl; visited = refl; raw = refl; used = refl; given = refl; answer = λ o e. e }

grows_same : (vs : List Visit) → Grows vs vs
grows_same vs v h = (v, h, grown_same v)

grows_more : (vs ws us : List Visit) → Grows vs ws → Grows vs (ws ++ us)
grows_more vs ws us g v h = let w = g v h in (w.0, In-left ws us w.0 w.1, w.2)

grows_before : (vs ws us : List Visit) → Grows vs ws → Grows vs (us ++ ws)
grows_before vs ws us g v h = let w = g v h in (w.0, In-right us ws w.0 w.1, w.2)

grows_both : (vs ws vs' ws' : List Visit) → Grows vs ws → Grows vs' ws' → Grows (vs ++ vs') (ws ++ ws')
grows_both vs ws vs' ws' g g' v h = elim (In-cases vs vs' v h) [ inl a ↦ grows_more vs ws ws' g v a | inr b ↦ grows_before vs' ws' ws g' v b ]

grows_cons : (x y : Visit) (vs ws : List Visit) → IsGrown x y → Grows vs ws → Grows (x ∷ vs) (y ∷ ws)
grows_cons x y vs ws e g v h =
    elim h [ inl p ↦ (y, inl refl, subst (λ u. IsGrown u y) (sym p) e) | inr t ↦ let w = g v t in (w.0, inr w.1, w.2) ]

grows_to_same : (r : Run) → GrowsTo r r
grows_to_same r = record { visits = grows_same r.visits; end = λ o e. e }

-- a turn that goes on goes on alike
abbrev GoesAlike : Then → Then → Type 0
GoesAlike (Then_on o) t = t ≡ Then_on o
GoesAlike (Stays ps) t = Unit {0}

record TurnGrows (t u : Turn) : Type 0 where
  visits : Grows t.visits u.visits
  onward : GoesAlike t.onward u.onward

turn_same : (t : Turn) → GoesAlike t.onward t.onward → TurnGrows t t
turn_same t g = record { visits = grows_same t.visits; onward = g }

then_go-grows : (vs ws : List Visit) (t u : Then) (f g : Text → Json → Option Used → Run) → Grows vs ws → GoesAlike t u → ((n : Text) (v : Json) (a : Option Used) → GrowsTo (f n v a) (g n v a)) → GrowsTo (then_go vs t f) (then_go ws u g)
then_go-grows vs ws (Then_on (Goes next v again)) u f g gr e h =
    let same : Then_on (Goes next v again) ≡ u = sym e in
    subst (λ x. GrowsTo (then_go vs (Then_on (Goes next v again)) f) (then_go ws x g)) same
    (let k = h next v again in record { visits = grows_both vs ws (f next v again).visits (g next v again).visits gr k.visits; end = k.end })
then_go-grows vs ws (Then_on (Ends o)) u f g gr e h =
    subst (λ x. GrowsTo (then_go vs (Then_on (Ends o)) f) (then_go ws x g)) (sym e) (record { visits = gr; end = λ o' q. q })
then_go-grows vs ws (Stays ps) u f g gr e h = stays u
  where
    more : (u : Then) → Grows vs (then_go ws u g).visits
    more (Then_on (Goes next v again)) = grows_more vs ws (g next v again).visits gr
    more (Then_on (Ends o)) = gr
    more (Stays qs) = gr

    stays : (u : Then) → GrowsTo (then_go vs (Stays ps) f) (then_go ws u g)
    stays u = record { visits = more u; end = λ o q. absurd (cc) }

-- each run of a list grows
abbrev AllGrow : List Run → List Run → Type 0
AllGrow [] [] = Unit {0}
AllGrow [] (q ∷ qs) = ⊥
AllGrow (r ∷ rs) [] = ⊥
AllGrow (r ∷ rs) (q ∷ qs) = GrowsTo r q × AllGrow rs qs

visits_of-grows : (rs qs : List Run) → AllGrow rs qs → Grows (visits_of rs) (visits_of qs)
visits_of-grows [] [] h = grows_same []
visits_of-grows [] (q ∷ qs) h = absurd h
visits_of-grows (r ∷ rs) [] h = absurd h
visits_of-grows (r ∷ rs) (q ∷ qs) h = grows_both r.visits q.visits (visits_of rs) (visits_of qs) h.0.visits (visits_of-grows rs qs h.1)

pub with_end-all : (e : End) (g : Gathered) (os : List Outcome) → with_end e g ≡ All_ended os → (o : Outcome) × (os' : List Outcome) × (e ≡ Ended o) × (g ≡ All_ended os') × (os ≡ o ∷ os')
with_end-all (Ended o) (All_ended os') os h = (o, os', refl, refl, cc)
with_end-all (Ended o) (Some_wait ps) os h = absurd (cc)
with_end-all (Waits ps) (All_ended os') os h = absurd (cc)
with_end-all (Waits ps) (Some_wait qs) os h = absurd (cc)

gather-grows : (rs qs : List Run) → AllGrow rs qs → (os : List Outcome) → gather rs ≡ All_ended os → gather qs ≡ All_ended os
gather-grows [] [] h os e = e
gather-grows [] (q ∷ qs) h os e = absurd h
gather-grows (r ∷ rs) [] h os e = absurd h
gather-grows (r ∷ rs) (q ∷ qs) h os e =
    let (o, os', a, b, c) = with_end-all r.end (gather rs) os e in
    let left : q.end ≡ Ended o = h.0.end o a in
    let right : gather qs ≡ All_ended os' = gather-grows rs qs h.1 os' b in
    ap₂ with_end left right ∙ ap All_ended (sym c)

module _ (W : Ways) (A B : Answers) (holds : Holds A B) where
  abbrev Good : Block → Type 0
  Good b = (s : Scope) (v : Json) → GrowsTo (scope W A b s v) (scope W B b s v)

  each-grows : (bs : List Block) → ((c : Block) → In c bs → Good c) → (p : Place) (count index : ℕ) (xs : List Json) → AllGrow (each p count index (map (scope W A) bs) xs) (each p count index (map (scope W B) bs) xs)
  each-grows [] ih p count index xs = tt
  each-grows (b ∷ bs) ih p count index [] = tt
  each-grows (b ∷ bs) ih p count index (x ∷ xs) =
      (ih b (inl refl) (child p index count) x, each-grows bs (λ c h. ih c (inr h)) p count (suc index) xs)

  called-grows : (b : Block) (name : Text) (s : State) (p : Place) (raw : Json) (used : Used) (resource : Text) (x : Json) (o o' : Option Outcome) → ((r : Outcome) → o ≡ Some r → o' ≡ Some r) → TurnGrows (called W b name s p raw used resource x o) (called W b name s p raw used resource x o')
  called-grows b name s p raw used resource x None None h = turn_same (called W b name s p raw used resource x None) tt
  called-grows b name s p raw used resource x None (Some r) h =
      record { visits = grows_cons _ _ [] [] (record { place = refl; block = refl; visited = refl; raw = refl; used = refl; given = refl; answer = λ o e. absurd (cc) }) (grows_same []); onward = tt }
  called-grows b name s p raw used resource x (Some r) o' h =
      subst (λ y. TurnGrows (called W b name s p raw used resource x (Some r)) (called W b name s p raw used resource x y)) (sym (h r refl)) (turn_same (called W b name s p raw used resource x (Some r)) refl)

  joined-grows : (b : Block) (name : Text) (s : State) (p : Place) (raw : Json) (used : Used) (vs ws : List Visit) (g g' : Gathered) → Grows vs ws → ((os : List Outcome) → g ≡ All_ended os → g' ≡ All_ended os) → TurnGrows (joined W b name s p raw used vs g) (joined W b name s p raw used ws g')
  joined-grows b name s p raw used vs ws (All_ended os) g' gr h =
      subst (λ y. TurnGrows (joined W b name s p raw used vs (All_ended os)) (joined W b name s p raw used ws y)) (sym (h os refl)) (record { visits = grows_cons _ _ vs ws (grown_same _) gr; onward = refl })
  joined-grows b name s p raw used vs ws (Some_wait ps) (All_ended os) gr h = record { visits = grows_before vs ws (_ ∷ []) gr; onward = tt }
  joined-grows b name s p raw used vs ws (Some_wait ps) (Some_wait qs) gr h = record { visits = gr; onward = tt }

  turn-grows : (b : Block) (name : Text) (s : State) (bs : ℕ → List Block) → ((n : ℕ) (c : Block) → In c (bs n) → Good c) → (p : Place) (raw : Json) (used : Used) (u : Begun) → TurnGrows (turn W A b name s (λ n. map (scope W A) (bs n)) p raw used u) (turn W B b name s (λ n. map (scope W B) (bs n)) p raw used u)
  turn-grows b name s bs ih p raw used (On o) = turn_same _ refl
  turn-grows b name s bs ih p raw used (Calls resource x) = called-grows b name s p raw used resource x (A p) (B p) (holds p)
  turn-grows b name s bs ih p raw used (Fans inputs) =
      let all = each-grows (bs (length inputs)) (ih (length inputs)) p (length inputs) 0 inputs in
      joined-grows b name s p raw used _ _ _ _ (visits_of-grows _ _ all) (gather-grows _ _ all)

  enter-grows : (b : Block) (name : Text) (m : Option State) → ((n : ℕ) (c : Block) → In c (branches_at m n) → Good c) → (s : Scope) (hop : ℕ) (raw : Json) (again : Option Used) (f g : Text → Json → Option Used → Run) → ((n : Text) (v : Json) (a : Option Used) → GrowsTo (f n v a) (g n v a)) → GrowsTo (enter W A b name m (λ n. map (scope W A) (branches_at m n)) s hop raw again f) (enter W B b name m (λ n. map (scope W B) (branches_at m n)) s hop raw again g)
  enter-grows b name None ih s hop raw again f g h = grows_to_same _
  enter-grows b name (Some st) ih s hop raw again f g h =
      let t = turn-grows b name st (branches_at (Some st)) ih (at_hop s hop) raw (used_by W st again) (W.begin name st raw) in
      then_go-grows _ _ _ _ f g t.visits t.onward h

  walk-grows : (b : Block) → ((name : Text) (n : ℕ) (c : Block) → In c (branches_at (state_of b name) n) → Good c) → (left : ℕ) (s : Scope) (name : Text) (hop : ℕ) (raw : Json) (again : Option Used) → GrowsTo (walk W A b (runners W A b) left s name hop raw again) (walk W B b (runners W B b) left s name hop raw again)
  walk-grows b ih zero s name hop raw again = grows_to_same _
  walk-grows b ih (suc left) s name hop raw again =
      enter-grows b name (state_of b name) (ih name) s hop raw again _ _ (λ next v again. walk-grows b ih left s next (suc hop) v again)

  entered-grows : (b : Block) (s : Scope) (v : Json) (r q : Run) → GrowsTo r q → GrowsTo (entered b s v r) (entered b s v q)
  entered-grows b s v r q g = record { visits = grows_cons _ _ r.visits q.visits (grown_same _) g.visits; end = g.end }

  growth_at : (b : Block) → Good b
  growth_at = by_branches Good (λ b ih s v. subst₂ GrowsTo (sym (unroll W A b s v)) (sym (unroll W B b s v)) (entered-grows b s v _ _ (walk-grows b ih hop_limit s (start_of b) 0 v None)))

pub growth_lem : (W : Ways) → Growth W
growth_lem W A B holds b s v = growth_at W A B holds b s v
