-- With an answer for the first Task that waits, a run keeps the Tasks before it and adds that one.
use Rattle.std.proofs.Common.{◌≡◌, ℕ, zero, suc, List, [], ◌∷◌, ◌++◌, map, Option, Some, None, length, refl, sym, ap, ap₂, ◌∙◌, subst, subst₂, append_assoc, append-nil, inl, inr}
use Rattle.asl_model.specs.Data.{Text, Json, Outcome}
use Rattle.asl_model.specs.Names.{Scope, Place, Answers, Holds, child, at_hop}
use Rattle.asl_model.specs.Machine.{Used, Block, State, start_of, state_of, branches_of}
use Rattle.asl_model.specs.Step.{Goes, Ends, Begun, On, Calls, Fans, Ways}
use Rattle.asl_model.specs.Central.{hop_limit, used_by, Visited, Entered, Called, Joined, Visit, End, Ended, Waits, Run, Turn, Then, Then_on, Stays, Gathered, All_ended, Some_wait, gather, visits_of, each, then_go, called, joined, turn, enter, walk, scope}
use Rattle.asl_model.specs.Laws.{In, open_places, place_if_open, WaitsAt}
use Rattle.asl_model.specs.Sequential.{if_open, first_open}
use Rattle.asl_model.proofs.GrowthLaw.{with_end-all}
use Rattle.asl_model.proofs.Tree.{branches_at, runners, unroll, by_branches}
use Rattle.asl_model.proofs.EndedLaw.{ended_stays_lem}
use Rattle.asl_model.proofs.OpenLaw.{open_places_lem}
use Rattle.asl_model.proofs.WaitLaw.{waiting_lem}

-- ---- the Tasks before the first visit without an answer

abbrev pub front_by : Visit → Visited → Option Outcome → List Visit → List Visit
front_by v z None rest = []
front_by v Entered (Some o) rest = rest
front_by v (Called name resource) (Some o) rest = v ∷ rest
front_by v (Joined name) (Some o) rest = rest

abbrev pub front : List Visit → List Visit
front [] = []
front (v ∷ vs) = front_by v v.visited v.answer (front vs)

abbrev pub answered : Visit → Outcome → Visit
answered v o = record v { answer = Some o }

-- ---- both words of lists in a row

open_left : (u : Visit) (us ws : List Visit) (o : Option Outcome) (v : Visit) → if_open u o (first_open us) ≡ Some v → (first_open us ≡ Some v → first_open (us ++ ws) ≡ Some v) → if_open u o (first_open (us ++ ws)) ≡ Some v
open_left u us ws None v e h = e
open_left u us ws (Some o) v e h = h e

first_left : (vs ws : List Visit) (v : Visit) → first_open vs ≡ Some v → first_open (vs ++ ws) ≡ Some v
first_left [] ws v e = absurd (cc)
first_left (u ∷ us) ws v e = open_left u us ws u.answer v e (first_left us ws v)

open_right : (u : Visit) (us ws : List Visit) (o : Option Outcome) → if_open u o (first_open us) ≡ None → (first_open us ≡ None → first_open (us ++ ws) ≡ first_open ws) → if_open u o (first_open (us ++ ws)) ≡ first_open ws
open_right u us ws None e h = absurd (cc)
open_right u us ws (Some o) e h = h e

first_right : (vs ws : List Visit) → first_open vs ≡ None → first_open (vs ++ ws) ≡ first_open ws
first_right [] ws e = refl
first_right (u ∷ us) ws e = open_right u us ws u.answer e (first_right us ws)

right_by : (u : Visit) (us ws : List Visit) (z : Visited) (o : Option Outcome) → if_open u o (first_open us) ≡ None → (first_open us ≡ None → front (us ++ ws) ≡ front us ++ front ws) → front_by u z o (front (us ++ ws)) ≡ front_by u z o (front us) ++ front ws
right_by u us ws z None e h = absurd (cc)
right_by u us ws Entered (Some o) e h = h e
right_by u us ws (Called name resource) (Some o) e h = ap (λ l. u ∷ l) (h e)
right_by u us ws (Joined name) (Some o) e h = h e

front_right : (vs ws : List Visit) → first_open vs ≡ None → front (vs ++ ws) ≡ front vs ++ front ws
front_right [] ws e = refl
front_right (u ∷ us) ws e = right_by u us ws u.visited u.answer e (front_right us ws)

more_by : (u : Visit) (us ws : List Visit) (z : Visited) (o : Option Outcome) → (more : List Visit) × (front (us ++ ws) ≡ front us ++ more) → (more : List Visit) × (front_by u z o (front (us ++ ws)) ≡ front_by u z o (front us) ++ more)
more_by u us ws z None (more, e) = ([], refl)
more_by u us ws Entered (Some o) (more, e) = (more, e)
more_by u us ws (Called name resource) (Some o) (more, e) = (more, ap (λ l. u ∷ l) e)
more_by u us ws (Joined name) (Some o) (more, e) = (more, e)

-- what follows only adds to it
front_more : (vs ws : List Visit) → (more : List Visit) × (front (vs ++ ws) ≡ front vs ++ more)
front_more [] ws = (front ws, refl)
front_more (u ∷ us) ws = more_by u us ws u.visited u.answer (front_more us ws)

left_by : (u : Visit) (us xs : List Visit) (z : Visited) (a : Option Outcome) (v : Visit) → if_open u a (first_open us) ≡ Some v → (first_open us ≡ Some v → front (us ++ xs) ≡ front us) → front_by u z a (front (us ++ xs)) ≡ front_by u z a (front us)
left_by u us xs z None v e h = refl
left_by u us xs Entered (Some a) v e h = h e
left_by u us xs (Called name resource) (Some a) v e h = ap (λ l. u ∷ l) (h e)
left_by u us xs (Joined name) (Some a) v e h = h e

-- and nothing where the first without an answer is before
front_left : (vs xs : List Visit) (v : Visit) → first_open vs ≡ Some v → front (vs ++ xs) ≡ front vs
front_left [] xs v e = absurd (cc)
front_left (u ∷ us) xs v e = left_by u us xs u.visited u.answer v e (front_left us xs v)

-- ---- with an answer at a place

module _ (p : Place) (o : Outcome) where
  abbrev pub ExtendsBy : Option Visit → List Visit → List Visit → Type 0
  ExtendsBy None vs ws = (more : List Visit) × (front ws ≡ front vs ++ more)
  ExtendsBy (Some v) vs ws = v.place ≡ p → (more : List Visit) × (front ws ≡ front vs ++ answered v o ∷ more)

  -- if the first visit without an answer is there, the front goes on with it
  abbrev pub Extends : List Visit → List Visit → Type 0
  Extends vs ws = ExtendsBy (first_open vs) vs ws

  -- what follows the longer one makes no difference
  then_more : (m : Option Visit) (vs ws us : List Visit) → ExtendsBy m vs ws → ExtendsBy m vs (ws ++ us)
  then_more None vs ws us (more, e) =
      let (extra, f) = front_more ws us in
      (more ++ extra, f ∙ ap (λ l. l ++ extra) e ∙ append_assoc (front vs) more extra)
  then_more (Some v) vs ws us h = λ at.
      let (more, e) = h at in
      let (extra, f) = front_more ws us in
      (more ++ extra, f ∙ ap (λ l. l ++ extra) e ∙ append_assoc (front vs) (answered v o ∷ more) extra)

  -- where all before has answers
  after_by : (m : Option Visit) (vs ws us : List Visit) → first_open vs ≡ None → first_open ws ≡ m → ExtendsBy m ws us → ExtendsBy m (vs ++ ws) (vs ++ us)
  after_by None vs ws us none f (more, e) =
      (more, front_right vs us none ∙ ap (λ l. front vs ++ l) e ∙ sym (append_assoc (front vs) (front ws) more) ∙ ap (λ l. l ++ more) (sym (front_right vs ws none)))
  after_by (Some v) vs ws us none f h = λ at.
      let (more, e) = h at in
      (more, front_right vs us none ∙ ap (λ l. front vs ++ l) e ∙ sym (append_assoc (front vs) (front ws) (answered v o ∷ more)) ∙ ap (λ l. l ++ answered v o ∷ more) (sym (front_right vs ws none)))

  after_all : (vs ws us : List Visit) → first_open vs ≡ None → Extends ws us → Extends (vs ++ ws) (vs ++ us)
  after_all vs ws us none h = subst (λ m. ExtendsBy m (vs ++ ws) (vs ++ us)) (sym (first_right vs ws none)) (after_by (first_open ws) vs ws us none refl h)

  -- where the first without an answer is before
  before_by : (m : Option Visit) (vs ws xs ys : List Visit) → first_open vs ≡ m → ExtendsBy m vs ws → (m ≡ None → (vs ≡ ws) × Extends xs ys) → Extends (vs ++ xs) (ws ++ ys)
  before_by None vs ws xs ys f h k = let (same, e) = k refl in subst (λ l. Extends (vs ++ xs) (l ++ ys)) same (after_all vs xs ys f e)
  before_by (Some v) vs ws xs ys f h k =
      subst (λ m. ExtendsBy m (vs ++ xs) (ws ++ ys)) (sym (first_left vs xs v f)) (λ at.
      let (more, e) = h at in
      let (extra, g) = front_more ws ys in
      (more ++ extra, g ∙ ap (λ l. l ++ extra) e ∙ append_assoc (front vs) (answered v o ∷ more) extra ∙ ap (λ l. l ++ answered v o ∷ (more ++ extra)) (sym (front_left vs xs v f))))

  before_all : (vs ws xs ys : List Visit) → Extends vs ws → (first_open vs ≡ None → (vs ≡ ws) × Extends xs ys) → Extends (vs ++ xs) (ws ++ ys)
  before_all vs ws xs ys h k = before_by (first_open vs) vs ws xs ys refl h k

  alike : (m : Option Visit) (vs ws xs ys : List Visit) → front xs ≡ front vs → front ys ≡ front ws → ExtendsBy m vs ws → ExtendsBy m xs ys
  alike None vs ws xs ys e f (more, g) = (more, f ∙ g ∙ ap (λ l. l ++ more) (sym e))
  alike (Some v) vs ws xs ys e f h = λ at. let (more, g) = h at in (more, f ∙ g ∙ ap (λ l. l ++ answered v o ∷ more) (sym e))

  extends_itself : (vs : List Visit) → first_open vs ≡ None → Extends vs vs
  extends_itself vs none = subst (λ m. ExtendsBy m vs vs) (sym none) ([], sym (append-nil (front vs)))

-- ---- no visit waits exactly where a run has ended

by_open : (u : Visit) (us : List Visit) (a : Option Outcome) → if_open u a (first_open us) ≡ None → (first_open us ≡ None → open_places us ≡ []) → place_if_open a u.place ++ open_places us ≡ []
by_open u us None e h = absurd (cc)
by_open u us (Some o) e h = h e

no_places : (vs : List Visit) → first_open vs ≡ None → open_places vs ≡ []
no_places [] e = refl
no_places (u ∷ us) e = by_open u us u.answer e (no_places us)

by_place : (u : Visit) (us : List Visit) (a : Option Outcome) → place_if_open a u.place ++ open_places us ≡ [] → (open_places us ≡ [] → first_open us ≡ None) → if_open u a (first_open us) ≡ None
by_place u us None e h = absurd (cc)
by_place u us (Some o) e h = h e

no_open : (vs : List Visit) → open_places vs ≡ [] → first_open vs ≡ None
no_open [] e = refl
no_open (u ∷ us) e = by_place u us u.answer e (no_open us)

module _ (W : Ways) (A : Answers) (b : Block) (s : Scope) (x : Json) where
  pub is_ended : first_open (scope W A b s x).visits ≡ None → (o : Outcome) × ((scope W A b s x).end ≡ Ended o)
  is_ended none = by (scope W A b s x).end refl (open_places_lem W A b s x)
    where
      by : (e : End) → (scope W A b s x).end ≡ e → WaitsAt (scope W A b s x).visits e → (o : Outcome) × ((scope W A b s x).end ≡ Ended o)
      by (Ended o) q w = (o, q)
      by (Waits ps) q w =
          let nowhere : ps ≡ [] = sym w ∙ no_places (scope W A b s x).visits none in
          let (p, i) = (waiting_lem W A b s x).some ps q in absurd (subst (In p) nowhere i)

  none_waits : (o : Outcome) → (scope W A b s x).end ≡ Ended o → first_open (scope W A b s x).visits ≡ None
  none_waits o e = no_open (scope W A b s x).visits (subst (WaitsAt (scope W A b s x).visits) e (open_places_lem W A b s x))

abbrev GoesOn : Then → Type 0
GoesOn (Then_on w) = Unit {0}
GoesOn (Stays ps) = ⊥

-- ---- with more answers, one of them at that place

module _ (W : Ways) (A B : Answers) (holds : Holds A B) (p : Place) (o : Outcome) (here : B p ≡ Some o) where
  abbrev Good : Block → Type 0
  Good b = (s : Scope) (x : Json) → Extends p o (scope W A b s x).visits (scope W B b s x).visits

  record TurnExtends (t u : Turn) : Type 0 where
    extends : Extends p o t.visits u.visits
    same : GoesOn t.onward → u ≡ t
    none : GoesOn t.onward → first_open t.visits ≡ None

  each_extends : (bs : List Block) → ((c : Block) → In c bs → Good c) → (q : Place) (count index : ℕ) (xs : List Json) → Extends p o (visits_of (each q count index (map (scope W A) bs) xs)) (visits_of (each q count index (map (scope W B) bs) xs))
  each_extends [] ih q count index xs = ([], refl)
  each_extends (b ∷ bs) ih q count index [] = ([], refl)
  each_extends (b ∷ bs) ih q count index (x ∷ xs) =
      let s = child q index count in
      before_all p o (scope W A b s x).visits (scope W B b s x).visits _ _ (ih b (inl refl) s x) (λ none.
      let (r, e) = is_ended W A b s x none in
      (ap (λ (z : Run). z.visits) (sym (ended_stays_lem W A B holds b s x r e)), each_extends bs (λ c h. ih c (inr h)) q count (suc index) xs))

  each_same : (bs : List Block) (q : Place) (count index : ℕ) (xs : List Json) (os : List Outcome) → gather (each q count index (map (scope W A) bs) xs) ≡ All_ended os →
      (each q count index (map (scope W B) bs) xs ≡ each q count index (map (scope W A) bs) xs) × (first_open (visits_of (each q count index (map (scope W A) bs) xs)) ≡ None)
  each_same [] q count index xs os e = (refl, refl)
  each_same (b ∷ bs) q count index [] os e = (refl, refl)
  each_same (b ∷ bs) q count index (x ∷ xs) os e =
      let s = child q index count in
      let (r, more, a, c, d) = with_end-all (scope W A b s x).end (gather (each q count (suc index) (map (scope W A) bs) xs)) os e in
      let (same, none) = each_same bs q count (suc index) xs more c in
      (ap₂ (λ z zs. z ∷ zs) (ended_stays_lem W A B holds b s x r a) same, first_right (scope W A b s x).visits _ (none_waits W A b s x r a) ∙ none)

  called_extends : (b : Block) (name : Text) (st : State) (q : Place) (raw : Json) (used : Used) (resource : Text) (x : Json) (a c : Option Outcome) → ((r : Outcome) → a ≡ Some r → c ≡ Some r) → (q ≡ p → c ≡ Some o) →
      TurnExtends (called W b name st q raw used resource x a) (called W b name st q raw used resource x c)
  called_extends b name st q raw used resource x None None h k = record { extends = λ at. absurd (let e = k at in cc); same = λ g. absurd g; none = λ g. absurd g }
  called_extends b name st q raw used resource x None (Some r) h k =
      record { extends = λ at. ([], ap (λ z. (called W b name st q raw used resource x z).visits) (k at)); same = λ g. absurd g; none = λ g. absurd g }
  called_extends b name st q raw used resource x (Some r) c h k =
      subst (λ z. TurnExtends (called W b name st q raw used resource x (Some r)) (called W b name st q raw used resource x z)) (sym (h r refl))
      (record { extends = ([], refl); same = λ g. refl; none = λ g. refl })

  joined_extends : (b : Block) (name : Text) (st : State) (q : Place) (raw : Json) (used : Used) (vs ws : List Visit) (g k : Gathered) → Extends p o vs ws → ((os : List Outcome) → g ≡ All_ended os → (joined W b name st q raw used ws k ≡ joined W b name st q raw used vs g) × (first_open vs ≡ None)) →
      TurnExtends (joined W b name st q raw used vs g) (joined W b name st q raw used ws k)
  joined_extends b name st q raw used vs ws (All_ended os) k e h =
      let (same, none) = h os refl in
      let t = joined W b name st q raw used vs (All_ended os) in
      subst (λ z. TurnExtends t z) (sym same) (record { extends = extends_itself p o t.visits none; same = λ g. refl; none = λ g. none })
  joined_extends b name st q raw used vs ws (Some_wait ps) (All_ended os) e h =
      record { extends = alike p o (first_open vs) vs ws vs _ refl refl e; same = λ g. absurd g; none = λ g. absurd g }
  joined_extends b name st q raw used vs ws (Some_wait ps) (Some_wait qs) e h = record { extends = e; same = λ g. absurd g; none = λ g. absurd g }

  turn_extends : (b : Block) (name : Text) (st : State) (bs : ℕ → List Block) → ((n : ℕ) (c : Block) → In c (bs n) → Good c) → (q : Place) (raw : Json) (used : Used) (u : Begun) →
      TurnExtends (turn W A b name st (λ n. map (scope W A) (bs n)) q raw used u) (turn W B b name st (λ n. map (scope W B) (bs n)) q raw used u)
  turn_extends b name st bs ih q raw used (On w) = record { extends = ([], refl); same = λ g. refl; none = λ g. refl }
  turn_extends b name st bs ih q raw used (Calls resource x) = called_extends b name st q raw used resource x (A q) (B q) (holds q) (λ at. ap B at ∙ here)
  turn_extends b name st bs ih q raw used (Fans inputs) =
      let n = length inputs in
      joined_extends b name st q raw used _ _ _ _ (each_extends (bs n) (ih n) q n 0 inputs) (λ os e.
      let (same, none) = each_same (bs n) q n 0 inputs os e in
      (ap (λ (rs : List Run). joined W b name st q raw used (visits_of rs) (gather rs)) same, none))

  go_extends : (vs : List Visit) (w : Then) (u : Turn) → TurnExtends (record { visits = vs; onward = w }) u → (f g : Text → Json → Option Used → Run) → ((n : Text) (x : Json) (a : Option Used) → Extends p o (f n x a).visits (g n x a).visits) →
      Extends p o (then_go vs w f).visits (then_go u.visits u.onward g).visits
  go_extends vs (Then_on (Goes n x a)) u t f g h =
      subst (λ (z : Turn). Extends p o (vs ++ (f n x a).visits) (then_go z.visits z.onward g).visits) (sym (t.same tt)) (after_all p o vs _ _ (t.none tt) (h n x a))
  go_extends vs (Then_on (Ends r)) u t f g h = subst (λ (z : Turn). Extends p o vs (then_go z.visits z.onward g).visits) (sym (t.same tt)) (extends_itself p o vs (t.none tt))
  go_extends vs (Stays ps) u t f g h = stays u.onward
    where
      stays : (w : Then) → Extends p o vs (then_go u.visits w g).visits
      stays (Then_on (Goes n x a)) = then_more p o (first_open vs) vs u.visits (g n x a).visits t.extends
      stays (Then_on (Ends r)) = t.extends
      stays (Stays qs) = t.extends

  enter_extends : (b : Block) (name : Text) (m : Option State) → ((n : ℕ) (c : Block) → In c (branches_at m n) → Good c) → (s : Scope) (hop : ℕ) (raw : Json) (again : Option Used) (f g : Text → Json → Option Used → Run) → ((n : Text) (x : Json) (a : Option Used) → Extends p o (f n x a).visits (g n x a).visits) →
      Extends p o (enter W A b name m (λ n. map (scope W A) (branches_at m n)) s hop raw again f).visits (enter W B b name m (λ n. map (scope W B) (branches_at m n)) s hop raw again g).visits
  enter_extends b name None ih s hop raw again f g h = ([], refl)
  enter_extends b name (Some st) ih s hop raw again f g h =
      go_extends _ _ _ (turn_extends b name st (branches_of st) ih (at_hop s hop) raw (used_by W st again) (W.begin name st raw)) f g h

  walk_extends : (b : Block) → ((name : Text) (n : ℕ) (c : Block) → In c (branches_at (state_of b name) n) → Good c) → (left : ℕ) (s : Scope) (name : Text) (hop : ℕ) (raw : Json) (again : Option Used) →
      Extends p o (walk W A b (runners W A b) left s name hop raw again).visits (walk W B b (runners W B b) left s name hop raw again).visits
  walk_extends b ih zero s name hop raw again = ([], refl)
  walk_extends b ih (suc left) s name hop raw again = enter_extends b name (state_of b name) (ih name) s hop raw again _ _ (λ n x a. walk_extends b ih left s n (suc hop) x a)

  pub front_goes_on : (b : Block) → Good b
  front_goes_on = by_branches Good (λ b ih s x.
      let r = walk W A b (runners W A b) hop_limit s (start_of b) 0 x None in
      let q = walk W B b (runners W B b) hop_limit s (start_of b) 0 x None in
      subst₂ (λ (y z : Run). Extends p o y.visits z.visits) (sym (unroll W A b s x)) (sym (unroll W B b s x))
      (alike p o (first_open r.visits) r.visits q.visits _ _ refl refl (walk_extends b ih hop_limit s (start_of b) 0 x None)))
