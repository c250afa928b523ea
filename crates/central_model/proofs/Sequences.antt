-- The Tasks of a sequential run are answered in the order of their names.
use Rattle.std.proofs.Common.{◌≡◌, ◌⊎◌, ℕ, zero, suc, ◌+◌, ◌<◌, ◌≤◌, List, [], ◌∷◌, ◌++◌, Option, Some, None, Bool, true, false, length, refl, sym, ap, ◌∙◌, subst, inl, inr, arith, append_assoc, length-append, if◌then◌else◌}
use Rattle.std.proofs.lemmas.Option.{same_Some}
use Rattle.place_name.specs.Same.{place_same}
use Rattle.place_name.proofs.Sameness.{place_decides}
use Rattle.asl_model.specs.Data.{Text, Json, Outcome}
use Rattle.asl_model.specs.Names.{Scope, Place, Name, Task, Answers, answers_of}
use Rattle.asl_model.specs.Machine.{Block}
use Rattle.asl_model.specs.Step.{standard}
use Rattle.asl_model.specs.Central.{Visited, Entered, Called, Joined, Visit, kind_of, name_of, Run}
use Rattle.asl_model.specs.Laws.{In, IsSound, AreDistinct}
use Rattle.asl_model.specs.Sequential.{Functions, resource_in, size, if_open, first_open, so_far, answer_first, answering}
use Rattle.asl_model.proofs.Lists.{In-left, In-right}
use Rattle.asl_model.proofs.StandsLaw.{stands_lem}
use Rattle.asl_model.proofs.OrderLaw.{distinct_lem}
use Rattle.asl_model.proofs.Ones.{standard_one}
use Rattle.asl_model.proofs.RangeLaw.{adding_lem}
use Rattle.asl_model.proofs.SizeLaw.{bounded_lem}
use Rattle.central_model.specs.Asking.{by_functions, ticket_after, tickets, IsAnswered, AreAnswered}
use Rattle.central_model.specs.Laws.{AnswersInOrder}
use Rattle.central_model.proofs.Fronts.{front_by, front, answered, ExtendsBy, front_goes_on}
use Rattle.central_model.proofs.Steps.{answered_both}

abbrev Entry : Type 0
Entry = Place × Outcome

-- ---- the answers of visits

abbrev entry_if : Place → Option Outcome → List Entry → List Entry
entry_if p None rest = rest
entry_if p (Some o) rest = (p, o) ∷ rest

-- the places and answers of visits
abbrev entries : List Visit → List Entry
entries [] = []
entries (v ∷ vs) = entry_if v.place v.answer (entries vs)

entry_both : (p : Place) (a : Option Outcome) (xs ys zs : List Entry) → xs ≡ ys ++ zs → entry_if p a xs ≡ entry_if p a ys ++ zs
entry_both p None xs ys zs e = e
entry_both p (Some o) xs ys zs e = ap (λ l. (p, o) ∷ l) e

entries_append : (vs ws : List Visit) → entries (vs ++ ws) ≡ entries vs ++ entries ws
entries_append [] ws = refl
entries_append (v ∷ vs) ws = entry_both v.place v.answer (entries (vs ++ ws)) (entries vs) (entries ws) (entries_append vs ws)

entry_of : (p : Place) (a : Option Outcome) (e : Entry) (rest : List Entry) → In e (entry_if p a rest) → (p ≡ e.0) ⊎ In e rest
entry_of p None e rest i = inr i
entry_of p (Some o) e rest i = elim i [ inl q ↦ inl (sym (ap (λ (z : Entry). z.0) q)) | inr t ↦ inr t ]

-- each is of a visit
visit_of : (vs : List Visit) (e : Entry) → In e (entries vs) → (v : Visit) × In v vs × (v.place ≡ e.0)
visit_of [] e i = absurd i
visit_of (v ∷ vs) e i =
    elim (entry_of v.place v.answer e (entries vs) i) [ inl q ↦ (v, inl refl, q) | inr t ↦ let (w, j, q) = visit_of vs e t in (w, inr j, q) ]

few_by : (p : Place) (a : Option Outcome) (rest : List Entry) (n : ℕ) → length rest ≤ n → length (entry_if p a rest) ≤ suc n
few_by p None rest n h = omega arith
few_by p (Some o) rest n h = omega arith

few_entries : (vs : List Visit) → length (entries vs) ≤ length vs
few_entries [] = omega arith
few_entries (v ∷ vs) = few_by v.place v.answer (entries vs) (length vs) (few_entries vs)

-- ---- what is found at a place

found_by : (e : Entry) (es : List Entry) (p : Place) (o : Outcome) (t : Bool) → place_same e.0 p ≡ t → (if t then Some e.1 else answers_of es p) ≡ Some o → (answers_of es p ≡ Some o → (f : Entry) × In f es × (f.0 ≡ p)) → (f : Entry) × In f (e ∷ es) × (f.0 ≡ p)
found_by e es p o true s k h = (e, inl refl, (place_decides e.0 p).0 s)
found_by e es p o false s k h = let (f, i, q) = h k in (f, inr i, q)

found_at : (es : List Entry) (p : Place) (o : Outcome) → answers_of es p ≡ Some o → (f : Entry) × In f es × (f.0 ≡ p)
unfolding answers_of
found_at [] p o e = absurd (cc)
found_at (e ∷ es) p o k = found_by e es p o (place_same e.0 p) refl k (found_at es p o)

added_by : (e : Entry) (es : List Entry) (p : Place) (o : Outcome) (t : Bool) → (if t then Some e.1 else answers_of es p) ≡ None → (answers_of es p ≡ None → answers_of (es ++ (p, o) ∷ []) p ≡ Some o) → (if t then Some e.1 else answers_of (es ++ (p, o) ∷ []) p) ≡ Some o
added_by e es p o true k h = absurd (cc)
added_by e es p o false k h = h k

added_at : (es : List Entry) (p : Place) (o : Outcome) → answers_of es p ≡ None → answers_of (es ++ (p, o) ∷ []) p ≡ Some o
unfolding answers_of
added_at [] p o k = ap (λ (t : Bool). if t then Some o else None) ((place_decides p p).1 refl)
added_at (e ∷ es) p o k = added_by e es p o (place_same e.0 p) k (added_at es p o)

-- ---- what stands in a front

record IsTask (v : Visit) : Type 0 where
  name : Text
  resource : Text
  visited : v.visited ≡ Called name resource

record InFront (v : Visit) (vs : List Visit) : Type 0 where
  is_in : In v vs
  task : IsTask v
  outcome : Outcome
  has : v.answer ≡ Some outcome

later : (v u : Visit) (us : List Visit) → InFront v us → InFront v (u ∷ us)
later v u us h = record { is_in = inr h.is_in; task = h.task; outcome = h.outcome; has = h.has }

here_or_later : (u : Visit) (us : List Visit) (name resource : Text) (o : Outcome) (v : Visit) → u.visited ≡ Called name resource → u.answer ≡ Some o → In v (u ∷ front us) → (In v (front us) → InFront v us) → InFront v (u ∷ us)
here_or_later u us name resource o v z a i h =
    elim i [
      | inl e ↦ record { is_in = inl e; task = record { name = name; resource = resource; visited = ap (λ (w : Visit). w.visited) e ∙ z }; outcome = o; has = ap (λ (w : Visit). w.answer) e ∙ a }
      | inr t ↦ later v u us (h t)
    ]

front_in_by : (u : Visit) (us : List Visit) (z : Visited) (a : Option Outcome) (v : Visit) → u.visited ≡ z → u.answer ≡ a → In v (front_by u z a (front us)) → (In v (front us) → InFront v us) → InFront v (u ∷ us)
front_in_by u us z None v e f i h = absurd i
front_in_by u us Entered (Some o) v e f i h = later v u us (h i)
front_in_by u us (Called name resource) (Some o) v e f i h = here_or_later u us name resource o v e f i h
front_in_by u us (Joined name) (Some o) v e f i h = later v u us (h i)

front_in : (vs : List Visit) (v : Visit) → In v (front vs) → InFront v vs
front_in [] v i = absurd i
front_in (u ∷ us) v i = front_in_by u us u.visited u.answer v refl refl i (front_in us v)

few_front_by : (u : Visit) (z : Visited) (a : Option Outcome) (rest : List Visit) (n : ℕ) → length rest ≤ n → length (front_by u z a rest) ≤ suc n
few_front_by u z None rest n h = omega arith
few_front_by u Entered (Some o) rest n h = omega arith
few_front_by u (Called name resource) (Some o) rest n h = omega arith
few_front_by u (Joined name) (Some o) rest n h = omega arith

few_front : (vs : List Visit) → length (front vs) ≤ length vs
few_front [] = omega arith
few_front (u ∷ us) = few_front_by u u.visited u.answer (front us) (length us) (few_front us)

-- ---- names in a front differ

distinct_by : (u : Visit) (us : List Visit) (z : Visited) (a : Option Outcome) → AreDistinct (u ∷ us) → AreDistinct (front us) → AreDistinct (front_by u z a (front us))
distinct_by u us z None h k = tt
distinct_by u us Entered (Some o) h k = k
distinct_by u us (Called name resource) (Some o) h k = ((λ w i e. h.0 w (front_in us w i).is_in e), k)
distinct_by u us (Joined name) (Some o) h k = k

distinct_front : (vs : List Visit) → AreDistinct vs → AreDistinct (front vs)
distinct_front [] h = tt
distinct_front (u ∷ us) h = distinct_by u us u.visited u.answer h (distinct_front us h.1)

no_two : (vs : List Visit) (w : Visit) (ws : List Visit) → AreDistinct (vs ++ w ∷ ws) → (u : Visit) → In u vs → name_of u ≡ name_of w → ⊥
no_two [] w ws h u i e = i
no_two (v ∷ vs) w ws h u i e =
    elim i [
      | inl q ↦ h.0 w (In-right vs (w ∷ ws) w (inl refl)) (ap name_of (sym q) ∙ e)
      | inr t ↦ no_two vs w ws h.1 u t e
    ]

named : (u : Visit) → IsTask u → name_of u ≡ record { place = u.place; kind = Task }
named u t = ap (λ (z : Visited). let n : Name = record { place = u.place; kind = kind_of z } in n) t.visited

task_names : (u w : Visit) → IsTask u → IsTask w → u.place ≡ w.place → name_of u ≡ name_of w
task_names u w s t e = named u s ∙ ap (λ (p : Place). let n : Name = record { place = p; kind = Task } in n) e ∙ sym (named w t)

-- ---- tickets

tickets_by : (u : Visit) (z : Visited) (a : Option Outcome) (rest : List Visit) (n : ℕ) → u.visited ≡ z → ((k : ℕ) → tickets k rest ≡ k + length rest) → tickets n (front_by u z a rest) ≡ n + length (front_by u z a rest)
tickets_by u z None rest n e h = omega arith
tickets_by u Entered (Some o) rest n e h = h n
tickets_by u (Called name resource) (Some o) rest n e h = ap (λ y. tickets (ticket_after n y) rest) e ∙ h (suc n) ∙ (let k : suc n + length rest ≡ n + suc (length rest) = omega arith in k)
tickets_by u (Joined name) (Some o) rest n e h = h n

tickets_front : (vs : List Visit) (n : ℕ) → tickets n (front vs) ≡ n + length (front vs)
tickets_front [] n = omega arith
tickets_front (u ∷ us) n = tickets_by u u.visited u.answer (front us) n refl (tickets_front us)

as_many_by : (u : Visit) (z : Visited) (a : Option Outcome) (rest : List Visit) → u.answer ≡ a → length (entries rest) ≡ length rest → length (entries (front_by u z a rest)) ≡ length (front_by u z a rest)
as_many_by u z None rest e h = refl
as_many_by u Entered (Some o) rest e h = h
as_many_by u (Called name resource) (Some o) rest e h = ap (λ (y : Option Outcome). length (entry_if u.place y (entries rest))) e ∙ ap suc h
as_many_by u (Joined name) (Some o) rest e h = h

as_many : (vs : List Visit) → length (entries (front vs)) ≡ length (front vs)
as_many [] = refl
as_many (u ∷ us) = as_many_by u u.visited u.answer (front us) refl (as_many us)

-- ---- a run that has ended

module _ (call : Functions) where
  whole_by : (n : ℕ) (u : Visit) (us : List Visit) (z : Visited) (a : Option Outcome) → u.visited ≡ z → if_open u a (first_open us) ≡ None → AreAnswered (by_functions call) n (front_by u z a (front us)) → ((k : ℕ) → first_open us ≡ None → AreAnswered (by_functions call) k (front us) → AreAnswered (by_functions call) k us) → AreAnswered (by_functions call) n (u ∷ us)
  whole_by n u us z None e k f h = absurd (cc)
  whole_by n u us Entered (Some o) e k f h = subst (λ y. IsAnswered (by_functions call) n u y × AreAnswered (by_functions call) (ticket_after n y) us) (sym e) (tt, h n k f)
  whole_by n u us (Called name resource) (Some o) e k f h = (f.0, h (ticket_after n u.visited) k f.1)
  whole_by n u us (Joined name) (Some o) e k f h = subst (λ y. IsAnswered (by_functions call) n u y × AreAnswered (by_functions call) (ticket_after n y) us) (sym e) (tt, h n k f)

  whole : (vs : List Visit) (n : ℕ) → first_open vs ≡ None → AreAnswered (by_functions call) n (front vs) → AreAnswered (by_functions call) n vs
  whole [] n e f = tt
  whole (u ∷ us) n e f = whole_by n u us u.visited u.answer refl e f (λ k. whole us k)

  new_answered : (v : Visit) (n : ℕ) (z : Visited) → IsAnswered (by_functions call) n (answered v (call (resource_in z) v.given n)) z
  new_answered v n Entered = tt
  new_answered v n (Called name resource) = refl
  new_answered v n (Joined name) = tt

-- ---- the first visit without an answer

open_by : (u : Visit) (us : List Visit) (a : Option Outcome) (v : Visit) → u.answer ≡ a → if_open u a (first_open us) ≡ Some v → (first_open us ≡ Some v → In v us × (v.answer ≡ None)) → In v (u ∷ us) × (v.answer ≡ None)
open_by u us None v e k h = let same : u ≡ v = same_Some u v k in (inl (sym same), ap (λ (w : Visit). w.answer) (sym same) ∙ e)
open_by u us (Some o) v e k h = let (i, a) = h k in (inr i, a)

open_found : (vs : List Visit) (v : Visit) → first_open vs ≡ Some v → In v vs × (v.answer ≡ None)
open_found [] v e = absurd (cc)
open_found (u ∷ us) v e = open_by u us u.answer v refl e (open_found us v)

open_task : (A : Answers) (v : Visit) (z : Visited) → IsSound standard A v z → v.answer ≡ None → A v.place ≡ None
open_task A v Entered h e = let a = h.2 in absurd (cc)
open_task A v (Called name resource) h e = sym h.answer ∙ e
open_task A v (Joined name) h e = let a = h.answer in absurd (cc)

answered_task : (A : Answers) (v : Visit) (t : IsTask v) → IsSound standard A v v.visited → v.answer ≡ A v.place
answered_task A v t h = let s = subst (IsSound standard A v) t.visited h in s.answer

-- ---- one answer after another

module _ (root : Block) (session : ℕ) (input : Json) (call : Functions) where
  abbrev R : List Entry → Run
  R es = so_far root session input call es

  abbrev S : Scope
  S = record { session = session; trail = [] }

  -- the answers are those of the Tasks before the first that waits
  record Inv (es : List Entry) : Type 0 where
    entries_are : entries (front (R es).visits) ≡ es
    in_order : AreAnswered (by_functions call) 0 (front (R es).visits)

  counted : (es : List Entry) → Inv es → length (front (R es).visits) ≡ length es
  counted es inv = sym (as_many (R es).visits) ∙ ap length inv.entries_are

  -- no Task behind a new answer has one
  only_new : (es fs : List Entry) (v : Visit) (o : Outcome) → fs ≡ es ++ (v.place, o) ∷ [] → Inv es → (more : List Visit) → front (R fs).visits ≡ front (R es).visits ++ answered v o ∷ more → more ≡ []
  only_new es fs v o is inv [] f = refl
  only_new es fs v o is inv (w ∷ ws) f =
      let before : List Visit = front (R es).visits ++ answered v o ∷ [] in
      let parts : front (R fs).visits ≡ before ++ w ∷ ws = f ∙ sym (append_assoc (front (R es).visits) (answered v o ∷ []) (w ∷ ws)) in
      let there : In w (front (R fs).visits) = subst (In w) (sym parts) (In-right before (w ∷ ws) w (inl refl)) in
      let last = front_in (R fs).visits w there in
      let asked : answers_of fs w.place ≡ Some last.outcome =
      sym (answered_task (answers_of fs) w last.task (stands_lem standard standard_one (answers_of fs) root S input w last.is_in).sound) ∙ last.has in
      let (g, j, q) = found_at fs w.place last.outcome asked in
      let same : fs ≡ entries before = is ∙ ap (λ l. l ++ (v.place, o) ∷ []) (sym inv.entries_are) ∙ sym (entries_append (front (R es).visits) (answered v o ∷ [])) in
      let (u, k, r) = visit_of before g (subst (In g) same j) in
      let first = front_in (R fs).visits u (subst (In u) (sym parts) (In-left before (w ∷ ws) u k)) in
      let differ : AreDistinct (before ++ w ∷ ws) = subst AreDistinct parts (distinct_front (R fs).visits (distinct_lem standard (answers_of fs) root S input)) in
      absurd (no_two before w ws differ u k (task_names u w first.task last.task (r ∙ q)))

  goes_on : (es fs : List Entry) (v : Visit) (o : Outcome) → fs ≡ es ++ (v.place, o) ∷ [] → o ≡ call (resource_in v.visited) v.given (length es) → Inv es → front (R fs).visits ≡ front (R es).visits ++ answered v o ∷ [] → Inv fs
  goes_on es fs v o is oe inv f = record {
    entries_are = ap entries f ∙ entries_append (front (R es).visits) (answered v o ∷ []) ∙ ap (λ l. l ++ (v.place, o) ∷ []) inv.entries_are ∙ sym is;
    in_order = subst (AreAnswered (by_functions call) 0) (sym f) (answered_both (by_functions call) 0 (front (R es).visits) (answered v o ∷ []) inv.in_order
        (let n : tickets 0 (front (R es).visits) ≡ length es = omega (arith, tickets_front (R es).visits 0, counted es inv) in
        subst (λ k. AreAnswered (by_functions call) k (answered v o ∷ [])) (sym n) (subst (λ y. IsAnswered (by_functions call) (length es) (answered v y) v.visited) (sym oe) (new_answered call v (length es) v.visited), tt)));
  }

  step : (es : List Entry) (v : Visit) → Inv es → first_open (R es).visits ≡ Some v → Inv (es ++ (v.place, call (resource_in v.visited) v.given (length es)) ∷ [])
  step es v inv e =
      let o = call (resource_in v.visited) v.given (length es) in
      let fs = es ++ (v.place, o) ∷ [] in
      let (i, none) = open_found (R es).visits v e in
      let free : answers_of es v.place ≡ None = open_task (answers_of es) v v.visited (stands_lem standard standard_one (answers_of es) root S input v i).sound none in
      let on : (m : Option Visit) → first_open (R es).visits ≡ m → ExtendsBy v.place o m (R es).visits (R fs).visits =
      λ m k. subst (λ z. ExtendsBy v.place o z (R es).visits (R fs).visits) k (front_goes_on standard (answers_of es) (answers_of fs) (adding_lem es v.place o) v.place o (added_at es v.place o free) root S input) in
      let (more, f) = on (Some v) e refl in
      goes_on es fs v o refl refl inv (f ∙ ap (λ l. front (R es).visits ++ answered v o ∷ l) (only_new es fs v o refl inv more f))

  record Comes (r : Run) : Type 0 where
    answers : List Entry
    same : r ≡ R answers
    in_order : AreAnswered (by_functions call) 0 r.visits

  comes : (n : ℕ) (es : List Entry) → Inv es → size root < length es + n → Comes (answering root session input call n es)
  comes zero es inv h =
      let k : length (R es).visits ≤ size root = bounded_lem (answers_of es) root S input in
      absurd (omega (arith, h, k, few_front (R es).visits, counted es inv))
  comes (suc n) es inv h = next (first_open (R es).visits) refl (λ fs i l. comes n fs i l)
    where
      next : (m : Option Visit) → first_open (R es).visits ≡ m → ((fs : List Entry) → Inv fs → size root < length fs + n → Comes (answering root session input call n fs)) → Comes (answer_first root session input call es m (λ fs. answering root session input call n fs))
      next None e go = record { answers = es; same = refl; in_order = whole call (R es).visits 0 e inv.in_order }
      next (Some v) e go =
          let o = call (resource_in v.visited) v.given (length es) in
          go (es ++ (v.place, o) ∷ []) (step es v inv e) (omega (arith, h, length-append es ((v.place, o) ∷ [])))

  -- with no answers the first Task waits
  start : Inv []
  start = by (front (R []).visits) refl
    where
      by : (l : List Visit) → front (R []).visits ≡ l → Inv []
      by [] e = record { entries_are = ap entries e; in_order = subst (AreAnswered (by_functions call) 0) (sym e) tt }
      by (w ∷ ws) e =
          let f = front_in (R []).visits w (subst (In w) (sym e) (inl refl)) in
          let a : answers_of [] w.place ≡ Some f.outcome = sym (answered_task (answers_of []) w f.task (stands_lem standard standard_one (answers_of []) root S input w f.is_in).sound) ∙ f.has in
          let (g, j, q) = found_at [] w.place f.outcome a in absurd j

pub answers_in_order_lem : AnswersInOrder
answers_in_order_lem root session input call =
    let c = comes root session input call (suc (size root)) [] (start root session input call) (omega arith) in
    (c.answers, c.same, c.in_order)
