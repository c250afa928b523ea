-- The attempts of a world without mishaps, and the visits of all sessions' central runs: what the ones spend and the others cost.
use Rattle.std.proofs.Common.{ℕ, zero, suc, ◌+◌, ◌<◌, ◌≤◌, ◌≡◌, inl, inr, refl, sym, ap, ◌∙◌, subst, List, [], ◌∷◌, ◌++◌, length, slice_get, Option, Some, None, arith}
use Rattle.asl_model.specs.Data.{Outcome}
use Rattle.asl_model.specs.Names as names
use Rattle.asl_model.specs.Names.{Name, Answers}
use Rattle.asl_model.specs.Central
use Rattle.asl_model.specs.Central.{Visited, Visit, name_of, kind_of as kind_at}
use Rattle.asl_model.specs.Laws.{In, IsSound}
use Rattle.world_model.proofs.Gets.{place_of}
use Rattle.world_model.specs.Operations.{Invocation}
use Rattle.world_model.specs.Acts.{rules}
use Rattle.world_model.specs.World.{Opening, Session, Entry, Attempt, World, start}
use Rattle.world_model.specs.Journals.{journal_answers, run_at, run_of}
use Rattle.world_model.proofs.Runs.{visits_of, run_sound}
use Rattle.world_model.proofs.Every.{run_ok, start_ok}
use Rattle.world_model.proofs.Keeps.{MadeOk}
use Rattle.calm_worlds.proofs.Marked.{marks_from, marks_are}
use Rattle.calm_worlds.specs.Cost.{own_cost, cost, cost_at, marks, sum_of, total, total_cost, total_marks, EveryCalmWorldCosts}
use Rattle.calm_worlds.proofs.Good.{Good, one_name, start_good, run_good}
use Rattle.calm_worlds.proofs.Sums.{Sums, sums_append, Apart, sums_within, apart_by, in_number}
use Rattle.calm_worlds.proofs.Paid.{join_kind, joins_in, Owes, WorldPaid, start_paid}
use Rattle.calm_worlds.proofs.Stuck.{CountedSo, run_or, Serves, serves, never_stuck}
use Rattle.calm_worlds.proofs.Costs.{bare_own, bare, bare_at, made, spent_bound}

-- ---------------------------------------------------------------- all visits

-- a visit, with the number of its session
abbrev pub Bill : Type 0
Bill = ℕ × Visit

abbrev pub bills : (session : ℕ) → List Visit → List Bill
bills s [] = []
bills s (v ∷ vs) = (s, v) ∷ bills s vs

abbrev pub all_bills : Opening → List Entry → ℕ → List Session → List Bill
all_bills o j s [] = []
all_bills o j s (x ∷ xs) = bills s (visits_of o j s) ++ all_bills o j (suc s) xs

abbrev pub DueFor : Opening → List Entry → Bill → ℕ → ℕ → Type 0
DueFor o j b n m = (n ≡ bare (visits_of o j b.0) b.1) × (m ≡ marks (visits_of o j b.0) b.1)

abbrev pub JoinFor : Bill → ℕ → ℕ → Type 0
JoinFor b n m = (n ≡ join_kind (kind_at b.1.visited)) × (m ≡ 0)

bills_in : (s : ℕ) (vs : List Visit) (v : Visit) → In v vs → In {X = Bill} (s, v) (bills s vs)
bills_in s [] v h = absurd h
bills_in s (u ∷ vs) v h = elim h [ inl e ↦ inl (ap (λ y. let b : Bill = (s, y) in b) e) | inr k ↦ inr (bills_in s vs v k) ]

left_in : (xs ys : List Bill) (b : Bill) → In b xs → In b (xs ++ ys)
left_in [] ys b h = absurd h
left_in (x ∷ xs) ys b h = elim h [ inl e ↦ inl e | inr k ↦ inr (left_in xs ys b k) ]

right_in : (xs ys : List Bill) (b : Bill) → In b ys → In b (xs ++ ys)
right_in [] ys b h = h
right_in (x ∷ xs) ys b h = inr (right_in xs ys b h)

all_in : (o : Opening) (j : List Entry) (s : ℕ) (xs : List Session) (k : ℕ) (v : Visit) → k < length xs → In v (visits_of o j (s + k)) → In {X = Bill} (s + k, v) (all_bills o j s xs)
all_in o j s [] k v l h = absurd (omega arith)
all_in o j s (x ∷ xs) zero v l h =
    let z : s + 0 ≡ s = omega arith in
    subst (λ n. In {X = Bill} (n, v) (all_bills o j s (x ∷ xs))) (sym z) (left_in (bills s (visits_of o j s)) (all_bills o j (suc s) xs) (s, v) (bills_in s (visits_of o j s) v (subst (λ n. In v (visits_of o j n)) z h)))
all_in o j s (x ∷ xs) (suc k) v l h =
    let z : s + suc k ≡ suc s + k = omega arith in
    subst (λ n. In {X = Bill} (n, v) (all_bills o j s (x ∷ xs))) (sym z)
    (right_in (bills s (visits_of o j s)) (all_bills o j (suc s) xs) (suc s + k, v) (all_in o j (suc s) xs k v (omega arith) (subst (λ n. In v (visits_of o j n)) z h)))

-- a session with a visit is there
session_at : (z : Option Session) (s : ℕ) (A : Answers) (v : Visit) → In v (run_at z s A).visits → (x : Session) × (z ≡ Some x)
session_at None s A v h = absurd h
session_at (Some x) s A v h = (x, refl)

pub session_there : (o : Opening) (j : List Entry) (s : ℕ) (v : Visit) → In v (visits_of o j s) → (x : Session) × (slice_get o.sessions s ≡ Some x)
unfolding run_of
session_there o j s v h = session_at (slice_get o.sessions s) s (journal_answers j) v h

pub bill_in : (o : Opening) (j : List Entry) (s : ℕ) (v : Visit) → In v (visits_of o j s) → In {X = Bill} (s, v) (all_bills o j 0 o.sessions)
bill_in o j s v h =
    let (x, e) = session_there o j s v h in
    let z : 0 + s ≡ s = omega arith in
    subst (λ n. In {X = Bill} (n, v) (all_bills o j 0 o.sessions)) z (all_in o j 0 o.sessions s v (place_of o.sessions s x e) (subst (λ n. In v (visits_of o j n)) (sym z) h))

-- ---------------------------------------------------------------- what they cost

own_split : (vs : List Visit) (p : names.Place) (k : names.Kind) → own_cost vs p k ≡ bare_own vs p k + join_kind k
own_split vs p names.Enter = omega arith
own_split vs p names.Task = omega arith
own_split vs p names.Join = omega arith

-- a Task without an answer is no Join
cost_by : (A : Answers) (vs : List Visit) (v : Visit) (a : Option Outcome) → v.answer ≡ a → (u : Visited) → v.visited ≡ u → IsSound rules A v u → cost_at vs v a ≡ bare_at vs v a + join_kind (kind_at v.visited)
cost_by A vs v None e Central.Entered q s = absurd (let r = s.3 in cc)
cost_by A vs v None e (Central.Joined name) q s = absurd (let r = s.answer in cc)
cost_by A vs v None e (Central.Called name resource) q s = let z : join_kind (kind_at v.visited) ≡ 0 = ap (λ y. join_kind (kind_at y)) q in omega arith
cost_by A vs v (Some o) e u q s = let r : own_cost vs v.place (kind_at v.visited) ≡ bare_own vs v.place (kind_at v.visited) + join_kind (kind_at v.visited) = own_split vs v.place (kind_at v.visited) in omega arith

abbrev pub join_of : List Visit → Visit → ℕ
join_of vs v = join_kind (kind_at v.visited)

sum_split : (o : Opening) (j : List Entry) (s : ℕ) (us : List Visit) → ((u : Visit) → In u us → In u (visits_of o j s)) → sum_of (cost (visits_of o j s)) us ≡ sum_of (bare (visits_of o j s)) us + sum_of (join_of (visits_of o j s)) us
sum_split o j s [] f = refl
sum_split o j s (u ∷ us) f =
    let vs : List Visit = visits_of o j s in
    let c : cost vs u ≡ bare vs u + join_of vs u = cost_by (journal_answers j) vs u u.answer refl u.visited refl (run_sound o j s u (f u (inl refl))) in
    let r : sum_of (cost vs) us ≡ sum_of (bare vs) us + sum_of (join_of vs) us = sum_split o j s us (λ y i. f y (inr i)) in
    omega arith

pub total_split : (o : Opening) (j : List Entry) (s : ℕ) (xs : List Session) → total cost o j s xs ≡ total bare o j s xs + total join_of o j s xs
total_split o j s [] = refl
total_split o j s (x ∷ xs) =
    let vs : List Visit = visits_of o j s in
    let a : sum_of (cost vs) vs ≡ sum_of (bare vs) vs + sum_of (join_of vs) vs = sum_split o j s vs (λ u i. i) in
    let r : total cost o j (suc s) xs ≡ total bare o j (suc s) xs + total join_of o j (suc s) xs = total_split o j (suc s) xs in
    omega arith

bills_sums : (o : Opening) (j : List Entry) (s : ℕ) (us : List Visit) → Sums (DueFor o j) (bills s us) (sum_of (bare (visits_of o j s)) us) (sum_of (marks (visits_of o j s)) us)
bills_sums o j s [] = (refl, refl)
bills_sums o j s (u ∷ us) = (bare (visits_of o j s) u, marks (visits_of o j s) u, sum_of (bare (visits_of o j s)) us, sum_of (marks (visits_of o j s)) us, (refl, refl), bills_sums o j s us, refl, refl)

pub all_sums : (o : Opening) (j : List Entry) (s : ℕ) (xs : List Session) → Sums (DueFor o j) (all_bills o j s xs) (total bare o j s xs) (total marks o j s xs)
all_sums o j s [] = (refl, refl)
all_sums o j s (x ∷ xs) =
    sums_append (DueFor o j) (bills s (visits_of o j s)) (all_bills o j (suc s) xs) (sum_of (bare (visits_of o j s)) (visits_of o j s)) (sum_of (marks (visits_of o j s)) (visits_of o j s)) (total bare o j (suc s) xs) (total marks o j (suc s) xs)
    (bills_sums o j s (visits_of o j s)) (all_sums o j (suc s) xs)

join_bills : (vs : List Visit) (s : ℕ) (us : List Visit) → Sums JoinFor (bills s us) (sum_of (join_of vs) us) 0
join_bills vs s [] = (refl, refl)
join_bills vs s (u ∷ us) = (join_of vs u, 0, sum_of (join_of vs) us, 0, (refl, refl), join_bills vs s us, refl, refl)

pub join_sums : (o : Opening) (j : List Entry) (s : ℕ) (xs : List Session) → Sums JoinFor (all_bills o j s xs) (total join_of o j s xs) 0
join_sums o j s [] = (refl, refl)
join_sums o j s (x ∷ xs) =
    sums_append JoinFor (bills s (visits_of o j s)) (all_bills o j (suc s) xs) (sum_of (join_of (visits_of o j s)) (visits_of o j s)) 0 (total join_of o j (suc s) xs) 0
    (join_bills (visits_of o j s) s (visits_of o j s)) (join_sums o j (suc s) xs)

-- ---------------------------------------------------------------- attempts and invocations

abbrev pub OfBill : World → Attempt → Bill → Type 0
OfBill w t b = (i : Invocation) × (slice_get w.invs t.inv ≡ Some i) × (i.name ≡ name_of b.1) × (i.name.place.session ≡ b.0)

abbrev pub InvBill : Invocation → Bill → Type 0
InvBill i b = (i.name ≡ name_of b.1) × (i.name.place.session ≡ b.0)

abbrev pub OneJoin : Invocation → ℕ → ℕ → Type 0
OneJoin i n m = (n ≡ join_kind i.name.kind) × (m ≡ 0)

pub invs_sums : (iv : List Invocation) → Sums OneJoin iv (joins_in iv) 0
invs_sums [] = (refl, refl)
invs_sums (v ∷ iv) = (join_kind v.name.kind, 0, joins_in iv, 0, (refl, refl), invs_sums iv, refl, refl)

module _ (w : World) (G : Good w) where
  abbrev O : Opening
  O = w.opening

  abbrev J : List Entry
  J = w.journal

  pub atts_apart : Apart (OfBill w) w.atts
  atts_apart = apart_by (OfBill w) w.atts (λ k l x z y e f (i, g, p, q) (v, h, r, u). one_name w G k l x z i v e f g h (p ∙ sym r))

  pub invs_apart : Apart InvBill w.invs
  invs_apart = apart_by InvBill w.invs (λ k l x z y e f p q. G.sole.names k l x z e f (p.0 ∙ sym q.0))

  atts_within : (n m : ℕ) → Sums (Owes O w.invs J) w.atts n m → (n ≤ total bare O J 0 O.sessions) × (m ≤ total marks O J 0 O.sessions)
  atts_within n m s =
      sums_within (Owes O w.invs J) (DueFor O J) (OfBill w) w.atts (all_bills O J 0 O.sessions) n m (total bare O J 0 O.sessions) (total marks O J 0 O.sessions) s (all_sums O J 0 O.sessions) atts_apart
      (λ t h a b (i, at, sp).
      let (k, e) = in_number w.atts t h in
      let d : MadeOk O J i = made w G k t e i at in
      let (x, y) = spent_bound w G k t e i at a b sp in
      ((i.name.place.session, d.visit), bill_in O J i.name.place.session d.visit d.in_run, (i, at, sym d.name_is, refl), λ c f (p, q). (subst (λ z. a ≤ z) (sym p) x, subst (λ z. b ≤ z) (sym q) y)))

  invs_within : joins_in w.invs ≤ total join_of O J 0 O.sessions
  invs_within =
      (sums_within OneJoin JoinFor InvBill w.invs (all_bills O J 0 O.sessions) (joins_in w.invs) 0 (total join_of O J 0 O.sessions) 0 (invs_sums w.invs) (join_sums O J 0 O.sessions) invs_apart
      (λ i h a b (p, q).
      let (k, e) = in_number w.invs i h in
      let d : MadeOk O J i = G.both.keeps.made k i e in
      let same : kind_at d.visit.visited ≡ i.name.kind = ap (λ (z : Name). z.kind) d.name_is in
      let j : join_kind (kind_at d.visit.visited) ≡ join_kind i.name.kind = ap join_kind same in
      ((i.name.place.session, d.visit), bill_in O J i.name.place.session d.visit d.in_run, (sym d.name_is, refl), λ c f (x, y). (omega arith, omega arith)))).0

  pub paid_within : (N M : ℕ) → WorldPaid w N M → (N ≤ total_cost w) × (M ≤ total_marks w)
  paid_within N M (n, s, z) =
      let (x, y) = atts_within n M s in
      let u : joins_in w.invs ≤ total join_of O J 0 O.sessions = invs_within in
      let v : total cost O J 0 O.sessions ≡ total bare O J 0 O.sessions + total join_of O J 0 O.sessions = total_split O J 0 O.sessions in
      (omega arith, y)

pub every_calm_world_costs : EveryCalmWorldCosts
every_calm_world_costs o es w e c f =
    let G : Good w = run_good es (start o) w (start_good o) c e in
    let p : CountedSo w (0 + length es) (0 + marks_from (start o) es) = run_or es (start o) w (start_good o) 0 0 (inl (start_paid o)) c e in
    let marked : marks_from (start o) es ≡ w.marks = marks_are o es w e in
    let same : w.opening ≡ o = (run_ok es (start o) w (start_ok o) e).0 in
    elim p [
      | inl q ↦ let (x, y) = paid_within w G (0 + length es) (0 + marks_from (start o) es) q in (omega arith, omega arith)
      | inr q ↦ absurd (never_stuck w G (subst Serves (sym same) (serves o f)) q)
    ]
