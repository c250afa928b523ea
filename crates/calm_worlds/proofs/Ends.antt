-- Where nothing more may happen, each visit is whole, and the events are what the visits cost.
use Rattle.std.proofs.Common.{ℕ, zero, suc, ◌+◌, ◌<◌, ◌≤◌, ◌≡◌, ◌⊎◌, inl, inr, refl, sym, ap, ap₂, ◌∙◌, subst, true, false, List, [], ◌∷◌, ◌++◌, length, slice_get, Option, Some, None, arith}
use Rattle.std.proofs.lemmas.Option.{same_Some}
use Rattle.asl_model.specs.Names.{Name, Answers}
use Rattle.asl_model.specs.Step.{standard}
use Rattle.asl_model.specs.Central.{Visit, name_of, kind_of as kind_at}
use Rattle.asl_model.specs.Laws.{In, AreDistinct}
use Rattle.asl_model.proofs.OrderLaw.{distinct_lem}
use Rattle.world_model.specs.Operations.{root, Invocation}
use Rattle.world_model.specs.Acts.{rules}
use Rattle.world_model.specs.Program.{Phase, Looking, Saving, Gathering, Reading, Calling, Creating, Acting, Joining, Marking, Acking, AttemptOver}
use Rattle.world_model.specs.World.{Opening, Session, Entry, Attempt, World, start}
use Rattle.world_model.specs.Journals.{journal_answers, run_at, run_of}
use Rattle.world_model.specs.Agrees.{HasDistinctNames, TicketAgrees}
use Rattle.world_model.specs.Quiet.{IsQuiet}
use Rattle.world_model.specs.Drained.{IsDrained}
use Rattle.world_model.proofs.Runs.{visits_of, run_once}
use Rattle.world_model.proofs.Keeps.{WorldKeeps, MadeOk}
use Rattle.world_model.proofs.Every.{start_ok}
use Rattle.world_model.proofs.Leaves.{WorldLeaves, Closed}
use Rattle.world_model.proofs.Pushed.{Invited}
use Rattle.world_model.proofs.Quiets.{quiet_closed, reached, quiet_ended}
use Rattle.world_model.proofs.Drains.{WorldCounted, run_counted, over_at, still_at}
use Rattle.calm_worlds.proofs.Marked.{marks_from, marks_are}
use Rattle.calm_worlds.specs.Cost.{cost, marks, total, total_cost, total_marks}
use Rattle.calm_worlds.specs.Whole.{IsWhole, IsComplete, EveryCalmEndIsComplete, EveryCalmEndCosts}
use Rattle.calm_worlds.proofs.Calms.{IsOver}
use Rattle.calm_worlds.proofs.Good.{Good, start_good, run_good}
use Rattle.calm_worlds.proofs.Sums.{Sums, Apart, sums_within, apart_append}
use Rattle.calm_worlds.proofs.Paid.{join_kind, joins_in, Spent, Owes, WorldPaid, start_paid}
use Rattle.calm_worlds.proofs.Stuck.{CountedSo, run_or, none_stuck}
use Rattle.calm_worlds.proofs.Costs.{bare, made, up_bound}
use Rattle.calm_worlds.proofs.Totals.{Bill, bills, all_bills, DueFor, JoinFor, join_of, OneJoin, invs_sums, all_sums, join_sums, total_split, paid_within, session_there}

-- ---------------------------------------------------------------- one entry

entry_once : (j : List Entry) → HasDistinctNames j → (e f : Entry) → In e j → In f j → e.name ≡ f.name → e ≡ f
entry_once [] d e f h k q = absurd h
entry_once (x ∷ j) d e f h k q =
    elim h [
      | inl a ↦ elim k [
        | inl b ↦ a ∙ sym b
        | inr b ↦ absurd (d.0 f b (sym q ∙ ap (λ (z : Entry). z.name) a))
      ]
      | inr a ↦ elim k [
        | inl b ↦ absurd (d.0 e a (q ∙ ap (λ (z : Entry). z.name) b))
        | inr b ↦ entry_once j d.1 e f a b q
      ]
    ]

-- ---------------------------------------------------------------- visits differ by their names

distinct_rules : (A : Answers) (x : Session) (s : ℕ) → AreDistinct (run_at (Some x) s A).visits
unfolding rules
distinct_rules A x s = distinct_lem standard A x.machine (root s) x.input

distinct_at : (z : Option Session) (s : ℕ) (A : Answers) → AreDistinct (run_at z s A).visits
distinct_at None s A = tt
distinct_at (Some x) s A = distinct_rules A x s

run_distinct : (o : Opening) (j : List Entry) (s : ℕ) → AreDistinct (visits_of o j s)
unfolding run_of
run_distinct o j s = distinct_at (slice_get o.sessions s) s (journal_answers j)

-- a bill of these visits
bills_at : (s : ℕ) (vs : List Visit) (b : Bill) → In b (bills s vs) → (b.0 ≡ s) × In b.1 vs
bills_at s [] b h = absurd h
bills_at s (v ∷ vs) b h = elim h [
  | inl e ↦ (ap (λ (z : Bill). z.0) e, inl (ap (λ (z : Bill). z.1) e))
  | inr k ↦ let (p, q) = bills_at s vs b k in (p, inr q)
]

cases_in : (xs ys : List Bill) (b : Bill) → In b (xs ++ ys) → In b xs ⊎ In b ys
cases_in [] ys b h = inr h
cases_in (x ∷ xs) ys b h = elim h [ inl e ↦ inl (inl e) | inr k ↦ elim (cases_in xs ys b k) [ inl y ↦ inl (inr y) | inr y ↦ inr y ] ]

all_at : (o : Opening) (j : List Entry) (s : ℕ) (xs : List Session) (b : Bill) → In b (all_bills o j s xs) → (s ≤ b.0) × (b.0 < s + length xs) × In b.1 (visits_of o j b.0)
all_at o j s [] b h = absurd h
all_at o j s (x ∷ xs) b h = elim (cases_in (bills s (visits_of o j s)) (all_bills o j (suc s) xs) b h) [
  | inl k ↦
      let (p, q) = bills_at s (visits_of o j s) b k in
      (omega arith, omega arith, subst (λ n. In b.1 (visits_of o j n)) (sym p) q)
  | inr k ↦ let (p, q, r) = all_at o j (suc s) xs b k in (omega arith, omega arith, r)
]

-- a match by name
abbrev ByName : {Y : Type 0} → (Y → Name → Type 0) → Bill → Y → Type 0
ByName R b y = (n : Name) × R y n × (n ≡ name_of b.1) × (n.place.session ≡ b.0)

module _ {Y : Type 0} (R : Y → Name → Type 0) (one : (y : Y) (n m : Name) → R y n → R y m → n ≡ m) where
  bills_apart : (s : ℕ) (vs : List Visit) → AreDistinct vs → Apart (ByName R) (bills s vs)
  bills_apart s [] d = tt
  bills_apart s (v ∷ vs) d = (
    λ b h y (n, r, p, q) (m, t, u, z). d.0 b.1 (bills_at s vs b h).1 (sym p ∙ one y n m r t ∙ u),
    bills_apart s vs d.1,
  )

  all_apart : (o : Opening) (j : List Entry) (s : ℕ) (xs : List Session) → Apart (ByName R) (all_bills o j s xs)
  all_apart o j s [] = tt
  all_apart o j s (x ∷ xs) =
      apart_append (ByName R) (bills s (visits_of o j s)) (all_bills o j (suc s) xs) (bills_apart s (visits_of o j s) (run_distinct o j s)) (all_apart o j (suc s) xs)
      (λ b c y h k (n, r, p, q) (m, t, u, z).
      let same : n.place.session ≡ m.place.session = ap (λ (v : Name). v.place.session) (one y n m r t) in
      let e : b.0 ≡ s = (bills_at s (visits_of o j s) b h).0 in
      let l : suc s ≤ c.0 = (all_at o j (suc s) xs c k).0 in
      absurd (omega arith))

-- ---------------------------------------------------------------- a drained world

module _ (w : World) (G : Good w) (C : WorldCounted w) (D : IsDrained w) where
  abbrev O : Opening
  O = w.opening

  abbrev J : List Entry
  J = w.journal

  abbrev K : WorldKeeps w
  K = G.both.keeps

  abbrev L : WorldLeaves w
  L = G.both.leaves

  quiet : (s : ℕ) → IsQuiet w s
  quiet s k i q e f g = elim (over_at w C D k q f) [
    | inl a ↦ a
    | inr d ↦ absurd (let z : false ≡ true = sym (G.calm.each k q f).alive ∙ d in cc)
  ]

  invited : (s : ℕ) (x : Session) → slice_get O.sessions s ≡ Some x → (v : Visit) → In v (visits_of O J s) → Invited w s (name_of v)
  invited s x e v h = (reached w K L s (quiet s) x e).visits v h

  closed : (s : ℕ) (x : Session) → slice_get O.sessions s ≡ Some x → (v : Visit) → In v (visits_of O J s) → Closed O w.objects w.invs J (name_of v)
  closed s x e v h = quiet_closed w K L s (quiet s) (name_of v) (invited s x e v h)

  whole : (s : ℕ) (x : Session) → slice_get O.sessions s ≡ Some x → (v : Visit) → In v (visits_of O J s) → IsWhole w v
  whole s x e v h =
      let c : Closed O w.objects w.invs J (name_of v) = closed s x e v h in
      let y : Entry = record { name = name_of v; answer = c.kept.answer; ticket = c.kept.ticket } in
      let t : TicketAgrees w.invs w.atts y = K.tickets y c.kept_ok.entry in
      record {
        entry = y;
        entry_in = c.kept_ok.entry;
        entry_name = refl;
        entry_only = λ f k q. entry_once J K.distinct f y k c.kept_ok.entry q;
        number = t.attempt.inv;
        invocation = t.invocation;
        invocation_is = t.invocation_is;
        name_is = t.name_is;
        invocation_only = λ k i f q. G.sole.names k t.attempt.inv i t.invocation f t.invocation_is (q ∙ sym t.name_is);
        attempt_number = y.ticket;
        attempt = t.attempt;
        attempt_is = t.attempt_is;
        inv_is = refl;
        attempt_only = λ a u f q. G.calm.one a y.ticket u t.attempt f t.attempt_is q;
      }

  complete : ((s : ℕ) (v : Visit) → In v (visits_of O J s) → (x : Session) × (slice_get O.sessions s ≡ Some x)) → IsComplete w
  complete f = record {
    sessions = λ s x e. quiet_ended w K L s (quiet s) x e;
    visits = λ s v h. let (x, e) = f s v h in whole s x e v h;
  }

  -- ---------------------------------------------------------------- each attempt has spent all that its visit costs

  over_exact : (a : ℕ) (t : Attempt) → slice_get w.atts a ≡ Some t → (i : Invocation) (at : slice_get w.invs t.inv ≡ Some i) → (p : Phase) → IsOver p → (n m : ℕ) → Spent O J i p n m →
      (found : slice_get w.atts a ≡ Some t) → (n ≡ bare (visits_of O J i.name.place.session) (made w G a t found i at).visit) × (m ≡ marks (visits_of O J i.name.place.session) (made w G a t found i at).visit)
  over_exact a t e i at (AttemptOver true) h n m (l, q, p) found =
      let (x, y) = up_bound w G a t found i at l m p in
      (omega arith, y)
  over_exact a t e i at (AttemptOver false) h n m s found = absurd s
  over_exact a t e i at Looking h n m s found = absurd h
  over_exact a t e i at Saving h n m s found = absurd h
  over_exact a t e i at (Gathering count raw used outs) h n m s found = absurd h
  over_exact a t e i at Reading h n m s found = absurd h
  over_exact a t e i at (Calling raw used) h n m s found = absurd h
  over_exact a t e i at (Creating k) h n m s found = absurd h
  over_exact a t e i at (Acting k l) h n m s found = absurd h
  over_exact a t e i at (Joining k) h n m s found = absurd h
  over_exact a t e i at (Marking k l) h n m s found = absurd h
  over_exact a t e i at (Acking b) h n m s found = absurd h

  -- the name of an attempt
  abbrev Named : Attempt → Name → Type 0
  Named t n = (i : Invocation) × (slice_get w.invs t.inv ≡ Some i) × (i.name ≡ n)

  named_once : (t : Attempt) (n m : Name) → Named t n → Named t m → n ≡ m
  named_once t n m (i, e, p) (v, f, q) = sym p ∙ ap (λ (z : Invocation). z.name) (same_Some i v (sym e ∙ f)) ∙ q

  session_of : (b : Bill) → In b (all_bills O J 0 O.sessions) → (x : Session) × (slice_get O.sessions b.0 ≡ Some x)
  session_of b h = let (p, q, r) = all_at O J 0 O.sessions b h in get_some O.sessions b.0 (omega arith)
    where
      get_some : (xs : List Session) (k : ℕ) → k < length xs → (x : Session) × (slice_get xs k ≡ Some x)
      get_some [] k l = absurd (omega arith)
      get_some (x ∷ xs) zero l = (x, refl)
      get_some (x ∷ xs) (suc k) l = get_some xs k (omega arith)

  get_in : {A : Type 0} (xs : List A) (k : ℕ) (x : A) → slice_get xs k ≡ Some x → In x xs
  get_in [] k x e = absurd (cc)
  get_in (y ∷ xs) zero x e = inl (sym (same_Some y x e))
  get_in (y ∷ xs) (suc k) x e = inr (get_in xs k x e)

  cost_reached : (n m : ℕ) → Sums (Owes O w.invs J) w.atts n m → (total bare O J 0 O.sessions ≤ n) × (total marks O J 0 O.sessions ≤ m)
  cost_reached n m s =
      sums_within (DueFor O J) (Owes O w.invs J) (ByName Named) (all_bills O J 0 O.sessions) w.atts (total bare O J 0 O.sessions) (total marks O J 0 O.sessions) n m (all_sums O J 0 O.sessions) s
      (all_apart Named named_once O J 0 O.sessions)
      (λ b h c d (p, q).
      let (x, e) = session_of b h in
      let (l1, l2, v) = all_at O J 0 O.sessions b h in
      let r : IsWhole w b.1 = whole b.0 x e b.1 v in
      let at : slice_get w.invs r.attempt.inv ≡ Some r.invocation = ap (slice_get w.invs) r.inv_is ∙ r.invocation_is in
      let dm : MadeOk O J r.invocation = made w G r.attempt_number r.attempt r.attempt_is r.invocation at in
      let session : r.invocation.name.place.session ≡ b.0 = ap (λ (z : Name). z.place.session) r.name_is ∙ (invited b.0 x e b.1 v).1 in
      let here : In dm.visit (visits_of O J b.0) = subst (λ z. In dm.visit (visits_of O J z)) session dm.in_run in
      let one : dm.visit ≡ b.1 = run_once O J b.0 dm.visit b.1 here v (dm.name_is ∙ r.name_is) in (
        r.attempt,
        get_in w.atts r.attempt_number r.attempt r.attempt_is,
        (r.invocation.name, (r.invocation, at, refl), r.name_is, session),
        λ y z (i, f, sp).
            let same : i ≡ r.invocation = same_Some i r.invocation (sym f ∙ at) in
            let sp2 : Spent O J r.invocation r.attempt.phase y z = subst (λ (u : Invocation). Spent O J u r.attempt.phase y z) same sp in
            let ov : IsOver r.attempt.phase = G.calm.over r.attempt_number r.attempt r.attempt_is (still_at w D r.attempt_number r.attempt r.attempt_is) in
            let (u1, u2) = over_exact r.attempt_number r.attempt r.attempt_is r.invocation at r.attempt.phase ov y z sp2 r.attempt_is in
            let v1 : bare (visits_of O J r.invocation.name.place.session) dm.visit ≡ bare (visits_of O J b.0) b.1 = ap₂ (λ k (u : Visit). bare (visits_of O J k) u) session one in
            let v2 : marks (visits_of O J r.invocation.name.place.session) dm.visit ≡ marks (visits_of O J b.0) b.1 = ap₂ (λ k (u : Visit). marks (visits_of O J k) u) session one in
            (omega arith, omega arith),
      ))

  -- and each Join was invoked
  joins_reached : total join_of O J 0 O.sessions ≤ joins_in w.invs
  joins_reached =
      (sums_within JoinFor OneJoin (ByName (λ (i : Invocation) n. i.name ≡ n)) (all_bills O J 0 O.sessions) w.invs (total join_of O J 0 O.sessions) 0 (joins_in w.invs) 0 (join_sums O J 0 O.sessions) (invs_sums w.invs)
      (all_apart (λ (i : Invocation) n. i.name ≡ n) (λ i n m p q. sym p ∙ q) O J 0 O.sessions)
      (λ b h c d (p, q).
      let (x, e) = session_of b h in
      let (l1, l2, v) = all_at O J 0 O.sessions b h in
      let (r, s) = invited b.0 x e b.1 v in (
        r.invocation,
        get_in w.invs r.number r.invocation r.found,
        (name_of b.1, r.name_is, refl, s),
        λ y z (u, t).
            let k : join_kind r.invocation.name.kind ≡ join_kind (kind_at b.1.visited) = ap (λ (n : Name). join_kind n.kind) r.name_is in
            (omega arith, omega arith),
      ))).0

  paid_exact : (N M : ℕ) → WorldPaid w N M → (N ≡ total_cost w) × (M ≡ total_marks w)
  paid_exact N M (n, s, z) =
      let (x, y) = paid_within w G N M (n, s, z) in
      let (u, v) = cost_reached n M s in
      let j : total join_of O J 0 O.sessions ≤ joins_in w.invs = joins_reached in
      let t : total cost O J 0 O.sessions ≡ total bare O J 0 O.sessions + total join_of O J 0 O.sessions = total_split O J 0 O.sessions in
      (omega arith, omega arith)

pub every_calm_end_is_complete : EveryCalmEndIsComplete
every_calm_end_is_complete o es w e c D =
    let G : Good w = run_good es (start o) w (start_good o) c e in
    let C : WorldCounted w = run_counted o es w e in
    complete w G C D (λ s v h. session_there w.opening w.journal s v h)

pub every_calm_end_costs : EveryCalmEndCosts
every_calm_end_costs o es w e c D =
    let G : Good w = run_good es (start o) w (start_good o) c e in
    let C : WorldCounted w = run_counted o es w e in
    let marked : marks_from (start o) es ≡ w.marks = marks_are o es w e in
    let p : CountedSo w (0 + length es) (0 + marks_from (start o) es) = run_or es (start o) w (start_good o) 0 0 (inl (start_paid o)) c e in
    elim p [
      | inl q ↦ let (x, y) = paid_exact w G C D (0 + length es) (0 + marks_from (start o) es) q in (omega arith, omega arith)
      | inr q ↦ absurd (none_stuck w D q)
    ]
