-- With more answers the visits of a run cost no less; so a world without mishaps stays within what the sequential runs cost.
use Rattle.world_model.specs.AnyCode.World as worlds
use Rattle.std.proofs.Common.{ℕ, suc, ◌+◌, ◌≤◌, ◌≡◌, refl, sym, ap, ap₂, ◌∙◌, subst, Bool, true, false, cond, List, [], ◌∷◌, ◌++◌, length, slice_get, Option, Some, None, arith, length-append}
use Rattle.std.proofs.lemmas.Option.{same_Some}
use Rattle.asl_model.specs.Data.{Json, Outcome}
use Rattle.asl_model.specs.Names as names
use Rattle.asl_model.specs.Names.{Scope, Place, Name, Answers, Holds, answers_of, scope_of}
use Rattle.asl_model.specs.Machine.{Block}
use Rattle.asl_model.specs.Step.{standard}
use Rattle.asl_model.specs.Central.{Visit, Visited, name_of, kind_of as kind_at, Run, scope, central}
use Rattle.asl_model.specs.Stretch.{Stop, Call, Fan, Over, after}
use Rattle.asl_model.specs.Laws.{IsGrown, AreDistinct, LeadsTo}
use Rattle.asl_model.specs.Sequential.{Functions, size, sequential}
use Rattle.asl_model.proofs.OrderLaw.{distinct_lem}
use Rattle.asl_model.proofs.EndedLaw.{ended_stays_lem}
use Rattle.asl_model.proofs.SequentialLaw.{sequential_ends_lem}
use Rattle.place_name.specs.Names.{Parent}
use Rattle.world_model.specs.Operations.{root}
use Rattle.world_model.specs.Acts.{rules, parent_of}
use Rattle.world_model.specs.World.{Opening, Session, World, Event, enabled, effect, then_event, run_from, start, run}
use Rattle.world_model.specs.Journals.{journal_answers, run_of}
use Rattle.world_model.specs.Agrees.{Agrees}
use Rattle.world_model.specs.Steady.{AllSteady, AnswerAs}
use Rattle.world_model.proofs.Runs.{laws}
use Rattle.world_model.proofs.Every.{every_run_agrees, run_none}
use Rattle.world_model.proofs.Alike.{together, left_holds, right_holds, no_answers, run_is, answers_found}
use Rattle.calm_worlds.specs.Calm.{IsCalm, AreCalm}
use Rattle.calm_worlds.specs.Cost.{Size, fan_in, limit_of_size, count_of_size, pace_cost, end_cost, acts_cost, more_if, enter_cost, own_cost, cost_at, cost, own_marks, marks_with, marks, sum_of, total, total_cost, total_marks, HasFunctions}
use Rattle.calm_worlds.specs.Alone.{total_alone, EveryCalmWorldStaysWithin}
use Rattle.calm_worlds.proofs.Sums.{Sums, Apart, sums_within}
use Rattle.calm_worlds.proofs.Costs.{Sized, fan_leads, lead_found}
use Rattle.calm_worlds.proofs.Totals.{every_calm_world_costs}
use Rattle.calm_worlds.proofs.Busy.{every_calm_world_goes_on}

-- ---------------------------------------------------------------- more answers

module _ (A B : Answers) (more : Holds A B) (b : Block) (s : Scope) (x : Json) where
  abbrev VA : List Visit
  VA = (scope rules A b s x).visits

  abbrev VB : List Visit
  VB = (scope rules B b s x).visits

  fan_grows : (p : Place) (z : Size) → fan_in p VA ≡ Some z → fan_in p VB ≡ Some z
  fan_grows p z e =
      let d : Sized A VA p z = fan_leads A VA p z e in
      let l : LeadsTo rules B VB p d.block d.name d.raw d.used d.branches = laws.fan_kept A B more b s x p d.block d.name d.raw d.used d.branches d.leads in
      lead_found B VB p z (record {
        block = d.block;
        name = d.name;
        raw = d.raw;
        used = d.used;
        branches = d.branches;
        leads = l;
        one = λ gb other raw again ds k. laws.one_fan B b s x p gb d.block other d.name raw d.raw again d.used ds d.branches k l;
        size_is = d.size_is;
      })

  -- a fan that is found is the same, and one that is not counts for nothing
  by_fan : (p : Place) (F : Option Size → ℕ) → ((y : Option Size) → F None ≤ F y) → F (fan_in p VA) ≤ F (fan_in p VB)
  by_fan p F f = go (fan_in p VA) refl
    where
      go : (y : Option Size) → fan_in p VA ≡ y → F y ≤ F (fan_in p VB)
      go None e = f (fan_in p VB)
      go (Some z) e = let q : F (fan_in p VB) ≡ F (Some z) = ap F (fan_grows p z e) in omega arith

  own_grows : (p : Place) (k : names.Kind) → own_cost VA p k ≤ own_cost VB p k
  own_grows p names.Enter = omega arith
  own_grows p names.Task = omega arith
  own_grows p names.Join = by_fan p (λ y. 8 + (count_of_size y + count_of_size y) + more_if (count_of_size y)) (λ y. omega arith)

  marks_grows : (p : Place) (k : names.Kind) → own_marks VA p k ≤ own_marks VB p k
  marks_grows p names.Enter = omega arith
  marks_grows p names.Task = omega arith
  marks_grows p names.Join = by_fan p (λ y. count_of_size y + 2 + more_if (count_of_size y)) (λ y. omega arith)

  end_grows : (z : Option Parent) → end_cost VA z ≤ end_cost VB z
  end_grows None = omega arith
  end_grows (Some q) = by_fan q.place (λ y. 2 + pace_cost (limit_of_size y) q) (λ y. omega arith)

  acts_grow : (v w : Visit) → w.place ≡ v.place → w.block ≡ v.block → (stop : Stop) → acts_cost VA v stop ≤ acts_cost VB w stop
  acts_grow v w p c (Call name hop raw used) = omega arith
  acts_grow v w p c (Fan name hop raw used cs) = let e : acts_cost VB w (Fan name hop raw used cs) ≡ acts_cost VA v (Fan name hop raw used cs) = ap (λ (z : Block). acts_cost VA (record v { block = z }) (Fan name hop raw used cs)) c in omega arith
  acts_grow v w p c (Over o) = subst (λ z. end_cost VA (parent_of (scope_of v.place)) ≤ end_cost VB (parent_of (scope_of z))) (sym p) (end_grows (parent_of (scope_of v.place)))

  own_some : (p : Place) (k : names.Kind) → 6 ≤ own_cost VB p k
  own_some p names.Enter = by (parent_of (scope_of p))
    where
      by : (z : Option Parent) → 6 ≤ enter_cost z
      by None = omega arith
      by (Some q) = omega arith
  own_some p names.Task = omega arith
  own_some p names.Join = omega arith

  none_grows : (w : Visit) (a : Option Outcome) → 4 ≤ cost_at VB w a
  none_grows w None = omega arith
  none_grows w (Some o) = let l : 6 ≤ own_cost VB w.place (kind_at w.visited) = own_some w.place (kind_at w.visited) in omega arith

  visit_grows : (v w : Visit) → IsGrown v w → (cost VA v ≤ cost VB w) × (marks VA v ≤ marks VB w)
  visit_grows v w g = by v.answer refl
    where
      by : (a : Option Outcome) → v.answer ≡ a → (cost_at VA v a ≤ cost VB w) × (marks_with VA v a ≤ marks VB w)
      by None e = (none_grows w w.answer, omega arith)
      by (Some o) e =
          let a : w.answer ≡ Some o = g.answer o e in
          let stop : after rules w.block w.visited w.place.hop w.raw w.used o ≡ after rules v.block v.visited v.place.hop v.raw v.used o = cc (g.block, g.visited, g.place, g.raw, g.used) in
          let s : acts_cost VA v (after rules v.block v.visited v.place.hop v.raw v.used o) ≤ acts_cost VB w (after rules v.block v.visited v.place.hop v.raw v.used o) = acts_grow v w g.place g.block (after rules v.block v.visited v.place.hop v.raw v.used o) in
          let t : own_cost VA v.place (kind_at v.visited) ≤ own_cost VB v.place (kind_at v.visited) = own_grows v.place (kind_at v.visited) in
          let u : marks_with VA v (Some o) ≤ own_marks VB v.place (kind_at v.visited) = marks_grows v.place (kind_at v.visited) in
          let q : own_cost VB w.place (kind_at w.visited) ≡ own_cost VB v.place (kind_at v.visited) = ap₂ (λ (y : Place) (z : Visited). own_cost VB y (kind_at z)) g.place g.visited in
          let r : own_marks VB w.place (kind_at w.visited) ≡ own_marks VB v.place (kind_at v.visited) = ap₂ (λ (y : Place) (z : Visited). own_marks VB y (kind_at z)) g.place g.visited in
          let c : cost VB w ≡ own_cost VB w.place (kind_at w.visited) + acts_cost VB w (after rules w.block w.visited w.place.hop w.raw w.used o) = ap (cost_at VB w) a in
          let d : acts_cost VB w (after rules w.block w.visited w.place.hop w.raw w.used o) ≡ acts_cost VB w (after rules v.block v.visited v.place.hop v.raw v.used o) = ap (acts_cost VB w) stop in
          let m : marks VB w ≡ own_marks VB w.place (kind_at w.visited) = ap (marks_with VB w) a in
          (omega arith, omega arith)

  abbrev Costs : List Visit → Visit → ℕ → ℕ → Type 0
  Costs vs v n m = (n ≡ cost vs v) × (m ≡ marks vs v)

  abbrev SameName : Visit → Visit → Type 0
  SameName v w = name_of v ≡ name_of w

  costs_sums : (vs us : List Visit) → Sums (Costs vs) us (sum_of (cost vs) us) (sum_of (marks vs) us)
  costs_sums vs [] = (refl, refl)
  costs_sums vs (u ∷ us) = (cost vs u, marks vs u, sum_of (cost vs) us, sum_of (marks vs) us, (refl, refl), costs_sums vs us, refl, refl)

  names_apart : (vs : List Visit) → AreDistinct vs → Apart SameName vs
  names_apart [] d = tt
  names_apart (v ∷ vs) d = (λ z h y p q. d.0 z h (p ∙ sym q), names_apart vs d.1)

  distinct : AreDistinct VA
  unfolding rules
  distinct = distinct_lem standard A b s x

  -- the visits of a run on more answers cost no less
  pub costs_grow : (sum_of (cost VA) VA ≤ sum_of (cost VB) VB) × (sum_of (marks VA) VA ≤ sum_of (marks VB) VB)
  costs_grow =
      sums_within (Costs VA) (Costs VB) SameName VA VB (sum_of (cost VA) VA) (sum_of (marks VA) VA) (sum_of (cost VB) VB) (sum_of (marks VB) VB) (costs_sums VA VA) (costs_sums VB VB) (names_apart VA distinct)
      (λ v h n m (p, q).
      let (w, i, g) = (laws.growth A B more b s x).visits v h in
      let (l, k) = visit_grows v w g in
      let same : name_of v ≡ name_of w = ap₂ (λ (y : Place) (z : Visited). let r : Name = record { place = y; kind = kind_at z } in r) (sym g.place) (sym g.visited) in
      (w, i, same, λ c d (u, t). (omega arith, omega arith)))

-- ---------------------------------------------------------------- up to the sequential run

abbrev WithinRun : Run → Run → Type 0
WithinRun r q = (sum_of (cost r.visits) r.visits ≤ sum_of (cost q.visits) q.visits) × (sum_of (marks r.visits) r.visits ≤ sum_of (marks q.visits) q.visits)

standard_grow : (A B : Answers) → Holds A B → (b : Block) (s : ℕ) (x : Json) → WithinRun (central standard A b s x) (central standard B b s x)
unfolding rules
standard_grow A B h b s x = costs_grow A B h b (root s) x

session_within : (w : World) (agrees : Agrees w) (all : AllSteady w.opening.functions) (call : Functions) (calls_as : AnswerAs w.opening.functions call) (s : ℕ) (x : Session) (found : slice_get w.opening.sessions s ≡ Some x) →
    WithinRun (run_of w.opening w.journal s) (sequential x.machine s x.input call)
session_within w agrees all call calls_as s x found =
    let J : Answers = journal_answers w.journal in
    let R : Answers → Run = λ A. central standard A x.machine s x.input in
    let (es, alike, same) = answers_found w agrees all call calls_as s x found (suc (size x.machine)) [] (no_answers J) in
    let (y, e) = sequential_ends_lem x.machine s x.input call in
    let B : Answers = together J (answers_of es) in
    let one : R B ≡ R (answers_of es) = ended_stays_lem standard (answers_of es) B (right_holds J (answers_of es) alike) x.machine (root s) x.input y (ap (λ (z : Run). z.end) (sym same) ∙ e) in
    subst (λ r. WithinRun r (sequential x.machine s x.input call)) (sym (run_is w.opening w.journal s x found))
    (subst (WithinRun (R J)) (one ∙ sym same) (standard_grow J B (left_holds J (answers_of es)) x.machine s x.input))

totals_within : (w : World) (call : Functions) (s : ℕ) (xs : List Session) → ((k : ℕ) (x : Session) → slice_get xs k ≡ Some x → WithinRun (run_of w.opening w.journal (s + k)) (sequential x.machine (s + k) x.input call)) →
    (total cost w.opening w.journal s xs ≤ total_alone cost call s xs) × (total marks w.opening w.journal s xs ≤ total_alone marks call s xs)
totals_within w call s [] h = (omega arith, omega arith)
totals_within w call s (x ∷ xs) h =
    let z : s + 0 ≡ s = omega arith in
    let (a, c) = subst (λ n. WithinRun (run_of w.opening w.journal n) (sequential x.machine n x.input call)) z (h 0 x refl) in
    let (b, d) = totals_within w call (suc s) xs (λ k y e. let q : s + suc k ≡ suc s + k = omega arith in subst (λ n. WithinRun (run_of w.opening w.journal n) (sequential y.machine n y.input call)) q (h (suc k) y e)) in
    (omega arith, omega arith)

world_within : (o : Opening) (es : List Event) (w : World) → run o es ≡ Some w → AllSteady o.functions → (call : Functions) → AnswerAs o.functions call → (total_cost w ≤ total_alone cost call 0 w.opening.sessions) × (total_marks w ≤ total_alone marks call 0 w.opening.sessions)
world_within o es w e all call calls_as =
    let (same, agrees) = every_run_agrees o es w e in
    let all_here : AllSteady w.opening.functions = subst (λ (z : Opening). AllSteady z.functions) (sym same) all in
    let as_here : AnswerAs w.opening.functions call = subst (λ (z : Opening). AnswerAs z.functions call) (sym same) calls_as in
    totals_within w call 0 w.opening.sessions (λ k x g. let z : k ≡ 0 + k = omega arith in subst (λ i. WithinRun (run_of w.opening w.journal i) (sequential x.machine i x.input call)) z (session_within w agrees all_here call as_here k x g))

-- ---------------------------------------------------------------- one event more

run_append : (x : Option World) (es : List Event) (d : Event) → run_from x (es ++ d ∷ []) ≡ then_event (run_from x es) d
unfolding worlds.run_from
run_append x [] d = refl
run_append x (e ∷ es) d = run_append (then_event x e) es d

calm_append : (es : List Event) (w v : World) → AreCalm w es → run_from (Some w) es ≡ Some v → (d : Event) → IsCalm v d → AreCalm w (es ++ d ∷ [])
unfolding worlds.run_from
calm_append [] w v c e d h = (subst (λ z. IsCalm z d) (sym (same_Some w v e)) h, tt)
calm_append (x ∷ es) w v c e d h = (c.0, go (λ q. calm_append es (effect w x) v c.1 q d h) (enabled w x) e)
  where
    go : (run_from (Some (effect w x)) es ≡ Some v → AreCalm (effect w x) (es ++ d ∷ [])) → (b : Bool) → run_from (cond b (Some (effect w x)) None) es ≡ Some v → AreCalm (effect w x) (es ++ d ∷ [])
    go r true q = r q
    go r false q = absurd (run_none es v q)

event_within : (o : Opening) (es : List Event) (w : World) → run o es ≡ Some w → AreCalm (start o) es → HasFunctions o → AllSteady o.functions → (call : Functions) → AnswerAs o.functions call →
    (length es ≤ total_alone cost call 0 w.opening.sessions) × (w.marks ≤ total_alone marks call 0 w.opening.sessions)
event_within o es w e c f all call calls_as =
    let (a, b) = every_calm_world_costs o es w e c f in
    let (x, y) = world_within o es w e all call calls_as in
    (omega arith, omega arith)

pub every_calm_world_stays_within : EveryCalmWorldStaysWithin
every_calm_world_stays_within o es w e c f all call calls_as =
    let (same, agrees) = every_run_agrees o es w e in
    let (a, b) = event_within o es w e c f all call calls_as in
    record {
      events_within = a;
      marks_within = b;
      room = λ x q.
          let (d, g, h) = every_calm_world_goes_on o es w e c x q in
          let v : World = effect w d in
          let one : run o (es ++ d ∷ []) ≡ Some v = run_append (Some (start o)) es d ∙ ap (λ z. then_event z d) e ∙ ap (λ (t : Bool). cond t (Some v) None) g in
          let calm : AreCalm (start o) (es ++ d ∷ []) = calm_append es (start o) w c e d h in
          let (n, m) = event_within o (es ++ d ∷ []) v one calm f all call calls_as in
          let (here, other) = every_run_agrees o (es ++ d ∷ []) v one in
          let sessions : total_alone cost call 0 v.opening.sessions ≡ total_alone cost call 0 w.opening.sessions = ap (λ (z : Opening). total_alone cost call 0 z.sessions) (here ∙ sym same) in
          let l : length (es ++ d ∷ []) ≡ length es + 1 = length-append es (d ∷ []) in
          omega arith;
    }
