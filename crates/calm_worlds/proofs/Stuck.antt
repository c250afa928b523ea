-- An attempt whose function is not in the table waits for it forever, so a world in which nothing more may happen never met one.
use Rattle.world_model.specs.AnyCode.Program as program
use Rattle.world_model.specs.AnyCode.World as worlds
use Rattle.std.proofs.Common.{ℕ, suc, ◌+◌, ◌≡◌, ◌≢◌, ◌⊎◌, inl, inr, refl, sym, ap, ◌∙◌, subst, Bool, true, false, cond, ◌&&◌, List, [], ◌∷◌, length, slice_get, slice_set, Option, Some, None, arith}
use Rattle.std.proofs.lemmas.Option.{same_Some}
use Rattle.std.proofs.lemmas.Bool.Decides.{eqb_tells}
use Rattle.fn_table.specs.declared.kind.FnKind.{FnKind}
use Rattle.asl_model.specs.Data.{Text, Json}
use Rattle.asl_model.specs.Machine.{Used, Block, state_of}
use Rattle.asl_model.specs.Step.{Calls}
use Rattle.asl_model.specs.Blocks.{function_at}
use Rattle.asl_model.specs.Central
use Rattle.asl_model.specs.Central.{Visit, Visited}
use Rattle.asl_model.specs.Laws.{In, IsSound}
use Rattle.asl_model.proofs.NameLaw.{visit_has_number_lem}
use Rattle.asl_model.specs.Names.{Answers, scope_of}
use Rattle.place_name.specs.declared.obj.Obj.{Obj}
use Rattle.place_name.specs.Names.{Parent}
use Rattle.world_model.specs.Operations.{Site, Frame, Invocation, Op, Look, Create, Set, Invoke, Mark, Ack}
use Rattle.world_model.specs.Acts.{rules, parent_of, acts, due_objects}
use Rattle.world_model.specs.Program.{Phase, Looking, Saving, Gathering, Reading, Calling, Creating, Acting, Joining, Marking, Acking, AttemptOver, Doing, Do, Ask, Nothing, doing, marking, joining, asking, call_of, next_of}
use Rattle.world_model.specs.World.{Table, Opening, Session, Entry, Attempt, World, Event, Answer, function_of, answered_world, performed_world, stepped_world, asked_world, delivered_world, effect, enabled, att_lets, is_do, is_ask, run_from}
use Rattle.world_model.specs.Journals.{journal_answers, run_at, run_of}
use Rattle.world_model.specs.Drained.{IsDrained}
use Rattle.world_model.proofs.Gets.{get_append, set_get}
use Rattle.world_model.proofs.Keeps.{WorldKeeps, MadeOk, PhaseOk, is_task, task_call}
use Rattle.world_model.proofs.Runs.{run_once, run_sound}
use Rattle.world_model.proofs.Every.{run_none, phase_of, same_opening}
use Rattle.world_model.proofs.Finishes.{same_attempts}
use Rattle.calm_worlds.specs.Calm.{IsCalm, AreCalm}
use Rattle.calm_worlds.proofs.Marked.{marks_of, marks_from}
use Rattle.calm_worlds.specs.Cost.{HasFunctions}
use Rattle.calm_worlds.proofs.Events.{by_event}
use Rattle.calm_worlds.proofs.Good.{Good, good_event, not_eight}
use Rattle.world_plans.proofs.Busy.{same_invs}
use Rattle.calm_worlds.proofs.Paid.{WorldPaid, delivered_paid, step_paid, answered_paid}

-- a live attempt is at a call of a function that is not in the table
pub record Stuck (table : Table) (iv : List Invocation) (at : List Attempt) : Type 0 where
  pub number : ℕ
  pub attempt : Attempt
  pub invocation : Invocation
  pub raw : Json
  pub used : Used
  pub call : Text × Json
  pub attempt_is : slice_get at number ≡ Some attempt
  pub live : attempt.live ≡ true
  pub invocation_is : slice_get iv attempt.inv ≡ Some invocation
  pub phase_is : attempt.phase ≡ Calling raw used
  pub call_is : call_of invocation.site raw ≡ Some call
  pub missing : function_of table call.0 ≡ None

stuck_more : (table : Table) (iv others : List Invocation) (at ats : List Attempt) (S : Stuck table iv at) → slice_get ats S.number ≡ Some S.attempt → slice_get others S.attempt.inv ≡ Some S.invocation → Stuck table others ats
stuck_more table iv others at ats S e f = record {
  number = S.number;
  attempt = S.attempt;
  invocation = S.invocation;
  raw = S.raw;
  used = S.used;
  call = S.call;
  attempt_is = e;
  live = S.live;
  invocation_is = f;
  phase_is = S.phase_is;
  call_is = S.call_is;
  missing = S.missing;
}

set_other : (at : List Attempt) (a b : ℕ) (t u : Attempt) → a ≢ b → slice_get at a ≡ Some t → slice_get (slice_set at b u) a ≡ Some t
set_other at a b t u n e = elim (set_get at b u a t e) [ inl p ↦ p | inr q ↦ absurd (n q.0) ]

-- what is next at that call
next_call : (i : Invocation) (raw : Json) (used : Used) (c : Text × Json) → call_of i.site raw ≡ Some c → (p : Phase) → p ≡ Calling raw used → next_of i p ≡ Ask c.0 c.1
unfolding program.next_of
next_call i raw used c e p q = ap (next_of i) q ∙ ap asking e

module _ (table : Table) (w : World) (S : Stuck table w.invs w.atts) where
  stuck_next : (a : ℕ) (t : Attempt) (i : Invocation) → slice_get w.atts a ≡ Some t → slice_get w.invs t.inv ≡ Some i → S.number ≡ a → next_of i t.phase ≡ Ask S.call.0 S.call.1
  stuck_next a t i found at same =
      let u : S.attempt ≡ t = same_Some S.attempt t (sym S.attempt_is ∙ ap (slice_get w.atts) same ∙ found) in
      let v : S.invocation ≡ i = same_Some S.invocation i (sym S.invocation_is ∙ ap (λ (z : Attempt). slice_get w.invs z.inv) u ∙ at) in
      next_call i S.raw S.used S.call (subst (λ (z : Invocation). call_of z.site S.raw ≡ Some S.call) v S.call_is) t.phase (subst (λ (z : Attempt). z.phase ≡ Calling S.raw S.used) u S.phase_is)

  op_stuck : (a : ℕ) (t : Attempt) (i : Invocation) (p : Phase) (op : Op) → S.number ≢ a → Stuck table (stepped_world w a t i p (Do op)).invs (stepped_world w a t i p (Do op)).atts
  op_stuck a t i p op n =
      let v : World = stepped_world w a t i p (Do op) in
      let e : slice_get v.atts S.number ≡ Some S.attempt = set_other (performed_world w a t op).atts S.number a S.attempt _ n (ap (λ z. slice_get z S.number) (same_attempts w a t op) ∙ S.attempt_is) in
      stuck_more table w.invs v.invs w.atts v.atts S e (invs op)
    where
      invs : (op : Op) → slice_get (performed_world w a t op).invs S.attempt.inv ≡ Some S.invocation
      invs (Invoke x) = get_append w.invs (x ∷ []) S.attempt.inv S.invocation S.invocation_is
      invs (Look x) = S.invocation_is
      invs (Create x h) = ap (λ z. slice_get z S.attempt.inv) (same_invs w a t (Create x h) (λ v e. cc)) ∙ S.invocation_is
      invs (Set q x y) = ap (λ z. slice_get z S.attempt.inv) (same_invs w a t (Set q x y) (λ v e. cc)) ∙ S.invocation_is
      invs (Mark x) = ap (λ z. slice_get z S.attempt.inv) (same_invs w a t (Mark x) (λ v e. cc)) ∙ S.invocation_is
      invs Ack = ap (λ z. slice_get z S.attempt.inv) (same_invs w a t Ack (λ v e. cc)) ∙ S.invocation_is

  do_stuck : (a : ℕ) (t : Attempt) (i : Invocation) (p : Phase) (d : Doing) → S.number ≢ a → Stuck table (stepped_world w a t i p d).invs (stepped_world w a t i p d).atts
  do_stuck a t i p (Do op) n = op_stuck a t i p op n
  do_stuck a t i p (Ask r x) n = S
  do_stuck a t i p Nothing n = S

  answered_stuck : (a : ℕ) (t : Attempt) (i : Invocation) (x : Json) (f : Option FnKind) → S.number ≢ a → Stuck table (answered_world w a t i x f).invs (answered_world w a t i x f).atts
  answered_stuck a t i x None n = S
  answered_stuck a t i x (Some k) n = stuck_more table w.invs w.invs w.atts (answered_world w a t i x (Some k)).atts S (set_other w.atts S.number a S.attempt _ n S.attempt_is) S.invocation_is

  ask_stuck : (a : ℕ) (t : Attempt) (i : Invocation) (d : Doing) → S.number ≢ a → Stuck table (asked_world w a t i d).invs (asked_world w a t i d).atts
  ask_stuck a t i (Do op) n = S
  ask_stuck a t i (Ask r x) n = answered_stuck a t i x (function_of w.opening.functions r) n
  ask_stuck a t i Nothing n = S

  -- and stays so
  step_stuck : (a : ℕ) (t : Attempt) (i : Invocation) → slice_get w.atts a ≡ Some t → slice_get w.invs t.inv ≡ Some i → is_do (next_of i t.phase) ≡ true →
      Stuck table (stepped_world w a t i t.phase (next_of i t.phase)).invs (stepped_world w a t i t.phase (next_of i t.phase)).atts
  step_stuck a t i found at q = elim (eqb_tells S.number a) [
    | inl x ↦ absurd (let z : is_do (next_of i t.phase) ≡ false = ap is_do (stuck_next a t i found at x.1) in let y : true ≡ false = sym q ∙ z in cc)
    | inr x ↦ do_stuck a t i t.phase (next_of i t.phase) x.1
  ]

  asked_stuck : w.opening.functions ≡ table → (a : ℕ) (t : Attempt) (i : Invocation) → slice_get w.atts a ≡ Some t → slice_get w.invs t.inv ≡ Some i → Stuck table (asked_world w a t i (next_of i t.phase)).invs (asked_world w a t i (next_of i t.phase)).atts
  asked_stuck same a t i found at = elim (eqb_tells S.number a) [
    | inl x ↦
        let n : next_of i t.phase ≡ Ask S.call.0 S.call.1 = stuck_next a t i found at x.1 in
        let m : function_of w.opening.functions S.call.0 ≡ None = ap (λ z. function_of z S.call.0) same ∙ S.missing in
        let v : asked_world w a t i (next_of i t.phase) ≡ w = ap (asked_world w a t i) n ∙ ap (answered_world w a t i S.call.1) m in
        subst (λ (z : World). Stuck table z.invs z.atts) (sym v) S
    | inr x ↦ ask_stuck a t i (next_of i t.phase) x.1
  ]

-- ---------------------------------------------------------------- events, counted or with a stuck attempt

abbrev pub PaidOrStuck : Table → ℕ → ℕ → World → ℕ → Type 0
PaidOrStuck table N M v e = WorldPaid v (suc N) (M + e) ⊎ Stuck table v.invs v.atts

module _ (w : World) (G : Good w) (N M : ℕ) (paid : WorldPaid w N M) (a : ℕ) (t : Attempt) (found : slice_get w.atts a ≡ Some t) (live : t.live ≡ true) (i : Invocation) (at : slice_get w.invs t.inv ≡ Some i) where
  call_by : (raw : Json) (used : Used) → t.phase ≡ Calling raw used → PhaseOk w.opening w.journal a i (Calling raw used) → (c : Text × Json) → call_of i.site raw ≡ Some c → (f : Option FnKind) → function_of w.opening.functions c.0 ≡ f →
      PaidOrStuck w.opening.functions N M (answered_world w a t i c.1 f) 0
  call_by raw used ph d c e (Some k) g = inl (answered_paid w G a t found i at N M paid raw used ph d c.1 k)
  call_by raw used ph d c e None g = inr (record { number = a; attempt = t; invocation = i; raw = raw; used = used; call = c; attempt_is = found; live = live; invocation_is = at; phase_is = ph; call_is = e; missing = g })

  asking_by : (raw : Json) (used : Used) → t.phase ≡ Calling raw used → PhaseOk w.opening w.journal a i (Calling raw used) → (z : Option (Text × Json)) → call_of i.site raw ≡ z → is_ask {S = Site} {B = List ℕ} (asking z) ≡ true → PaidOrStuck w.opening.functions N M (asked_world w a t i (asking z)) 0
  asking_by raw used ph d None e q = absurd (cc)
  asking_by raw used ph d (Some c) e q = call_by raw used ph d c e (function_of w.opening.functions c.0) refl

  not_do : (x : Option Op) → is_ask (doing x) ≡ true → ⊥
  not_do None q = cc
  not_do (Some x) q = cc

  not_mark : (x : Option Obj) → is_ask {S = Site} {B = List ℕ} (marking x) ≡ true → ⊥
  not_mark None q = cc
  not_mark (Some x) q = cc

  not_join : (x : Option Parent) (around : List Frame) → is_ask (joining x around) ≡ true → ⊥
  not_join None around q = cc
  not_join (Some p) [] q = cc
  not_join (Some p) (f ∷ around) q = cc

  ask_by : (p : Phase) → t.phase ≡ p → PhaseOk w.opening w.journal a i p → is_ask (next_of i p) ≡ true → PaidOrStuck w.opening.functions N M (asked_world w a t i (next_of i p)) 0
  unfolding program.next_of
  ask_by Looking ph d q = absurd (cc)
  ask_by Saving ph d q = absurd (cc)
  ask_by (Gathering count raw used outs) ph d q = absurd (cc)
  ask_by Reading ph d q = absurd (cc)
  ask_by (Calling raw used) ph d q = asking_by raw used ph d (call_of i.site raw) refl q
  ask_by (Creating k) ph d q = absurd (cc)
  ask_by (Acting k l) ph d q = absurd (not_do (slice_get (acts i k) l) q)
  ask_by (Joining k) ph d q = absurd (not_join (parent_of (scope_of i.name.place)) i.site.around q)
  ask_by (Marking k l) ph d q = absurd (not_mark (slice_get (due_objects i.name k.count) l) q)
  ask_by (Acking finished) ph d q = absurd (cc)
  ask_by (AttemptOver finished) ph d q = absurd (cc)

paid_or : (w : World) → Good w → (N M : ℕ) → WorldPaid w N M → (e : Event) → enabled w e ≡ true → IsCalm w e → PaidOrStuck w.opening.functions N M (effect w e) (marks_of w e)
paid_or w G N M paid e q c =
    by_event w (PaidOrStuck w.opening.functions N M) (record {
      deliver = λ k s f r idle. inl (delivered_paid w G N M paid k s f);
      step = λ a t i found live at d. inl (step_paid w G a t found i at N M paid d);
      answer = λ a t i found live at d. ask_by w G N M paid a t found live i at t.phase refl (phase_of w G.both.keeps a t i found at) d;
      give_up = λ k s f r. absurd (not_eight w G.calm k s f r);
    }) e q c

stuck_event : (w : World) → Good w → Stuck w.opening.functions w.invs w.atts → (e : Event) → enabled w e ≡ true → IsCalm w e → Stuck w.opening.functions (effect w e).invs (effect w e).atts
stuck_event w G S e q c =
    by_event w (λ v m. Stuck w.opening.functions v.invs v.atts) (record {
      deliver = λ k s f r idle. stuck_more w.opening.functions w.invs w.invs w.atts (delivered_world w k (Some s)).atts S (get_append w.atts _ S.number S.attempt S.attempt_is) S.invocation_is;
      step = λ a t i found live at d. step_stuck w.opening.functions w S a t i found at d;
      answer = λ a t i found live at d. asked_stuck w.opening.functions w S refl a t i found at;
      give_up = λ k s f r. absurd (not_eight w G.calm k s f r);
    }) e q c

abbrev pub CountedSo : World → ℕ → ℕ → Type 0
CountedSo w N M = WorldPaid w N M ⊎ Stuck w.opening.functions w.invs w.atts

pub run_or : (es : List Event) (w v : World) → Good w → (N M : ℕ) → CountedSo w N M → AreCalm w es → run_from (Some w) es ≡ Some v → CountedSo v (N + length es) (M + marks_from w es)
unfolding worlds.run_from
run_or [] w v G N M p c e =
    let z : N ≡ N + 0 = omega arith in
    let y : M ≡ M + 0 = omega arith in
    subst (λ n. CountedSo v n (M + 0)) z (subst (λ m. CountedSo v N m) y (subst (λ x. CountedSo x N M) (same_Some w v e) p))
run_or (x ∷ es) w v G N M p c e = go (λ g r q. run_or es (effect w x) v g (suc N) (M + marks_of w x) r c.1 q) (enabled w x) refl e
  where
    table : (effect w x).opening.functions ≡ w.opening.functions
    table = ap (λ (z : Opening). z.functions) (same_opening w x)

    next : enabled w x ≡ true → CountedSo (effect w x) (suc N) (M + marks_of w x)
    next b = elim p [
      | inl y ↦ elim (paid_or w G N M y x b c.0) [ inl z ↦ inl z | inr z ↦ inr (subst (λ u. Stuck u (effect w x).invs (effect w x).atts) (sym table) z) ]
      | inr y ↦ inr (subst (λ u. Stuck u (effect w x).invs (effect w x).atts) (sym table) (stuck_event w G y x b c.0))
    ]

    go : (Good (effect w x) → CountedSo (effect w x) (suc N) (M + marks_of w x) → run_from (Some (effect w x)) es ≡ Some v → CountedSo v (suc N + length es) (M + marks_of w x + marks_from (effect w x) es)) →
        (b : Bool) → enabled w x ≡ b → run_from (cond b (Some (effect w x)) None) es ≡ Some v → CountedSo v (N + suc (length es)) (M + (marks_of w x + marks_from (effect w x) es))
    go rec true b q =
        let r : CountedSo v (suc N + length es) (M + marks_of w x + marks_from (effect w x) es) = rec (good_event w G x b c.0) (next b) q in
        let z : suc N + length es ≡ N + suc (length es) = omega arith in
        let y : M + marks_of w x + marks_from (effect w x) es ≡ M + (marks_of w x + marks_from (effect w x) es) = omega arith in
        subst (λ n. CountedSo v n (M + (marks_of w x + marks_from (effect w x) es))) z (subst (λ m. CountedSo v (suc N + length es) m) y r)
    go rec false b q = absurd (run_none es v q)

-- where nothing may happen none is stuck
pub none_stuck : (w : World) → IsDrained w → Stuck w.opening.functions w.invs w.atts → ⊥
unfolding worlds.enabled
none_stuck w D S =
    let n : next_of S.invocation S.attempt.phase ≡ Ask S.call.0 S.call.1 = next_call S.invocation S.raw S.used S.call S.call_is S.attempt.phase S.phase_is in
    let x : elim (slice_get w.invs S.attempt.inv) [ None ↦ false | Some v ↦ is_ask (next_of v S.attempt.phase) ] ≡ true =
    subst (λ z. elim z [ None ↦ false | Some v ↦ is_ask (next_of v S.attempt.phase) ] ≡ true) (sym S.invocation_is) (ap is_ask n) in
    let y : att_lets w is_ask (Some S.attempt) ≡ true = subst (λ z. z && elim (slice_get w.invs S.attempt.inv) [ None ↦ false | Some v ↦ is_ask (next_of v S.attempt.phase) ] ≡ true) (sym S.live) x in
    let z : att_lets w is_ask (Some S.attempt) ≡ false = subst (λ u. att_lets w is_ask u ≡ false) S.attempt_is (D (Answer S.number)) in
    let q : true ≡ false = sym y ∙ z in
    cc

-- ---------------------------------------------------------------- where each Task has a function none is stuck

-- each Task of a central run has a function
abbrev pub Serves : Opening → Type 0
Serves o =
    (j : List Entry) (s : ℕ) (v : Visit) → In v (run_of o j s).visits → (state resource : Text) → v.visited ≡ Central.Called state resource → (kind : FnKind) × (function_of o.functions resource ≡ Some kind)

number_in : (A : Answers) (x : Session) (s : ℕ) (v : Visit) → In v (run_at (Some x) s A).visits → (f : ℕ) × (function_at x.machine f ≡ Some (v.block, v.visited))
unfolding rules
number_in A x s v h = visit_has_number_lem x.machine A s x.input v h

served_at : (functions : Table) (z : Option Session) (s : ℕ) (A : Answers) (v : Visit) → In v (run_at z s A).visits →
    ((x : Session) → z ≡ Some x → (n : ℕ) (b : Block) (state resource : Text) → function_at x.machine n ≡ Some (b, Central.Called state resource) → (kind : FnKind) × (function_of functions resource ≡ Some kind)) →
    (state resource : Text) → v.visited ≡ Central.Called state resource → (kind : FnKind) × (function_of functions resource ≡ Some kind)
served_at functions None s A v h f state resource q = absurd h
served_at functions (Some x) s A v h f state resource q =
    let (n, e) = number_in A x s v h in
    f x refl n v.block state resource (e ∙ ap (λ z. Some (v.block, z)) q)

pub serves : (o : Opening) → HasFunctions o → Serves o
unfolding run_of
serves o f j s v h state resource q = served_at o.functions (slice_get o.sessions s) s (journal_answers j) v h (λ x e. f s x e) state resource q

module _ (w : World) (G : Good w) (functions : Serves w.opening) (a : ℕ) (i : Invocation) (made : MadeOk w.opening w.journal i) where
  called_one : (raw : Json) (used : Used) → PhaseOk w.opening w.journal a i (Calling raw used) → (c : Text × Json) → call_of i.site raw ≡ Some c → (kind : FnKind) × (function_of w.opening.functions c.0 ≡ Some kind)
  called_one raw used (name, spot, d) c e =
      let v : Visit = made.visit in
      let one : d.visit ≡ v = run_once w.opening w.journal i.name.place.session d.visit v d.in_run made.in_run (d.name_is ∙ sym made.name_is) in
      let (r, task) = is_task v.visited name (made.spot_is ∙ spot) in
      let S : Visited → Type 0 = λ z. IsSound rules (journal_answers w.journal) v z in
      let sound = subst S task (run_sound w.opening w.journal i.name.place.session v made.in_run) in
      let st : state_of i.site.block name ≡ Some sound.state = subst (λ z. state_of z name ≡ Some sound.state) made.block_is sound.found in
      let begins : rules.begin name sound.state raw ≡ Calls r v.given = subst (λ z. rules.begin name sound.state z ≡ Calls r v.given) (ap (λ (z : Visit). z.raw) (sym one) ∙ d.raw_is) sound.begins in
      let same = task_call i.site name r sound.state raw v.given spot st begins c e in
      subst (λ z. (kind : FnKind) × (function_of w.opening.functions z ≡ Some kind)) same.0 (functions w.journal i.name.place.session v made.in_run name r task)

pub never_stuck : (w : World) → Good w → Serves w.opening → Stuck w.opening.functions w.invs w.atts → ⊥
never_stuck w G functions S =
    let K : WorldKeeps w = G.both.keeps in
    let d : PhaseOk w.opening w.journal S.number S.invocation (Calling S.raw S.used) =
    subst (PhaseOk w.opening w.journal S.number S.invocation) S.phase_is (phase_of w K S.number S.attempt S.invocation S.attempt_is S.invocation_is) in
    let (k, e) = called_one w G functions S.number S.invocation (K.made S.attempt.inv S.invocation S.invocation_is) S.raw S.used d S.call S.call_is in
    let z : None ≡ Some k = sym S.missing ∙ e in
    cc
