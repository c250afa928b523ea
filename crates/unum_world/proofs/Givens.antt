-- What events take as given, from what a world keeps: attempts that live, their messages, and that what they do next is fit.
use Rattle.std.proofs.Common.{ℕ, ◌<◌, ◌≤◌, ◌≡◌, ◌↔◌, refl, sym, ap, ◌∙◌, subst, arith, Bool, true, false, ◌&&◌, List, length, slice_get, Option, Some, None}
use Rattle.std.specs.Prelude.{Result, Ok, Err, is_err, OnErr}
use Rattle.std.proofs.lemmas.Option.{slice_get_within}
use Rattle.place_name.specs.declared.obj.Obj.{Obj}
use Rattle.place_name.specs.declared.obj.Obj.TheVariants.{Check, Out, Saved, Bits, Arg}
use Rattle.unum_ir.specs.declared.ir.Ir.{Ir}
use Rattle.world_types.specs.declared.queue.InvState.{InvState}
use Rattle.world_types.specs.declared.queue.Attempt.{Attempt}
use Rattle.world_model.specs.AnyCode.Operations.{Held, KeptAs, OutcomeIs, SavedAs, BitsAre, ArgIs, Invocation, Look, Create, Set, Invoke, Mark, Ack}
use Rattle.world_model.specs.AnyCode.Program.{Doing, Do, next_of}
use Rattle.world_model.specs.AnyCode.World.{Codes, code_of, Deliver, Crash, Step, Answer, GiveUp, lives, state_lets, att_lets, is_do, is_ask, enabled}
use Rattle.world_model.specs.Numbered.{Numbered}
use Rattle.world_model.specs.Flat.{block_of}
use Rattle.world_plans.specs.Chooser.{can_deliver, can_give_up}
use Rattle.continuation_gen.specs.Numbering.{flat_form}
use Rattle.continuation_gen.specs.Coded.{code_of_ir}
use Rattle.checkpoint_store.specs.Entries.{IsOfKind}
use Rattle.world_ranges.specs.Roles.{Role}
use Rattle.world_ranges.specs.Ranges.{IsHeldBy, IsOperation}
use Rattle.invoke_queue.specs.declared.queue.NotEnabled.{NotEnabled}
use Rattle.invoke_queue.specs.Queue.{Lists}
use Rattle.unum_hub.specs.Holding.{IsFit, NumberedOp}
use Rattle.fn_wrapper.specs.Actions.{IsCountOfActs}
use Rattle.fn_wrapper.specs.Ready.{IsReady, IsStopOf}
use Rattle.unum_world.specs.declared.opening.Opening.{Opening}
use Rattle.unum_world.specs.declared.world_state.WorldState.{WorldState}
use Rattle.unum_world.specs.Openings.{opening_as, codes_of}
use Rattle.unum_world.specs.Traces.{world_of}
use Rattle.unum_world.specs.Kept.{stop_in, Holds}
use Rattle.unum_world.specs.Instances.{HasMessage, IsMessageOf, Runs, CanRun, CanMove, CanAnswer, doing_at, IsDo}
use Rattle.unum_world.proofs.TheRun.{sessions_as}

-- ---------------------------------------------------------------- tests

and_true : (a b : Bool) → a && b ≡ true → (a ≡ true) × (b ≡ true)
and_true true b e = (refl, e)
and_true false b e = absurd (cc)

pub some_state : (p : InvState → Bool) (x : Option InvState) → state_lets p x ≡ true → (s : InvState) × (x ≡ Some s) × (p s ≡ true)
some_state p None e = absurd (cc)
some_state p (Some s) e = (s, refl, e)

pub some_att : (x : Option Attempt) → lives x ≡ true → (t : Attempt) × (x ≡ Some t) × (t.live ≡ true)
some_att None e = absurd (cc)
some_att (Some t) e = (t, refl, e)

lets_lives : (codes : Codes ℕ) (w : Numbered) (p : Doing ℕ (List Bool) → Bool) (x : Option Attempt) → att_lets codes w p x ≡ true → lives x ≡ true
lets_lives codes w p None e = absurd (cc)
lets_lives codes w p (Some t) e = (and_true t.live _ e).0

-- an error, and no refusal
pub where_err : {A E : Type 0} (P : Type 0) (r : Result A E) → OnErr r P → is_err r ≡ true → P
where_err P (Ok x) h e = absurd (cc)
where_err P (Err x) h e = h

-- what holds anyhow holds on an error, and what follows from it
pub on_err : {A E P : Type 0} (r : Result A E) → P → OnErr r P
on_err (Ok x) p = tt
on_err (Err x) p = p

pub err_map : {A E P Q : Type 0} (r : Result A E) → (P → Q) → OnErr r P → OnErr r Q
err_map (Ok x) f h = tt
err_map (Err x) f h = f h

pub not_refused : {A : Type 0} (r : Result A NotEnabled) (b : Bool) → ((r ≡ Err (record {})) ↔ (b ≡ false)) → b ≡ true → is_err r ≡ true → ⊥
not_refused (Ok x) b h e k = absurd (cc)
not_refused (Err x) b h e k = absurd (let f : b ≡ false = h.0 refl in cc)

-- ---------------------------------------------------------------- operations that are fit

of_kind : (o : Obj) (h : Held (List Bool)) → IsHeldBy o h → IsOfKind o h
of_kind (Check n) (KeptAs k) x = tt
of_kind (Out s) (OutcomeIs r) x = tt
of_kind (Saved p) (SavedAs count raw used) x = tt
of_kind (Bits p count) (BitsAre bs) x = x
of_kind (Arg n) (ArgIs raw used) x = tt
of_kind _ _ x = absurd x

pub fit_of : (sessions : ℕ) (roles : (session func : ℕ) → Option Role) (q : Lists) (a : ℕ) (op : NumberedOp) → IsOperation sessions roles op →
    length q.invs < 4294967295 → lives (slice_get q.atts a) ≡ true → IsFit q a op
fit_of sessions roles q a (Look o) x l v = tt
fit_of sessions roles q a (Create o h) x l v = of_kind o h x.1
fit_of sessions roles q a (Set p index count) x l v = (x.below_count, x.within)
fit_of sessions roles q a (Invoke i) x l v = l
fit_of sessions roles q a (Mark o) x l v = tt
fit_of sessions roles q a Ack x l v = v

module _ (o : Opening) (m : WorldState) (h : Holds o m) where
  abbrev q : Lists
  q = m.hub.queue

  -- ---------------------------------------------------------------- invocations

  pub delivers : (i : ℕ) → enabled (codes_of o) (world_of o m) (Deliver i) ≡ true → state_lets can_deliver (slice_get q.states i) ≡ true
  unfolding enabled
  delivers i e = e

  pub gives_up : (i : ℕ) → enabled (codes_of o) (world_of o m) (GiveUp i) ≡ true → state_lets can_give_up (slice_get q.states i) ≡ true
  unfolding enabled
  gives_up i e = e

  -- what the queue knows of an invocation is as much as there are messages, and there is room for a twin of each
  pub room_for : (i : ℕ) (p : InvState → Bool) → state_lets p (slice_get q.states i) ≡ true → i < m.twins.room
  room_for i p e =
      let (s, g, l) = some_state p (slice_get q.states i) e in
      let a : i < length q.states = slice_get_within q.states i s g in
      let b : length q.states ≡ length q.invs = h.range.world.states in
      let c : length q.invs ≤ m.twins.room = h.kept.twins.room in
      omega arith

  -- ---------------------------------------------------------------- attempts

  pub lives_crash : (a : ℕ) → enabled (codes_of o) (world_of o m) (Crash a) ≡ true → lives (slice_get q.atts a) ≡ true
  unfolding enabled
  lives_crash a e = e

  pub lives_step : (a : ℕ) → enabled (codes_of o) (world_of o m) (Step a) ≡ true → lives (slice_get q.atts a) ≡ true
  unfolding enabled
  lives_step a e = lets_lives (codes_of o) (world_of o m) is_do (slice_get q.atts a) e

  pub lives_answer : (a : ℕ) → enabled (codes_of o) (world_of o m) (Answer a) ≡ true → lives (slice_get q.atts a) ≡ true
  unfolding enabled
  lives_answer a e = lets_lives (codes_of o) (world_of o m) is_ask (slice_get q.atts a) e

  -- its message is there
  pub message_at : (a : ℕ) → lives (slice_get q.atts a) ≡ true → HasMessage q a
  message_at a e =
      let (t, g, l) = some_att (slice_get q.atts a) e in
      let k = h.range.world.atts a t g in
      (t, k.i, record { attempt_is = g; invocation_is = k.there })

  pub within : (a : ℕ) → lives (slice_get q.atts a) ≡ true → a < length m.stops.items
  within a e =
      let (t, g, l) = some_att (slice_get q.atts a) e in
      let b : a < length q.atts = slice_get_within q.atts a t g in
      let c : length m.stops.items ≡ length q.atts = h.kept.stops.places in
      omega arith

  -- its invocation has room for a twin
  pub message_room : (a inv : ℕ) (i : Invocation ℕ) → IsMessageOf q a inv i → inv < m.twins.room
  message_room a inv i k =
      let b : k.att.inv < length q.invs = slice_get_within q.invs k.att.inv i k.placed.invocation_is in
      let c : length q.invs ≤ m.twins.room = h.kept.twins.room in
      let d : inv ≡ k.att.inv = k.inv_is in
      omega arith

  -- its session is there
  pub session_at : (a inv : ℕ) (i : Invocation ℕ) → IsMessageOf q a inv i → i.name.place.session < length o.sessions
  session_at a inv i k = subst (λ n. i.name.place.session < n) (sessions_as o) (h.range.world.invs k.att.inv i k.placed.invocation_is).session

  pub runs_at : (a inv : ℕ) (i : Invocation ℕ) (ir : Ir) → IsMessageOf q a inv i → ir ≡ flat_form (block_of (opening_as o) i.name.place.session) →
      lives (slice_get q.atts a) ≡ true → Runs o m a inv i ir
  runs_at a inv i ir k f e = record {
    att = k.att;
    inv_is = k.inv_is;
    placed = k.placed;
    alive = ap lives (sym k.placed.attempt_is) ∙ e;
    form = f;
  }

  module _ (a inv : ℕ) (i : Invocation ℕ) (ir : Ir) (r : Runs o m a inv i ir) where
    -- what the attempt does next is found
    pub can_run : CanRun ir i m a
    can_run = record {
      att = r.att;
      attempt_is = r.placed.attempt_is;
      ready = subst (λ z. IsReady (code_of_ir z) i r.att.phase) (sym r.form) (h.ready a r.att i r.placed.attempt_is r.placed.invocation_is);
      stop =
          subst (λ z. IsStopOf (code_of_ir z) i r.att.phase (stop_in (slice_get m.stops.items a))) (sym r.form)
          (h.kept.stops.stops a r.att i r.placed.attempt_is r.alive r.placed.invocation_is);
    }

    -- its invocation has room for a twin, and there is a place for its stop
    pub runs_room : inv < m.twins.room
    runs_room =
        let b : r.att.inv < length q.invs = slice_get_within q.invs r.att.inv i r.placed.invocation_is in
        let c : length q.invs ≤ m.twins.room = h.kept.twins.room in
        let d : inv ≡ r.att.inv = r.inv_is in
        omega arith

    pub runs_within : a < length m.stops.items
    runs_within = within a (ap lives r.placed.attempt_is ∙ r.alive)

    few_steps : r.att.steps < 4294967295
    few_steps = let k : r.att.steps ≤ 4294967294 = h.bounded.steps a r.att r.placed.attempt_is in omega arith

    -- it takes a reply
    pub can_move : (acts : ℕ) → ((t : Attempt) → slice_get q.atts a ≡ Some t → IsCountOfActs (code_of_ir ir) i t.phase acts) → CanMove ir i q a acts
    unfolding can_run
    can_move acts f = record {
      att = r.att;
      attempt_is = r.placed.attempt_is;
      alive = r.alive;
      steps = few_steps;
      ready = can_run.ready;
      acts_are = f r.att r.placed.attempt_is;
    }

    -- and an answer
    pub can_answer : CanAnswer q a
    can_answer = record { att = r.att; attempt_is = r.placed.attempt_is; alive = r.alive; steps = few_steps }

    -- what it does next, by the code of its session
    pub next_is : (d : Doing ℕ (List Bool)) → doing_at ir i (slice_get q.atts a) ≡ d → next_of (code_of (codes_of o) i) i r.att.phase ≡ d
    next_is d e =
        ap (λ z. next_of (code_of_ir z) i r.att.phase) (sym r.form) ∙ ap (doing_at ir i) (sym r.placed.attempt_is) ∙ e

    -- its operation is fit
    pub fit_at : (op : NumberedOp) → doing_at ir i (slice_get q.atts a) ≡ Do op → IsFit q a op
    fit_at op e =
        let b : length q.invs ≤ 4294967294 = h.bounded.invs in
        fit_of _ _ q a op (h.range.nexts a r.att i r.placed.attempt_is r.placed.invocation_is op (next_is (Do op) e)) (omega arith)
        (ap lives r.placed.attempt_is ∙ r.alive)

    -- an answer is to a call
    pub asks_answer : enabled (codes_of o) (world_of o m) (Answer a) ≡ true →
        is_ask (next_of {B = List Bool} (code_of (codes_of o) i) i r.att.phase) ≡ true
    unfolding enabled
    asks_answer e =
        let l = and_true r.att.live _ (ap (att_lets (codes_of o) (world_of o m) is_ask) (sym r.placed.attempt_is) ∙ e) in
        ap (λ z. elim z [ None ↦ false | Some j ↦ is_ask (next_of {B = List Bool} (code_of (codes_of o) j) j r.att.phase) ]) (sym r.placed.invocation_is) ∙ l.1

    -- a step is an operation
    pub does_step : enabled (codes_of o) (world_of o m) (Step a) ≡ true → IsDo (doing_at ir i (slice_get q.atts a))
    unfolding enabled
    does_step e =
        let l = and_true r.att.live _ (ap (att_lets (codes_of o) (world_of o m) is_do) (sym r.placed.attempt_is) ∙ e) in
        let d : is_do (next_of {B = List Bool} (code_of (codes_of o) i) i r.att.phase) ≡ true =
        ap (λ z. elim z [ None ↦ false | Some j ↦ is_do (next_of {B = List Bool} (code_of (codes_of o) j) j r.att.phase) ]) (sym r.placed.invocation_is) ∙ l.1 in
        ap is_do (sym (next_is _ refl)) ∙ d
