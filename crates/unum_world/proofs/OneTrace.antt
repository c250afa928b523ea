-- A log has one trace: in a run each event that may happen has a number of 32 bits, so its code tells it.
use Rattle.std.proofs.Common.{ℕ, suc, ◌+◌, ◌<◌, ◌≤◌, ◌≡◌, refl, sym, ap, ap₂, ◌∙◌, subst, arith, Bool, true, List, [], ◌∷◌, map, length, slice_get, Option, Some, None}
use Rattle.std.proofs.lemmas.List.{length-map, length-set, length_push}
use Rattle.place_name.specs.declared.limits.TheConstants.{SESSIONS}
use Rattle.fn_table.specs.declared.kind.FnKind.{FnKind}
use Rattle.world_types.specs.declared.queue.Attempt.{Attempt}
use Rattle.world_types.specs.declared.queue.InvState.{InvState}
use Rattle.world_types.specs.declared.queue.Event.{Event}
use Rattle.world_types.specs.declared.queue.Event.TheVariants.{Deliver, Crash, Step, Answer, GiveUp}
use Rattle.world_model.specs.AnyCode.Code.{Json, flags}
use Rattle.world_model.specs.AnyCode.Operations.{Op, Look, Create, Set, Invoke, Mark, Ack}
use Rattle.world_model.specs.AnyCode.World.{Codes, root_states, fresh_state, states_with, states_after, state_after_ack, state_after_crash, function_of, answered_world, enabled, effect}
use Rattle.world_model.specs.World as model
use Rattle.world_model.specs.Numbered.{Numbered}
use Rattle.world_model.proofs.Gets.{place_of}
use Rattle.world_model.proofs.Queues.{Cases, by_event}
use Rattle.world_plans.specs.declared.planning.Plan.{Plan}
use Rattle.world_plans.specs.Chooser.{Obeys}
use Rattle.world_plans.proofs.Allows.{allowed_on}
use Rattle.invoke_queue.specs.Codes.{event_number, event_code}
use Rattle.unum_world.specs.declared.opening.Opening.{Opening}
use Rattle.unum_world.specs.declared.engine.Start.{Start}
use Rattle.unum_world.specs.Openings.{opening_as, codes_of}
use Rattle.unum_world.specs.Traces.{Trace, opened_world}
use Rattle.unum_world.specs.Kept.{IsBounded}
use Rattle.unum_world.specs.Turns.{start_of, EveryLogHasOneTrace}
use Rattle.unum_world.proofs.Bounds.{effect_bounded, start_bounded}
use Rattle.unum_world.proofs.TheRun.{few_sessions}

-- ---------------------------------------------------------------- the queue's states

states_many : (states : List InvState) (i : ℕ) (f : InvState → InvState) (s : Option InvState) → length (states_with states i f s) ≡ length states
states_many states i f None = refl
states_many states i f (Some s) = length-set states i (f s)

-- an operation sends one message at most
states_more : (states : List InvState) (inv : ℕ) (op : Op ℕ (List Bool)) → length (states_after states inv op) ≤ suc (length states)
states_more states inv (Invoke i) = let k = length_push states fresh_state in omega (arith, k)
states_more states inv (Look o) = omega arith
states_more states inv (Create o h) = omega arith
states_more states inv (Set p index count) = omega arith
states_more states inv (Mark o) = omega arith
states_more states inv Ack = let k = states_many states inv state_after_ack (slice_get states inv) in omega (arith, k)

-- ---------------------------------------------------------------- runs

module _ (codes : Codes ℕ) (n : ℕ) (w : Numbered) (b : IsBounded n w) (small : length w.states ≤ n) where
  -- after an event, which has a number of this size, there are no more states than that and one
  abbrev After : Event → Numbered → Type 0
  After e v = (event_number e < n) × (length v.states ≤ suc n)

  answered_states : (a : ℕ) (t : Attempt) (x : Json) (f : Option FnKind) → length (answered_world w a t x f).states ≤ suc n
  answered_states a t x None = omega (arith, small)
  answered_states a t x (Some kind) = omega (arith, small)

  att_below : (a : ℕ) (t : Attempt) → slice_get w.atts a ≡ Some t → a < n
  att_below a t e = let h = place_of w.atts a t e in let m : length w.atts ≤ n = b.atts in omega (arith, h, m)

  state_below : (k : ℕ) (s : InvState) → slice_get w.states k ≡ Some s → k < n
  state_below k s e = let h = place_of w.states k s e in omega (arith, h, small)

  after_cases : Cases flags codes w After
  after_cases = record {
    deliver = λ k s e d l. (state_below k s e, let m = length-set w.states k (record s { tries = suc s.tries; live = suc s.live }) in omega (arith, small, m));
    crash = λ a t e l. (att_below a t e, let m = states_many w.states t.inv state_after_crash (slice_get w.states t.inv) in omega (arith, small, m));
    step = λ a t i e l at op q. (att_below a t e, let m = states_more w.states t.inv op in omega (arith, small, m));
    answer = λ a t i e l at r x q. (att_below a t e, answered_states a t x (function_of w.opening.functions r));
    give_up = λ k s e x. (state_below k s e, let m = length-set w.states k (record s { dead = true }) in omega (arith, small, m));
  }

  after : (e : Event) → enabled codes w e ≡ true → After e (effect flags codes w e)
  after e q = by_event flags codes w After after_cases e q

starts_many : (xs : List model.Session) → length (root_states xs) ≡ length xs
unfolding root_states
starts_many [] = refl
starts_many (x ∷ xs) = ap suc (starts_many xs)

-- ---------------------------------------------------------------- codes

-- a code tells the event, where its number has 32 bits
code_tells : (e f : Event) → event_number e < 4294967296 → event_number f < 4294967296 → event_code e ≡ event_code f → e ≡ f
code_tells (Deliver n) (Deliver m) a b q = ap Deliver (omega arith)
code_tells (Crash n) (Crash m) a b q = ap Crash (omega arith)
code_tells (Step n) (Step m) a b q = ap Step (omega arith)
code_tells (Answer n) (Answer m) a b q = ap Answer (omega arith)
code_tells (GiveUp n) (GiveUp m) a b q = ap GiveUp (omega arith)
code_tells _ _ a b q = absurd (omega arith)

tail_same : {A : Type 0} (x y : A) (xs ys : List A) → x ∷ xs ≡ y ∷ ys → (x ≡ y) × (xs ≡ ys)
tail_same x y xs ys e = (cc, cc)

-- lists of events that the plan allows in turn are the same where their codes are
same_events : (p : Plan) (codes : Codes ℕ) (es fs : List Event) (w : Numbered) (n : ℕ) → IsBounded n w → length w.states ≤ n →
    n + length es ≤ 4294967296 → Obeys p flags codes w es → Obeys p flags codes w fs → map event_code es ≡ map event_code fs → es ≡ fs
same_events p codes [] [] w n b s l h k q = refl
same_events p codes [] (f ∷ fs) w n b s l h k q = absurd (cc)
same_events p codes (e ∷ es) [] w n b s l h k q = absurd (cc)
same_events p codes (e ∷ es) (f ∷ fs) w n b s l h k q =
    let (c, more) = tail_same (event_code e) (event_code f) (map event_code es) (map event_code fs) q in
    let on_e : enabled codes w e ≡ true = allowed_on p codes w e h.0 in
    let on_f : enabled codes w f ≡ true = allowed_on p codes w f k.0 in
    let (below_e, s_e) = after codes n w b s e on_e in
    let (below_f, s_f) = after codes n w b s f on_f in
    let same : e ≡ f = code_tells e f (omega (arith, below_e, l)) (omega (arith, below_f, l)) c in
    let rest : Obeys p flags codes (effect flags codes w e) fs = subst (λ z. Obeys p flags codes (effect flags codes w z) fs) (sym same) k.1 in
    ap₂ (λ x xs. x ∷ xs) same
    (same_events p codes es fs (effect flags codes w e) (suc n) (effect_bounded codes n w b e on_e) s_e (omega (arith, l)) h.1 rest more)

-- ---------------------------------------------------------------- traces

trace_same : (p q : Trace) → start_of p ≡ start_of q → p.history ≡ q.history → p ≡ q
trace_same p q e h = ap₂ (λ (s : Start) (es : List Event). record { opening = s.opening; limit = s.limit; history = es }) e h

pub every_log_has_one_trace : EveryLogHasOneTrace
every_log_has_one_trace s log p q f l P Q =
    let o : Opening = s.opening in
    let open_p : p.opening ≡ o = ap (λ (z : Start). z.opening) P.start_is in
    let open_q : q.opening ≡ o = ap (λ (z : Start). z.opening) Q.start_is in
    let w : Numbered = opened_world o in
    let obeys_p : Obeys o.plan flags (codes_of o) w p.history = subst (λ (z : Opening). Obeys z.plan flags (codes_of z) (opened_world z) p.history) open_p P.obeying in
    let obeys_q : Obeys o.plan flags (codes_of o) w q.history = subst (λ (z : Opening). Obeys z.plan flags (codes_of z) (opened_world z) q.history) open_q Q.obeying in
    let few : length (opening_as o).sessions ≤ SESSIONS = few_sessions o f in
    let many : length w.states ≡ length (opening_as o).sessions = starts_many (opening_as o).sessions in
    let as_long : length p.history ≡ length log = sym (length-map p.history event_code) ∙ ap length P.log_is in
    trace_same p q (P.start_is ∙ sym Q.start_is)
    (same_events o.plan (codes_of o) p.history q.history w (length (opening_as o).sessions) (start_bounded (opening_as o)) (omega (arith, many))
    (omega (arith, few, as_long, l)) obeys_p obeys_q (P.log_is ∙ sym Q.log_is))
