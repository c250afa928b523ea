-- An attempt that lives has something to do, whatever happened.
use Rattle.world_model.specs.World.{with_att, with_inv, state_after_crash, crashed_world}
use Rattle.world_model.proofs.Keeps.{and_parts}
use Rattle.world_model.proofs.Every.{effect_ok, start_ok}
use Rattle.world_model.proofs.Marks.{Both, run_both, start_both}
use Rattle.world_model.proofs.Drains.{run_counted}
use Rattle.world_plans.specs.Running.{EveryMachineWorldRuns}
use Rattle.world_model.specs.Sites.{machine_code}
use Rattle.world_model.specs.AnyCode.Program as program
use Rattle.world_model.specs.AnyCode.World as worlds
use Rattle.std.proofs.Common.{ℕ, suc, ◌<◌, ◌≡◌, ◌≢◌, ◌⊎◌, inl, inr, refl, sym, ap, ◌∙◌, subst, Bool, true, false, ◌&&◌, cond, nat_lt, List, [], ◌∷◌, ◌++◌, length, slice_get, slice_set, Option, Some, None, arith}
use Rattle.std.proofs.lemmas.Option.{same_Some}
use Rattle.std.proofs.lemmas.Bool.{ltb-true}
use Rattle.fn_table.specs.declared.kind.FnKind.{FnKind}
use Rattle.fn_table.specs.Answers.{answer}
use Rattle.asl_model.specs.Data.{Json, Outcome, combine}
use Rattle.asl_model.specs.Names as names
use Rattle.asl_model.specs.Names.{Scope, Place, Name, at_hop, scope_of, child}
use Rattle.asl_model.specs.Machine.{Used}
use Rattle.asl_model.specs.Stretch.{Stop, Call, Fan, Over}
use Rattle.place_name.specs.declared.obj.Obj.{Obj}
use Rattle.place_name.specs.declared.obj.Obj.TheVariants.{Bits}
use Rattle.place_name.specs.Names.{Parent}
use Rattle.world_model.specs.Operations.{Spot, Site, Frame, Kept, Held, KeptAs, OutcomeIs, SavedAs, BitsAre, ArgIs, Absent, Live, Tombstone, Invocation, Op, Look, Create, Set, Invoke, Mark, Ack, Reply, WasAbsent, WasLive, Won, Had, BitFull, BitNotFull, BitTombstone}
use Rattle.world_model.specs.Acts.{parent_of, acts, acts_of, stop_of, due_objects, due_at_enter, due_by_kind, out_objects}
use Rattle.world_model.specs.Program.{Phase, Looking, Saving, Gathering, Reading, Calling, Creating, Acting, Joining, Marking, Acking, AttemptOver, Doing, Do, Ask, Nothing, doing, marking, joining, asking, next_of, absorb, adopted_phase, saved_phase, next_gathered_phase, entered_phase, input_at, after_read, after_look, after_saved, after_out, after_create, after_act, state_at, kept_of, called_phase}
use Rattle.world_model.specs.World.{Opening, InvState, Attempt, World, Event, Deliver, Crash, Step, Answer, GiveUp, function_of, created_world, marked_world, with_bit, state_after_ack, with_state, performed_world, lives_on, reply_to, moved_world, stepped_world, asked_world, answered_world, delivered_world, effect, enabled, att_lets, lives, is_do, is_ask, run_from, start}
use Rattle.world_model.proofs.Gets.{get_append, get_pushed, get_set}
use Rattle.world_model.proofs.Keeps.{WorldKeeps, MadeOk, FramesOk, PhaseOk, get_at, root_no_parent}
use Rattle.world_model.proofs.Every.{run_none, phase_of}
use Rattle.world_model.proofs.Finishes.{same_attempts}
use Rattle.world_model.proofs.Leaves.{PhaseLeft}
use Rattle.world_model.proofs.Asks.{made_call}

-- ---------------------------------------------------------------- the phases of an attempt that lives

abbrev pub Bounded : Invocation → Phase → Type 0
Bounded i (Acting k m) = m < length (acts i k)
Bounded i (Marking k m) = m < length (due_objects i.name k.count)
Bounded i (AttemptOver b) = ⊥
Bounded i _ = Unit {0}

some_acts : (site : Site) (s : Scope) (stop : Stop) → 0 < length (acts_of site s stop)
some_acts site s (Call name hop raw used) = omega arith
some_acts site s (Fan name hop raw used cs) = omega arith
some_acts site s (Over o) = omega arith

enter_due : (n : Name) (z : Option Parent) → 0 < length (due_at_enter n z)
enter_due n None = omega arith
enter_due n (Some q) = omega arith

append_some : (xs : List Obj) (y : Obj) (ys : List Obj) → 0 < length (xs ++ y ∷ ys)
append_some [] y ys = omega arith
append_some (x ∷ xs) y ys = omega arith

some_due : (n : Name) (c : ℕ) (k : names.Kind) → 0 < length (due_by_kind n c k)
some_due n c names.Enter = enter_due n (parent_of (scope_of n.place))
some_due n c names.Task = omega arith
some_due n c names.Join = append_some (out_objects n.place 0 c c) _ _

module _ (i : Invocation) where
  first_act : (k : Kept) → Bounded i (Acting k 0)
  first_act k = some_acts i.site (scope_of i.name.place) (stop_of i.site i.name.place.hop k)

  first_mark : (k : Kept) → Bounded i (Marking k 0)
  first_mark k = some_due i.name k.count i.name.kind

  adopted_b : (h : Held) → Bounded i (adopted_phase h)
  adopted_b (KeptAs k) = first_act k
  adopted_b (OutcomeIs x) = tt
  adopted_b (SavedAs m x us) = tt
  adopted_b (BitsAre is) = tt
  adopted_b (ArgIs x us) = tt

  gathers_b : (v : names.Kind) → Bounded i (program.gathering_phase v)
  gathers_b names.Enter = tt
  gathers_b names.Task = tt
  gathers_b names.Join = tt

  look_b : (a : ℕ) (r : Reply) → Bounded i (after_look i a r)
  look_b a WasAbsent = gathers_b i.name.kind
  look_b a (WasLive h) = adopted_b h
  look_b a _ = tt

  cond_b : (p q : Phase) → Bounded i p → Bounded i q → (b : Bool) → Bounded i (cond b p q)
  cond_b p q x y true = x
  cond_b p q x y false = y

  saved_held : (v : Spot) (a : ℕ) (h : Held) → Bounded i (saved_phase v a h)
  saved_held v a (SavedAs count raw used) = cond_b (Gathering count raw used []) (Creating (kept_of raw used a (combine (state_at v) []) count)) tt tt (nat_lt 0 count)
  saved_held v a (KeptAs k) = tt
  saved_held v a (OutcomeIs x) = tt
  saved_held v a (BitsAre is) = tt
  saved_held v a (ArgIs x us) = tt

  saved_b : (a : ℕ) (r : Reply) → Bounded i (after_saved i.site.spot a r)
  saved_b a (WasLive h) = saved_held i.site.spot a h
  saved_b a _ = tt

  out_held : (v : Spot) (a count : ℕ) (raw : Json) (used : Used) (outs : List Outcome) (h : Held) → Bounded i (next_gathered_phase v a count raw used outs h)
  out_held v a count raw used outs (OutcomeIs x) =
      cond_b (Gathering count raw used (outs ++ x ∷ [])) (Creating (kept_of raw used a (combine (state_at v) (outs ++ x ∷ [])) count)) tt tt (nat_lt (length (outs ++ x ∷ [])) count)
  out_held v a count raw used outs (KeptAs k) = tt
  out_held v a count raw used outs (SavedAs n x us) = tt
  out_held v a count raw used outs (BitsAre is) = tt
  out_held v a count raw used outs (ArgIs x us) = tt

  out_b : (a count : ℕ) (raw : Json) (used : Used) (outs : List Outcome) (r : Reply) → Bounded i (after_out i.site.spot a count raw used outs r)
  out_b a count raw used outs (WasLive h) = out_held i.site.spot a count raw used outs h
  out_b a count raw used outs _ = tt

  enters_b : (a : ℕ) (x : Option Json) → Bounded i (entered_phase a x)
  enters_b a None = tt
  enters_b a (Some x) = tt

  read_held : (a : ℕ) (v : names.Kind) (h : Held) → Bounded i (program.read_phase machine_code i a v h)
  read_held a names.Enter (ArgIs x us) = tt
  read_held a names.Enter (SavedAs n x us) = enters_b a (input_at i.site.around x (parent_of (scope_of i.name.place)))
  read_held a names.Enter (KeptAs k) = tt
  read_held a names.Enter (OutcomeIs x) = tt
  read_held a names.Enter (BitsAre is) = tt
  read_held a names.Task (ArgIs x us) = tt
  read_held a names.Task (SavedAs n x us) = tt
  read_held a names.Task (KeptAs k) = tt
  read_held a names.Task (OutcomeIs x) = tt
  read_held a names.Task (BitsAre is) = tt
  read_held a names.Join h = tt

  read_b : (a : ℕ) (r : Reply) → Bounded i (after_read i a r)
  read_b a (WasLive h) = read_held a i.name.kind h
  read_b a _ = tt

  create_b : (k : Kept) (r : Reply) → Bounded i (after_create k r)
  create_b k Won = first_act k
  create_b k (Had h) = adopted_b h
  create_b k _ = tt

  next_act : (k : Kept) (m : ℕ) (b : Bool) → nat_lt (suc m) (length (acts i k)) ≡ b → Bounded i (cond b (Acting k (suc m)) (Marking k 0))
  next_act k m true e = ltb-true (suc m) (length (acts i k)) e
  next_act k m false e = first_mark k

  act_b : (k : Kept) (m : ℕ) (r : Reply) → Bounded i (after_act k m (length (acts i k)) r)
  act_b k m BitFull = tt
  act_b k m BitNotFull = first_mark k
  act_b k m BitTombstone = first_mark k
  act_b k m _ = next_act k m (nat_lt (suc m) (length (acts i k))) refl

  next_mark : (k : Kept) (m : ℕ) (b : Bool) → nat_lt (suc m) (length (due_objects i.name k.count)) ≡ b → Bounded i (cond b (Marking k (suc m)) (Acking true))
  next_mark k m true e = ltb-true (suc m) (length (due_objects i.name k.count)) e
  next_mark k m false e = tt

  -- after any operation but Ack
  absorb_b : (a : ℕ) (p : Phase) → ((b : Bool) → p ≢ Acking b) → ((b : Bool) → p ≢ AttemptOver b) → (r : Reply) → Bounded i (absorb i a p r)
  unfolding program.absorb
  absorb_b a Looking n o r = look_b a r
  absorb_b a Saving n o r = saved_b a r
  absorb_b a (Gathering count raw used outs) n o r = out_b a count raw used outs r
  absorb_b a Reading n o r = read_b a r
  absorb_b a (Calling raw used) n o r = tt
  absorb_b a (Creating k) n o r = create_b k r
  absorb_b a (Acting k m) n o r = act_b k m r
  absorb_b a (Joining k) n o r = first_mark k
  absorb_b a (Marking k m) n o r = next_mark k m (nat_lt (suc m) (length (due_objects i.name k.count))) refl
  absorb_b a (Acking b) n o r = absurd (n b refl)
  absorb_b a (AttemptOver b) n o r = absurd (o b refl)

  back_b : (a : ℕ) (p : Phase) (x : Outcome) → Bounded i p → Bounded i (called_phase i a p x)
  back_b a Looking x h = h
  back_b a Saving x h = h
  back_b a (Gathering count raw used outs) x h = h
  back_b a Reading x h = h
  back_b a (Calling raw used) x h = tt
  back_b a (Creating k) x h = h
  back_b a (Acting k m) x h = h
  back_b a (Joining k) x h = h
  back_b a (Marking k m) x h = h
  back_b a (Acking b) x h = h
  back_b a (AttemptOver b) x h = h

-- ---------------------------------------------------------------- every event

abbrev pub Busy : List Invocation → List Attempt → Type 0
Busy iv at = (a : ℕ) (t : Attempt) (i : Invocation) → slice_get at a ≡ Some t → slice_get iv t.inv ≡ Some i → t.live ≡ true → Bounded i t.phase

abbrev pub WorldBusy : World → Type 0
WorldBusy w = Busy w.invs w.atts

busy_set : (iv : List Invocation) (at : List Attempt) → Busy iv at → (a : ℕ) (t u : Attempt) (i : Invocation) → slice_get at a ≡ Some t → u.inv ≡ t.inv → slice_get iv t.inv ≡ Some i → (u.live ≡ true → Bounded i u.phase) → Busy iv (slice_set at a u)
busy_set iv at B a t u i found same here h b v y e f l =
    elim (get_set at a u b v e) [
      | inl p ↦
          let z : i ≡ y = same_Some i y (sym here ∙ ap (slice_get iv) (sym same ∙ ap (λ (x : Attempt). x.inv) p.1) ∙ f) in
          subst (λ (x : Attempt). Bounded y x.phase) p.1 (subst (λ (x : Invocation). Bounded x u.phase) z (h (ap (λ (x : Attempt). x.live) p.1 ∙ l)))
      | inr p ↦ B b v y p f l
    ]

busy_inv : (w : World) → WorldKeeps w → (v : Invocation) → WorldBusy w → Busy (w.invs ++ v ∷ []) w.atts
busy_inv w K v B a t i e f l = let d = K.attempts a t e in B a t i e (d.found ∙ sym (get_append w.invs (v ∷ []) t.inv d.invocation d.found) ∙ f) l

pub same_invs : (w : World) (a : ℕ) (t : Attempt) (op : Op) → ((v : Invocation) → op ≡ Invoke v → ⊥) → (performed_world w a t op).invs ≡ w.invs
same_invs w a t (Look x) n = refl
same_invs w a t (Create x h) n = elim (w.objects x) as (λ c. (created_world w a x h c).invs ≡ w.invs) [ Absent ↦ refl | Live y ↦ refl | Tombstone ↦ refl ]
same_invs w a t (Set p index count) n = elim (w.objects (Bits p count)) as (λ c. (with_bit w p index count c).invs ≡ w.invs) [ Absent ↦ refl | Live y ↦ refl | Tombstone ↦ refl ]
same_invs w a t (Invoke v) n = absurd (n v refl)
same_invs w a t (Mark x) n = elim (w.objects x) as (λ c. (marked_world w x c).invs ≡ w.invs) [ Absent ↦ refl | Live y ↦ refl | Tombstone ↦ refl ]
same_invs w a t Ack n = elim (slice_get w.states t.inv) as (λ s. (with_state w t.inv state_after_ack s).invs ≡ w.invs) [ None ↦ refl | Some s ↦ refl ]

module _ (w : World) (K : WorldKeeps w) (B : WorldBusy w) (a : ℕ) (t : Attempt) (found : slice_get w.atts a ≡ Some t) (i : Invocation) (at : slice_get w.invs t.inv ≡ Some i) where
  after_busy : (v : World) → Busy v.invs v.atts → slice_get v.atts a ≡ Some t → slice_get v.invs t.inv ≡ Some i → (lives : Bool) (q : Phase) → (lives ≡ true → Bounded i q) → WorldBusy (moved_world v a t lives q)
  after_busy v D e f lives q h = busy_set v.invs v.atts D a t (record { inv = t.inv; live = lives; steps = suc t.steps; phase = q }) i e refl f h

  other_busy : (op : Op) → ((v : Invocation) → op ≡ Invoke v → ⊥) → (p : Phase) → (lives_on op ≡ true → Bounded i (absorb i a p (reply_to w op))) → WorldBusy (stepped_world w a t i p (Do op))
  other_busy op n p h =
      let ei : (performed_world w a t op).invs ≡ w.invs = same_invs w a t op n in
      let ea : (performed_world w a t op).atts ≡ w.atts = same_attempts w a t op in
      let D : Busy (performed_world w a t op).invs (performed_world w a t op).atts = subst (λ z. Busy z (performed_world w a t op).atts) (sym ei) (subst (λ z. Busy w.invs z) (sym ea) B) in
      after_busy (performed_world w a t op) D (ap (λ z. slice_get z a) ea ∙ found) (ap (λ z. slice_get z t.inv) ei ∙ at) (lives_on op) (absorb i a p (reply_to w op)) h

  did_busy : (op : Op) (p : Phase) → (lives_on op ≡ true → Bounded i (absorb i a p (reply_to w op))) → WorldBusy (stepped_world w a t i p (Do op))
  did_busy (Look x) p h = other_busy (Look x) (λ v e. cc) p h
  did_busy (Create x y) p h = other_busy (Create x y) (λ v e. cc) p h
  did_busy (Set q m c) p h = other_busy (Set q m c) (λ v e. cc) p h
  did_busy (Invoke v) p h = after_busy (performed_world w a t (Invoke v)) (busy_inv w K v B) found (get_append w.invs (v ∷ []) t.inv i at) true (absorb i a p (reply_to w (Invoke v))) h
  did_busy (Mark x) p h = other_busy (Mark x) (λ v e. cc) p h
  did_busy Ack p h = other_busy Ack (λ v e. cc) p h

  -- a phase whose operation is no Ack
  abbrev Plain : Phase → Type 0
  Plain p = ((b : Bool) → p ≢ Acking b) × ((b : Bool) → p ≢ AttemptOver b)

  op_busy : (p : Phase) → Plain p → (op : Op) → WorldBusy (stepped_world w a t i p (Do op))
  op_busy p n op = did_busy op p (λ _. absorb_b i a p n.0 n.1 (reply_to w op))

  doing_busy : (p : Phase) → Plain p → (d : Doing) → WorldBusy (stepped_world w a t i p d)
  doing_busy p n (Do op) = op_busy p n op
  doing_busy p n (Ask r x) = B
  doing_busy p n Nothing = B

  step_by : (p : Phase) → WorldBusy (stepped_world w a t i p (next_of i p))
  unfolding program.next_of
  step_by Looking = doing_busy Looking (λ b e. cc, λ b e. cc) (next_of i Looking)
  step_by Saving = doing_busy Saving (λ b e. cc, λ b e. cc) (next_of i Saving)
  step_by (Gathering count raw used outs) = doing_busy (Gathering count raw used outs) (λ b e. cc, λ b e. cc) (next_of i (Gathering count raw used outs))
  step_by Reading = doing_busy Reading (λ b e. cc, λ b e. cc) (next_of i Reading)
  step_by (Calling raw used) = doing_busy (Calling raw used) (λ b e. cc, λ b e. cc) (next_of i (Calling raw used))
  step_by (Creating k) = doing_busy (Creating k) (λ b e. cc, λ b e. cc) (next_of i (Creating k))
  step_by (Acting k m) = doing_busy (Acting k m) (λ b e. cc, λ b e. cc) (next_of i (Acting k m))
  step_by (Joining k) = doing_busy (Joining k) (λ b e. cc, λ b e. cc) (next_of i (Joining k))
  step_by (Marking k m) = doing_busy (Marking k m) (λ b e. cc, λ b e. cc) (next_of i (Marking k m))
  step_by (Acking b) = did_busy Ack (Acking b) (λ e. absurd (cc))
  step_by (AttemptOver b) = B

  answered_busy : (x : Json) (f : Option FnKind) → t.live ≡ true → WorldBusy (answered_world w a t i x f)
  answered_busy x None l = B
  answered_busy x (Some kind) l = after_busy w B found at true (called_phase i a t.phase (answer kind x a)) (λ _. back_b i a t.phase (answer kind x a) (B a t i found at l))

  asked_busy : (d : Doing) → t.live ≡ true → WorldBusy (asked_world w a t i d)
  asked_busy (Do op) l = B
  asked_busy (Ask r x) l = answered_busy x (function_of w.opening.functions r) l
  asked_busy Nothing l = B

delivered_busy : (w : World) → WorldBusy w → (k : ℕ) (s : InvState) → WorldBusy (delivered_world w k (Some s))
delivered_busy w B k s a t i e f l = elim (get_pushed w.atts (record { inv = k; live = true; steps = 0; phase = Looking }) a t e) [
  | inl p ↦ B a t i p f l
  | inr p ↦ subst (λ (z : Attempt). Bounded i z.phase) p tt
]

-- ---------------------------------------------------------------- each event that may happen

busy_at : (w : World) → WorldBusy w → (a : ℕ) (p : Doing → Bool) (f : Attempt → Invocation → World) →
    ((t : Attempt) → slice_get w.atts a ≡ Some t → t.live ≡ true → (i : Invocation) → slice_get w.invs t.inv ≡ Some i → WorldBusy (f t i)) →
    (x : Option Attempt) → slice_get w.atts a ≡ x → att_lets w p x ≡ true → WorldBusy (with_att w (λ t. with_inv w t (f t) (slice_get w.invs t.inv)) x)
busy_at w B a p f g None e q = B
busy_at w B a p f g (Some t) e q = by (g t e (and_parts t.live _ q).0) (slice_get w.invs t.inv) refl
  where
    by : ((i : Invocation) → slice_get w.invs t.inv ≡ Some i → WorldBusy (f t i)) → (z : Option Invocation) → slice_get w.invs t.inv ≡ z → WorldBusy (with_inv w t (f t) z)
    by h None r = B
    by h (Some i) r = h i r

deliver_busy : (w : World) → WorldBusy w → (k : ℕ) (x : Option InvState) → WorldBusy (delivered_world w k x)
deliver_busy w B k None = B
deliver_busy w B k (Some s) = delivered_busy w B k s

state_busy : (w : World) → WorldBusy w → (k : ℕ) (f : InvState → InvState) (x : Option InvState) → WorldBusy (with_state w k f x)
state_busy w B k f None = B
state_busy w B k f (Some s) = B

-- an attempt that is no more has nothing to do
crash_busy : (w : World) → WorldBusy w → (a : ℕ) (x : Option Attempt) → slice_get w.atts a ≡ x → WorldBusy (with_att w (λ t. crashed_world w a t) x)
crash_busy w B a None e = B
crash_busy w B a (Some t) e =
    let u : Attempt = record t { live = false } in
    state_busy (record w { atts = slice_set w.atts a u })
    (λ b v i f g l. elim (get_set w.atts a u b v f) [
      | inl p ↦ absurd (let z : false ≡ true = ap (λ (y : Attempt). y.live) p.1 ∙ l in cc)
      | inr p ↦ B b v i p g l
    ])
    t.inv state_after_crash (slice_get w.states t.inv)

busy_event : (w : World) → WorldKeeps w → WorldBusy w → (e : Event) → enabled w e ≡ true → WorldBusy (effect w e)
unfolding worlds.effect worlds.enabled
busy_event w K B (Deliver k) q = deliver_busy w B k (slice_get w.states k)
busy_event w K B (Crash a) q = crash_busy w B a (slice_get w.atts a) refl
busy_event w K B (Step a) q = busy_at w B a is_do (λ t i. stepped_world w a t i t.phase (next_of i t.phase)) (λ t e l i at. step_by w K B a t e i at t.phase) (slice_get w.atts a) refl q
busy_event w K B (Answer a) q = busy_at w B a is_ask (λ t i. asked_world w a t i (next_of i t.phase)) (λ t e l i at. asked_busy w K B a t e i at (next_of i t.phase) l) (slice_get w.atts a) refl q
busy_event w K B (GiveUp k) q = state_busy w B k (λ s. record s { dead = true }) (slice_get w.states k)

run_busy : (es : List Event) (w v : World) → WorldKeeps w → WorldBusy w → run_from (Some w) es ≡ Some v → WorldBusy v
unfolding worlds.run_from
run_busy [] w v K B e = subst WorldBusy (same_Some w v e) B
run_busy (x ∷ es) w v K B e = go (λ b q. run_busy es (effect w x) v (effect_ok w K x) b q) (enabled w x) refl e
  where
    go : (WorldBusy (effect w x) → run_from (Some (effect w x)) es ≡ Some v → WorldBusy v) → (b : Bool) → enabled w x ≡ b → run_from (cond b (Some (effect w x)) None) es ≡ Some v → WorldBusy v
    go r true b q = r (busy_event w K B x b) q
    go r false b q = absurd (run_none es v q)

start_busy : (o : Opening) → WorldBusy (start o)
start_busy o a t i e f l = absurd (let z : None ≡ Some t = e in cc)

-- ---------------------------------------------------------------- so an attempt that lives goes on

module _ (w : World) (G : Both w) (B : WorldBusy w) where
  joins_by : (z : Option Parent) (around : List Frame) (q : Parent) → z ≡ Some q → (around ≡ [] → ⊥) → is_do (joining z around) ≡ true
  joins_by None around q e n = absurd (cc)
  joins_by (Some p) [] q e n = absurd (n refl)
  joins_by (Some p) (f ∷ around) q e n = refl

  goes_by : (a : ℕ) (i : Invocation) → MadeOk w.opening w.journal i → (p : Phase) → Bounded i p → PhaseOk w.opening w.journal a i p → PhaseLeft w.opening w.objects w.invs w.journal i p →
      (is_do (next_of i p) ≡ true) ⊎ (is_ask (next_of i p) ≡ true)
  unfolding program.next_of
  goes_by a i m Looking b d l = inl refl
  goes_by a i m Saving b d l = inl refl
  goes_by a i m (Gathering count raw used outs) b d l = inl refl
  goes_by a i m Reading b d l = inl refl
  goes_by a i m (Calling raw used) b d l = let (c, e) = made_call w.opening w.journal a i raw used m d in inr (ap (λ z. is_ask {S = Site} {B = List ℕ} (asking z)) e)
  goes_by a i m (Creating k) b d l = inl refl
  goes_by a i m (Acting k n) b d l = let (op, e) = get_at (acts i k) n b in inl (ap (λ z. is_do (doing z)) e)
  goes_by a i m (Joining k) b d l =
      inl (joins_by (parent_of (scope_of i.name.place)) i.site.around (record { place = l.place; index = l.index; count = l.count }) l.parent
      (λ e. root_no_parent (scope_of i.name.place) (subst (FramesOk w.opening w.journal (scope_of i.name.place) i.site.block) e m.frames) (record { place = l.place; index = l.index; count = l.count }) l.parent))
  goes_by a i m (Marking k n) b d l = let (x, e) = get_at (due_objects i.name k.count) n b in inl (ap (λ z. is_do {S = Site} {B = List ℕ} (marking z)) e)
  goes_by a i m (Acking f) b d l = inl refl
  goes_by a i m (AttemptOver f) b d l = absurd b

  att_may : (a : ℕ) (t : Attempt) (i : Invocation) → slice_get w.atts a ≡ Some t → t.live ≡ true → slice_get w.invs t.inv ≡ Some i → (p : Doing → Bool) → p (next_of i t.phase) ≡ true → att_lets w p (slice_get w.atts a) ≡ true
  att_may a t i found live at p h =
      let x : elim (slice_get w.invs t.inv) [ None ↦ false | Some v ↦ p (next_of v t.phase) ] ≡ true = subst (λ z. elim z [ None ↦ false | Some v ↦ p (next_of v t.phase) ] ≡ true) (sym at) h in
      let y : t.live && elim (slice_get w.invs t.inv) [ None ↦ false | Some v ↦ p (next_of v t.phase) ] ≡ true = subst (λ z. z && elim (slice_get w.invs t.inv) [ None ↦ false | Some v ↦ p (next_of v t.phase) ] ≡ true) (sym live) x in
      subst (λ z. att_lets w p z ≡ true) (sym found) y

  live_goes : (a : ℕ) (t : Attempt) → slice_get w.atts a ≡ Some t → t.live ≡ true → (enabled w (Step a) ≡ true) ⊎ (enabled w (Answer a) ≡ true)
  unfolding worlds.enabled
  live_goes a t found live =
      let d = G.keeps.attempts a t found in
      let i : Invocation = d.invocation in
      elim (goes_by a i (G.keeps.made t.inv i d.found) t.phase (B a t i found d.found live) (phase_of w G.keeps a t i found d.found) (G.leaves.attempts a t i found d.found)) [
        | inl x ↦ inl (att_may a t i found live d.found is_do x)
        | inr x ↦ inr (att_may a t i found live d.found is_ask x)
      ]

-- the world of every run is running
pub every_machine_world_runs : EveryMachineWorldRuns
every_machine_world_runs o es w e =
    let both : Both w = run_both es (start o) w (start_both o) e in
    let busy : WorldBusy w = run_busy es (start o) w (start_ok o) (start_busy o) e in
    record { counted = run_counted o es w e; goes_on = live_goes w both busy }
