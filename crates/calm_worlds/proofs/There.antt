-- What an instance reads is there once it is invoked, and who has no answer yet has no entry.
use Rattle.world_model.proofs.Fanned.{fan_act}
use Rattle.world_model.specs.AnyCode.Program as program
use Rattle.world_model.specs.AnyCode.World as worlds
use Rattle.std.proofs.Common.{ℕ, zero, suc, ◌+◌, ◌<◌, ◌≡◌, ◌≢◌, inl, inr, refl, sym, ap, ◌∙◌, subst, Bool, true, false, cond, nat_eq, nat_lt, List, [], ◌∷◌, ◌++◌, length, slice_get, slice_set, Option, Some, None, arith}
use Rattle.std.proofs.lemmas.Option.{same_Some}
use Rattle.std.proofs.lemmas.Bool.Decides.{eqb_tells}
use Rattle.fn_table.specs.declared.kind.FnKind.{FnKind}
use Rattle.fn_table.specs.Answers.{answer}
use Rattle.asl_model.specs.Data.{Text, Json, Outcome}
use Rattle.asl_model.specs.Names as names
use Rattle.asl_model.specs.Names.{Scope, Place, Name, at_hop, scope_of, child}
use Rattle.asl_model.specs.Machine.{Used}
use Rattle.asl_model.specs.Stretch.{Stop, Call, Fan, Over}
use Rattle.asl_model.specs.Laws.{In}
use Rattle.asl_model.proofs.Lists.{In-cases}
use Rattle.place_name.specs.declared.obj.Obj.{Obj}
use Rattle.place_name.specs.declared.obj.Obj.TheVariants.{Check, Out, Saved, Bits, Arg}
use Rattle.place_name.specs.Names.{Parent}
use Rattle.world_model.specs.Operations.{name_at, root, OnEnter, Site, Frame, Kept, Held, KeptAs, OutcomeIs, SavedAs, BitsAre, ArgIs, Condition, Absent, Live, Tombstone, Invocation, Op, Look, Create, Set, Invoke, Mark, Ack, BitFull, BitNotFull}
use Rattle.world_model.specs.Acts.{parent_of, join_of, acts, acts_of, stop_of, due_objects}
use Rattle.world_model.specs.Program.{Phase, Looking, Saving, Gathering, Reading, Calling, Creating, Acting, Joining, Marking, Acking, AttemptOver, Do, doing, marking, joining, asking, call_of, source, source_in, next_of, adopted_phase, after_read, after_look, after_saved, after_out, after_create, after_act, called_phase}
use Rattle.world_model.specs.World.{Opening, Session, Entry, InvState, Attempt, World, function_of, objects_with, created_world, marked_world, with_bit, set_reply, has_bit, has_all, bits_of, look_reply, create_reply, state_after_ack, with_state, entries_of, moved_world, stepped_world, asked_world, answered_world, delivered_world, start, start_objects, root_inv}
use Rattle.world_model.proofs.Gets.{get_append, get_pushed, get_set, get_pushed_at, place_of, set_own}
use Rattle.world_model.proofs.Keeps.{WorldKeeps, MadeOk, KeptOk, PhaseOk, Opened, Follows, OpOk, adopted_stop, acts_ok, leads, opened_by, parent_of_child, parent_child, has_all_at}
use Rattle.world_model.proofs.Every.{root_get}
use Rattle.world_model.proofs.Leaves.{Objects, Present, HasCount, Acted, ActsLeft, PhaseLeft, WorldLeaves, More, more_same, more_entries, put_view, put_there}
use Rattle.world_model.proofs.Traces.{fan_each, frames_count}
use Rattle.calm_worlds.proofs.Aims.{Target, acts_target}
use Rattle.calm_worlds.proofs.SoleSteps.{bits_absent, joins, never_joins, look_j, after_saved_j, after_out_j, after_read_j, created_j}

-- ---------------------------------------------------------------- words

-- what an instance of that name reads is there
abbrev pub CalledAt : Opening → Objects → List Entry → Name → names.Kind → Type 0
CalledAt o f j n names.Enter = Present f (source_in n OnEnter (parent_of (scope_of n.place)))
CalledAt o f j n names.Task = Present f (Arg n)
CalledAt o f j n names.Join = Present f (Saved n.place) × (c : ℕ) × HasCount o j n.place c × ((m : ℕ) → m < c → Present f (Out (child n.place m c)))

abbrev pub Called : Opening → Objects → List Entry → Name → Type 0
Called o f j n = CalledAt o f j n n.kind

-- an attempt that has not created its Check
abbrev pub Early : Phase → Type 0
Early Looking = Unit {0}
Early Saving = Unit {0}
Early (Gathering count raw used outs) = Unit {0}
Early Reading = Unit {0}
Early (Calling raw used) = Unit {0}
Early (Creating k) = Unit {0}
Early _ = ⊥

-- the outcome of each branch of the fan around that scope is there
abbrev pub AllOut : Objects → Scope → Type 0
AllOut f s = (q : Parent) → parent_of s ≡ Some q → (m : ℕ) → m < q.count → Present f (Out (child q.place m q.count))

pub record There (o : Opening) (f : Objects) (iv : List Invocation) (at : List Attempt) (j : List Entry) : Type 0 where
  pub called : (k : ℕ) (i : Invocation) → slice_get iv k ≡ Some i → Called o f j i.name
  pub home : (s : Scope) (q : Parent) → Opened j s → parent_of s ≡ Some q → Present f (Saved q.place)
  pub bits : (p : Place) (count : ℕ) (h : Held) (m : ℕ) → f (Bits p count) ≡ Live h → has_bit m (bits_of h) ≡ true → Present f (Out (child p m count))
  pub joins : (a : ℕ) (t : Attempt) (i : Invocation) (k : Kept) → slice_get at a ≡ Some t → slice_get iv t.inv ≡ Some i → t.phase ≡ Joining k → AllOut f (scope_of i.name.place)
  pub untaken : (a : ℕ) (t : Attempt) (e : Entry) → slice_get at a ≡ Some t → Early t.phase → In e j → e.ticket ≢ a

abbrev pub WorldThere : World → Type 0
WorldThere w = There w.opening w.objects w.invs w.atts w.journal

-- ---------------------------------------------------------------- what changes

called_more : (o : Opening) (f g : Objects) (j l : List Entry) → ((x : Obj) → Present f x → Present g x) → More o j l → (n : Name) (k : names.Kind) → CalledAt o f j n k → CalledAt o g l n k
called_more o f g j l p m n names.Enter h = p (source_in n OnEnter (parent_of (scope_of n.place))) h
called_more o f g j l p m n names.Task h = p (Arg n) h
called_more o f g j l p m n names.Join (s, c, k, h) = (p (Saved n.place) s, c, m.fans n.place c k, λ i lt. p (Out (child n.place i c)) (h i lt))

there_att : (o : Opening) (f : Objects) (iv : List Invocation) (at : List Attempt) (j : List Entry) → There o f iv at j → (a : ℕ) (t u : Attempt) → slice_get at a ≡ Some t → u.inv ≡ t.inv → (Early u.phase → Early t.phase) →
    ((k : Kept) (i : Invocation) → u.phase ≡ Joining k → slice_get iv t.inv ≡ Some i → AllOut f (scope_of i.name.place)) → There o f iv (slice_set at a u) j
there_att o f iv at j T a t u found same early new = record {
  called = T.called;
  home = T.home;
  bits = T.bits;
  joins = λ b v i k e g ph. elim (get_set at a u b v e) [
    | inl p ↦ new k i (ap (λ (y : Attempt). y.phase) p.1 ∙ ph) (ap (slice_get iv) (sym same ∙ ap (λ (y : Attempt). y.inv) p.1) ∙ g)
    | inr p ↦ T.joins b v i k p g ph
  ];
  untaken = λ b v e x h k. elim (get_set at a u b v x) [
    | inl p ↦ subst (λ z. e.ticket ≢ z) (sym p.0) (T.untaken a t e found (early (subst (λ (y : Attempt). Early y.phase) (sym p.1) h)) k)
    | inr p ↦ T.untaken b v e p h k
  ];
}

there_put : (o : Opening) (f : Objects) (iv : List Invocation) (at : List Attempt) (j es : List Entry) → There o f iv at j → (y : Obj) (c : Condition) → c ≢ Absent →
    ((s : Scope) (q : Parent) → Opened (j ++ es) s → parent_of s ≡ Some q → Present f (Saved q.place)) →
    ((p : Place) (count : ℕ) (h : Held) (m : ℕ) → Bits p count ≡ y → c ≡ Live h → has_bit m (bits_of h) ≡ true → Present f (Out (child p m count))) →
    ((a : ℕ) (t : Attempt) (e : Entry) → slice_get at a ≡ Some t → Early t.phase → In e es → e.ticket ≢ a) → There o (objects_with y c f) iv at (j ++ es)
there_put o f iv at j es T y c ne home bits untaken =
    let stays : (x : Obj) → Present f x → Present (objects_with y c f) x = λ x h e. elim (put_view f y c x) [ inl v ↦ ne (sym v.there ∙ e) | inr v ↦ h (sym v.1 ∙ e) ] in
    record {
      called = λ k i e. called_more o f (objects_with y c f) j (j ++ es) stays (more_entries o j es) i.name i.name.kind (T.called k i e);
      home = λ s q h e. stays (Saved q.place) (home s q h e);
      bits = λ p count h m e b. stays (Out (child p m count)) (elim (put_view f y c (Bits p count)) [
        | inl v ↦ bits p count h m v.same (sym v.there ∙ e) b
        | inr v ↦ T.bits p count h m (sym v.1 ∙ e) b
      ]);
      joins = λ a t i k e g ph q par m l. stays (Out (child q.place m q.count)) (T.joins a t i k e g ph q par m l);
      untaken = λ a t e x h k. elim (In-cases j es e k) [ inl u ↦ T.untaken a t e x h u | inr u ↦ untaken a t e x h u ];
    }

there_inv : (o : Opening) (f : Objects) (iv : List Invocation) (at : List Attempt) (j : List Entry) → There o f iv at j → ((a : ℕ) (t : Attempt) → slice_get at a ≡ Some t → (i : Invocation) × (slice_get iv t.inv ≡ Some i)) →
    (v : Invocation) → Called o f j v.name → There o f (iv ++ v ∷ []) at j
there_inv o f iv at j T inv v h = record {
  called = λ k i e. elim (get_pushed iv v k i e) [ inl p ↦ T.called k i p | inr p ↦ subst (λ (z : Invocation). Called o f j z.name) p h ];
  home = T.home;
  bits = T.bits;
  joins = λ a t i k e g ph. let d = inv a t e in T.joins a t i k e (d.1 ∙ sym (get_append iv (v ∷ []) t.inv d.0 d.1) ∙ g) ph;
  untaken = T.untaken;
}

-- ---------------------------------------------------------------- what an act leads to

-- the first act of an end creates its Out
first_out : (site : Site) (s : Scope) (stop : Stop) (m : ℕ) (p : Place) (i c : ℕ) → slice_get (acts_of site s stop) m ≡ Some (Set p i c) → (x : Outcome) × (slice_get (acts_of site s stop) 0 ≡ Some (Create (Out s) (OutcomeIs x))) × (0 < m)
first_out site s (Call name hop raw used) zero p i c e = absurd (cc)
first_out site s (Call name hop raw used) (suc zero) p i c e = absurd (cc)
first_out site s (Call name hop raw used) (suc (suc m)) p i c e = absurd (cc)
first_out site s (Fan name hop raw used cs) zero p i c e = absurd (cc)
first_out site s (Fan name hop raw used []) (suc zero) p i c e = absurd (cc)
first_out site s (Fan name hop raw used []) (suc (suc m)) p i c e = absurd (cc)
first_out site s (Fan name hop raw used (d ∷ cs)) (suc m) p i c e = absurd (fan_each site (at_hop s hop) name d cs m (Set p i c) e)
first_out site s (Over x) zero p i c e = absurd (cc)
first_out site s (Over x) (suc m) p i c e = (x, refl, omega arith)

branch_called : (o : Opening) (f : Objects) (j : List Entry) (p : Place) (index count : ℕ) → Present f (Saved p) → Called o f j (name_at (child p index count) 0 names.Enter)
branch_called o f j p index count h = subst (λ z. Present f (source_in (name_at (child p index count) 0 names.Enter) OnEnter z)) (sym (parent_of_child p index count)) h

-- what the acts before it left, for what an act invokes
act_called : (o : Opening) (f : Objects) (iv : List Invocation) (j : List Entry) (i : Invocation) (stop : Stop) → Follows o j i stop → (m : ℕ) → Acted f iv (acts_of i.site (scope_of i.name.place) stop) m →
    ((q : Parent) → parent_of (scope_of i.name.place) ≡ Some q → Present f (Saved q.place)) → (n : Name) → Target i.site (scope_of i.name.place) stop m n → Called o f j n
act_called o f iv j i (Call name hop raw used) F m acted home n (e, p) =
    subst (Called o f j) (sym p) (acted 0 (Create (Arg (name_at (scope_of i.name.place) hop names.Task)) (ArgIs raw used)) refl (omega arith))
act_called o f iv j i (Fan name hop raw used []) F m acted home n (e, p) =
    let q : Place = at_hop (scope_of i.name.place) hop in
    let c : HasCount o j q 0 = record { raw = raw; used = used; fan = record { block = i.site.block; name = name; branches = []; leads = leads o j i name hop raw used [] F; count_is = refl } } in
    subst (Called o f j) (sym p) (acted 0 (Create (Saved q) (SavedAs 0 raw used)) refl (omega arith), 0, c, λ k l. absurd (omega arith))
act_called o f iv j i (Fan name hop raw used (c ∷ cs)) F m acted home n (index, e, once, p) =
    let q : Place = at_hop (scope_of i.name.place) hop in
    subst (Called o f j) (sym p) (branch_called o f j q index (suc (length cs)) (acted 0 (Create (Saved q) (SavedAs (suc (length cs)) raw used)) (ap (λ (z : List Op). slice_get z 0) (fan_act i.site (scope_of i.name.place) name hop raw used (c ∷ cs))) (omega arith)))
act_called o f iv j i (Over x) F m acted home n (q, qe, w, wide, e, p) = subst (Called o f j) (sym p) (branch_called o f j q.place (q.index + suc w) q.count (home q qe))

-- ---------------------------------------------------------------- a step

abbrev not_joining : Phase → Type 0
not_joining (Joining k) = ⊥
not_joining _ = Unit {0}

never : (q : Phase) → not_joining q → (k : Kept) → q ≡ Joining k → ⊥
never q h k e = subst not_joining e h

-- a phase that comes after the Check is created
abbrev PastCheck : Phase → Type 0
PastCheck (Acting k m) = Unit {0}
PastCheck (Marking k m) = Unit {0}
PastCheck (Acking b) = Unit {0}
PastCheck (AttemptOver b) = Unit {0}
PastCheck _ = ⊥

late_early : (q : Phase) → PastCheck q → Early q → ⊥
late_early Looking h e = h
late_early Saving h e = h
late_early (Gathering count raw used outs) h e = h
late_early Reading h e = h
late_early (Calling raw used) h e = h
late_early (Creating k) h e = h
late_early (Acting k m) h e = e
late_early (Joining k) h e = e
late_early (Marking k m) h e = e
late_early (Acking b) h e = e
late_early (AttemptOver b) h e = e

late_joining : (q : Phase) → PastCheck q → (k : Kept) → q ≡ Joining k → ⊥
late_joining q h k e = subst PastCheck e h

module _ (w : World) (K : WorldKeeps w) (T : WorldThere w) (a : ℕ) (t : Attempt) (found : slice_get w.atts a ≡ Some t) where
  abbrev now : Bool → Phase → Attempt
  now lives q = record { inv = t.inv; live = lives; steps = suc t.steps; phase = q }

  -- only the attempt moves, on
  late_there : (lives : Bool) (q : Phase) → PastCheck q → WorldThere (moved_world w a t lives q)
  late_there lives q h = there_att w.opening w.objects w.invs w.atts w.journal T a t (now lives q) found refl (λ e. absurd (late_early q h e)) (λ k i e g. absurd (late_joining q h k e))

  early_there : Early t.phase → (q : Phase) → ((k : Kept) → q ≡ Joining k → ⊥) → WorldThere (moved_world w a t true q)
  early_there h q never = there_att w.opening w.objects w.invs w.atts w.journal T a t (now true q) found refl (λ e. h) (λ k i e g. absurd (never k e))

  -- an object that is no Check and no bitmap
  abbrev Other : Obj → Type 0
  Other (Check n) = ⊥
  Other (Bits p c) = ⊥
  Other _ = Unit {0}

  no_entries : (y : Obj) (h : Held) → Other y → entries_of y h a ≡ []
  no_entries (Out s) h q = refl
  no_entries (Saved p) h q = refl
  no_entries (Arg n) h q = refl
  no_entries (Check n) h q = absurd q
  no_entries (Bits p c) h q = absurd q

  no_bits : (y : Obj) → Other y → (p : Place) (c : ℕ) → Bits p c ≡ y → ⊥
  no_bits y q p c e = subst Other (sym e) q

  opened_old : (es : List Entry) → es ≡ [] → (s : Scope) → Opened (w.journal ++ es) s → Opened w.journal s
  opened_old es n s h = elim (In-cases w.journal es h.0 h.1.0) [ inl u ↦ (h.0, (u, h.1.1)) | inr u ↦ absurd (subst (In h.0) n u) ]

  created_there : (y : Obj) (h : Held) → Other y → (q : Phase) → PastCheck q → (c : Condition) → WorldThere (moved_world (created_world w a y h c) a t true q)
  created_there y h o q p Absent =
      there_put w.opening w.objects w.invs (slice_set w.atts a (now true q)) w.journal (entries_of y h a) (late_there true q p) y (Live h) (λ e. cc)
      (λ s r x e. T.home s r (opened_old (entries_of y h a) (no_entries y h o) s x) e)
      (λ r count g m e b f. absurd (no_bits y o r count e))
      (λ b u e x k i. absurd (subst (In e) (no_entries y h o) i))
  created_there y h o q p (Live x) = late_there true q p
  created_there y h o q p Tombstone = late_there true q p

  gone_there : (y : Obj) (at : List Attempt) → There w.opening w.objects w.invs at w.journal → There w.opening (objects_with y Tombstone w.objects) w.invs at w.journal
  gone_there y at M = record {
    called = λ k i e. called_more w.opening w.objects (objects_with y Tombstone w.objects) w.journal w.journal stays (more_same w.opening w.journal) i.name i.name.kind (M.called k i e);
    home = λ s q h e. stays (Saved q.place) (M.home s q h e);
    bits = λ p count h m e b. stays (Out (child p m count)) (elim (put_view w.objects y Tombstone (Bits p count)) [
      | inl v ↦ absurd (let z : Tombstone ≡ Live h = sym v.there ∙ e in cc)
      | inr v ↦ M.bits p count h m (sym v.1 ∙ e) b
    ]);
    joins = λ b u i k e g ph q par m l. stays (Out (child q.place m q.count)) (M.joins b u i k e g ph q par m l);
    untaken = M.untaken;
  }
    where
      stays : (x : Obj) → Present w.objects x → Present (objects_with y Tombstone w.objects) x
      stays x h e = elim (put_view w.objects y Tombstone x) [ inl v ↦ (let z : Tombstone ≡ Absent = sym v.there ∙ e in cc) | inr v ↦ h (sym v.1 ∙ e) ]

  marked_there : (y : Obj) (q : Phase) → PastCheck q → (c : Condition) → WorldThere (moved_world (marked_world w y c) a t true q)
  marked_there y q p Absent = late_there true q p
  marked_there y q p (Live h) = gone_there y (slice_set w.atts a (now true q)) (late_there true q p)
  marked_there y q p Tombstone = gone_there y (slice_set w.atts a (now true q)) (late_there true q p)

  old_inv : (u : Attempt) → u.inv ≡ t.inv → (i : Invocation) → slice_get w.invs t.inv ≡ Some i → (b : ℕ) (x : Attempt) → slice_get (slice_set w.atts a u) b ≡ Some x → (y : Invocation) × (slice_get w.invs x.inv ≡ Some y)
  old_inv u same i at b x f = elim (get_set w.atts a u b x f) [
    | inl p ↦ (i, ap (slice_get w.invs) (ap (λ (z : Attempt). z.inv) (sym p.1) ∙ same) ∙ at)
    | inr p ↦ let d = K.attempts b x p in (d.invocation, d.found)
  ]

  invoked_there : (i : Invocation) → slice_get w.invs t.inv ≡ Some i → (v : Invocation) → Called w.opening w.objects w.journal v.name → (q : Phase) → PastCheck q →
      There w.opening w.objects (w.invs ++ v ∷ []) (slice_set w.atts a (now true q)) w.journal
  invoked_there i at v h q p = there_inv w.opening w.objects w.invs (slice_set w.atts a (now true q)) w.journal (late_there true q p) (old_inv (now true q) refl i at) v h

  -- ---------------------------------------------------------------- the own Check

  won_there : (i : Invocation) → slice_get w.invs t.inv ≡ Some i → (k : Kept) → WorldThere (moved_world (created_world w a (Check i.name) (KeptAs k) Absent) a t true (Acting k 0))
  won_there i at k =
      let es : List Entry = entries_of (Check i.name) (KeptAs k) a in
      there_put w.opening w.objects w.invs (slice_set w.atts a (now true (Acting k 0))) w.journal es (late_there true (Acting k 0) tt) (Check i.name) (Live (KeptAs k)) (λ e. cc)
      (λ s q h e. elim (In-cases w.journal es h.0 h.1.0) [
        | inl u ↦ T.home s q (h.0, (u, h.1.1)) e
        | inr u ↦ elim u [
          | inl z ↦
              let n : i.name ≡ name_at s 0 names.Enter = ap (λ (y : Entry). y.name) (sym z) ∙ h.1.1 in
              let c : Called w.opening w.objects w.journal (name_at s 0 names.Enter) = subst (Called w.opening w.objects w.journal) n (T.called t.inv i at) in
              subst (λ z. Present w.objects (source_in (name_at s 0 names.Enter) OnEnter z)) e c
          | inr z ↦ absurd z
        ]
      ])
      (λ p count g m e b f. cc)
      (λ b u e x h z r.
      let same : a ≡ b = elim z [ inl y ↦ ap (λ (v : Entry). v.ticket) (sym y) ∙ r | inr y ↦ absurd y ] in
      elim (get_set w.atts a (now true (Acting k 0)) b u x) [
        | inl y ↦ subst (λ (v : Attempt). Early v.phase) (sym y.1) h
        | inr y ↦ let f : slice_get (slice_set w.atts a (now true (Acting k 0))) a ≡ Some u = ap (slice_get (slice_set w.atts a (now true (Acting k 0)))) same ∙ x in late_at f h
      ])
    where
      late_at : {u : Attempt} → slice_get (slice_set w.atts a (now true (Acting k 0))) a ≡ Some u → Early u.phase → ⊥
      late_at {u} f h =
          let z : now true (Acting k 0) ≡ u = same_Some (now true (Acting k 0)) u (sym (set_own w.atts a t (now true (Acting k 0)) found) ∙ f) in
          subst (λ (v : Attempt). Early v.phase) (sym z) h

  -- ---------------------------------------------------------------- an act

  module _ (L : WorldLeaves w) (i : Invocation) (at : slice_get w.invs t.inv ≡ Some i) (k : Kept) (m : ℕ) (left : ActsLeft w.opening w.objects w.invs w.journal i k m) (kept : KeptOk w.opening w.journal i.name k) where
    abbrev S : Scope
    S = scope_of i.name.place

    stop_here : Follows w.opening w.journal i (stop_of i.site i.name.place.hop k)
    stop_here = adopted_stop w.opening w.journal i k (K.made t.inv i at) kept

    after_past : (b : Bool) → PastCheck (cond b (Acting k (suc m)) (Marking k 0))
    after_past true = tt
    after_past false = tt

    called_here : (v : Invocation) → slice_get (acts i k) m ≡ Some (Invoke v) → Called w.opening w.objects w.journal v.name
    called_here v e =
        act_called w.opening w.objects w.invs w.journal i (stop_of i.site i.name.place.hop k) stop_here m left.acted (λ q par. T.home S q stop_here.opened par) v.name
        (acts_target i.site S (stop_of i.site i.name.place.hop k) m v e)

    module _ (p : Place) (index count : ℕ) (e : slice_get (acts i k) m ≡ Some (Set p index count)) (par : parent_of S ≡ Some (record { place = p; index = index; count = count })) where
      own_out : Present w.objects (Out (child p index count))
      own_out =
          let (x, f, l) = first_out i.site S (stop_of i.site i.name.place.hop k) m p index count e in
          subst (λ z. Present w.objects (Out z)) (parent_child S (record { place = p; index = index; count = count }) par) (left.acted 0 (Create (Out S) (OutcomeIs x)) f l)

      bits_out : (is : List ℕ) → ((n : ℕ) → has_bit n is ≡ true → Present w.objects (Out (child p n count))) → (n : ℕ) → has_bit n (index ∷ is) ≡ true → Present w.objects (Out (child p n count))
      bits_out is f n b = elim (eqb_tells n index) [
        | inl x ↦ subst (λ y. Present w.objects (Out (child p y count))) (sym x.1) own_out
        | inr x ↦ f n (let y : nat_eq n index ≡ false = x.0 in let P : Bool → Type 0 = λ b. cond b true (has_bit n is) ≡ true in subst P y b)
      ]

      full_out : (is : List ℕ) → ((n : ℕ) → has_bit n is ≡ true → Present w.objects (Out (child p n count))) → has_all count (index ∷ is) ≡ true → AllOut w.objects S
      full_out is f all q qe n l =
          let z : record { place = p; index = index; count = count } ≡ q = same_Some _ q (sym par ∙ qe) in
          subst (λ (y : Parent). n < y.count → Present w.objects (Out (child y.place n y.count))) z (λ l. bits_out is f n (has_all_at count (index ∷ is) n all l)) l

      after_bit : (is : List ℕ) → ((n : ℕ) → has_bit n is ≡ true → Present w.objects (Out (child p n count))) → (b : Bool) → has_all count (index ∷ is) ≡ b → (c : ℕ) →
          WorldThere (moved_world w a t true (after_act k m c (cond b BitFull BitNotFull)))
      after_bit is f true all c =
          there_att w.opening w.objects w.invs w.atts w.journal T a t (now true (Joining k)) found refl (λ h. absurd h)
          (λ l v ph g. let y : i ≡ v = same_Some i v (sym at ∙ g) in subst (λ (z : Invocation). AllOut w.objects (scope_of z.name.place)) y (full_out is f all))
      after_bit is f false all c = late_there true (Marking k 0) tt

      set_live : (is : List ℕ) → ((n : ℕ) → has_bit n is ≡ true → Present w.objects (Out (child p n count))) →
          WorldThere (moved_world (record w { objects = objects_with (Bits p count) (Live (BitsAre (index ∷ is))) w.objects }) a t true (after_act k m (length (acts i k)) (cond (has_all count (index ∷ is)) BitFull BitNotFull)))
      set_live is f =
          let q : Phase = after_act k m (length (acts i k)) (cond (has_all count (index ∷ is)) BitFull BitNotFull) in
          let M : WorldThere (moved_world w a t true q) = after_bit is f (has_all count (index ∷ is)) refl (length (acts i k)) in
          let c : Condition = Live (BitsAre (index ∷ is)) in
          let stays : (x : Obj) → Present w.objects x → Present (objects_with (Bits p count) c w.objects) x = λ x h e. elim (put_view w.objects (Bits p count) c x) [ inl v ↦ (let z : c ≡ Absent = sym v.there ∙ e in cc) | inr v ↦ h (sym v.1 ∙ e) ] in
          record {
            called = λ n v e. called_more w.opening w.objects (objects_with (Bits p count) c w.objects) w.journal w.journal stays (more_same w.opening w.journal) v.name v.name.kind (M.called n v e);
            home = λ s r h e. stays (Saved r.place) (M.home s r h e);
            bits = λ r d h n x b. stays (Out (child r n d)) (elim (put_view w.objects (Bits p count) c (Bits r d)) [
              | inl v ↦
                  let z : c ≡ Live h = sym v.there ∙ x in
                  let y : BitsAre (index ∷ is) ≡ h = cc in
                  let same_b : Bits r d ≡ Bits p count = v.same in
                  let pe : r ≡ p = cc in
                  let ce : d ≡ count = cc in
                  let g : Present w.objects (Out (child p n count)) = bits_out is f n (subst (λ (x : Held). has_bit n (bits_of x) ≡ true) (sym y) b) in
                  subst (λ (x : Place). Present w.objects (Out (child x n d))) (sym pe) (subst (λ x. Present w.objects (Out (child p n x))) (sym ce) g)
              | inr v ↦ M.bits r d h n (sym v.1 ∙ x) b
            ]);
            joins = λ b u v l x g ph r par n lt. stays (Out (child r.place n r.count)) (M.joins b u v l x g ph r par n lt);
            untaken = M.untaken;
          }

      set_there : (c : Condition) → w.objects (Bits p count) ≡ c → WorldThere (moved_world (with_bit w p index count c) a t true (after_act k m (length (acts i k)) (set_reply index count c)))
      set_there Absent q = set_live [] (λ n b. absurd (cc))
      set_there (Live h) q = set_live (bits_of h) (λ n b. T.bits p count h n q b)
      set_there Tombstone q = late_there true (Marking k 0) tt

    create_there : (y : Obj) (h : Held) → Other y → (c : Condition) → WorldThere (moved_world (created_world w a y h c) a t true (after_act k m (length (acts i k)) (create_reply c)))
    create_there y h o c =
        let b : Bool = nat_lt (suc m) (length (acts i k)) in
        let q : Phase = cond b (Acting k (suc m)) (Marking k 0) in
        elim c as (λ c. WorldThere (moved_world (created_world w a y h c) a t true (after_act k m (length (acts i k)) (create_reply c)))) [
          | Absent ↦ created_there y h o q (after_past b) Absent
          | Live x ↦ created_there y h o q (after_past b) (Live x)
          | Tombstone ↦ created_there y h o q (after_past b) Tombstone
        ]

    act_there : (op : Op) → slice_get (acts i k) m ≡ Some op → OpOk w.opening w.journal S op → WorldThere (stepped_world w a t i (Acting k m) (Do op))
    unfolding program.absorb
    act_there (Create (Out s) h) e ok = create_there (Out s) h tt (w.objects (Out s))
    act_there (Create (Saved s) h) e ok = create_there (Saved s) h tt (w.objects (Saved s))
    act_there (Create (Arg n) h) e ok = create_there (Arg n) h tt (w.objects (Arg n))
    act_there (Create (Check n) h) e ok = absurd ok
    act_there (Create (Bits p c) h) e ok = absurd ok
    act_there (Set p index count) e ok = set_there p index count e ok.0 (w.objects (Bits p count)) refl
    act_there (Invoke v) e ok =
        let b : Bool = nat_lt (suc m) (length (acts i k)) in
        invoked_there i at v (called_here v e) (cond b (Acting k (suc m)) (Marking k 0)) (after_past b)
    act_there (Look x) e ok = absurd ok
    act_there (Mark x) e ok = absurd ok
    act_there Ack e ok = absurd ok

    acting_there : (z : Option Op) → slice_get (acts i k) m ≡ z → WorldThere (stepped_world w a t i (Acting k m) (doing z))
    acting_there None e = T
    acting_there (Some op) e = act_there op e (acts_ok w.opening w.journal i (stop_of i.site i.name.place.hop k) m op stop_here e)

  joining_there : (i : Invocation) → slice_get w.invs t.inv ≡ Some i → (k : Kept) → KeptOk w.opening w.journal i.name k → t.phase ≡ Joining k → (z : Option Parent) → parent_of (scope_of i.name.place) ≡ z → (around : List Frame) →
      WorldThere (stepped_world w a t i (Joining k) (joining z around))
  unfolding program.absorb
  joining_there i at k kept ph None e around = T
  joining_there i at k kept ph (Some q) e [] = T
  joining_there i at k kept ph (Some q) e (f ∷ around) =
      let m : MadeOk w.opening w.journal i = K.made t.inv i at in
      let c : HasCount w.opening w.journal q.place q.count = frames_count w.opening w.journal (scope_of i.name.place) i.site.block i.site.around m.frames q e in
      invoked_there i at (join_of f around q.place) (T.home (scope_of i.name.place) q (opened_by w.opening w.journal i k m kept) e, q.count, c, T.joins a t i k found at ph q e) (Marking k 0) tt

  marks_past : (k : Kept) (m : ℕ) (b : Bool) → PastCheck (cond b (Marking k (suc m)) (Acking true))
  marks_past k m true = tt
  marks_past k m false = tt

  marking_there : (i : Invocation) (k : Kept) (m : ℕ) (z : Option Obj) → WorldThere (stepped_world w a t i (Marking k m) (marking z))
  unfolding program.absorb
  marking_there i k m None = T
  marking_there i k m (Some x) =
      let b : Bool = nat_lt (suc m) (length (due_objects i.name k.count)) in
      marked_there x (cond b (Marking k (suc m)) (Acking true)) (marks_past k m b) (w.objects x)

  ack_there : (finished : Bool) (x : Option InvState) → WorldThere (moved_world (with_state w t.inv state_after_ack x) a t false (AttemptOver finished))
  ack_there finished None = late_there false (AttemptOver finished) tt
  ack_there finished (Some s) = late_there false (AttemptOver finished) tt

  asking_there : (i : Invocation) (p : Phase) (z : Option (Text × Json)) → WorldThere (stepped_world w a t i p (asking z))
  asking_there i p None = T
  asking_there i p (Some c) = T

  creating_there : (i : Invocation) → slice_get w.invs t.inv ≡ Some i → (k : Kept) → Early t.phase → (c : Condition) → WorldThere (moved_world (created_world w a (Check i.name) (KeptAs k) c) a t true (after_create k (create_reply c)))
  creating_there i at k h Absent = won_there i at k
  creating_there i at k h (Live x) = early_there h (adopted_phase x) (λ l e. never_joins (adopted_phase x) (created_j k (Live x)) l e)
  creating_there i at k h Tombstone = early_there h (Acking false) (λ l e. never_joins (Acking false) refl l e)

  step_by : WorldLeaves w → (i : Invocation) → slice_get w.invs t.inv ≡ Some i → (p : Phase) → t.phase ≡ p → PhaseOk w.opening w.journal a i p → PhaseLeft w.opening w.objects w.invs w.journal i p → WorldThere (stepped_world w a t i p (next_of i p))
  unfolding program.next_of program.absorb
  step_by L i at Looking ph d e = early_there (subst Early (sym ph) tt) (after_look i a (look_reply (w.objects (Check i.name)))) (never_joins _ (look_j i a (w.objects (Check i.name))))
  step_by L i at Saving ph d e =
      early_there (subst Early (sym ph) tt) (after_saved i.site.spot a (look_reply (w.objects (Saved i.name.place)))) (never_joins _ (after_saved_j i.site.spot a (w.objects (Saved i.name.place))))
  step_by L i at (Gathering count raw used outs) ph d e =
      let c : Condition = w.objects (Out (child i.name.place (length outs) count)) in
      early_there (subst Early (sym ph) tt) (after_out i.site.spot a count raw used outs (look_reply c)) (never_joins _ (after_out_j i.site.spot a count raw used outs c))
  step_by L i at Reading ph d e = early_there (subst Early (sym ph) tt) (after_read i a (look_reply (w.objects (source i)))) (never_joins _ (after_read_j i a (w.objects (source i))))
  step_by L i at (Calling raw used) ph d e = asking_there i (Calling raw used) (call_of i.site raw)
  step_by L i at (Creating k) ph d e = creating_there i at k (subst Early (sym ph) tt) (w.objects (Check i.name))
  step_by L i at (Acting k m) ph d e = acting_there L i at k m e d (slice_get (acts i k) m) refl
  step_by L i at (Joining k) ph d e = joining_there i at k d.0 ph (parent_of (scope_of i.name.place)) refl i.site.around
  step_by L i at (Marking k m) ph d e = marking_there i k m (slice_get (due_objects i.name k.count) m)
  step_by L i at (Acking finished) ph d e = ack_there finished (slice_get w.states t.inv)
  step_by L i at (AttemptOver finished) ph d e = T

  pub step_there : WorldLeaves w → (i : Invocation) → slice_get w.invs t.inv ≡ Some i → PhaseOk w.opening w.journal a i t.phase → WorldThere (stepped_world w a t i t.phase (next_of i t.phase))
  step_there L i at d = step_by L i at t.phase refl d (L.attempts a t i found at)

  -- ---------------------------------------------------------------- the answer of a function

  answered_there : (i : Invocation) (raw : Json) (used : Used) → t.phase ≡ Calling raw used → (x : Json) (f : Option FnKind) → WorldThere (answered_world w a t i x f)
  answered_there i raw used ph x None = T
  answered_there i raw used ph x (Some kind) =
      let q : Phase = called_phase i a t.phase (answer kind x a) in
      let j : joins q ≡ false = ap (λ z. joins (called_phase i a z (answer kind x a))) ph in
      early_there (subst Early (sym ph) tt) q (never_joins q j)

  asked_do : (i : Invocation) (x : Option Op) → WorldThere (asked_world w a t i (doing x))
  asked_do i None = T
  asked_do i (Some x) = T

  asked_mark : (i : Invocation) (x : Option Obj) → WorldThere (asked_world w a t i (marking x))
  asked_mark i None = T
  asked_mark i (Some x) = T

  asked_join : (i : Invocation) (x : Option Parent) (around : List Frame) → WorldThere (asked_world w a t i (joining x around))
  asked_join i None around = T
  asked_join i (Some q) [] = T
  asked_join i (Some q) (f ∷ around) = T

  asked_call : (i : Invocation) (raw : Json) (used : Used) → t.phase ≡ Calling raw used → (z : Option (Text × Json)) → WorldThere (asked_world w a t i (asking z))
  asked_call i raw used ph None = T
  asked_call i raw used ph (Some c) = answered_there i raw used ph c.1 (function_of w.opening.functions c.0)

  asked_by : (i : Invocation) (p : Phase) → t.phase ≡ p → WorldThere (asked_world w a t i (next_of i p))
  unfolding program.next_of
  asked_by i Looking ph = T
  asked_by i Saving ph = T
  asked_by i (Gathering count raw used outs) ph = T
  asked_by i Reading ph = T
  asked_by i (Calling raw used) ph = asked_call i raw used ph (call_of i.site raw)
  asked_by i (Creating k) ph = T
  asked_by i (Acting k m) ph = asked_do i (slice_get (acts i k) m)
  asked_by i (Joining k) ph = asked_join i (parent_of (scope_of i.name.place)) i.site.around
  asked_by i (Marking k m) ph = asked_mark i (slice_get (due_objects i.name k.count) m)
  asked_by i (Acking finished) ph = T
  asked_by i (AttemptOver finished) ph = T

  pub asked_there : (i : Invocation) → WorldThere (asked_world w a t i (next_of i t.phase))
  asked_there i = asked_by i t.phase refl

-- ---------------------------------------------------------------- a delivery, and the opening world

pub delivered_there : (w : World) → WorldKeeps w → WorldThere w → (n : ℕ) (s : InvState) → WorldThere (delivered_world w n (Some s))
delivered_there w K T n s =
    let u : Attempt = record { inv = n; live = true; steps = 0; phase = Looking } in
    record {
      called = T.called;
      home = T.home;
      bits = T.bits;
      joins = λ a t i k e g ph. elim (get_pushed w.atts u a t e) [
        | inl p ↦ T.joins a t i k p g ph
        | inr p ↦ absurd (never_joins Looking refl k (ap (λ (y : Attempt). y.phase) p ∙ ph))
      ];
      untaken = λ a t e x h k. elim (get_pushed_at w.atts u a t x) [
        | inl p ↦ T.untaken a t e p h k
        | inr p ↦ λ r.
            let d = K.tickets e k in
            let l : e.ticket < length w.atts = place_of w.atts e.ticket d.attempt d.attempt_is in
            let m : a ≡ length w.atts = p.0 in
            absurd (omega arith)
      ];
    }

root_there : (s : ℕ) (xs : List Session) (k : ℕ) (x : Session) → slice_get xs k ≡ Some x → Present (start_objects s xs) (Arg (root_inv (s + k) x).name)
unfolding worlds.start_objects
root_there s [] k x e = absurd (cc)
root_there s (y ∷ ys) zero x e =
    let z : s ≡ s + 0 = omega arith in
    subst (λ n. Present (objects_with (Arg (root_inv s y).name) (Live (ArgIs y.input [])) (start_objects (suc s) ys)) (Arg (name_at (root n) 0 names.Enter))) z
    (λ q. let v : Live (ArgIs y.input []) ≡ Absent = sym (put_there (start_objects (suc s) ys) (Arg (root_inv s y).name) (Live (ArgIs y.input []))) ∙ q in cc)
root_there s (y ∷ ys) (suc k) x e =
    let z : suc s + k ≡ s + suc k = omega arith in
    let h : Present (start_objects (suc s) ys) (Arg (name_at (root (s + suc k)) 0 names.Enter)) = subst (λ n. Present (start_objects (suc s) ys) (Arg (name_at (root n) 0 names.Enter))) z (root_there (suc s) ys k x e) in
    λ q. elim (put_view (start_objects (suc s) ys) (Arg (root_inv s y).name) (Live (ArgIs y.input [])) (Arg (name_at (root (s + suc k)) 0 names.Enter))) [
      | inl v ↦ (let u : Live (ArgIs y.input []) ≡ Absent = sym v.there ∙ q in cc)
      | inr v ↦ h (sym v.1 ∙ q)
    ]

root_source : (f : Objects) (n : ℕ) → Present f (Arg (name_at (root n) 0 names.Enter)) → Present f (source_in (name_at (root n) 0 names.Enter) OnEnter (parent_of (root n)))
unfolding parent_of
root_source f n h = h

pub start_there : (o : Opening) → WorldThere (start o)
start_there o = record {
  called = λ k i e.
      let r = root_get 0 o.sessions k i e in
      subst (λ (z : Invocation). Called o (start o).objects [] z.name) r.2 (root_source (start o).objects (0 + k) (root_there 0 o.sessions k r.0 r.1));
  home = λ s q h e. absurd h.1.0;
  bits = λ p count h m e b. absurd (let z : Absent ≡ Live h = sym (bits_absent 0 o.sessions p count) ∙ e in cc);
  joins = λ a t i k e g ph. absurd (let z : None ≡ Some t = e in cc);
  untaken = λ a t e x h k. absurd k;
}
