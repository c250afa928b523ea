-- A branch is invoked only once the branch that is the limit before it has an Out.
use Rattle.std.proofs.Common.{ℕ, zero, suc, ◌+◌, ◌<◌, ◌≤◌, ◌≡◌, ◌≢◌, inl, inr, refl, sym, ◌∙◌, subst, Bool, true, false, cond, nat_lt, List, [], ◌∷◌, ◌++◌, length, slice_get, slice_set, Option, Some, None, arith}
use Rattle.std.proofs.lemmas.Option.{same_Some}
use Rattle.fn_table.specs.declared.kind.FnKind.{FnKind}
use Rattle.fn_table.specs.Answers.{answer}
use Rattle.asl_model.specs.Data.{Text, Json, Outcome}
use Rattle.asl_model.specs.Names as names
use Rattle.asl_model.specs.Names.{Seg, Scope, Place, Name, at_hop, scope_of, child}
use Rattle.asl_model.specs.Machine.{Block}
use Rattle.asl_model.specs.Stretch.{Stop, Call, Fan, Over}
use Rattle.place_name.specs.declared.obj.Obj.{Obj}
use Rattle.place_name.specs.declared.obj.Obj.TheVariants.{Check, Out, Saved, Bits, Arg}
use Rattle.place_name.specs.Same.{object_same}
use Rattle.world_model.specs.Operations
use Rattle.world_model.specs.Program
use Rattle.world_model.specs.Operations.{name_at, Spot, OnEnter, OnTask, OnJoin, Frame, Site, Kept, Held, KeptAs, OutcomeIs, SavedAs, BitsAre, ArgIs, Condition, Absent, Live, Tombstone, Invocation, Op, Look, Create, Set, Invoke, Mark, Ack, Reply}
use Rattle.world_model.specs.Acts.{parent_of, join_of, task_of, enter_of, inner, enter_ops, fan_ops, width_of, width_in, firsts, at_once, pace_ops, set_ops, acts, acts_of, stop_of, due_objects}
use Rattle.world_model.specs.Program.{Phase, Looking, Saving, Gathering, Reading, Calling, Creating, Acting, Joining, Marking, Acking, AttemptOver, Doing, Do, Ask, Nothing, call_of, input_at, asking, doing, marking, joining, next_of, absorb, adopted_phase, gathered_phase, after_act, called_phase, entered_phase}
use Rattle.world_model.specs.World.{function_of, answered_world, look_reply, create_reply, InvState, Attempt, World, objects_with, created_world, marked_world, with_bit, state_after_ack, with_state, performed_world, reply_to, lives_on, stepped_world, asked_world}
use Rattle.place_name.proofs.Sameness.{object_refl}
use Rattle.world_model.proofs.Gets.{get_append, get_pushed, get_set}
use Rattle.place_name.specs.Names.{Parent}
use Rattle.world_model.proofs.Keeps.{WorldKeeps, AttOk, parent_of_child, parent_child}
use Rattle.world_model.specs.AnyCode.Program as program
use Rattle.world_model.specs.Sites.{enter_sites, machine_code}
use Rattle.world_model.proofs.Fanned.{fan_same}

-- ---------------------------------------------------------------- what is kept

abbrev pub times : ℕ → ℕ → ℕ
times zero w = 0
times (suc n) w = w + times n w

-- objects that are not absent stay so
abbrev pub Stays : (Obj → Condition) → (Obj → Condition) → Type 0
Stays f g = (x : Obj) → f x ≢ Absent → g x ≢ Absent

-- the branches that lie a multiple of the limit before this one have an Out
abbrev pub Earlier : (Obj → Condition) → Parent → ℕ → Type 0
Earlier f q w = (m n : ℕ) → q.index ≡ m + times (suc n) w → f (Out (child q.place m q.count)) ≢ Absent

-- so at each fan around a scope
abbrev pub Paced : (Obj → Condition) → Scope → List Frame → Type 0
Paced f s [] = Unit {0}
Paced f s (fr ∷ around) = (q : Parent) → parent_of s ≡ Some q → (width_of fr ≢ 0 → Earlier f q (width_of fr)) × Paced f (scope_of q.place) around

-- past its first act, an end has its Out
abbrev pub PhasePaced : (Obj → Condition) → Invocation → Phase → Type 0
PhasePaced f i (Acting k (suc m)) = (x : Outcome) → stop_of i.site i.name.place.hop k ≡ Over x → f (Out (scope_of i.name.place)) ≢ Absent
PhasePaced f i (Acting k zero) = Unit {0}
PhasePaced f i Looking = Unit {0}
PhasePaced f i Saving = Unit {0}
PhasePaced f i (Gathering count raw used outs) = Unit {0}
PhasePaced f i Reading = Unit {0}
PhasePaced f i (Calling raw used) = Unit {0}
PhasePaced f i (Creating k) = Unit {0}
PhasePaced f i (Joining k) = Unit {0}
PhasePaced f i (Marking k m) = Unit {0}
PhasePaced f i (Acking finished) = Unit {0}
PhasePaced f i (AttemptOver finished) = Unit {0}

pub record Paces (f : Obj → Condition) (invs : List Invocation) (atts : List Attempt) : Type 0 where
  pub scopes : (k : ℕ) (i : Invocation) → slice_get invs k ≡ Some i → Paced f (scope_of i.name.place) i.site.around
  pub acting : (a : ℕ) (t : Attempt) (i : Invocation) → slice_get atts a ≡ Some t → slice_get invs t.inv ≡ Some i → PhasePaced f i t.phase

abbrev pub WorldPaces : World → Type 0
WorldPaces w = Paces w.objects w.invs w.atts

-- ---------------------------------------------------------------- objects stay

paced_more : (f g : Obj → Condition) → Stays f g → (s : Scope) (around : List Frame) → Paced f s around → Paced g s around
paced_more f g k s [] h = tt
paced_more f g k s (fr ∷ around) h = λ q e. (λ w m n i. k (Out (child q.place m q.count)) ((h q e).0 w m n i), paced_more f g k (scope_of q.place) around (h q e).1)

phase_stays : (f g : Obj → Condition) → Stays f g → (i : Invocation) (p : Phase) → PhasePaced f i p → PhasePaced g i p
phase_stays f g k i (Acting t (suc m)) h = λ x e. k (Out (scope_of i.name.place)) (h x e)
phase_stays f g k i (Acting t zero) h = tt
phase_stays f g k i Looking h = tt
phase_stays f g k i Saving h = tt
phase_stays f g k i (Gathering count raw used outs) h = tt
phase_stays f g k i Reading h = tt
phase_stays f g k i (Calling raw used) h = tt
phase_stays f g k i (Creating t) h = tt
phase_stays f g k i (Joining t) h = tt
phase_stays f g k i (Marking t m) h = tt
phase_stays f g k i (Acking finished) h = tt
phase_stays f g k i (AttemptOver finished) h = tt

stays_same : (f : Obj → Condition) → Stays f f
stays_same f x h = h

put_cond : (b : Bool) (c d : Condition) → c ≢ Absent → d ≢ Absent → cond b c d ≢ Absent
put_cond true c d h k = h
put_cond false c d h k = k

put_stays : (y : Obj) (c : Condition) (f : Obj → Condition) → c ≢ Absent → Stays f (objects_with y c f)
unfolding objects_with
put_stays y c f h x k = put_cond (object_same x y) c (f x) h k

put_own : (y : Obj) (c : Condition) (f : Obj → Condition) → c ≢ Absent → objects_with y c f y ≢ Absent
unfolding objects_with
put_own y c f h = let e : object_same y y ≡ true = object_refl y in subst (λ b. cond b c (f y) ≢ Absent) (sym e) h

live_not : (h : Held) → Live h ≢ Absent
live_not h e = cc

gone_not : ◌≢◌ {A = Condition} Tombstone Absent
gone_not e = cc

created_stays : (w : World) (a : ℕ) (y : Obj) (h : Held) (c : Condition) → Stays w.objects (created_world w a y h c).objects
created_stays w a y h Absent = put_stays y (Live h) w.objects (live_not h)
created_stays w a y h (Live x) = stays_same w.objects
created_stays w a y h Tombstone = stays_same w.objects

-- a Create leaves its object not absent
created_own : (w : World) (a : ℕ) (y : Obj) (h : Held) (c : Condition) → w.objects y ≡ c → (created_world w a y h c).objects y ≢ Absent
created_own w a y h Absent e = put_own y (Live h) w.objects (live_not h)
created_own w a y h (Live x) e = λ z. live_not x (sym e ∙ z)
created_own w a y h Tombstone e = λ z. gone_not (sym e ∙ z)

marked_stays : (w : World) (y : Obj) (c : Condition) → Stays w.objects (marked_world w y c).objects
marked_stays w y Absent = stays_same w.objects
marked_stays w y (Live x) = put_stays y Tombstone w.objects gone_not
marked_stays w y Tombstone = put_stays y Tombstone w.objects gone_not

bit_stays : (w : World) (p : Place) (index count : ℕ) (c : Condition) → Stays w.objects (with_bit w p index count c).objects
bit_stays w p index count Absent = put_stays (Bits p count) _ w.objects (live_not _)
bit_stays w p index count (Live h) = put_stays (Bits p count) _ w.objects (live_not _)
bit_stays w p index count Tombstone = stays_same w.objects

-- ---------------------------------------------------------------- worlds that differ in a part

objects_more : (f g : Obj → Condition) → Stays f g → (invs : List Invocation) (atts : List Attempt) → Paces f invs atts → Paces g invs atts
objects_more f g k invs atts P = record {
  scopes = λ n i e. paced_more f g k (scope_of i.name.place) i.site.around (P.scopes n i e);
  acting = λ a t i e d. phase_stays f g k i t.phase (P.acting a t i e d);
}

pub moved_paces : (f : Obj → Condition) (invs : List Invocation) (atts : List Attempt) → Paces f invs atts → (a : ℕ) (u : Attempt) → ((i : Invocation) → slice_get invs u.inv ≡ Some i → PhasePaced f i u.phase) → Paces f invs (slice_set atts a u)
moved_paces f invs atts P a u h = record {
  scopes = P.scopes;
  acting = λ b t i e d. elim (get_set atts a u b t e) [
    | inl p ↦ subst (λ (z : Attempt). (j : Invocation) → slice_get invs z.inv ≡ Some j → PhasePaced f j z.phase) p.1 h i d
    | inr q ↦ P.acting b t i q d
  ];
}

invoked_paces : (w : World) → WorldKeeps w → WorldPaces w → (v : Invocation) → Paced w.objects (scope_of v.name.place) v.site.around → Paces w.objects (w.invs ++ v ∷ []) w.atts
invoked_paces w K P v h = record {
  scopes = λ k i e. elim (get_pushed w.invs v k i e) [ inl p ↦ P.scopes k i p | inr q ↦ subst (λ (z : Invocation). Paced w.objects (scope_of z.name.place) z.site.around) q h ];
  acting = λ a t i e d.
      let c : AttOk w.opening w.invs w.journal a t.inv t.phase = K.attempts a t e in
      let same : c.invocation ≡ i = same_Some c.invocation i (sym (get_append w.invs (v ∷ []) t.inv c.invocation c.found) ∙ d) in
      subst (λ (z : Invocation). PhasePaced w.objects z t.phase) same (P.acting a t c.invocation e c.found);
}

created_parts : (w : World) (a : ℕ) (y : Obj) (h : Held) (c : Condition) → WorldPaces w → WorldPaces (created_world w a y h c)
created_parts w a y h Absent P = objects_more w.objects (objects_with y (Live h) w.objects) (put_stays y (Live h) w.objects (live_not h)) w.invs w.atts P
created_parts w a y h (Live x) P = P
created_parts w a y h Tombstone P = P

marked_parts : (w : World) (y : Obj) (c : Condition) → WorldPaces w → WorldPaces (marked_world w y c)
marked_parts w y Absent P = P
marked_parts w y (Live x) P = objects_more w.objects (objects_with y Tombstone w.objects) (put_stays y Tombstone w.objects gone_not) w.invs w.atts P
marked_parts w y Tombstone P = objects_more w.objects (objects_with y Tombstone w.objects) (put_stays y Tombstone w.objects gone_not) w.invs w.atts P

bit_parts : (w : World) (p : Place) (index count : ℕ) (c : Condition) → WorldPaces w → WorldPaces (with_bit w p index count c)
bit_parts w p index count Absent P = objects_more w.objects _ (bit_stays w p index count Absent) w.invs w.atts P
bit_parts w p index count (Live h) P = objects_more w.objects _ (bit_stays w p index count (Live h)) w.invs w.atts P
bit_parts w p index count Tombstone P = P

pub state_parts : (w : World) (n : ℕ) (f : InvState → InvState) (s : Option InvState) → WorldPaces w → WorldPaces (with_state w n f s)
state_parts w n f None P = P
state_parts w n f (Some s) P = P

-- what an operation may invoke
abbrev OpPaced : (Obj → Condition) → Op → Type 0
OpPaced f (Invoke v) = Paced f (scope_of v.name.place) v.site.around
OpPaced f (Look x) = Unit {0}
OpPaced f (Create x h) = Unit {0}
OpPaced f (Set p i c) = Unit {0}
OpPaced f (Mark x) = Unit {0}
OpPaced f Ack = Unit {0}

performed : (w : World) → WorldKeeps w → WorldPaces w → (a : ℕ) (t : Attempt) (op : Op) → OpPaced w.objects op → WorldPaces (performed_world w a t op)
performed w K P a t (Look x) h = P
performed w K P a t (Create x c) h = created_parts w a x c (w.objects x) P
performed w K P a t (Set p i c) h = bit_parts w p i c (w.objects (Bits p c)) P
performed w K P a t (Invoke v) h = invoked_paces w K P v h
performed w K P a t (Mark x) h = marked_parts w x (w.objects x) P
performed w K P a t Ack h = state_parts w t.inv state_after_ack (slice_get w.states t.inv) P

-- an operation, and the phase that follows it
op_step : (w : World) → WorldKeeps w → WorldPaces w → (a : ℕ) (t : Attempt) (i : Invocation) (p : Phase) (op : Op) → OpPaced w.objects op →
    ((j : Invocation) → slice_get (performed_world w a t op).invs t.inv ≡ Some j → PhasePaced (performed_world w a t op).objects j (absorb i a p (reply_to w op))) → WorldPaces (stepped_world w a t i p (Do op))
op_step w K P a t i p op h k =
    let v : World = performed_world w a t op in
    moved_paces v.objects v.invs v.atts (performed w K P a t op h) a (record { inv = t.inv; live = lives_on op; steps = suc t.steps; phase = absorb i a p (reply_to w op) }) k

-- ---------------------------------------------------------------- phases that ask for nothing

adopted_free : (f : Obj → Condition) (i : Invocation) (h : Held) → PhasePaced f i (adopted_phase h)
adopted_free f i (KeptAs k) = tt
adopted_free f i (OutcomeIs x) = tt
adopted_free f i (SavedAs m x us) = tt
adopted_free f i (BitsAre is) = tt
adopted_free f i (ArgIs x us) = tt

gathers_free : (f : Obj → Condition) (i j : Invocation) (a : ℕ) (k : names.Kind) → PhasePaced f j (program.gathering_phase k)
gathers_free f i j a names.Enter = tt
gathers_free f i j a names.Task = tt
gathers_free f i j a names.Join = tt

look_free : (f : Obj → Condition) (i j : Invocation) (a : ℕ) (r : Reply) → PhasePaced f j (Program.after_look i a r)
look_free f i j a Operations.WasAbsent = gathers_free f i j a i.name.kind
look_free f i j a (Operations.WasLive h) = adopted_free f j h
look_free f i j a Operations.WasTombstone = tt
look_free f i j a Operations.Won = tt
look_free f i j a (Operations.Had h) = tt
look_free f i j a Operations.HadTombstone = tt
look_free f i j a Operations.BitFull = tt
look_free f i j a Operations.BitNotFull = tt
look_free f i j a Operations.BitTombstone = tt
look_free f i j a Operations.Invoked = tt
look_free f i j a Operations.Finished = tt

abbrev Free : (Obj → Condition) → Invocation → Phase → Type 0
Free f j p = PhasePaced f j p

cond_free : (f : Obj → Condition) (j : Invocation) (b : Bool) (p q : Phase) → PhasePaced f j p → PhasePaced f j q → PhasePaced f j (cond b p q)
cond_free f j true p q h k = h
cond_free f j false p q h k = k

gathered_free : (f : Obj → Condition) (j : Invocation) (s : Spot) (a count : ℕ) (raw : Json) (used : List ℕ) (outs : List Outcome) → PhasePaced f j (gathered_phase s a count raw used outs)
gathered_free f j s a count raw used outs = cond_free f j (nat_lt (length outs) count) (Gathering count raw used outs) _ tt tt

saved_free : (f : Obj → Condition) (j : Invocation) (s : Spot) (a : ℕ) (h : Held) → PhasePaced f j (Program.saved_phase s a h)
saved_free f j s a (SavedAs m x us) = gathered_free f j s a m x us []
saved_free f j s a (KeptAs k) = tt
saved_free f j s a (OutcomeIs x) = tt
saved_free f j s a (BitsAre is) = tt
saved_free f j s a (ArgIs x us) = tt

more_free : (f : Obj → Condition) (j : Invocation) (s : Spot) (a count : ℕ) (raw : Json) (used : List ℕ) (outs : List Outcome) (h : Held) → PhasePaced f j (Program.next_gathered_phase s a count raw used outs h)
more_free f j s a count raw used outs (OutcomeIs x) = gathered_free f j s a count raw used (outs ++ x ∷ [])
more_free f j s a count raw used outs (SavedAs m x us) = tt
more_free f j s a count raw used outs (KeptAs k) = tt
more_free f j s a count raw used outs (BitsAre is) = tt
more_free f j s a count raw used outs (ArgIs x us) = tt

with_free : (f : Obj → Condition) (j : Invocation) (a : ℕ) (z : Option Json) → PhasePaced f j (entered_phase a z)
with_free f j a None = tt
with_free f j a (Some x) = tt

read_free : (f : Obj → Condition) (i j : Invocation) (a : ℕ) (k : names.Kind) (h : Held) → PhasePaced f j (program.read_phase machine_code i a k h)
read_free f i j a names.Enter (ArgIs x us) = tt
read_free f i j a names.Enter (SavedAs n x us) = with_free f j a (input_at i.site.around x (parent_of (scope_of i.name.place)))
read_free f i j a names.Enter (KeptAs k) = tt
read_free f i j a names.Enter (OutcomeIs x) = tt
read_free f i j a names.Enter (BitsAre is) = tt
read_free f i j a names.Task (ArgIs x us) = tt
read_free f i j a names.Task (SavedAs n x us) = tt
read_free f i j a names.Task (KeptAs k) = tt
read_free f i j a names.Task (OutcomeIs x) = tt
read_free f i j a names.Task (BitsAre is) = tt
read_free f i j a names.Join h = tt

-- looks are only answered so
looked : (f : Obj → Condition) (j : Invocation) (g : Reply → Phase) (c : Condition) → PhasePaced f j (g Operations.WasAbsent) → ((h : Held) → PhasePaced f j (g (Operations.WasLive h))) → PhasePaced f j (g Operations.WasTombstone) → PhasePaced f j (g (look_reply c))
looked f j g Absent a l m = a
looked f j g (Live h) a l m = l h
looked f j g Tombstone a l m = m

made_free : (f : Obj → Condition) (j : Invocation) (k : Kept) (c : Condition) → PhasePaced f j (Program.after_create k (create_reply c))
made_free f j k Absent = tt
made_free f j k (Live h) = adopted_free f j h
made_free f j k Tombstone = tt

-- ---------------------------------------------------------------- acts

firsts_length : {A : Type 0} (n : ℕ) (xs : List A) → length (firsts n xs) ≤ n
firsts_length zero xs = omega arith
firsts_length (suc n) [] = omega arith
firsts_length (suc n) (x ∷ xs) = let l : length (firsts n xs) ≤ n = firsts_length n xs in omega arith

once_length : {A : Type 0} (w : ℕ) (xs : List A) → w ≢ 0 → length (at_once w xs) ≤ w
once_length zero xs h = absurd (h refl)
once_length (suc w) xs h = firsts_length (suc w) xs

first_paced : (f : Obj → Condition) (x op : Op) → OpPaced f x → Some x ≡ Some op → OpPaced f op
first_paced f x op h e = subst (OpPaced f) (same_Some x op e) h

-- a list of Enters: each of them is paced if those with an index below its end are
enters_paced : (f : Obj → Condition) (around : List Frame) (p : Place) (index count : ℕ) (cs : List (Block × Json)) → ((n : ℕ) (b : Block) → n < length cs → Paced f (child p (index + n) count) around) →
    (m : ℕ) (op : Op) → slice_get (enter_ops around p index count cs) m ≡ Some op → OpPaced f op
enters_paced f around p index count [] h m op e = absurd (cc)
enters_paced f around p index count (c ∷ cs) h zero op e =
    let z : index + 0 ≡ index = omega arith in
    first_paced f (Invoke (enter_of around p index count c.0)) op (subst (λ (n : ℕ). Paced f (child p n count) around) z (h 0 c.0 (omega arith))) e
enters_paced f around p index count (c ∷ cs) h (suc m) op e =
    enters_paced f around p (suc index) count cs
    (λ n b l. let z : index + suc n ≡ suc index + n = omega arith in subst (λ (y : ℕ). Paced f (child p y count) around) z (h (suc n) b (omega arith))) m op e

module _ (f : Obj → Condition) (i : Invocation) (own : Paced f (scope_of i.name.place) i.site.around) where
  abbrev S : Scope
  S = scope_of i.name.place

  -- the branches that a fan invokes itself
  fan_paced : (name : Text) (hop : ℕ) (cs : List (Block × Json)) (m : ℕ) (op : Op) → slice_get (fan_ops i.site (at_hop S hop) name cs) m ≡ Some op → OpPaced f op
  fan_paced name hop [] zero op e = first_paced f (Invoke (join_of (record { block = i.site.block; name = name }) i.site.around (at_hop S hop))) op own e
  fan_paced name hop [] (suc m) op e = absurd (cc)
  fan_paced name hop (c ∷ cs) m op e =
      let fr : Frame = record { block = i.site.block; name = name } in
      let count : ℕ = suc (length cs) in
      let p : Place = at_hop S hop in
      enters_paced f (inner i.site name) p 0 count (at_once (width_of fr) (c ∷ cs))
      (λ n b l q e. let here : Parent = record { place = p; index = 0 + n; count = count } in
      let same : here ≡ q = same_Some here q (sym (parent_of_child p (0 + n) count) ∙ e) in
      subst (λ (z : Parent). (width_of fr ≢ 0 → Earlier f z (width_of fr)) × Paced f (scope_of z.place) i.site.around) same
      ((λ w m' n' k. absurd (let l' : length (at_once (width_of fr) (c ∷ cs)) ≤ width_of fr = once_length (width_of fr) (c ∷ cs) w in omega (arith, k, l, l'))), own))
      m op (subst (λ (z : List Op). slice_get z m ≡ Some op) (fan_same i.site p name c cs) e)

  set_paced : (q : Parent) (m : ℕ) (op : Op) → slice_get (Set q.place q.index q.count ∷ []) m ≡ Some op → OpPaced f op
  set_paced q zero op e = first_paced f (Set q.place q.index q.count) op tt e
  set_paced q (suc m) op e = absurd (cc)

  -- the branch that the end of this one invokes: its Out is there, and so are those before it
  next_paced : (q : Parent) → parent_of S ≡ Some q → (fr : Frame) (around : List Frame) → i.site.around ≡ fr ∷ around → (w : ℕ) → width_of fr ≡ suc w → f (Out S) ≢ Absent → Paced f (child q.place (q.index + suc w) q.count) (fr ∷ around)
  next_paced q e fr around u w wide out = λ r k.
      let next : Parent = record { place = q.place; index = q.index + suc w; count = q.count } in
      let same : next ≡ r = same_Some next r (sym (parent_of_child q.place (q.index + suc w) q.count) ∙ k) in
      let mine : (width_of fr ≢ 0 → Earlier f q (width_of fr)) × Paced f (scope_of q.place) around = subst (Paced f S) u own q e in
      let W : ℕ → Type 0 = λ z. Earlier f next z in
      let before : Earlier f q (suc w) = subst (Earlier f q) wide (mine.0 (λ z. absurd (let y : suc w ≡ 0 = sym wide ∙ z in cc))) in
      subst (λ (z : Parent). (width_of fr ≢ 0 → Earlier f z (width_of fr)) × Paced f (scope_of z.place) around) same
      ((λ ne. subst W (sym wide) (λ m n g. at m n g before)), mine.1)
    where
      at : (m n : ℕ) → q.index + suc w ≡ m + times (suc n) (suc w) → Earlier f q (suc w) → f (Out (child q.place m q.count)) ≢ Absent
      at m zero g before = let z : q.index ≡ m = omega arith in subst (λ (y : ℕ). f (Out (child q.place y q.count)) ≢ Absent) z (subst (λ (y : Scope). f (Out y) ≢ Absent) (parent_child S q e) out)
      at m (suc n) g before = before m n (omega arith)

  module _ (out : f (Out S) ≢ Absent) where
    pace_paced : (q : Parent) → parent_of S ≡ Some q → (fr : Frame) (around : List Frame) → i.site.around ≡ fr ∷ around → (w : ℕ) → width_of fr ≡ suc w → (b : Bool) (m : ℕ) (op : Op) →
        slice_get (cond b (Invoke (enter_of i.site.around q.place (q.index + suc w) q.count i.site.block) ∷ []) [] ++ (Set q.place q.index q.count ∷ [])) m ≡ Some op → OpPaced f op
    pace_paced q e fr around u w wide true zero op g =
        first_paced f (Invoke (enter_of i.site.around q.place (q.index + suc w) q.count i.site.block)) op
        (subst (Paced f (child q.place (q.index + suc w) q.count)) (sym u) (next_paced q e fr around u w wide out)) g
    pace_paced q e fr around u w wide true (suc m) op g = set_paced q m op g
    pace_paced q e fr around u w wide false m op g = set_paced q m op g

    width_paced : (q : Parent) → parent_of S ≡ Some q → (fr : Frame) (around : List Frame) → i.site.around ≡ fr ∷ around → (w : ℕ) → width_of fr ≡ w → (m : ℕ) (op : Op) →
        slice_get (pace_ops i.site q w ++ (Set q.place q.index q.count ∷ [])) m ≡ Some op → OpPaced f op
    width_paced q e fr around u zero wide m op g = set_paced q m op g
    width_paced q e fr around u (suc w) wide m op g = pace_paced q e fr around u w wide (nat_lt (q.index + suc w) q.count) m op g

    up_paced : (q : Parent) → parent_of S ≡ Some q → (around : List Frame) → i.site.around ≡ around → (m : ℕ) (op : Op) → slice_get (pace_ops i.site q (width_in around) ++ (Set q.place q.index q.count ∷ [])) m ≡ Some op → OpPaced f op
    up_paced q e [] u m op g = set_paced q m op g
    up_paced q e (fr ∷ around) u m op g = width_paced q e fr around u (width_of fr) refl m op g

    sets_paced : (z : Option Parent) → parent_of S ≡ z → (m : ℕ) (op : Op) → slice_get (set_ops i.site z) m ≡ Some op → OpPaced f op
    sets_paced None q m op e = absurd (cc)
    sets_paced (Some p) q m op e = up_paced p q i.site.around refl m op e

  acts_paced : (stop : Stop) (m : ℕ) (op : Op) → ((x : Outcome) (n : ℕ) → m ≡ suc n → stop ≡ Over x → f (Out S) ≢ Absent) → slice_get (acts_of i.site S stop) m ≡ Some op → OpPaced f op
  acts_paced (Call name hop raw used) zero op h e = first_paced f (Create (Arg (name_at S hop names.Task)) (ArgIs raw used)) op tt e
  acts_paced (Call name hop raw used) (suc zero) op h e = first_paced f (Invoke (task_of i.site S hop name)) op own e
  acts_paced (Call name hop raw used) (suc (suc m)) op h e = absurd (cc)
  acts_paced (Fan name hop raw used cs) zero op h e = first_paced f (Create (Saved (at_hop S hop)) (SavedAs (length (enter_sites (inner i.site name) cs)) raw used)) op tt e
  acts_paced (Fan name hop raw used cs) (suc m) op h e = fan_paced name hop cs m op e
  acts_paced (Over x) zero op h e = first_paced f (Create (Out S) (OutcomeIs x)) op tt e
  acts_paced (Over x) (suc m) op h e = sets_paced (h x m refl refl) (parent_of S) refl m op e

-- past the first act of an end its Out is there
first_out : (w : World) (a : ℕ) (t : Attempt) (i : Invocation) (x : Outcome) (op : Op) (stop : Stop) → stop ≡ Over x → slice_get (acts_of i.site (scope_of i.name.place) stop) 0 ≡ Some op → (performed_world w a t op).objects (Out (scope_of i.name.place)) ≢ Absent
first_out w a t i x op stop s e =
    let S : Scope = scope_of i.name.place in
    let g : Some (Create (Out S) (OutcomeIs x)) ≡ Some op = subst (λ z. slice_get (acts_of i.site S z) 0 ≡ Some op) s e in
    subst (λ (z : Op). (performed_world w a t z).objects (Out S) ≢ Absent) (same_Some (Create (Out S) (OutcomeIs x)) op g) (created_own w a (Out S) (OutcomeIs x) (w.objects (Out S)) refl)

perform_stays : (w : World) (a : ℕ) (t : Attempt) (op : Op) → Stays w.objects (performed_world w a t op).objects
perform_stays w a t (Look x) = stays_same w.objects
perform_stays w a t (Create x c) = created_stays w a x c (w.objects x)
perform_stays w a t (Set p i c) = bit_stays w p i c (w.objects (Bits p c))
perform_stays w a t (Invoke v) = stays_same w.objects
perform_stays w a t (Mark x) = marked_stays w x (w.objects x)
perform_stays w a t Ack = states_same (slice_get w.states t.inv)
  where
    states_same : (s : Option InvState) → Stays w.objects (with_state w t.inv state_after_ack s).objects
    states_same None = stays_same w.objects
    states_same (Some s) = stays_same w.objects

after_paced : (f : Obj → Condition) (i : Invocation) (k : Kept) (m all : ℕ) (r : Reply) → PhasePaced f i (Acting k (suc m)) → PhasePaced f i (after_act k m all r)
after_paced f i k m all Operations.BitFull h = tt
after_paced f i k m all Operations.BitNotFull h = tt
after_paced f i k m all Operations.BitTombstone h = tt
after_paced f i k m all Operations.WasAbsent h = cond_free f i (nat_lt (suc m) all) (Acting k (suc m)) (Marking k 0) h tt
after_paced f i k m all (Operations.WasLive x) h = cond_free f i (nat_lt (suc m) all) (Acting k (suc m)) (Marking k 0) h tt
after_paced f i k m all Operations.WasTombstone h = cond_free f i (nat_lt (suc m) all) (Acting k (suc m)) (Marking k 0) h tt
after_paced f i k m all Operations.Won h = cond_free f i (nat_lt (suc m) all) (Acting k (suc m)) (Marking k 0) h tt
after_paced f i k m all (Operations.Had x) h = cond_free f i (nat_lt (suc m) all) (Acting k (suc m)) (Marking k 0) h tt
after_paced f i k m all Operations.HadTombstone h = cond_free f i (nat_lt (suc m) all) (Acting k (suc m)) (Marking k 0) h tt
after_paced f i k m all Operations.Invoked h = cond_free f i (nat_lt (suc m) all) (Acting k (suc m)) (Marking k 0) h tt
after_paced f i k m all Operations.Finished h = cond_free f i (nat_lt (suc m) all) (Acting k (suc m)) (Marking k 0) h tt

-- the invocation of an attempt stays the same
same_inv_after : (w : World) → WorldKeeps w → (a : ℕ) (t : Attempt) (i : Invocation) → slice_get w.invs t.inv ≡ Some i → (op : Op) (j : Invocation) → slice_get (performed_world w a t op).invs t.inv ≡ Some j → i ≡ j
same_inv_after w K a t i at (Look x) j e = same_Some i j (sym at ∙ e)
same_inv_after w K a t i at (Create x c) j e = by (w.objects x) e
  where
    by : (c' : Condition) → slice_get (created_world w a x c c').invs t.inv ≡ Some j → i ≡ j
    by Absent e = same_Some i j (sym at ∙ e)
    by (Live h) e = same_Some i j (sym at ∙ e)
    by Tombstone e = same_Some i j (sym at ∙ e)
same_inv_after w K a t i at (Set p n c) j e = by (w.objects (Bits p c)) e
  where
    by : (c' : Condition) → slice_get (with_bit w p n c c').invs t.inv ≡ Some j → i ≡ j
    by Absent e = same_Some i j (sym at ∙ e)
    by (Live h) e = same_Some i j (sym at ∙ e)
    by Tombstone e = same_Some i j (sym at ∙ e)
same_inv_after w K a t i at (Invoke v) j e = same_Some i j (sym (get_append w.invs (v ∷ []) t.inv i at) ∙ e)
same_inv_after w K a t i at (Mark x) j e = by (w.objects x) e
  where
    by : (c' : Condition) → slice_get (marked_world w x c').invs t.inv ≡ Some j → i ≡ j
    by Absent e = same_Some i j (sym at ∙ e)
    by (Live h) e = same_Some i j (sym at ∙ e)
    by Tombstone e = same_Some i j (sym at ∙ e)
same_inv_after w K a t i at Ack j e = by (slice_get w.states t.inv) e
  where
    by : (s : Option InvState) → slice_get (with_state w t.inv state_after_ack s).invs t.inv ≡ Some j → i ≡ j
    by None e = same_Some i j (sym at ∙ e)
    by (Some s) e = same_Some i j (sym at ∙ e)

module _ (w : World) (K : WorldKeeps w) (P : WorldPaces w) (a : ℕ) (t : Attempt) (i : Invocation) (found : slice_get w.atts a ≡ Some t) (at : slice_get w.invs t.inv ≡ Some i) where
  own_paced : Paced w.objects (scope_of i.name.place) i.site.around
  own_paced = P.scopes t.inv i at

  -- at every invocation
  everywhere : (op : Op) (p : Phase) → ((f : Obj → Condition) (j : Invocation) → PhasePaced f j p) → (j : Invocation) → slice_get (performed_world w a t op).invs t.inv ≡ Some j → PhasePaced (performed_world w a t op).objects j p
  everywhere op p h j e = h (performed_world w a t op).objects j

  act_paced : (k : Kept) (m : ℕ) → PhasePaced w.objects i (Acting k m) → (z : Option Op) → slice_get (acts i k) m ≡ z → WorldPaces (stepped_world w a t i (Acting k m) (doing z))
  unfolding program.absorb
  act_paced k m d None e = P
  act_paced k m d (Some op) e =
      op_step w K P a t i (Acting k m) op
      (acts_paced w.objects i own_paced (stop_of i.site i.name.place.hop k) m op (λ x n q s. later m d n q x s) e)
      (λ j g. let same : i ≡ j = same_inv_after w K a t i at op j g in
      subst (λ (z : Invocation). PhasePaced (performed_world w a t op).objects z (after_act k m (length (acts i k)) (reply_to w op))) same
      (after_paced (performed_world w a t op).objects i k m (length (acts i k)) (reply_to w op) (λ x s. there m d x s e)))
    where
      later : (m : ℕ) → PhasePaced w.objects i (Acting k m) → (n : ℕ) → m ≡ suc n → (x : Outcome) → stop_of i.site i.name.place.hop k ≡ Over x → w.objects (Out (scope_of i.name.place)) ≢ Absent
      later zero d n q x s = absurd (cc)
      later (suc m) d n q x s = d x s

      there : (m : ℕ) → PhasePaced w.objects i (Acting k m) → (x : Outcome) → stop_of i.site i.name.place.hop k ≡ Over x → slice_get (acts i k) m ≡ Some op → (performed_world w a t op).objects (Out (scope_of i.name.place)) ≢ Absent
      there zero d x s e = first_out w a t i x op (stop_of i.site i.name.place.hop k) s e
      there (suc m) d x s e = perform_stays w a t op (Out (scope_of i.name.place)) (d x s)

  join_paced : (k : Kept) (z : Option Parent) → parent_of (scope_of i.name.place) ≡ z → (around : List Frame) → i.site.around ≡ around → WorldPaces (stepped_world w a t i (Joining k) (joining z around))
  unfolding program.absorb
  join_paced k None e around u = P
  join_paced k (Some q) e [] u = P
  join_paced k (Some q) e (fr ∷ around) u =
      op_step w K P a t i (Joining k) (Invoke (join_of fr around q.place)) ((subst (Paced w.objects (scope_of i.name.place)) u own_paced q e).1) (λ j g. tt)

  mark_paced : (k : Kept) (m : ℕ) (z : Option Obj) → WorldPaces (stepped_world w a t i (Marking k m) (marking z))
  unfolding program.absorb
  mark_paced k m None = P
  mark_paced k m (Some x) = op_step w K P a t i (Marking k m) (Mark x) tt (λ j g. cond_free (marked_world w x (w.objects x)).objects j (nat_lt (suc m) (length (due_objects i.name k.count))) (Marking k (suc m)) (Acking true) tt tt)

  ask_paced : (p : Phase) (z : Option (Text × Json)) → WorldPaces (stepped_world w a t i p (asking z))
  ask_paced p None = P
  ask_paced p (Some c) = P

  pub step_paced : (p : Phase) → PhasePaced w.objects i p → WorldPaces (stepped_world w a t i p (next_of i p))
  unfolding program.next_of program.absorb
  step_paced Looking d = op_step w K P a t i Looking (Look (Check i.name)) tt (λ j g. look_free w.objects i j a (look_reply (w.objects (Check i.name))))
  step_paced Saving d =
      op_step w K P a t i Saving (Look (Saved i.name.place)) tt
      (λ j g. looked w.objects j (λ r. Program.after_saved i.site.spot a r) (w.objects (Saved i.name.place)) tt (λ h. saved_free w.objects j i.site.spot a h) tt)
  step_paced (Gathering count raw used outs) d =
      op_step w K P a t i (Gathering count raw used outs) (Look (Out (child i.name.place (length outs) count))) tt
      (λ j g. looked w.objects j (λ r. Program.after_out i.site.spot a count raw used outs r) (w.objects (Out (child i.name.place (length outs) count))) tt (λ h. more_free w.objects j i.site.spot a count raw used outs h) tt)
  step_paced Reading d =
      op_step w K P a t i Reading (Look (Program.source i)) tt
      (λ j g. looked w.objects j (λ r. Program.after_read i a r) (w.objects (Program.source i)) tt (λ h. read_free w.objects i j a i.name.kind h) tt)
  step_paced (Calling raw used) d = ask_paced (Calling raw used) (call_of i.site raw)
  step_paced (Creating k) d = op_step w K P a t i (Creating k) (Create (Check i.name) (KeptAs k)) tt (λ j g. made_free (created_world w a (Check i.name) (KeptAs k) (w.objects (Check i.name))).objects j k (w.objects (Check i.name)))
  step_paced (Acting k m) d = act_paced k m d (slice_get (acts i k) m) refl
  step_paced (Joining k) d = join_paced k (parent_of (scope_of i.name.place)) refl i.site.around refl
  step_paced (Marking k m) d = mark_paced k m (slice_get (due_objects i.name k.count) m)
  step_paced (Acking finished) d = op_step w K P a t i (Acking finished) Ack tt (λ j g. tt)
  step_paced (AttemptOver finished) d = P

  back_paced : (j : Invocation) (p : Phase) (x : Outcome) → PhasePaced w.objects j p → PhasePaced w.objects j (called_phase i a p x)
  back_paced j (Calling raw used) x h = tt
  back_paced j Looking x h = h
  back_paced j Saving x h = h
  back_paced j (Gathering count raw used outs) x h = h
  back_paced j Reading x h = h
  back_paced j (Creating k) x h = h
  back_paced j (Acting k m) x h = h
  back_paced j (Joining k) x h = h
  back_paced j (Marking k m) x h = h
  back_paced j (Acking finished) x h = h
  back_paced j (AttemptOver finished) x h = h

  answered_paced : (x : Json) (f : Option FnKind) → WorldPaces (answered_world w a t i x f)
  answered_paced x None = P
  answered_paced x (Some kind) =
      let o : Outcome = answer kind x a in
      moved_paces w.objects w.invs w.atts P a (record { inv = t.inv; live = true; steps = suc t.steps; phase = called_phase i a t.phase o })
      (λ j e. back_paced j t.phase o (P.acting a t j found e))

  pub answer_paced : (d : Doing) → WorldPaces (asked_world w a t i d)
  answer_paced (Do op) = P
  answer_paced Nothing = P
  answer_paced (Ask r x) = answered_paced x (function_of w.opening.functions r)
