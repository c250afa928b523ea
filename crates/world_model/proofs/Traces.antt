-- The acts keep what the lists show.
use Rattle.std.proofs.Common.{ℕ, zero, suc, ◌+◌, ◌<◌, ◌≤◌, ◌≡◌, ◌≢◌, inl, inr, refl, sym, ap, ◌∙◌, subst, Bool, true, false, cond, nat_lt, List, [], ◌∷◌, ◌++◌, length, slice_get, Option, Some, None, arith, append-nil}
use Rattle.std.proofs.lemmas.Option.{same_Some}
use Rattle.std.proofs.lemmas.Bool.{ltb-false}
use Rattle.std.proofs.lemmas.Bool.Decides.{eqb_tells}
use Rattle.asl_model.specs.Data.{Text, Json}
use Rattle.asl_model.specs.Names as names
use Rattle.asl_model.specs.Names.{Scope, Place, Name, at_hop, scope_of}
use Rattle.asl_model.specs.Machine.{Block}
use Rattle.asl_model.specs.Stretch.{Stop, Call, Fan, Over}
use Rattle.asl_model.specs.Laws.{In}
use Rattle.place_name.specs.declared.obj.Obj.{Obj}
use Rattle.place_name.specs.declared.obj.Obj.TheVariants.{Check, Out, Saved, Bits, Arg}
use Rattle.place_name.specs.Names.{Parent}
use Rattle.world_model.specs.Operations.{name_at, Frame, Site, Kept, Held, BitsAre, Condition, Absent, Live, Tombstone, Invocation, Op, Look, Create, Set, Invoke, Mark, Ack, BitFull, BitNotFull}
use Rattle.world_model.specs.Acts.{parent_of, join_name, join_of, task_of, enter_of, inner, width_of, width_in, at_once, enter_ops, fan_ops, pace_ops, set_ops, acts, acts_of, stop_of, due_objects}
use Rattle.world_model.specs.Program.{Acting, Joining, Marking, Do, doing, joining, after_act}
use Rattle.world_model.specs.World.{Opening, Entry, InvState, Attempt, World, objects_with, created_world, with_bit, set_reply, has_bit, has_all, bits_of, create_reply, fresh_state, moved_world, stepped_world, entries_of}
use Rattle.world_model.proofs.Gets.{get_append, get_pushed, get_last, place_of}
use Rattle.world_model.proofs.Keeps.{WorldKeeps, KeptOk, FrameOk, FramesOk, OpOk, Follows, adopted_stop, acts_ok, leads, parent_of_child, root_no_parent}
use Rattle.world_model.proofs.Every.{other_get}
use Rattle.world_model.proofs.Leaves.{Objects, HasInv, HasCount, Trace, Acted, ActedAll, before_of, CalledJoin, InvitedOk, LeftOk, ActsLeft, JoinsLeft, PhaseLeft, Leaves, WorldLeaves, more_same, Later, left_later, acts_later, joins_later, phase_later, put_there, put_later, put_left}
use Rattle.world_model.proofs.Looks.{moved_left, left_at, live_present, gone_present, le_cases}
use Rattle.world_model.specs.AnyCode.Program as program
use Rattle.world_model.proofs.Fanned.{fan_same}

-- ---------------------------------------------------------------- what is among the acts

abbrev pub EachOp : (Op → Type 0) → List Op → Type 0
EachOp P xs = (m : ℕ) (op : Op) → slice_get xs m ≡ Some op → P op

each_none : (P : Op → Type 0) → EachOp P []
each_none P m op e = absurd (cc)

each_first : (P : Op → Type 0) (x : Op) (xs : List Op) → P x → EachOp P xs → EachOp P (x ∷ xs)
each_first P x xs h f zero op e = subst P (same_Some x op e) h
each_first P x xs h f (suc m) op e = f m op e

-- after the first act of a fan with branches, or of an end
abbrev EntersOrSets : Op → Type 0
EntersOrSets (Invoke v) = v.name.kind ≡ names.Enter
EntersOrSets (Set p index count) = Unit {0}
EntersOrSets _ = ⊥

abbrev pub Enters : Op → Type 0
Enters (Invoke v) = v.name.kind ≡ names.Enter
Enters _ = ⊥

enters_each : (around : List Frame) (p : Place) (index count : ℕ) (cs : List (Block × Json)) → EachOp Enters (enter_ops around p index count cs)
enters_each around p index count [] = each_none Enters
enters_each around p index count (c ∷ cs) = each_first Enters (Invoke (enter_of around p index count c.0)) (enter_ops around p (suc index) count cs) refl (enters_each around p (suc index) count cs)

pub fan_each : (site : Site) (p : Place) (name : Text) (c : Block × Json) (cs : List (Block × Json)) → EachOp Enters (fan_ops site p name (c ∷ cs))
fan_each site p name c cs = subst (EachOp Enters) (sym (fan_same site p name c cs)) (enters_each (inner site name) p 0 (suc (length cs)) (at_once (width_of (record { block = site.block; name = name })) (c ∷ cs)))

-- the acts of an end after its Out, and that its Set is the last
record EndActs (ops : List Op) : Type 0 where
  each : EachOp EntersOrSets ops
  last : (m : ℕ) (p : Place) (index count : ℕ) → slice_get ops m ≡ Some (Set p index count) → length ops ≤ suc m

set_acts : (p : Place) (index count : ℕ) → EndActs (Set p index count ∷ [])
set_acts p index count = record { each = each_first EntersOrSets (Set p index count) [] tt (each_none EntersOrSets); last = λ m q i c e. omega arith }

abbrev then_set : Invocation → Place → (index count : ℕ) → List Op
then_set v p index count = Invoke v ∷ Set p index count ∷ []

invoke_last : (v : Invocation) (p : Place) (index count : ℕ) (m : ℕ) (q : Place) (i c : ℕ) → slice_get (then_set v p index count) m ≡ Some (Set q i c) → 2 ≤ suc m
invoke_last v p index count zero q i c e = absurd (cc)
invoke_last v p index count (suc m) q i c e = omega arith

pace_acts : (site : Site) (q : Parent) (w : ℕ) → EndActs (pace_ops site q w ++ (Set q.place q.index q.count ∷ []))
pace_acts site q zero = set_acts q.place q.index q.count
pace_acts site q (suc w) =
    let v : Invocation = enter_of site.around q.place (q.index + suc w) q.count site.block in
    elim (nat_lt (q.index + suc w) q.count) as (λ b. EndActs (cond b (Invoke v ∷ []) [] ++ (Set q.place q.index q.count ∷ []))) [
      | true ↦ record {
        each = each_first EntersOrSets (Invoke v) (Set q.place q.index q.count ∷ []) refl (set_acts q.place q.index q.count).each;
        last = invoke_last v q.place q.index q.count;
      }
      | false ↦ set_acts q.place q.index q.count
    ]

sets_acts : (site : Site) (z : Option Parent) → EndActs (set_ops site z)
sets_acts site None = record { each = each_none EntersOrSets; last = λ m p i c e. absurd (cc) }
sets_acts site (Some q) = pace_acts site q (width_in site.around)

-- after a Set there is no act
pub set_last : (site : Site) (s : Scope) (stop : Stop) (m : ℕ) (p : Place) (index count : ℕ) → slice_get (acts_of site s stop) m ≡ Some (Set p index count) → length (acts_of site s stop) ≤ suc m
set_last site s (Call name hop raw used) zero p i c e = absurd (cc)
set_last site s (Call name hop raw used) (suc zero) p i c e = absurd (cc)
set_last site s (Call name hop raw used) (suc (suc m)) p i c e = absurd (cc)
set_last site s (Fan name hop raw used cs) zero p i c e = absurd (cc)
set_last site s (Fan name hop raw used []) (suc zero) p i c e = absurd (cc)
set_last site s (Fan name hop raw used []) (suc (suc m)) p i c e = absurd (cc)
set_last site s (Fan name hop raw used (d ∷ cs)) (suc m) p i c e = absurd (fan_each site (at_hop s hop) name d cs m (Set p i c) e)
set_last site s (Over x) zero p i c e = absurd (cc)
set_last site s (Over x) (suc m) p i c e = let l : length (set_ops site (parent_of s)) ≤ suc m = (sets_acts site (parent_of s)).last m p i c e in omega arith

-- an Arg that is saved is a Task's
arg_task : (site : Site) (s : Scope) (stop : Stop) (m : ℕ) (n : Name) (h : Held) → slice_get (acts_of site s stop) m ≡ Some (Create (Arg n) h) → n.kind ≡ names.Task
arg_task site s (Call name hop raw used) zero n h e = let z : name_at s hop names.Task ≡ n = cc in ap (λ (y : Name). y.kind) (sym z)
arg_task site s (Call name hop raw used) (suc zero) n h e = absurd (cc)
arg_task site s (Call name hop raw used) (suc (suc m)) n h e = absurd (cc)
arg_task site s (Fan name hop raw used cs) zero n h e = absurd (cc)
arg_task site s (Fan name hop raw used []) (suc zero) n h e = absurd (cc)
arg_task site s (Fan name hop raw used []) (suc (suc m)) n h e = absurd (cc)
arg_task site s (Fan name hop raw used (d ∷ cs)) (suc m) n h e = absurd (fan_each site (at_hop s hop) name d cs m (Create (Arg n) h) e)
arg_task site s (Over x) zero n h e = absurd (cc)
arg_task site s (Over x) (suc m) n h e = absurd ((sets_acts site (parent_of s)).each m (Create (Arg n) h) e)

arg_left : (n : Name) → n.kind ≡ names.Task → (count : ℕ) → In (Arg n) (before_of n count n.kind)
arg_left n k count = subst (λ z. In (Arg n) (before_of n count z)) (sym k) (inl refl)

-- an Enter needs no fan
enter_invited : (o : Opening) (f : Objects) (j : List Entry) (v : Invocation) → v.name.kind ≡ names.Enter → InvitedOk o f j v
enter_invited o f j v k e = absurd (let z : names.Enter ≡ names.Join = sym k ∙ e in cc)

-- what acts invoke
acts_invite : (o : Opening) (f : Objects) (j : List Entry) (i : Invocation) (stop : Stop) → Follows o j i stop → (m : ℕ) (v : Invocation) → slice_get (acts_of i.site (scope_of i.name.place) stop) m ≡ Some (Invoke v) → InvitedOk o f j v
acts_invite o f j i (Call name hop raw used) F zero v e = absurd (cc)
acts_invite o f j i (Call name hop raw used) F (suc zero) v e =
    let z : task_of i.site (scope_of i.name.place) hop name ≡ v = cc in
    λ k. absurd (let y : names.Task ≡ names.Join = ap (λ (u : Invocation). u.name.kind) z ∙ k in cc)
acts_invite o f j i (Call name hop raw used) F (suc (suc m)) v e = absurd (cc)
acts_invite o f j i (Fan name hop raw used cs) F zero v e = absurd (cc)
acts_invite o f j i (Fan name hop raw used []) F (suc zero) v e =
    let z : join_of (record { block = i.site.block; name = name }) i.site.around (at_hop (scope_of i.name.place) hop) ≡ v = cc in
    let fan : HasCount o j (at_hop (scope_of i.name.place) hop) 0 = record { raw = raw; used = used; fan = record { block = i.site.block; name = name; branches = []; leads = leads o j i name hop raw used [] F; count_is = refl } } in
    subst (InvitedOk o f j) z (λ k. record { count = 0; fan = fan; bits = inl refl })
acts_invite o f j i (Fan name hop raw used []) F (suc (suc m)) v e = absurd (cc)
acts_invite o f j i (Fan name hop raw used (d ∷ cs)) F (suc m) v e = enter_invited o f j v (fan_each i.site (at_hop (scope_of i.name.place) hop) name d cs m (Invoke v) e)
acts_invite o f j i (Over x) F zero v e = absurd (cc)
acts_invite o f j i (Over x) F (suc m) v e = enter_invited o f j v ((sets_acts i.site (parent_of (scope_of i.name.place))).each m (Invoke v) e)

-- the fan around a scope has the count of its parent
pub frames_count : (o : Opening) (j : List Entry) (s : Scope) (b : Block) (around : List Frame) → FramesOk o j s b around → (q : Parent) → parent_of s ≡ Some q → HasCount o j q.place q.count
frames_count o j s b [] h q e = absurd (root_no_parent s h q e)
frames_count o j s b (f ∷ around) h q e =
    let c : FrameOk o j s b f = h.0 in
    let n : ℕ = length c.branches in
    let here : Parent = record { place = c.place; index = c.index; count = n } in
    let hq : here ≡ q = same_Some here q (sym (parent_of_child c.place c.index n) ∙ ap parent_of (sym c.scope_is) ∙ e) in
    subst (λ (z : Parent). HasCount o j z.place z.count) hq (record { raw = c.raw; used = c.used; fan = record { block = f.block; name = f.name; branches = c.branches; leads = c.leads; count_is = refl } })

-- ---------------------------------------------------------------- one act more

acted_more : (f : Objects) (invs : List Invocation) (ops : List Op) (m : ℕ) (op : Op) → slice_get ops m ≡ Some op → Trace f invs op → Acted f invs ops m → Acted f invs ops (suc m)
acted_more f invs ops m op e t g = λ l x q lt.
    elim (le_cases l m (omega arith)) [
      | inl k ↦ g l x q k
      | inr k ↦
          let z : Some op ≡ Some x = sym e ∙ ap (slice_get ops) (sym k) ∙ q in
          subst (Trace f invs) (same_Some op x z) t
    ]

acted_all : (f : Objects) (invs : List Invocation) (ops : List Op) (m : ℕ) → Acted f invs ops m → length ops ≤ m → ActedAll f invs ops
acted_all f invs ops m g l = λ y op e. let k : y < length ops = place_of ops y op e in g y op e (omega arith)

no_marks : (f : Objects) (n : Name) (count : ℕ) → (l : ℕ) (x : Obj) → slice_get (due_objects n count) l ≡ Some x → l < 0 → f x ≡ Tombstone
no_marks f n count l x e lt = absurd (omega arith)

to_marks : (w : World) (i : Invocation) (k : Kept) (m : ℕ) → ActsLeft w.opening w.objects w.invs w.journal i k m → length (acts i k) ≤ m → PhaseLeft w.opening w.objects w.invs w.journal i (Marking k 0)
to_marks w i k m d l = record { ready = d.ready; own = d.own; acted = acted_all w.objects w.invs (acts i k) m d.acted l; gone = no_marks w.objects i.name k.count }

-- the phase after the act at that number
after_left : (w : World) (i : Invocation) (k : Kept) (m : ℕ) → ActsLeft w.opening w.objects w.invs w.journal i k (suc m) → (b : Bool) → nat_lt (suc m) (length (acts i k)) ≡ b →
    PhaseLeft w.opening w.objects w.invs w.journal i (cond b (Acting k (suc m)) (Marking k 0))
after_left w i k m d true e = d
after_left w i k m d false e = to_marks w i k (suc m) d (ltb-false (suc m) (length (acts i k)) e)

-- the act at that number is done
one_act : (w : World) (i : Invocation) (k : Kept) (m : ℕ) (op : Op) → slice_get (acts i k) m ≡ Some op → Trace w.objects w.invs op → ActsLeft w.opening w.objects w.invs w.journal i k m →
    ActsLeft w.opening w.objects w.invs w.journal i k (suc m)
one_act w i k m op e t d = record { ready = d.ready; own = d.own; acted = acted_more w.objects w.invs (acts i k) m op e t d.acted }

-- ---------------------------------------------------------------- a Create of another object

new_later : (w : World) (y : Obj) (h : Held) → w.objects y ≡ Absent → Later w.opening w.objects (objects_with y (Live h) w.objects) w.invs w.invs w.journal w.journal
new_later w y h e =
    put_later w.opening w.objects w.invs w.journal w.journal y (Live h) (more_same w.opening w.journal) (λ q. cc) (λ q. let z : Absent ≡ Tombstone = sym e ∙ q in cc)
    (λ p count g q r. let z : Absent ≡ Live g = sym e ∙ r in cc)

no_entry : (w : World) (y : Obj) (h : Held) (a : ℕ) → entries_of y h a ≡ [] → w.journal ≡ w.journal ++ entries_of y h a
no_entry w y h a n = sym (append-nil w.journal) ∙ ap (λ (z : List Entry). w.journal ++ z) (sym n)

new_object : (w : World) → WorldLeaves w → (a : ℕ) (y : Obj) (h : Held) → entries_of y h a ≡ [] → LeftOk w.opening (objects_with y (Live h) w.objects) w.invs w.journal y (Live h) →
    w.objects y ≡ Absent → WorldLeaves (created_world w a y h Absent)
new_object w L a y h n ok e =
    subst (Leaves w.opening (objects_with y (Live h) w.objects) w.invs w.states w.atts) (no_entry w y h a n) (put_left w.opening w.objects w.invs w.states w.atts w.journal w.journal L y (Live h) (new_later w y h e) ok)

new_acts : (w : World) (a : ℕ) (y : Obj) (h : Held) → entries_of y h a ≡ [] → w.objects y ≡ Absent → (i : Invocation) (k : Kept) (m : ℕ) → ActsLeft w.opening w.objects w.invs w.journal i k m →
    ActsLeft w.opening (objects_with y (Live h) w.objects) w.invs (w.journal ++ entries_of y h a) i k m
new_acts w a y h n e i k m d =
    subst (λ z. ActsLeft w.opening (objects_with y (Live h) w.objects) w.invs z i k m) (no_entry w y h a n)
    (acts_later w.opening w.objects (objects_with y (Live h) w.objects) w.invs w.invs w.journal w.journal (new_later w y h e) i k m d)

create_left : (w : World) → WorldLeaves w → (a : ℕ) (t : Attempt) (i : Invocation) (k : Kept) → slice_get w.invs t.inv ≡ Some i → (m : ℕ) →
    ActsLeft w.opening w.objects w.invs w.journal i k m → (y : Obj) (h : Held) → slice_get (acts i k) m ≡ Some (Create y h) → entries_of y h a ≡ [] →
    ((f : Objects) → LeftOk w.opening f w.invs w.journal y (Live h)) → (c : Condition) → w.objects y ≡ c →
    WorldLeaves (moved_world (created_world w a y h c) a t true (after_act k m (length (acts i k)) (create_reply c)))
create_left w L a t i k at m d y h op n ok Absent e =
    let v : World = created_world w a y h Absent in
    moved_left v a t i true (cond (nat_lt (suc m) (length (acts i k))) (Acting k (suc m)) (Marking k 0)) (new_object w L a y h n (ok (objects_with y (Live h) w.objects)) e) at
    (after_left v i k m (one_act v i k m (Create y h) op (live_present v.objects y h (put_there w.objects y (Live h))) (new_acts w a y h n e i k m d)) (nat_lt (suc m) (length (acts i k))) refl)
create_left w L a t i k at m d y h op n ok (Live x) e =
    moved_left w a t i true (cond (nat_lt (suc m) (length (acts i k))) (Acting k (suc m)) (Marking k 0)) L at
    (after_left w i k m (one_act w i k m (Create y h) op (live_present w.objects y x e) d) (nat_lt (suc m) (length (acts i k))) refl)
create_left w L a t i k at m d y h op n ok Tombstone e =
    moved_left w a t i true (cond (nat_lt (suc m) (length (acts i k))) (Acting k (suc m)) (Marking k 0)) L at
    (after_left w i k m (one_act w i k m (Create y h) op (gone_present w.objects y e) d) (nat_lt (suc m) (length (acts i k))) refl)

-- ---------------------------------------------------------------- an Invoke

inv_later : (o : Opening) (f : Objects) (invs : List Invocation) (v : Invocation) (j : List Entry) → Later o f f invs (invs ++ v ∷ []) j j
inv_later o f invs v j = record {
  present = λ x h. h;
  gone = λ x e. e;
  bits = λ p count h e. inr (record { held = h; newer = []; live = e; bits = refl });
  found = λ k i e. get_append invs (v ∷ []) k i e;
  more = more_same o j;
}

invoked_left : (w : World) → WorldKeeps w → WorldLeaves w → (v : Invocation) → InvitedOk w.opening w.objects w.journal v →
    WorldLeaves (record w { invs = w.invs ++ v ∷ []; states = w.states ++ fresh_state ∷ [] })
invoked_left w K L v ok =
    let o : Opening = w.opening in
    let f : Objects = w.objects in
    let F : Later o f f w.invs (w.invs ++ v ∷ []) w.journal w.journal = inv_later o f w.invs v w.journal in
    record {
      left = λ x. left_later o f f w.invs (w.invs ++ v ∷ []) w.journal w.journal F x (w.objects x) (L.left x);
      invited = λ k i e. elim (get_pushed w.invs v k i e) [ inl p ↦ L.invited k i p | inr q ↦ subst (InvitedOk o f w.journal) q ok ];
      attempts = λ a t i e g.
          let d = K.attempts a t e in
          let q : Some d.invocation ≡ Some i = sym (get_append w.invs (v ∷ []) t.inv d.invocation d.found) ∙ g in
          phase_later o f f w.invs (w.invs ++ v ∷ []) w.journal w.journal F i t.phase (L.attempts a t i e (d.found ∙ q));
      acknowledged = λ k i s e g q. elim (get_pushed w.states fresh_state k s g) [
        | inl p ↦
            let (y, r) = other_get w.states w.invs k s p K.paired in
            let same : Some y ≡ Some i = sym (get_append w.invs (v ∷ []) k y r) ∙ e in
            L.acknowledged k i s (r ∙ same) p q
        | inr p ↦ absurd (let z : false ≡ true = ap (λ (x : InvState). x.acked) p ∙ q in cc)
      ];
      roots = λ s x e. let r = L.roots s x e in record { number = r.number; invocation = r.invocation; found = get_append w.invs (v ∷ []) r.number r.invocation r.found; name_is = r.name_is };
    }

has_new : (invs : List Invocation) (v : Invocation) → HasInv (invs ++ v ∷ []) v.name
has_new invs v = record { number = length invs; invocation = v; found = get_last invs v; name_is = refl }

invoke_left : (w : World) → WorldKeeps w → WorldLeaves w → (a : ℕ) (t : Attempt) (i : Invocation) (k : Kept) → slice_get w.invs t.inv ≡ Some i → (m : ℕ) →
    ActsLeft w.opening w.objects w.invs w.journal i k m → (v : Invocation) → slice_get (acts i k) m ≡ Some (Invoke v) → InvitedOk w.opening w.objects w.journal v →
    WorldLeaves (moved_world (record w { invs = w.invs ++ v ∷ []; states = w.states ++ fresh_state ∷ [] }) a t true (cond (nat_lt (suc m) (length (acts i k))) (Acting k (suc m)) (Marking k 0)))
invoke_left w K L a t i k at m d v op ok =
    let u : World = record w { invs = w.invs ++ v ∷ []; states = w.states ++ fresh_state ∷ [] } in
    let F : Later w.opening w.objects w.objects w.invs u.invs w.journal w.journal = inv_later w.opening w.objects w.invs v w.journal in
    moved_left u a t i true (cond (nat_lt (suc m) (length (acts i k))) (Acting k (suc m)) (Marking k 0)) (invoked_left w K L v ok) (get_append w.invs (v ∷ []) t.inv i at)
    (after_left u i k m (one_act u i k m (Invoke v) op (has_new w.invs v) (acts_later w.opening w.objects w.objects w.invs u.invs w.journal w.journal F i k m d)) (nat_lt (suc m) (length (acts i k))) refl)

-- ---------------------------------------------------------------- a Set

own_bit : (index : ℕ) (is : List ℕ) → has_bit index (index ∷ is) ≡ true
own_bit index is = elim (eqb_tells index index) [ inl q ↦ ap (λ (b : Bool). cond b true (has_bit index is)) q.0 | inr q ↦ absurd (q.1 refl) ]

bits_later : (w : World) (p : Place) (index count : ℕ) (is : List ℕ) → w.objects (Bits p count) ≢ Tombstone → ((h : Held) → w.objects (Bits p count) ≡ Live h → is ≡ bits_of h) →
    Later w.opening w.objects (objects_with (Bits p count) (Live (BitsAre (index ∷ is))) w.objects) w.invs w.invs w.journal w.journal
bits_later w p index count is ng same =
    put_later w.opening w.objects w.invs w.journal w.journal (Bits p count) (Live (BitsAre (index ∷ is))) (more_same w.opening w.journal) (λ q. cc) (λ q. absurd (ng q))
    (λ q n h e r. inr (BitsAre (index ∷ is), index ∷ [], refl, ap (λ (z : List ℕ). index ∷ z) (same h r)))

-- the phase after a Set that met no tombstone
set_phase : (w : World) (i : Invocation) (k : Kept) (m : ℕ) (p : Place) (index count : ℕ) (is : List ℕ) → slice_get (acts i k) m ≡ Some (Set p index count) → length (acts i k) ≤ suc m →
    parent_of (scope_of i.name.place) ≡ Some (record { place = p; index = index; count = count }) → CalledJoin w.opening w.objects w.journal p → w.objects (Bits p count) ≡ Live (BitsAre is) →
    has_bit index is ≡ true → ActsLeft w.opening w.objects w.invs w.journal i k m → (b : Bool) → has_all count is ≡ b →
    PhaseLeft w.opening w.objects w.invs w.journal i (after_act k m (length (acts i k)) (cond b BitFull BitNotFull))
set_phase w i k m p index count is op last parent called live bit d true e =
    record { ready = d.ready; own = d.own; act = m; place = p; index = index; count = count; acted = d.acted; last = last; set = op; parent = parent; called = called }
set_phase w i k m p index count is op last parent called live bit d false e =
    to_marks w i k (suc m) (one_act w i k m (Set p index count) op (inr (record { held = BitsAre is; newer = []; older = is; live = live; bits = refl; set = bit; room = e })) d) last

module _ (w : World) (K : WorldKeeps w) (L : WorldLeaves w) (a : ℕ) (t : Attempt) (i : Invocation) (k : Kept) (at : slice_get w.invs t.inv ≡ Some i) where
  set_live : (m : ℕ) → ActsLeft w.opening w.objects w.invs w.journal i k m → (p : Place) (index count : ℕ) → slice_get (acts i k) m ≡ Some (Set p index count) → length (acts i k) ≤ suc m →
      OpOk w.opening w.journal (scope_of i.name.place) (Set p index count) → (is : List ℕ) → w.objects (Bits p count) ≢ Tombstone → ((h : Held) → w.objects (Bits p count) ≡ Live h → is ≡ bits_of h) →
      WorldLeaves (moved_world (record w { objects = objects_with (Bits p count) (Live (BitsAre (index ∷ is))) w.objects }) a t true
      (after_act k m (length (acts i k)) (cond (has_all count (index ∷ is)) BitFull BitNotFull)))
  set_live m d p index count op last ok is ng same =
      let c : Condition = Live (BitsAre (index ∷ is)) in
      let v : World = record w { objects = objects_with (Bits p count) c w.objects } in
      let F : Later w.opening w.objects v.objects w.invs w.invs w.journal w.journal = bits_later w p index count is ng same in
      let there : v.objects (Bits p count) ≡ c = put_there w.objects (Bits p count) c in
      let fan : HasCount w.opening w.journal p count = frames_count w.opening w.journal (scope_of i.name.place) i.site.block i.site.around (K.made t.inv i at).frames (record { place = p; index = index; count = count }) ok.0 in
      moved_left v a t i true (after_act k m (length (acts i k)) (cond (has_all count (index ∷ is)) BitFull BitNotFull))
      (put_left w.opening w.objects w.invs w.states w.atts w.journal w.journal L (Bits p count) c F (index, own_bit index is)) at
      (set_phase v i k m p index count (index ∷ is) op last ok.0 (record { count = count; fan = fan; bits = inr (live_present v.objects (Bits p count) (BitsAre (index ∷ is)) there) }) there (own_bit index is)
      (acts_later w.opening w.objects v.objects w.invs w.invs w.journal w.journal F i k m d) (has_all count (index ∷ is)) refl)

  set_left : (m : ℕ) → ActsLeft w.opening w.objects w.invs w.journal i k m → (p : Place) (index count : ℕ) → slice_get (acts i k) m ≡ Some (Set p index count) → length (acts i k) ≤ suc m →
      OpOk w.opening w.journal (scope_of i.name.place) (Set p index count) → (c : Condition) → w.objects (Bits p count) ≡ c →
      WorldLeaves (moved_world (with_bit w p index count c) a t true (after_act k m (length (acts i k)) (set_reply index count c)))
  set_left m d p index count op last ok Absent e =
      set_live m d p index count op last ok [] (λ q. let z : Absent ≡ Tombstone = sym e ∙ q in cc) (λ h q. absurd (let z : Absent ≡ Live h = sym e ∙ q in cc))
  set_left m d p index count op last ok (Live h) e =
      set_live m d p index count op last ok (bits_of h) (λ q. let z : Live h ≡ Tombstone = sym e ∙ q in cc) (λ g q. let z : Live h ≡ Live g = sym e ∙ q in ap bits_of (let y : h ≡ g = cc in y))
  set_left m d p index count op last ok Tombstone e =
      moved_left w a t i true (Marking k 0) L at (to_marks w i k (suc m) (one_act w i k m (Set p index count) op (inl (left_at w L (Bits p count) Tombstone e)) d) last)

  -- ---------------------------------------------------------------- acting, joining

  act_left : (m : ℕ) → KeptOk w.opening w.journal i.name k → ActsLeft w.opening w.objects w.invs w.journal i k m → (op : Op) → slice_get (acts i k) m ≡ Some op → OpOk w.opening w.journal (scope_of i.name.place) op →
      WorldLeaves (stepped_world w a t i (Acting k m) (Do op))
  unfolding program.absorb
  act_left m kp d (Create (Out s) h) e ok = create_left w L a t i k at m d (Out s) h e refl (λ f. tt) (w.objects (Out s)) refl
  act_left m kp d (Create (Saved p) h) e ok = create_left w L a t i k at m d (Saved p) h e refl (λ f. tt) (w.objects (Saved p)) refl
  act_left m kp d (Create (Check n) h) e ok = absurd ok
  act_left m kp d (Create (Bits p c) h) e ok = absurd ok
  act_left m kp d (Create (Arg n) h) e ok =
      create_left w L a t i k at m d (Arg n) h e refl (λ f. arg_left n (arg_task i.site (scope_of i.name.place) (stop_of i.site i.name.place.hop k) m n h e)) (w.objects (Arg n)) refl
  act_left m kp d (Set p index count) e ok =
      set_left m d p index count e (set_last i.site (scope_of i.name.place) (stop_of i.site i.name.place.hop k) m p index count e) ok (w.objects (Bits p count)) refl
  act_left m kp d (Invoke v) e ok =
      invoke_left w K L a t i k at m d v e
      (acts_invite w.opening w.objects w.journal i (stop_of i.site i.name.place.hop k) (adopted_stop w.opening w.journal i k (K.made t.inv i at) kp) m v e)
  act_left m kp d (Look x) e ok = absurd ok
  act_left m kp d (Mark x) e ok = absurd ok
  act_left m kp d Ack e ok = absurd ok

  pub acting_left : (m : ℕ) → KeptOk w.opening w.journal i.name k → ActsLeft w.opening w.objects w.invs w.journal i k m → (z : Option Op) → slice_get (acts i k) m ≡ z → WorldLeaves (stepped_world w a t i (Acting k m) (doing z))
  acting_left m kp d None e = L
  acting_left m kp d (Some op) e =
      act_left m kp d op e (acts_ok w.opening w.journal i (stop_of i.site i.name.place.hop k) m op (adopted_stop w.opening w.journal i k (K.made t.inv i at) kp) e)

  pub joining_left : JoinsLeft w.opening w.objects w.invs w.journal i k → (z : Option Parent) → parent_of (scope_of i.name.place) ≡ z → (around : List Frame) → WorldLeaves (stepped_world w a t i (Joining k) (joining z around))
  unfolding program.absorb
  joining_left d None e around = L
  joining_left d (Some q) e [] = L
  joining_left d (Some q) e (f ∷ around) =
      let v : Invocation = join_of f around q.place in
      let u : World = record w { invs = w.invs ++ v ∷ []; states = w.states ++ fresh_state ∷ [] } in
      let y : JoinsLeft w.opening w.objects u.invs w.journal i k = joins_later w.opening w.objects w.objects w.invs u.invs w.journal w.journal (inv_later w.opening w.objects w.invs v w.journal) i k d in
      let place : y.place ≡ q.place = ap (λ (z : Parent). z.place) (same_Some (record { place = y.place; index = y.index; count = y.count }) q (sym y.parent ∙ e)) in
      let all : ActsLeft w.opening w.objects u.invs w.journal i k (suc y.act) =
      one_act u i k y.act (Set y.place y.index y.count) y.set (inl (subst (λ z. HasInv u.invs (join_name z)) (sym place) (has_new w.invs v))) (record { ready = y.ready; own = y.own; acted = y.acted }) in
      moved_left u a t i true (Marking k 0) (invoked_left w K L v (λ z. subst (CalledJoin w.opening w.objects w.journal) place y.called)) (get_append w.invs (v ∷ []) t.inv i at)
      (to_marks u i k (suc y.act) all y.last)
