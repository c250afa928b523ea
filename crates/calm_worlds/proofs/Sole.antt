-- Without mishaps each name is invoked once: what is done, and what is not yet.
use Rattle.std.proofs.Common.{ℕ, ◌<◌, ◌≡◌, ◌≢◌, ◌⊎◌, inl, inr, refl, sym, ap, ◌∙◌, subst, true, List, [], ◌∷◌, ◌++◌, length, slice_get, slice_set, Some, arith}
use Rattle.std.proofs.lemmas.Option.{same_Some}
use Rattle.asl_model.specs.Names as names
use Rattle.asl_model.specs.Names.{Scope, Place, Name, scope_of}
use Rattle.asl_model.specs.Machine.{Block}
use Rattle.place_name.specs.Names.{Parent}
use Rattle.place_name.specs.declared.obj.Obj.TheVariants.{Bits}
use Rattle.world_model.specs.Operations.{name_at, root, Kept, Held, Live, Frame, Invocation, Op, Set, Invoke}
use Rattle.world_model.specs.Acts.{parent_of, join_name, acts, stop_of}
use Rattle.world_model.specs.Program.{Phase, Acting, Joining, Marking, Acking, AttemptOver}
use Rattle.world_model.specs.World.{Opening, Entry, Attempt, World, has_bit, bits_of}
use Rattle.world_model.proofs.Gets.{get_append, get_pushed, get_set, set_get, get_pushed_at, place_of}
use Rattle.world_model.proofs.Keeps.{WorldKeeps, KeptOk, FrameOk, FramesOk, parent_of_child, root_no_parent}
use Rattle.world_model.proofs.Leaves.{Objects, HasInv, HasCount, More, more_same}
use Rattle.calm_worlds.proofs.Lines.{hop_of}
use Rattle.calm_worlds.proofs.Calms.{OneAttempt}
use Rattle.calm_worlds.proofs.Aims.{unique_names, acts_same}

-- ---------------------------------------------------------------- words

-- the attempt has done the act of that number
abbrev pub Past : Phase → ℕ → Type 0
Past (Acting k m) l = l < m
Past (Joining k) l = Unit {0}
Past (Marking k m) l = Unit {0}
Past (Acking finished) l = finished ≡ true
Past (AttemptOver finished) l = finished ≡ true
Past _ l = ⊥

-- an attempt has done that act
pub record Did (o : Opening) (iv : List Invocation) (at : List Attempt) (j : List Entry) (op : Op) : Type 0 where
  pub number : ℕ
  pub attempt : Attempt
  pub invocation : Invocation
  pub kept : Kept
  pub step : ℕ
  pub attempt_is : slice_get at number ≡ Some attempt
  pub invocation_is : slice_get iv attempt.inv ≡ Some invocation
  pub kept_ok : KeptOk o j invocation.name kept
  pub act : slice_get (acts invocation kept) step ≡ Some op
  pub past : Past attempt.phase step

-- each branch of that place's fan has set its bit
pub record AllSet (o : Opening) (iv : List Invocation) (at : List Attempt) (j : List Entry) (p : Place) : Type 0 where
  pub count : ℕ
  pub fan : HasCount o j p count
  pub some : 0 < count
  pub all : (m : ℕ) → m < count → Did o iv at j (Set p m count)

pub record InvokedBy (o : Opening) (iv : List Invocation) (at : List Attempt) (j : List Entry) (n : Name) : Type 0 where
  pub made : Invocation
  pub made_is : made.name ≡ n
  pub did : Did o iv at j (Invoke made)

-- where an invocation comes from: the opening, an act, or a bitmap that is full
abbrev pub MadeFrom : Opening → List Invocation → List Attempt → List Entry → Name → Type 0
MadeFrom o iv at j n = ((s : ℕ) × (n ≡ name_at (root s) 0 names.Enter)) ⊎ (InvokedBy o iv at j n ⊎ ((p : Place) × ((n ≡ join_name p) × AllSet o iv at j p)))

-- an attempt whose Set found the bitmap full, and whose Join is not invoked yet
pub record JoinWait (o : Opening) (iv : List Invocation) (at : List Attempt) (j : List Entry) (i : Invocation) : Type 0 where
  pub parent : Parent
  pub parent_is : parent_of (scope_of i.name.place) ≡ Some parent
  pub set : AllSet o iv at j parent.place
  pub none : HasInv iv (join_name parent.place) → ⊥

-- two such attempts, of one fan
pub record BothJoin (iv : List Invocation) (t u : Attempt) (i v : Invocation) : Type 0 where
  pub kept : Kept
  pub other : Kept
  pub parent : Parent
  pub second : Parent
  pub invocation_is : slice_get iv t.inv ≡ Some i
  pub other_is : slice_get iv u.inv ≡ Some v
  pub phase_is : t.phase ≡ Joining kept
  pub other_phase : u.phase ≡ Joining other
  pub parent_is : parent_of (scope_of i.name.place) ≡ Some parent
  pub second_is : parent_of (scope_of v.name.place) ≡ Some second
  pub same : parent.place ≡ second.place

pub record Sole (o : Opening) (ob : Objects) (iv : List Invocation) (at : List Attempt) (j : List Entry) : Type 0 where
  pub names : (k l : ℕ) (i v : Invocation) → slice_get iv k ≡ Some i → slice_get iv l ≡ Some v → i.name ≡ v.name → k ≡ l
  pub from : (k : ℕ) (i : Invocation) → slice_get iv k ≡ Some i → MadeFrom o iv at j i.name
  pub bits : (p : Place) (count : ℕ) (h : Held) (m : ℕ) → ob (Bits p count) ≡ Live h → has_bit m (bits_of h) ≡ true → Did o iv at j (Set p m count)
  pub waits : (a : ℕ) (t : Attempt) (i : Invocation) (k : Kept) → slice_get at a ≡ Some t → slice_get iv t.inv ≡ Some i → t.phase ≡ Joining k → JoinWait o iv at j i
  pub alone : (a b : ℕ) (t u : Attempt) (i v : Invocation) → slice_get at a ≡ Some t → slice_get at b ≡ Some u → BothJoin iv t u i v → a ≡ b

abbrev pub WorldSole : World → Type 0
WorldSole w = Sole w.opening w.objects w.invs w.atts w.journal

-- ---------------------------------------------------------------- growth

pub record Grown (o : Opening) (iv iv' : List Invocation) (at at' : List Attempt) (j j' : List Entry) : Type 0 where
  pub found : (k : ℕ) (i : Invocation) → slice_get iv k ≡ Some i → slice_get iv' k ≡ Some i
  pub atts : (a : ℕ) (t : Attempt) → slice_get at a ≡ Some t → (u : Attempt) × (slice_get at' a ≡ Some u) × (u.inv ≡ t.inv) × ((l : ℕ) → Past t.phase l → Past u.phase l)
  pub more : More o j j'

module _ (o : Opening) (iv iv' : List Invocation) (at at' : List Attempt) (j j' : List Entry) (G : Grown o iv iv' at at' j j') where
  pub did_grown : (op : Op) → Did o iv at j op → Did o iv' at' j' op
  did_grown op d =
      let (u, e, same, past) = G.atts d.number d.attempt d.attempt_is in
      record {
        number = d.number;
        attempt = u;
        invocation = d.invocation;
        kept = d.kept;
        step = d.step;
        attempt_is = e;
        invocation_is = ap (slice_get iv') same ∙ G.found d.attempt.inv d.invocation d.invocation_is;
        kept_ok = G.more.kept d.invocation.name d.kept d.kept_ok;
        act = d.act;
        past = past d.step d.past;
      }

  pub all_grown : (p : Place) → AllSet o iv at j p → AllSet o iv' at' j' p
  all_grown p s = record { count = s.count; fan = G.more.fans p s.count s.fan; some = s.some; all = λ m l. did_grown (Set p m s.count) (s.all m l) }

  pub from_grown : (n : Name) → MadeFrom o iv at j n → MadeFrom o iv' at' j' n
  from_grown n m =
      elim m [
        | inl r ↦ inl r
        | inr x ↦ elim x [
          | inl b ↦ inr (inl (record { made = b.made; made_is = b.made_is; did = did_grown (Invoke b.made) b.did }))
          | inr y ↦ inr (inr (y.0, (y.1.0, all_grown y.0 y.1.1)))
        ]
      ]

  pub wait_grown : (i : Invocation) (w : JoinWait o iv at j i) → (HasInv iv' (join_name w.parent.place) → ⊥) → JoinWait o iv' at' j' i
  wait_grown i w n = record { parent = w.parent; parent_is = w.parent_is; set = all_grown w.parent.place w.set; none = n }

-- ---------------------------------------------------------------- what changes

atts_set : (at : List Attempt) (a : ℕ) (t u : Attempt) → slice_get at a ≡ Some t → u.inv ≡ t.inv → ((l : ℕ) → Past t.phase l → Past u.phase l) → (b : ℕ) (v : Attempt) → slice_get at b ≡ Some v →
    (x : Attempt) × (slice_get (slice_set at a u) b ≡ Some x) × (x.inv ≡ v.inv) × ((l : ℕ) → Past v.phase l → Past x.phase l)
atts_set at a t u found same past b v e =
    elim (set_get at a u b v e) [
      | inl p ↦ (v, p, refl, λ l h. h)
      | inr q ↦
          let z : t ≡ v = same_Some t v (sym found ∙ ap (slice_get at) (sym q.0) ∙ e) in
          (u, q.1, same ∙ ap (λ (y : Attempt). y.inv) z, λ l h. past l (subst (λ (y : Attempt). Past y.phase l) (sym z) h))
    ]

pub grown_att : (o : Opening) (iv : List Invocation) (at : List Attempt) (j : List Entry) (a : ℕ) (t u : Attempt) → slice_get at a ≡ Some t → u.inv ≡ t.inv → ((l : ℕ) → Past t.phase l → Past u.phase l) → Grown o iv iv at (slice_set at a u) j j
grown_att o iv at j a t u found same past = record { found = λ k i e. e; atts = atts_set at a t u found same past; more = more_same o j }

-- what an attempt that begins to join needs
abbrev pub NewWait : Opening → List Invocation → List Attempt → List Attempt → List Entry → Invocation → Attempt → Type 0
NewWait o iv at at' j i u = JoinWait o iv at' j i × ((b : ℕ) (v : Attempt) (y : Invocation) → slice_get at b ≡ Some v → BothJoin iv u v i y → ⊥)

swap_join : (iv : List Invocation) (t u : Attempt) (i v : Invocation) → BothJoin iv t u i v → BothJoin iv u t v i
swap_join iv t u i v b = record {
  kept = b.other;
  other = b.kept;
  parent = b.second;
  second = b.parent;
  invocation_is = b.other_is;
  other_is = b.invocation_is;
  phase_is = b.other_phase;
  other_phase = b.phase_is;
  parent_is = b.second_is;
  second_is = b.parent_is;
  same = sym b.same;
}

pub sole_att : (o : Opening) (ob : Objects) (iv : List Invocation) (at : List Attempt) (j : List Entry) → Sole o ob iv at j → (a : ℕ) (t u : Attempt) → slice_get at a ≡ Some t → u.inv ≡ t.inv → ((l : ℕ) → Past t.phase l → Past u.phase l) →
    ((k : Kept) (i : Invocation) → u.phase ≡ Joining k → slice_get iv u.inv ≡ Some i → NewWait o iv at (slice_set at a u) j i u) → Sole o ob iv (slice_set at a u) j
sole_att o ob iv at j S a t u found same past new =
    let G : Grown o iv iv at (slice_set at a u) j j = grown_att o iv at j a t u found same past in
    record {
      names = S.names;
      from = λ k i e. from_grown o iv iv at (slice_set at a u) j j G i.name (S.from k i e);
      bits = λ p count h m e f. did_grown o iv iv at (slice_set at a u) j j G (Set p m count) (S.bits p count h m e f);
      waits = λ b v i k e f q. elim (get_set at a u b v e) [
        | inl x ↦ (new k i (ap (λ (y : Attempt). y.phase) x.1 ∙ q) (ap (λ (y : Attempt). slice_get iv y.inv) x.1 ∙ f)).0
        | inr x ↦ let w : JoinWait o iv at j i = S.waits b v i k x f q in wait_grown o iv iv at (slice_set at a u) j j G i w w.none
      ];
      alone = λ b c v x i y e f h. elim (get_set at a u b v e) [
        | inl p ↦ elim (get_set at a u c x f) [
          | inl z ↦ p.0 ∙ sym z.0
          | inr z ↦
              let g : BothJoin iv u x i y = subst (λ (r : Attempt). BothJoin iv r x i y) (sym p.1) h in
              absurd ((new g.kept i g.phase_is g.invocation_is).1 c x y z g)
        ]
        | inr p ↦ elim (get_set at a u c x f) [
          | inl z ↦
              let g : BothJoin iv u v y i = swap_join iv v u i y (subst (λ (r : Attempt). BothJoin iv v r i y) (sym z.1) h) in
              absurd ((new g.kept y g.phase_is g.invocation_is).1 b v i p g)
          | inr z ↦ S.alone b c v x i y p z h
        ]
      ];
    }

-- objects and the journal change
pub sole_objects : (o : Opening) (ob ob' : Objects) (iv : List Invocation) (at : List Attempt) (j j' : List Entry) → Sole o ob iv at j → Grown o iv iv at at j j' →
    ((p : Place) (count : ℕ) (h : Held) (m : ℕ) → ob' (Bits p count) ≡ Live h → has_bit m (bits_of h) ≡ true → Did o iv at j' (Set p m count)) → Sole o ob' iv at j'
sole_objects o ob ob' iv at j j' S G bits = record {
  names = S.names;
  from = λ k i e. from_grown o iv iv at at j j' G i.name (S.from k i e);
  bits = bits;
  waits = λ a t i k e f q. let w : JoinWait o iv at j i = S.waits a t i k e f q in wait_grown o iv iv at at j j' G i w w.none;
  alone = S.alone;
}

pub grown_same : (o : Opening) (iv : List Invocation) (at : List Attempt) (j l : List Entry) → More o j l → Grown o iv iv at at j l
grown_same o iv at j l m = record { found = λ k i e. e; atts = λ a t e. (t, e, refl, λ l h. h); more = m }

grown_inv : (o : Opening) (iv : List Invocation) (v : Invocation) (at : List Attempt) (j : List Entry) → Grown o iv (iv ++ v ∷ []) at at j j
grown_inv o iv v at j = record { found = λ k i e. get_append iv (v ∷ []) k i e; atts = λ a t e. (t, e, refl, λ l h. h); more = more_same o j }

-- a new invocation of a new name
pub sole_inv : (o : Opening) (ob : Objects) (iv : List Invocation) (at : List Attempt) (j : List Entry) → Sole o ob iv at j → ((a : ℕ) (t : Attempt) → slice_get at a ≡ Some t → (i : Invocation) × (slice_get iv t.inv ≡ Some i)) →
    (v : Invocation) → (HasInv iv v.name → ⊥) → MadeFrom o iv at j v.name →
    ((a : ℕ) (t : Attempt) (i : Invocation) (k : Kept) (q : Parent) → slice_get at a ≡ Some t → slice_get iv t.inv ≡ Some i → t.phase ≡ Joining k → parent_of (scope_of i.name.place) ≡ Some q → v.name ≢ join_name q.place) →
    Sole o ob (iv ++ v ∷ []) at j
sole_inv o ob iv at j S inv v fresh made apart =
    let iv' : List Invocation = iv ++ v ∷ [] in
    let G : Grown o iv iv' at at j j = grown_inv o iv v at j in
    let old : (a : ℕ) (t : Attempt) (i : Invocation) → slice_get at a ≡ Some t → slice_get iv' t.inv ≡ Some i → slice_get iv t.inv ≡ Some i = λ a t i e f.
    let d = inv a t e in d.1 ∙ sym (get_append iv (v ∷ []) t.inv d.0 d.1) ∙ f in
    record {
      names = λ k l i y e f q. elim (get_pushed_at iv v k i e) [
        | inl x ↦ elim (get_pushed_at iv v l y f) [
          | inl z ↦ S.names k l i y x z q
          | inr z ↦ absurd (fresh (record { number = k; invocation = i; found = x; name_is = q ∙ ap (λ (z : Invocation). z.name) (sym z.1) }))
        ]
        | inr x ↦ elim (get_pushed_at iv v l y f) [
          | inl z ↦ absurd (fresh (record { number = l; invocation = y; found = z; name_is = sym q ∙ ap (λ (z : Invocation). z.name) (sym x.1) }))
          | inr z ↦ x.0 ∙ sym z.0
        ]
      ];
      from = λ k i e. elim (get_pushed iv v k i e) [
        | inl x ↦ from_grown o iv iv' at at j j G i.name (S.from k i x)
        | inr x ↦ subst (λ (z : Invocation). MadeFrom o iv' at j z.name) x (from_grown o iv iv' at at j j G v.name made)
      ];
      bits = λ p count h m e f. did_grown o iv iv' at at j j G (Set p m count) (S.bits p count h m e f);
      waits = λ a t i k e f q.
          let g : slice_get iv t.inv ≡ Some i = old a t i e f in
          let w : JoinWait o iv at j i = S.waits a t i k e g q in
          wait_grown o iv iv' at at j j G i w (λ h. elim (get_pushed iv v h.number h.invocation h.found) [
            | inl x ↦ w.none (record { number = h.number; invocation = h.invocation; found = x; name_is = h.name_is })
            | inr x ↦ apart a t i k w.parent e g q w.parent_is (ap (λ (z : Invocation). z.name) x ∙ h.name_is)
          ]);
      alone = λ a b t u i y e f h. S.alone a b t u i y e f (record {
        kept = h.kept;
        other = h.other;
        parent = h.parent;
        second = h.second;
        invocation_is = old a t i e h.invocation_is;
        other_is = old b u y f h.other_is;
        phase_is = h.phase_is;
        other_phase = h.other_phase;
        parent_is = h.parent_is;
        second_is = h.second_is;
        same = h.same;
      });
    }

-- ---------------------------------------------------------------- an act is done once

pub record Here (w : World) (a : ℕ) (t : Attempt) (i : Invocation) (k : Kept) (m : ℕ) : Type 0 where
  pub keeps : WorldKeeps w
  pub sole : WorldSole w
  pub one : OneAttempt w.atts
  pub found : slice_get w.atts a ≡ Some t
  pub here : slice_get w.invs t.inv ≡ Some i
  pub phase : t.phase ≡ Acting k m
  pub kept : KeptOk w.opening w.journal i.name k

-- the act that this attempt is at was not done
pub not_yet : (w : World) (a : ℕ) (t : Attempt) (i : Invocation) (k : Kept) (m : ℕ) → Here w a t i k m → (op : Op) (d : Did w.opening w.invs w.atts w.journal op) → scope_of d.invocation.name.place ≡ scope_of i.name.place →
    hop_of (stop_of d.invocation.site d.invocation.name.place.hop d.kept) ≡ hop_of (stop_of i.site i.name.place.hop k) → (acts d.invocation d.kept ≡ acts i k → d.step ≡ m) → ⊥
not_yet w a t i k m H op d scopes hops steps =
    let K : WorldKeeps w = H.keeps in
    let made = K.made d.attempt.inv d.invocation d.invocation_is in
    let name : d.invocation.name ≡ i.name = unique_names w.opening w.journal d.invocation i d.kept k made (K.made t.inv i H.here) d.kept_ok H.kept scopes hops in
    let inv : d.attempt.inv ≡ t.inv = H.sole.names d.attempt.inv t.inv d.invocation i d.invocation_is H.here name in
    let num : d.number ≡ a = H.one d.number a d.attempt t d.attempt_is H.found inv in
    let z : d.attempt ≡ t = same_Some d.attempt t (sym d.attempt_is ∙ ap (slice_get w.atts) num ∙ H.found) in
    let y : d.invocation ≡ i = same_Some d.invocation i (sym d.invocation_is ∙ ap (slice_get w.invs) inv ∙ H.here) in
    let there : KeptOk w.opening w.journal d.invocation.name k = subst (λ (n : Name). KeptOk w.opening w.journal n k) (sym name) H.kept in
    let acts_are : acts d.invocation d.kept ≡ acts i k = acts_same w.opening w.journal d.invocation d.kept k made d.kept_ok there ∙ ap (λ (v : Invocation). acts v k) y in
    let e : d.step ≡ m = steps acts_are in
    let past : Past t.phase d.step = subst (λ (y : Attempt). Past y.phase d.step) z d.past in
    let lt : d.step < m = subst (λ (y : Phase). Past y d.step) H.phase past in
    omega arith

-- a branch's index is below its fan's count
pub frames_below : (o : Opening) (j : List Entry) (s : Scope) (b : Block) (around : List Frame) → FramesOk o j s b around → (q : Parent) → parent_of s ≡ Some q → q.index < q.count
frames_below o j s b [] h q e = absurd (root_no_parent s h q e)
frames_below o j s b (f ∷ around) h q e =
    let c : FrameOk o j s b f = h.0 in
    let n : ℕ = length c.branches in
    let here : Parent = record { place = c.place; index = c.index; count = n } in
    let hq : here ≡ q = same_Some here q (sym (parent_of_child c.place c.index n) ∙ ap parent_of (sym c.scope_is) ∙ e) in
    subst (λ (z : Parent). z.index < z.count) hq (place_of c.branches c.index (b, c.input) c.branch_is)
