-- What the attempts of a world without mishaps have spent: each event is one of an attempt's, or invokes a Join.
use Rattle.world_model.specs.Sites.{machine_code}
use Rattle.world_model.specs.AnyCode.Program as program
use Rattle.world_model.specs.AnyCode.World as worlds
use Rattle.std.proofs.Common.{ℕ, zero, suc, ◌+◌, ◌<◌, ◌≤◌, ◌≡◌, ◌≢◌, refl, sym, ap, ◌∙◌, subst, subst₂, Bool, true, false, cond, nat_lt, List, [], ◌∷◌, ◌++◌, length, slice_get, slice_set, Option, Some, None, arith, length-append}
use Rattle.std.proofs.lemmas.Option.{same_Some}
use Rattle.std.proofs.lemmas.Bool.{ltb-true, ltb-false}
use Rattle.fn_table.specs.declared.kind.FnKind.{FnKind}
use Rattle.fn_table.specs.Answers.{answer}
use Rattle.asl_model.specs.Data.{Text, Json, Outcome, combine}
use Rattle.asl_model.specs.Names as names
use Rattle.asl_model.specs.Names.{Scope, Place, Name, Answers, scope_of, child}
use Rattle.asl_model.specs.Machine.{Used}
use Rattle.asl_model.specs.Central.{Visit, name_of}
use Rattle.asl_model.specs.Laws.{In}
use Rattle.place_name.specs.declared.obj.Obj.{Obj}
use Rattle.place_name.specs.declared.obj.Obj.TheVariants.{Check, Out, Saved, Bits}
use Rattle.place_name.specs.Names.{Parent}
use Rattle.world_model.specs.Operations.{Spot, OnEnter, OnTask, OnJoin, kind_on, Site, Frame, Kept, Held, KeptAs, OutcomeIs, SavedAs, BitsAre, ArgIs, Condition, Absent, Live, Tombstone, Invocation, Op, Look, Create, Set, Invoke, Mark, Ack, BitFull, BitNotFull}
use Rattle.world_model.specs.Acts.{parent_of, join_name, join_of, acts, stop_of, due_objects}
use Rattle.world_model.specs.Program.{Phase, Looking, Saving, Gathering, Reading, Calling, Creating, Acting, Joining, Marking, Acking, AttemptOver, Do, doing, marking, joining, asking, call_of, source, source_in, next_of, input_at, kept_of, gathering_phase, state_at, saved_phase, next_gathered_phase, entered_phase, read_phase, after_read, after_look, after_saved, after_out, after_create, after_act, called_phase}
use Rattle.world_model.specs.World.{Opening, Session, Entry, InvState, Attempt, World, created_world, marked_world, with_bit, set_reply, has_all, bits_of, look_reply, create_reply, fresh_state, state_after_ack, with_state, entries_of, moved_world, stepped_world, answered_world, delivered_world, start, root_invs, is_do}
use Rattle.world_model.specs.Agrees.{run_for}
use Rattle.world_model.proofs.Gets.{get_append, place_of}
use Rattle.world_model.proofs.Keeps.{WorldKeeps, MadeOk, kind_is, KeptOk, HasEntry, ObjectOk, PhaseOk, Gathers, OpOk, has_at, adopted_stop, acts_ok, can_read, source_stays, branch_has_input}
use Rattle.world_model.proofs.Every.{other_get, phase_of}
use Rattle.world_model.proofs.Leaves.{HasCount, Present, PhaseLeft, More, more_same, more_entries}
use Rattle.world_model.proofs.Looks.{count_once}
use Rattle.world_model.proofs.Traces.{set_last}
use Rattle.calm_worlds.proofs.Marked.{marks_in}
use Rattle.calm_worlds.proofs.There.{Called, CalledAt, Early}
use Rattle.calm_worlds.proofs.Good.{Good, one_name}
use Rattle.calm_worlds.proofs.Sums.{Sums, sums_set, sums_push}

-- ---------------------------------------------------------------- words

-- how many events of an attempt come before the Create of its Check, its delivery included
abbrev pub before : names.Kind → (count : ℕ) → ℕ
before names.Enter c = 3
before names.Task c = 4
before names.Join c = 3 + c

-- the Invoke of a Join is the Join's
abbrev pub of_kind : names.Kind → ℕ
of_kind names.Enter = 1
of_kind names.Task = 1
of_kind names.Join = 0

abbrev pub join_kind : names.Kind → ℕ
join_kind names.Enter = 0
join_kind names.Task = 0
join_kind names.Join = 1

abbrev pub weight : Op → ℕ
weight (Invoke v) = of_kind v.name.kind
weight _ = 1

abbrev pub weigh : List Op → ℕ
weigh [] = 0
weigh (x ∷ xs) = weight x + weigh xs

abbrev pub weigh_to : ℕ → List Op → ℕ
weigh_to zero xs = 0
weigh_to (suc m) [] = 0
weigh_to (suc m) (x ∷ xs) = weight x + weigh_to m xs

abbrev pub joins_in : List Invocation → ℕ
joins_in [] = 0
joins_in (v ∷ vs) = join_kind v.name.kind + joins_in vs

-- all that an attempt spends, but its Ack
pub record PaidUp (o : Opening) (j : List Entry) (i : Invocation) (n m : ℕ) : Type 0 where
  pub kept : Kept
  pub kept_ok : KeptOk o j i.name kept
  pub sized : i.name.kind ≡ names.Join → HasCount o j i.name.place kept.count
  pub n_is : n ≡ suc (before i.name.kind kept.count) + weigh (acts i kept) + length (due_objects i.name kept.count)
  pub m_is : m ≡ length (due_objects i.name kept.count)

abbrev pub Reads : Spot → Type 0
Reads OnEnter = Unit {0}
Reads (OnTask name) = Unit {0}
Reads (OnJoin name) = ⊥

-- so many events, the delivery included and Invokes of Joins left out, and so many marks
abbrev pub Spent : Opening → List Entry → Invocation → Phase → ℕ → ℕ → Type 0
Spent o j i Looking n m = (n ≡ 1) × (m ≡ 0)
Spent o j i Saving n m = (n ≡ 2) × (m ≡ 0)
Spent o j i (Gathering count raw used outs) n m = (n ≡ 3 + length outs) × (m ≡ 0)
Spent o j i Reading n m = (n ≡ 2) × (m ≡ 0) × Reads i.site.spot
Spent o j i (Calling raw used) n m = (n ≡ 3) × (m ≡ 0)
Spent o j i (Creating k) n m = (n ≡ before i.name.kind k.count) × (m ≡ 0)
Spent o j i (Acting k l) n m = (n ≡ suc (before i.name.kind k.count) + weigh_to l (acts i k)) × (m ≡ 0)
Spent o j i (Joining k) n m = (n ≡ suc (before i.name.kind k.count) + weigh (acts i k)) × (m ≡ 0)
Spent o j i (Marking k l) n m = (n ≡ suc (before i.name.kind k.count) + weigh (acts i k) + l) × (m ≡ l) × (l ≤ length (due_objects i.name k.count))
Spent o j i (Acking true) n m = PaidUp o j i n m
Spent o j i (Acking false) n m = ⊥
Spent o j i (AttemptOver true) n m = (l : ℕ) × (n ≡ suc l) × PaidUp o j i l m
Spent o j i (AttemptOver false) n m = ⊥

abbrev pub Owes : Opening → List Invocation → List Entry → Attempt → ℕ → ℕ → Type 0
Owes o iv j t n m = (i : Invocation) × (slice_get iv t.inv ≡ Some i) × Spent o j i t.phase n m

-- so many events and marks in all
abbrev pub Paid : Opening → List Invocation → List Attempt → List Entry → ℕ → ℕ → Type 0
Paid o iv at j N M = (n : ℕ) × Sums (Owes o iv j) at n M × (N ≡ n + joins_in iv)

abbrev pub WorldPaid : World → ℕ → ℕ → Type 0
WorldPaid w N M = Paid w.opening w.invs w.atts w.journal N M

-- ---------------------------------------------------------------- weights

kind_one : (k : names.Kind) → of_kind k + join_kind k ≡ 1
kind_one names.Enter = refl
kind_one names.Task = refl
kind_one names.Join = refl

weigh_step : (ops : List Op) (m : ℕ) (op : Op) → slice_get ops m ≡ Some op → weigh_to (suc m) ops ≡ weigh_to m ops + weight op
weigh_step [] m op e = absurd (cc)
weigh_step (x ∷ xs) zero op e = let z : weight x ≡ weight op = ap weight (same_Some x op e) in omega arith
weigh_step (x ∷ xs) (suc m) op e = let r : weigh_to (suc m) xs ≡ weigh_to m xs + weight op = weigh_step xs m op e in omega arith

weigh_all : (ops : List Op) (m : ℕ) → length ops ≤ m → weigh_to m ops ≡ weigh ops
weigh_all [] zero l = refl
weigh_all [] (suc m) l = refl
weigh_all (x ∷ xs) zero l = absurd (omega arith)
weigh_all (x ∷ xs) (suc m) l = ap (λ z. weight x + z) (weigh_all xs m (omega arith))

pub weigh_below : (ops : List Op) (m : ℕ) → weigh_to m ops ≤ weigh ops
weigh_below ops zero = omega arith
weigh_below [] (suc m) = omega arith
weigh_below (x ∷ xs) (suc m) = let r : weigh_to m xs ≤ weigh xs = weigh_below xs m in omega arith

joins_push : (iv : List Invocation) (v : Invocation) → joins_in (iv ++ v ∷ []) ≡ joins_in iv + join_kind v.name.kind
joins_push [] v = omega arith
joins_push (x ∷ iv) v = let r : joins_in (iv ++ v ∷ []) ≡ joins_in iv + join_kind v.name.kind = joins_push iv v in omega arith

-- ---------------------------------------------------------------- more entries

paid_up_more : (o : Opening) (j l : List Entry) → More o j l → (i : Invocation) (n m : ℕ) → PaidUp o j i n m → PaidUp o l i n m
paid_up_more o j l F i n m h = record { kept = h.kept; kept_ok = F.kept i.name h.kept h.kept_ok; sized = λ e. F.fans i.name.place h.kept.count (h.sized e); n_is = h.n_is; m_is = h.m_is }

spent_more : (o : Opening) (j l : List Entry) → More o j l → (i : Invocation) (p : Phase) (n m : ℕ) → Spent o j i p n m → Spent o l i p n m
spent_more o j l F i Looking n m h = h
spent_more o j l F i Saving n m h = h
spent_more o j l F i (Gathering count raw used outs) n m h = h
spent_more o j l F i Reading n m h = h
spent_more o j l F i (Calling raw used) n m h = h
spent_more o j l F i (Creating k) n m h = h
spent_more o j l F i (Acting k q) n m h = h
spent_more o j l F i (Joining k) n m h = h
spent_more o j l F i (Marking k q) n m h = h
spent_more o j l F i (Acking true) n m h = paid_up_more o j l F i n m h
spent_more o j l F i (Acking false) n m h = h
spent_more o j l F i (AttemptOver true) n m (k, e, h) = (k, e, paid_up_more o j l F i k m h)
spent_more o j l F i (AttemptOver false) n m h = h

-- ---------------------------------------------------------------- one event of an attempt

paid_step : (o : Opening) (iv others : List Invocation) (at : List Attempt) (j l : List Entry) (N M : ℕ) → Paid o iv at j N M → (a : ℕ) (t u : Attempt) → slice_get at a ≡ Some t → u.inv ≡ t.inv →
    (i : Invocation) → slice_get iv t.inv ≡ Some i → ((k : ℕ) (v : Invocation) → slice_get iv k ≡ Some v → slice_get others k ≡ Some v) → More o j l → (c d e : ℕ) → joins_in others ≡ joins_in iv + c → d + c ≡ 1 →
    ((n m : ℕ) → Spent o j i t.phase n m → Spent o l i u.phase (n + d) (m + e)) → Paid o others (slice_set at a u) l (suc N) (M + e)
paid_step o iv others at j l N M (n, s, z) a t u found same i here keep F c d e p q f =
    let new : (x y : ℕ) → Owes o iv j t x y → Owes o others l u (x + d) (y + e) = λ x y (v, g, h).
    let w : v ≡ i = same_Some v i (sym g ∙ here) in
    (i, ap (slice_get others) same ∙ keep t.inv i here, f x y (subst (λ (z : Invocation). Spent o j z t.phase x y) w h)) in
    let s2 : Sums (Owes o others l) (slice_set at a u) (n + d) (M + e) =
    sums_set (Owes o iv j) (Owes o others l) at n M s (λ x y z (v, g, h). (v, keep x.inv v g, spent_more o j l F v x.phase y z h)) a t u found d e new in
    (n + d, s2, omega arith)

-- ---------------------------------------------------------------- an attempt that has no answer yet

name_join : (n : Name) → n.kind ≡ names.Join → n ≡ join_name n.place
name_join n e = ap (λ (z : names.Kind). record { place = n.place; kind = z }) e

module _ (w : World) (G : Good w) (a : ℕ) (t : Attempt) (found : slice_get w.atts a ≡ Some t) (i : Invocation) (at : slice_get w.invs t.inv ≡ Some i) where
  abbrev O : Opening
  O = w.opening

  abbrev J : List Entry
  J = w.journal

  abbrev K : WorldKeeps w
  K = G.both.keeps

  made : MadeOk O J i
  made = K.made t.inv i at

  kind : i.name.kind ≡ kind_on i.site.spot
  kind = sym (kind_is O J i made)

  -- its name has no entry
  taken : Early t.phase → (e : Entry) → In e J → e.name ≡ i.name → ⊥
  taken h e k q =
      let c = K.tickets e k in
      G.there.untaken a t e found h k (one_name w G e.ticket a c.attempt t c.invocation i c.attempt_is found c.invocation_is at (c.name_is ∙ q))

  absent : Early t.phase → w.objects (Check i.name) ≡ Absent
  absent h = by (w.objects (Check i.name)) refl
    where
      by : (c : Condition) → w.objects (Check i.name) ≡ c → w.objects (Check i.name) ≡ Absent
      by Absent e = e
      by (Live (KeptAs k)) e = let d : KeptOk O J i.name k = has_at w K (Check i.name) (Live (KeptAs k)) e in absurd (taken h (record { name = i.name; answer = k.answer; ticket = k.ticket }) d.entry refl)
      by (Live (OutcomeIs x)) e = absurd (has_at w K (Check i.name) (Live (OutcomeIs x)) e)
      by (Live (SavedAs m x us)) e = absurd (has_at w K (Check i.name) (Live (SavedAs m x us)) e)
      by (Live (BitsAre is)) e = absurd (has_at w K (Check i.name) (Live (BitsAre is)) e)
      by (Live (ArgIs x us)) e = absurd (has_at w K (Check i.name) (Live (ArgIs x us)) e)
      by Tombstone e = let d : HasEntry J i.name = has_at w K (Check i.name) Tombstone e in absurd (taken h d.0 d.1.0 d.1.1)

  called : Called O w.objects J i.name
  called = G.there.called t.inv i at

  live_of : (x : Obj) → Present w.objects x → w.objects x ≢ Tombstone → (c : Condition) → w.objects x ≡ c → (h : Held) × (w.objects x ≡ Live h)
  live_of x p q Absent e = absurd (p e)
  live_of x p q (Live h) e = (h, e)
  live_of x p q Tombstone e = absurd (q e)

  -- ---------------------------------------------------------------- a Join

  module _ (early : Early t.phase) (name : Text) (spot : i.site.spot ≡ OnJoin name) where
    is_kind : i.name.kind ≡ names.Join
    is_kind = kind ∙ ap kind_on spot

    called_join : CalledAt O w.objects J i.name names.Join
    called_join = subst (CalledAt O w.objects J i.name) is_kind called

    readable : (w.objects (Saved i.name.place) ≢ Tombstone) × ((index count : ℕ) → w.objects (Out (child i.name.place index count)) ≢ Tombstone)
    readable = can_read w K i.name.place (ap (λ (z : Name). w.objects (Check z)) (sym (name_join i.name is_kind)) ∙ absent early)

    spent_gathered : (count : ℕ) (raw : Json) (used : Used) (outs : List Outcome) (b : Bool) → nat_lt (length outs) count ≡ b → length outs ≤ count → (n m : ℕ) → n ≡ 3 + length outs → m ≡ 0 →
        Spent O J i (cond b (Gathering count raw used outs) (Creating (kept_of raw used a (combine (state_at i.site.spot) outs) count))) n m
    spent_gathered count raw used outs true e l n m p q = (p, q)
    spent_gathered count raw used outs false e l n m p q =
        let g : count ≤ length outs = ltb-false (length outs) count e in
        let k : before i.name.kind count ≡ 3 + count = ap (λ z. before z count) is_kind in
        (omega arith, q)

    saved_held : (h : Held) → ObjectOk O J (Saved i.name.place) (Live h) → (n m : ℕ) → n ≡ 3 → m ≡ 0 → Spent O J i (saved_phase i.site.spot a h) n m
    saved_held (SavedAs count raw used) d n m p q = spent_gathered count raw used [] (nat_lt 0 count) refl (omega arith) n m p q
    saved_held (KeptAs k) d n m p q = absurd d
    saved_held (OutcomeIs x) d n m p q = absurd d
    saved_held (BitsAre is) d n m p q = absurd d
    saved_held (ArgIs x us) d n m p q = absurd d

    saved_spent : (n m : ℕ) → n ≡ 3 → m ≡ 0 → Spent O J i (after_saved i.site.spot a (look_reply (w.objects (Saved i.name.place)))) n m
    saved_spent n m p q =
        let (h, e) = live_of (Saved i.name.place) called_join.0 readable.0 (w.objects (Saved i.name.place)) refl in
        subst (λ c. Spent O J i (after_saved i.site.spot a (look_reply c)) n m) (sym e) (saved_held h (has_at w K (Saved i.name.place) (Live h) e) n m p q)

    out_held : (count : ℕ) (raw : Json) (used : Used) (outs : List Outcome) → length outs < count → (h : Held) → ObjectOk O J (Out (child i.name.place (length outs) count)) (Live h) → (n m : ℕ) → n ≡ 4 + length outs → m ≡ 0 →
        Spent O J i (next_gathered_phase i.site.spot a count raw used outs h) n m
    out_held count raw used outs l (OutcomeIs x) d n m p q =
        let e : length (outs ++ x ∷ []) ≡ length outs + 1 = length-append outs (x ∷ []) in
        spent_gathered count raw used (outs ++ x ∷ []) (nat_lt (length (outs ++ x ∷ [])) count) refl (omega arith) n m (omega arith) q
    out_held count raw used outs l (KeptAs k) d n m p q = absurd d
    out_held count raw used outs l (SavedAs c x us) d n m p q = absurd d
    out_held count raw used outs l (BitsAre is) d n m p q = absurd d
    out_held count raw used outs l (ArgIs x us) d n m p q = absurd d

    out_spent : (count : ℕ) (raw : Json) (used : Used) (outs : List Outcome) → Gathers O J i count raw used outs → nat_lt (length outs) count ≡ true → (n m : ℕ) → n ≡ 4 + length outs → m ≡ 0 →
        Spent O J i (after_out i.site.spot a count raw used outs (look_reply (w.objects (Out (child i.name.place (length outs) count))))) n m
    out_spent count raw used outs g lt n m p q =
        let l : length outs < count = ltb-true (length outs) count lt in
        let (s, c, has, outs_there) = called_join in
        let here : HasCount O J i.name.place count = record { raw = raw; used = used; fan = g.fan } in
        let same : c ≡ count = count_once O J i.name.place c count has here in
        let there : Present w.objects (Out (child i.name.place (length outs) count)) = subst (λ z. Present w.objects (Out (child i.name.place (length outs) z))) same (outs_there (length outs) (omega arith)) in
        let (h, e) = live_of (Out (child i.name.place (length outs) count)) there (readable.1 (length outs) count) (w.objects (Out (child i.name.place (length outs) count))) refl in
        subst (λ z. Spent O J i (after_out i.site.spot a count raw used outs (look_reply z)) n m) (sym e)
        (out_held count raw used outs l h (has_at w K (Out (child i.name.place (length outs) count)) (Live h) e) n m p q)

  -- ---------------------------------------------------------------- an Enter or a Task reads its data

  spent_enters : (z : Option Json) (x : Json) → z ≡ Some x → i.name.kind ≡ names.Enter → (n m : ℕ) → n ≡ 3 → m ≡ 0 → Spent O J i (entered_phase a z) n m
  spent_enters None x e k n m p q = absurd (cc)
  spent_enters (Some y) x e k n m p q = let b : before i.name.kind 0 ≡ 3 = ap (λ z. before z 0) k in (omega arith, q)

  read_held : (v : Spot) → i.site.spot ≡ v → Reads v → (z : Option Parent) → parent_of (scope_of i.name.place) ≡ z → (h : Held) → ObjectOk O J (source_in i.name v z) (Live h) → (n m : ℕ) → n ≡ 3 → m ≡ 0 → Spent O J i (read_phase i a v h) n m
  read_held OnEnter s r None e (ArgIs x us) d n m p q = spent_enters (Some x) x refl (kind ∙ ap kind_on s) n m p q
  read_held OnEnter s r None e (SavedAs c x us) d n m p q = absurd d
  read_held OnEnter s r None e (KeptAs k) d n m p q = absurd d
  read_held OnEnter s r None e (OutcomeIs x) d n m p q = absurd d
  read_held OnEnter s r None e (BitsAre is) d n m p q = absurd d
  read_held OnEnter s r (Some y) e (SavedAs c x us) d n m p q =
      let g = branch_has_input O J i made y e c x us d i.site.around refl in
      spent_enters (input_at i.site.around x (parent_of (scope_of i.name.place))) g.0 (ap (input_at i.site.around x) e ∙ g.1) (kind ∙ ap kind_on s) n m p q
  read_held OnEnter s r (Some y) e (ArgIs x us) d n m p q = absurd d
  read_held OnEnter s r (Some y) e (KeptAs k) d n m p q = absurd d
  read_held OnEnter s r (Some y) e (OutcomeIs x) d n m p q = absurd d
  read_held OnEnter s r (Some y) e (BitsAre is) d n m p q = absurd d
  read_held (OnTask name) s r z e (ArgIs x us) d n m p q = (p, q)
  read_held (OnTask name) s r z e (SavedAs c x us) d n m p q = absurd d
  read_held (OnTask name) s r z e (KeptAs k) d n m p q = absurd d
  read_held (OnTask name) s r z e (OutcomeIs x) d n m p q = absurd d
  read_held (OnTask name) s r z e (BitsAre is) d n m p q = absurd d
  read_held (OnJoin name) s r z e h d n m p q = absurd r

  source_there : (v : Spot) → i.site.spot ≡ v → Reads v → Present w.objects (source_in i.name v (parent_of (scope_of i.name.place)))
  source_there OnEnter s r = subst (CalledAt O w.objects J i.name) (kind ∙ ap kind_on s) called
  source_there (OnTask name) s r = subst (CalledAt O w.objects J i.name) (kind ∙ ap kind_on s) called
  source_there (OnJoin name) s r = absurd r

  -- an instance reads where its site does
  kind_here : kind_on i.site.spot ≡ i.name.kind
  kind_here = sym kind

  source_here : source_in i.name i.site.spot (parent_of (scope_of i.name.place)) ≡ source i
  source_here = ap (λ (y : names.Kind). program.source_in i.name y (parent_of (scope_of i.name.place))) kind_here

  source_live : Early t.phase → w.objects (source i) ≢ Tombstone
  source_live early =
      let v : Visit = made.visit in
      let here : In v (run_for O J (name_of v)).visits = subst (λ (z : Name). In v (run_for O J z).visits) (sym made.name_is) made.in_run in
      let none : w.objects (Check (name_of v)) ≡ Absent = ap (λ (z : Name). w.objects (Check z)) made.name_is ∙ absent early in
      subst (λ (x : Obj). w.objects x ≢ Tombstone) source_here
      (subst₂ (λ (z : Name) (s : Spot). w.objects (source_in z s (parent_of (scope_of z.place))) ≢ Tombstone) made.name_is made.spot_is (source_stays w K v here none))

  read_spent : Early t.phase → Reads i.site.spot → (n m : ℕ) → n ≡ 3 → m ≡ 0 → Spent O J i (after_read i a (look_reply (w.objects (source i)))) n m
  read_spent early r n m p q =
      let (h, e) = live_of (source i) (subst (Present w.objects) source_here (source_there i.site.spot refl r)) (source_live early) (w.objects (source i)) refl in
      subst (λ c. Spent O J i (after_read i a (look_reply c)) n m) (sym e)
      (subst (λ (y : names.Kind). Spent O J i (program.read_phase machine_code i a y h) n m) kind_here
      (read_held i.site.spot refl r (parent_of (scope_of i.name.place)) refl h (subst (λ (x : Obj). ObjectOk O J x (Live h)) (sym source_here) (has_at w K (source i) (Live h) e)) n m p q))

  spent_gathers : (v : Spot) → i.site.spot ≡ v → (n m : ℕ) → n ≡ 2 → m ≡ 0 → Spent O J i (gathering_phase v) n m
  spent_gathers OnEnter s n m p q = (p, q, subst Reads (sym s) tt)
  spent_gathers (OnTask name) s n m p q = (p, q, subst Reads (sym s) tt)
  spent_gathers (OnJoin name) s n m p q = (p, q)

  look_spent : Early t.phase → (n m : ℕ) → n ≡ 2 → m ≡ 0 → Spent O J i (after_look i a (look_reply (w.objects (Check i.name)))) n m
  look_spent early n m p q = subst (λ c. Spent O J i (after_look i a (look_reply c)) n m) (sym (absent early)) (subst (λ (y : names.Kind). Spent O J i (program.gathering_phase y) n m) kind_here (spent_gathers i.site.spot refl n m p q))

  -- ---------------------------------------------------------------- the world after a step

  module _ (N M : ℕ) (paid : WorldPaid w N M) where
    abbrev Then : World → ℕ → Type 0
    Then v e = WorldPaid v (suc N) (M + e)

    abbrev now : Bool → Phase → Attempt
    now lives q = record { inv = t.inv; live = lives; steps = suc t.steps; phase = q }

    -- the journal may grow
    journal_paid : (l : List Entry) → More O J l → (lives : Bool) (q : Phase) (e : ℕ) → ((n m : ℕ) → Spent O J i t.phase n m → Spent O l i q (n + 1) (m + e)) → Paid O w.invs (slice_set w.atts a (now lives q)) l (suc N) (M + e)
    journal_paid l F lives q e f =
        let z : joins_in w.invs ≡ joins_in w.invs + 0 = omega arith in
        paid_step O w.invs w.invs w.atts J l N M paid a t (now lives q) found refl i at (λ k v g. g) F 0 1 e z refl f

    plain_paid : (lives : Bool) (q : Phase) (e : ℕ) → ((n m : ℕ) → Spent O J i t.phase n m → Spent O J i q (n + 1) (m + e)) → Then (moved_world w a t lives q) e
    plain_paid lives q e f = journal_paid J (more_same O J) lives q e f

    invoked_paid : (v : Invocation) (q : Phase) → ((n m : ℕ) → Spent O J i t.phase n m → Spent O J i q (n + of_kind v.name.kind) (m + 0)) →
        Then (moved_world (record w { invs = w.invs ++ v ∷ []; states = w.states ++ fresh_state ∷ [] }) a t true q) 0
    invoked_paid v q f =
        paid_step O w.invs (w.invs ++ v ∷ []) w.atts J J N M paid a t (now true q) found refl i at (λ k x g. get_append w.invs (v ∷ []) k x g) (more_same O J) (join_kind v.name.kind) (of_kind v.name.kind) 0
        (joins_push w.invs v) (kind_one v.name.kind) f

    created_paid : (y : Obj) (h : Held) (q : Phase) → ((n m : ℕ) → Spent O J i t.phase n m → Spent O J i q (n + 1) (m + 0)) → (c : Condition) → Then (moved_world (created_world w a y h c) a t true q) 0
    created_paid y h q f Absent =
        let es : List Entry = entries_of y h a in
        journal_paid (J ++ es) (more_entries O J es) true q 0 (λ n m s. spent_more O J (J ++ es) (more_entries O J es) i q (n + 1) (m + 0) (f n m s))
    created_paid y h q f (Live x) = plain_paid true q 0 f
    created_paid y h q f Tombstone = plain_paid true q 0 f

    marked_paid : (y : Obj) (q : Phase) → ((n m : ℕ) → Spent O J i t.phase n m → Spent O J i q (n + 1) (m + 1)) → (c : Condition) → Then (moved_world (marked_world w y c) a t true q) 1
    marked_paid y q f Absent = plain_paid true q 1 f
    marked_paid y q f (Live x) = plain_paid true q 1 f
    marked_paid y q f Tombstone = plain_paid true q 1 f

    bit_paid : (p : Place) (index count : ℕ) (q : Condition → Phase) → ((c : Condition) (n m : ℕ) → Spent O J i t.phase n m → Spent O J i (q c) (n + 1) (m + 0)) → (c : Condition) → Then (moved_world (with_bit w p index count c) a t true (q c)) 0
    bit_paid p index count q f Absent = plain_paid true (q Absent) 0 (f Absent)
    bit_paid p index count q f (Live x) = plain_paid true (q (Live x)) 0 (f (Live x))
    bit_paid p index count q f Tombstone = plain_paid true (q Tombstone) 0 (f Tombstone)

    -- ---------------------------------------------------------------- acts

    module _ (k : Kept) (l : ℕ) (ph : t.phase ≡ Acting k l) where
      spent_now : (n m : ℕ) → Spent O J i t.phase n m → (n ≡ suc (before i.name.kind k.count) + weigh_to l (acts i k)) × (m ≡ 0)
      spent_now n m s = subst (λ (z : Phase). Spent O J i z n m) ph s

      spent_after : (b : Bool) → nat_lt (suc l) (length (acts i k)) ≡ b → (n m : ℕ) → n ≡ suc (before i.name.kind k.count) + weigh_to (suc l) (acts i k) → m ≡ 0 → Spent O J i (cond b (Acting k (suc l)) (Marking k 0)) n m
      spent_after true e n m p q = (p, q)
      spent_after false e n m p q =
          let z : weigh_to (suc l) (acts i k) ≡ weigh (acts i k) = weigh_all (acts i k) (suc l) (ltb-false (suc l) (length (acts i k)) e) in
          (omega arith, q, omega arith)

      one_act : (op : Op) → slice_get (acts i k) l ≡ Some op → (d : ℕ) → weight op ≡ d → (n m : ℕ) → Spent O J i t.phase n m → Spent O J i (cond (nat_lt (suc l) (length (acts i k))) (Acting k (suc l)) (Marking k 0)) (n + d) (m + 0)
      one_act op e d h n m s =
          let (p, q) = spent_now n m s in
          let z : weigh_to (suc l) (acts i k) ≡ weigh_to l (acts i k) + weight op = weigh_step (acts i k) l op e in
          spent_after (nat_lt (suc l) (length (acts i k))) refl (n + d) (m + 0) (omega arith) (omega arith)

      last_act : (p : Place) (index count : ℕ) → slice_get (acts i k) l ≡ Some (Set p index count) → (n m : ℕ) → Spent O J i t.phase n m → (n + 1 ≡ suc (before i.name.kind k.count) + weigh (acts i k)) × (m + 0 ≡ 0)
      last_act p index count e n m s =
          let (x, y) = spent_now n m s in
          let z : weigh_to (suc l) (acts i k) ≡ weigh_to l (acts i k) + 1 = weigh_step (acts i k) l (Set p index count) e in
          let last : length (acts i k) ≤ suc l = set_last i.site (scope_of i.name.place) (stop_of i.site i.name.place.hop k) l p index count e in
          let v : weigh_to (suc l) (acts i k) ≡ weigh (acts i k) = weigh_all (acts i k) (suc l) last in
          (omega arith, omega arith)

      full_spent : (b : Bool) (all n m : ℕ) → n ≡ suc (before i.name.kind k.count) + weigh (acts i k) → m ≡ 0 → Spent O J i (after_act k l all (cond b BitFull BitNotFull)) n m
      full_spent true all n m p q = (p, q)
      full_spent false all n m p q = (omega arith, q, omega arith)

      set_spent : (p : Place) (index count : ℕ) → slice_get (acts i k) l ≡ Some (Set p index count) → (c : Condition) (n m : ℕ) → Spent O J i t.phase n m → Spent O J i (after_act k l (length (acts i k)) (set_reply index count c)) (n + 1) (m + 0)
      set_spent p index count e Absent n m s = let (x, y) = last_act p index count e n m s in full_spent (has_all count (index ∷ [])) (length (acts i k)) (n + 1) (m + 0) x y
      set_spent p index count e (Live h) n m s = let (x, y) = last_act p index count e n m s in full_spent (has_all count (index ∷ bits_of h)) (length (acts i k)) (n + 1) (m + 0) x y
      set_spent p index count e Tombstone n m s = let (x, y) = last_act p index count e n m s in (omega arith, y, omega arith)

      create_paid : (y : Obj) (h : Held) → slice_get (acts i k) l ≡ Some (Create y h) → (c : Condition) → Then (moved_world (created_world w a y h c) a t true (after_act k l (length (acts i k)) (create_reply c))) 0
      create_paid y h e c =
          let q : Phase = cond (nat_lt (suc l) (length (acts i k))) (Acting k (suc l)) (Marking k 0) in
          elim c as (λ c. Then (moved_world (created_world w a y h c) a t true (after_act k l (length (acts i k)) (create_reply c))) 0) [
            | Absent ↦ created_paid y h q (one_act (Create y h) e 1 refl) Absent
            | Live x ↦ created_paid y h q (one_act (Create y h) e 1 refl) (Live x)
            | Tombstone ↦ created_paid y h q (one_act (Create y h) e 1 refl) Tombstone
          ]

      act_paid : (op : Op) → slice_get (acts i k) l ≡ Some op → OpOk O J (scope_of i.name.place) op → Then (stepped_world w a t i (Acting k l) (Do op)) (marks_in (Do op))
      unfolding program.absorb
      act_paid (Create y h) e ok = create_paid y h e (w.objects y)
      act_paid (Set p index count) e ok = bit_paid p index count (λ c. after_act k l (length (acts i k)) (set_reply index count c)) (set_spent p index count e) (w.objects (Bits p count))
      act_paid (Invoke v) e ok = invoked_paid v (cond (nat_lt (suc l) (length (acts i k))) (Acting k (suc l)) (Marking k 0)) (one_act (Invoke v) e (of_kind v.name.kind) refl)
      act_paid (Look x) e ok = absurd ok
      act_paid (Mark x) e ok = absurd ok
      act_paid Ack e ok = absurd ok

      acting_paid : KeptOk O J i.name k → (z : Option Op) → slice_get (acts i k) l ≡ z → is_do (doing z) ≡ true → Then (stepped_world w a t i (Acting k l) (doing z)) (marks_in (doing z))
      acting_paid d None e q = absurd (cc)
      acting_paid d (Some op) e q = act_paid op e (acts_ok O J i (stop_of i.site i.name.place.hop k) l op (adopted_stop O J i k made d) e)

    joining_paid : (k : Kept) → t.phase ≡ Joining k → (z : Option Parent) (around : List Frame) → is_do (joining z around) ≡ true → Then (stepped_world w a t i (Joining k) (joining z around)) (marks_in (joining z around))
    unfolding program.absorb
    joining_paid k ph None around q = absurd (cc)
    joining_paid k ph (Some p) [] q = absurd (cc)
    joining_paid k ph (Some p) (f ∷ around) q =
        invoked_paid (join_of f around p.place) (Marking k 0) (λ n m s. let (x, y) = subst (λ (z : Phase). Spent O J i z n m) ph s in (omega arith, omega arith, omega arith))

    mark_spent : (k : Kept) (l : ℕ) → t.phase ≡ Marking k l → KeptOk O J i.name k → (i.name.kind ≡ names.Join → HasCount O J i.name.place k.count) → l < length (due_objects i.name k.count) → (b : Bool) → nat_lt (suc l) (length (due_objects i.name k.count)) ≡ b →
        (n m : ℕ) → Spent O J i t.phase n m → Spent O J i (cond b (Marking k (suc l)) (Acking true)) (n + 1) (m + 1)
    mark_spent k l ph d size lt true e n m s =
        let (x, y, z) = subst (λ (z : Phase). Spent O J i z n m) ph s in
        (omega arith, omega arith, omega arith)
    mark_spent k l ph d size lt false e n m s =
        let (x, y, z) = subst (λ (z : Phase). Spent O J i z n m) ph s in
        let g : length (due_objects i.name k.count) ≤ suc l = ltb-false (suc l) (length (due_objects i.name k.count)) e in
        record { kept = k; kept_ok = d; sized = size; n_is = omega arith; m_is = omega arith }

    marking_paid : (k : Kept) (l : ℕ) → t.phase ≡ Marking k l → KeptOk O J i.name k → (i.name.kind ≡ names.Join → HasCount O J i.name.place k.count) → (z : Option Obj) → slice_get (due_objects i.name k.count) l ≡ z → is_do {S = Site} {B = List ℕ} (marking z) ≡ true →
        Then (stepped_world w a t i (Marking k l) (marking z)) (marks_in (marking z))
    unfolding program.absorb
    marking_paid k l ph d size None e q = absurd (cc)
    marking_paid k l ph d size (Some x) e q =
        let b : Bool = nat_lt (suc l) (length (due_objects i.name k.count)) in
        marked_paid x (cond b (Marking k (suc l)) (Acking true)) (mark_spent k l ph d size (place_of (due_objects i.name k.count) l x e) b refl) (w.objects x)

    ack_spent : (finished : Bool) → t.phase ≡ Acking finished → (n m : ℕ) → Spent O J i t.phase n m → Spent O J i (AttemptOver finished) (n + 1) (m + 0)
    ack_spent true ph n m s =
        let p : PaidUp O J i n m = subst (λ (z : Phase). Spent O J i z n m) ph s in
        let z : m ≡ m + 0 = omega arith in
        (n, omega arith, subst (PaidUp O J i n) z p)
    ack_spent false ph n m s = absurd (subst (λ (z : Phase). Spent O J i z n m) ph s)

    ack_paid : (finished : Bool) → t.phase ≡ Acking finished → (x : Option InvState) → Then (moved_world (with_state w t.inv state_after_ack x) a t false (AttemptOver finished)) 0
    ack_paid finished ph None = plain_paid false (AttemptOver finished) 0 (ack_spent finished ph)
    ack_paid finished ph (Some s) = plain_paid false (AttemptOver finished) 0 (ack_spent finished ph)

    asking_paid : (p : Phase) (z : Option (Text × Json)) → is_do {S = Site} {B = List ℕ} (asking z) ≡ true → Then (stepped_world w a t i p (asking z)) (marks_in (asking z))
    asking_paid p None q = absurd (cc)
    asking_paid p (Some c) q = absurd (cc)

    creating_paid : (k : Kept) → t.phase ≡ Creating k → Then (moved_world (created_world w a (Check i.name) (KeptAs k) (w.objects (Check i.name))) a t true (after_create k (create_reply (w.objects (Check i.name))))) 0
    creating_paid k ph =
        let early : Early t.phase = subst Early (sym ph) tt in
        subst (λ c. Then (moved_world (created_world w a (Check i.name) (KeptAs k) c) a t true (after_create k (create_reply c))) 0) (sym (absent early))
        (created_paid (Check i.name) (KeptAs k) (Acting k 0) (λ n m s. let (x, y) = subst (λ (z : Phase). Spent O J i z n m) ph s in (omega arith, omega arith)) Absent)

    step_by : (p : Phase) → t.phase ≡ p → PhaseOk O J a i p → PhaseLeft O w.objects w.invs J i p → is_do (next_of i p) ≡ true → Then (stepped_world w a t i p (next_of i p)) (marks_in (next_of i p))
    unfolding program.next_of program.absorb
    step_by Looking ph d e q =
        plain_paid true (after_look i a (look_reply (w.objects (Check i.name)))) 0 (λ n m s. let (x, y) = subst (λ (z : Phase). Spent O J i z n m) ph s in look_spent (subst Early (sym ph) tt) (n + 1) (m + 0) (omega arith) (omega arith))
    step_by Saving ph d e q =
        plain_paid true (after_saved i.site.spot a (look_reply (w.objects (Saved i.name.place)))) 0
        (λ n m s. let (x, y) = subst (λ (z : Phase). Spent O J i z n m) ph s in saved_spent (subst Early (sym ph) tt) d.0 d.1 (n + 1) (m + 0) (omega arith) (omega arith))
    step_by (Gathering count raw used outs) ph d e q =
        plain_paid true (after_out i.site.spot a count raw used outs (look_reply (w.objects (Out (child i.name.place (length outs) count))))) 0
        (λ n m s. let (x, y) = subst (λ (z : Phase). Spent O J i z n m) ph s in out_spent (subst Early (sym ph) tt) d.0.name d.0.is_join count raw used outs d.0 d.1 (n + 1) (m + 0) (omega arith) (omega arith))
    step_by Reading ph d e q =
        plain_paid true (after_read i a (look_reply (w.objects (source i)))) 0
        (λ n m s. let (x, y, r) = subst (λ (z : Phase). Spent O J i z n m) ph s in read_spent (subst Early (sym ph) tt) r (n + 1) (m + 0) (omega arith) (omega arith))
    step_by (Calling raw used) ph d e q = asking_paid (Calling raw used) (call_of i.site raw) q
    step_by (Creating k) ph d e q = creating_paid k ph
    step_by (Acting k l) ph d e q = acting_paid k l ph d (slice_get (acts i k) l) refl q
    step_by (Joining k) ph d e q = joining_paid k ph (parent_of (scope_of i.name.place)) i.site.around q
    step_by (Marking k l) ph d e q = marking_paid k l ph d e.ready.fan (slice_get (due_objects i.name k.count) l) refl q
    step_by (Acking finished) ph d e q = ack_paid finished ph (slice_get w.states t.inv)
    step_by (AttemptOver finished) ph d e q = absurd (cc)

    pub step_paid : is_do (next_of i t.phase) ≡ true → Then (stepped_world w a t i t.phase (next_of i t.phase)) (marks_in (next_of i t.phase))
    step_paid q = step_by t.phase refl (phase_of w K a t i found at) (G.both.leaves.attempts a t i found at) q

    -- ---------------------------------------------------------------- the answer of a function

    pub answered_paid : (raw : Json) (used : Used) → t.phase ≡ Calling raw used → PhaseOk O J a i (Calling raw used) → (x : Json) (f : FnKind) → Then (answered_world w a t i x (Some f)) 0
    answered_paid raw used ph d x f =
        let y : Outcome = answer f x a in
        let q : Phase = called_phase i a t.phase y in
        let same : q ≡ Creating (kept_of raw used a y 0) = ap (λ z. called_phase i a z y) ph in
        let b : before i.name.kind 0 ≡ 4 = ap (λ z. before z 0) (kind ∙ ap kind_on d.1) in
        plain_paid true q 0 (λ n m s. let (u, v) = subst (λ (z : Phase). Spent O J i z n m) ph s in subst (λ z. Spent O J i z (n + 1) (m + 0)) (sym same) (omega arith, omega arith))

-- ---------------------------------------------------------------- a delivery, and the opening world

pub delivered_paid : (w : World) → Good w → (N M : ℕ) → WorldPaid w N M → (k : ℕ) (s : InvState) → slice_get w.states k ≡ Some s → WorldPaid (delivered_world w k (Some s)) (suc N) (M + 0)
delivered_paid w G N M (n, s, z) k x e =
    let u : Attempt = record { inv = k; live = true; steps = 0; phase = Looking } in
    let (i, at) = other_get w.states w.invs k x e G.both.keeps.paired in
    (n + 1, sums_push (Owes w.opening w.invs w.journal) w.atts n M s u 1 0 (i, at, (refl, refl)), omega arith)

root_joins : (s : ℕ) (xs : List Session) → joins_in (root_invs s xs) ≡ 0
unfolding worlds.root_invs
root_joins s [] = refl
root_joins s (x ∷ xs) = let r : joins_in (root_invs (suc s) xs) ≡ 0 = root_joins (suc s) xs in omega arith

pub start_paid : (o : Opening) → WorldPaid (start o) 0 0
start_paid o = let r : joins_in (root_invs 0 o.sessions) ≡ 0 = root_joins 0 o.sessions in (0, (refl, refl), omega arith)
