-- What every event keeps, and that it does. R is the central run of a session on the answers of the journal.
use Rattle.std.proofs.Common.{ℕ, zero, suc, ◌+◌, ◌<◌, ◌≤◌, ◌≡◌, ◌≢◌, ◌⊎◌, inl, inr, refl, sym, ap, ap₂, ◌∙◌, subst, subst₂, Bool, true, false, ◌&&◌, cond, nat_lt, nat_eq, List, [], ◌∷◌, ◌++◌, length, slice_get, slice_set, Option, Some, None, arith, length-append, append-nil}
use Rattle.std.proofs.lemmas.List.{length-set}
use Rattle.std.proofs.lemmas.Option.{same_Some}
use Rattle.std.proofs.lemmas.Bool.{ltb-true, ltb-false}
use Rattle.std.proofs.lemmas.Bool.Decides.{eqb_tells}
use Rattle.asl_model.specs.Data.{Text, Json, Null, Outcome, Done, combine}
use Rattle.asl_model.specs.Names as names
use Rattle.asl_model.specs.Names.{Seg, Scope, Place, Name, at_hop, scope_of, child, Holds}
use Rattle.asl_model.specs.Machine.{Used, Block, State, state_of, limit_of}
use Rattle.asl_model.specs.Step.{Begun, Calls}
use Rattle.asl_model.specs.Central.{Visited, Entered, Called, Joined, Visit, kind_of as kind_at, name_of}
use Rattle.asl_model.specs.Stretch.{Stop, Call, Fan, Over, after}
use Rattle.asl_model.specs.Laws.{In, LeadsTo, Grows, IsGrown, IsSound, FollowedBy}
use Rattle.asl_model.specs.Stretch.{children}
use Rattle.asl_model.specs.Lawful.{SameFan, IsBranchOf}
use Rattle.asl_model.proofs.FanLaw.{input_at_lem, one_body_lem}
use Rattle.asl_model.proofs.Lists.{In-left, In-right, In-cases}
use Rattle.place_name.specs.declared.obj.Obj.{Obj}
use Rattle.place_name.specs.declared.obj.Obj.TheVariants.{Check, Out, Saved, Bits, Arg}
use Rattle.place_name.specs.Same.{object_same}
use Rattle.world_model.specs.Acts
use Rattle.world_model.specs.Sites.{enter_sites, machine_code}
use Rattle.world_model.proofs.Fanned.{sites_length, fan_same}
use Rattle.world_model.specs.Operations.{name_at, root, Spot, OnEnter, OnTask, OnJoin, spot_of, visited_at, kind_on, Frame, Site, Kept, Held, KeptAs, OutcomeIs, SavedAs, BitsAre, ArgIs, Condition, Absent, Live, Tombstone, Invocation, Op, Look, Create, Set, Invoke, Mark, Ack, BitFull, BitNotFull}
use Rattle.world_model.specs.Acts.{rules, Split, split_last, split_more, parent_in, parent_of, join_name, join_of, task_of, enter_of, inner, enter_ops, fan_ops, width_of, width_in, firsts, at_once, pace_ops, set_ops, due_at_enter, acts, acts_of, stop_of, due_objects}
use Rattle.world_model.specs.Program.{Phase, Looking, Saving, Gathering, Reading, Calling, Creating, Acting, Joining, Marking, Acking, AttemptOver, Do, source_in, source, input_in, input_of, input_at, entered_phase, read_phase, after_read, call_in, call_at, call_of, asking, doing, marking, joining, next_of, kept_of, gathering_phase, adopted_phase, saved_phase, next_gathered_phase, after_look, after_saved, after_out, after_create, after_act, state_at}
use Rattle.world_model.specs.World.{Opening, Entry, InvState, Attempt, World, objects_with, created_world, marked_world, with_bit, set_reply, has_bit, has_all, bits_of, look_reply, create_reply, fresh_state, state_after_ack, with_state, moved_world, stepped_world, entries_of}
use Rattle.world_model.specs.Journals.{journal_answers}
use Rattle.world_model.specs.Agrees.{IsAnswerOf, HasDistinctNames, EntryAgrees, TicketAgrees, run_for}
use Rattle.place_name.proofs.Sameness.{object_is, object_refl}
use Rattle.world_model.proofs.Gets.{get_append, get_pushed, get_set, set_get, get_pushed_at, place_of}
use Rattle.place_name.specs.Names.{Parent}
use Rattle.world_model.proofs.Runs.{visits_of, HasEnd, HasFan, Ready, after_site, run_grows, end_more, fan_more, run_next, run_once, run_sound, run_ready, over_end, run_one_fan, run_sites, run_fan_is, answers_more, answers_new, distinct_more}
use Rattle.world_model.specs.AnyCode.Program as program

-- ---------------------------------------------------------------- what holds of objects, attempts and worlds

-- that visit of R has this name and answer, and was entered with what is kept
pub record KeptOk (o : Opening) (j : List Entry) (n : Name) (k : Kept) : Type 0 where
  pub visit : Visit
  pub in_run : In visit (run_for o j n).visits
  pub name_is : name_of visit ≡ n
  pub answer_is : visit.answer ≡ Some k.answer
  pub raw_is : visit.raw ≡ k.raw
  pub used_is : visit.used ≡ k.used
  pub entry : In {X = Entry} (record { name = n; answer = k.answer; ticket = k.ticket }) j

-- some entry has that name
abbrev pub HasEntry : List Entry → Name → Type 0
HasEntry j n = (e : Entry) × (In e j × (e.name ≡ n))

-- the Enter of that scope has an entry
abbrev pub Opened : List Entry → Scope → Type 0
Opened j s = HasEntry j (name_at s 0 names.Enter)

abbrev pub CheckOk : Opening → List Entry → Name → Condition → Type 0
CheckOk o j n Absent = (e : Entry) → In e j → e.name ≢ n
CheckOk o j n (Live (KeptAs k)) = KeptOk o j n k
CheckOk o j n (Live _) = ⊥
CheckOk o j n Tombstone = HasEntry j n

abbrev pub OutOk : Opening → List Entry → Scope → Condition → Type 0
OutOk o j s (Live (OutcomeIs x)) = HasEnd o j s x × Opened j s
OutOk o j s (Live _) = ⊥
OutOk o j s Absent = Unit {0}
OutOk o j s Tombstone = (q : Parent) × ((parent_of s ≡ Some q) × HasEntry j (join_name q.place))

-- some answer in R leads to a fan of that place with that raw data and so many branches
pub record IsFanAt (o : Opening) (j : List Entry) (p : Place) (raw : Json) (used : Used) (count : ℕ) : Type 0 where
  pub block : Block
  pub name : Text
  pub branches : List (Block × Json)
  pub leads : HasFan o j p block name raw used branches
  pub count_is : length branches ≡ count

abbrev pub SavedOk : Opening → List Entry → Place → Condition → Type 0
SavedOk o j p (Live (SavedAs count raw used)) = IsFanAt o j p raw used count
SavedOk o j p (Live _) = ⊥
SavedOk o j p Absent = Unit {0}
SavedOk o j p Tombstone = HasEntry j (join_name p)

-- each bit that is set is a branch that has ended
abbrev pub BitsOk : Opening → List Entry → Place → ℕ → Condition → Type 0
BitsOk o j p count (Live h) = (m : ℕ) → has_bit m (bits_of h) ≡ true → (x : Outcome) × HasEnd o j (child p m count) x
BitsOk o j p count Absent = Unit {0}
BitsOk o j p count Tombstone = HasEntry j (join_name p)

-- the data of a message's Arg, for that visit
abbrev pub InputIs : Visit → Visited → Json → Used → Type 0
InputIs v Entered x us = v.given ≡ x
InputIs v (Called name resource) x us = (v.raw ≡ x) × (v.used ≡ us)
InputIs v (Joined name) x us = Unit {0}

pub record ArgAt (o : Opening) (j : List Entry) (n : Name) (x : Json) (us : Used) : Type 0 where
  pub visit : Visit
  pub in_run : In visit (run_for o j n).visits
  pub name_is : name_of visit ≡ n
  pub input_is : InputIs visit visit.visited x us

abbrev pub ArgOk : Opening → List Entry → Name → Condition → Type 0
ArgOk o j n (Live (ArgIs x us)) = ArgAt o j n x us
ArgOk o j n (Live _) = ⊥
ArgOk o j n Absent = Unit {0}
ArgOk o j n Tombstone = HasEntry j n

abbrev pub ObjectOk : Opening → List Entry → Obj → Condition → Type 0
ObjectOk o j (Check n) c = CheckOk o j n c
ObjectOk o j (Out s) c = OutOk o j s c
ObjectOk o j (Saved p) c = SavedOk o j p c
ObjectOk o j (Bits p count) c = BitsOk o j p count c
ObjectOk o j (Arg n) c = ArgOk o j n c

-- ---------------------------------------------------------------- invocations

-- the scope is a branch, with that block, of a fan whose state that frame names
pub record FrameOk (o : Opening) (j : List Entry) (s : Scope) (b : Block) (f : Frame) : Type 0 where
  pub place : Place
  pub index : ℕ
  pub raw : Json
  pub used : Used
  pub branches : List (Block × Json)
  pub input : Json
  pub scope_is : s ≡ child place index (length branches)
  pub branch_is : slice_get branches index ≡ Some (b, input)
  pub leads : HasFan o j place f.block f.name raw used branches
  pub opened : Opened j (scope_of place)

abbrev pub FramesOk : Opening → List Entry → Scope → Block → List Frame → Type 0
FramesOk o j s b [] = s.trail ≡ []
FramesOk o j s b (f ∷ around) = (c : FrameOk o j s b f) × FramesOk o j (scope_of c.place) f.block around

-- an invocation's name is a visit of R, at its site
pub record MadeOk (o : Opening) (j : List Entry) (i : Invocation) : Type 0 where
  pub visit : Visit
  pub in_run : In visit (run_for o j i.name).visits
  pub name_is : name_of visit ≡ i.name
  pub block_is : visit.block ≡ i.site.block
  pub spot_is : spot_of visit.visited ≡ i.site.spot
  pub frames : FramesOk o j (scope_of i.name.place) i.site.block i.site.around
  pub opened : (i.site.spot ≡ OnEnter) ⊎ Opened j (scope_of i.name.place)

kind_spot : (v : Visited) → kind_on (spot_of v) ≡ kind_at v
kind_spot Entered = refl
kind_spot (Called name resource) = refl
kind_spot (Joined name) = refl

-- a name is of the kind that its site visits
pub kind_is : (o : Opening) (j : List Entry) (i : Invocation) → MadeOk o j i → kind_on i.site.spot ≡ i.name.kind
kind_is o j i m = ap kind_on (sym m.spot_is) ∙ kind_spot m.visit.visited ∙ ap (λ (z : Name). z.kind) m.name_is

-- ---------------------------------------------------------------- attempts

-- the visit of a name that was entered so
pub record EnteredAs (o : Opening) (j : List Entry) (n : Name) (raw : Json) (used : Used) : Type 0 where
  pub visit : Visit
  pub in_run : In visit (run_for o j n).visits
  pub name_is : name_of visit ≡ n
  pub raw_is : visit.raw ≡ raw
  pub used_is : visit.used ≡ used

-- and is answered so
pub record AnsweredAs (o : Opening) (j : List Entry) (n : Name) (raw : Json) (used : Used) (x : Outcome) : Type 0 where
  pub visit : Visit
  pub in_run : In visit (run_for o j n).visits
  pub name_is : name_of visit ≡ n
  pub raw_is : visit.raw ≡ raw
  pub used_is : visit.used ≡ used
  pub answer_is : visit.answer ≡ Some x

-- the Enter of each branch of that place's fan has an entry
pub record AllOpened (o : Opening) (j : List Entry) (p : Place) : Type 0 where
  pub raw : Json
  pub used : Used
  pub count : ℕ
  pub fan : IsFanAt o j p raw used count
  pub each : (m : ℕ) → m < count → Opened j (child p m count)

-- what a Task's function was asked and answered
pub record TaskAnswer (o : Opening) (a : ℕ) (site : Site) (raw : Json) (x : Outcome) : Type 0 where
  pub call : Text × Json
  pub call_is : call_of site raw ≡ Some call
  pub answer_is : IsAnswerOf o.functions call.0 call.1 a x

abbrev pub AnsweredBy : Opening → List Entry → ℕ → Invocation → Kept → Spot → Type 0
AnsweredBy o j a i k OnEnter = AnsweredAs o j i.name k.raw k.used k.answer
AnsweredBy o j a i k (OnTask name) = EnteredAs o j i.name k.raw k.used × TaskAnswer o a i.site k.raw k.answer
AnsweredBy o j a i k (OnJoin name) = AnsweredAs o j i.name k.raw k.used k.answer × AllOpened o j i.name.place

pub record CanCreate (o : Opening) (j : List Entry) (a : ℕ) (i : Invocation) (k : Kept) : Type 0 where
  pub ticket_is : k.ticket ≡ a
  pub answer_is : AnsweredBy o j a i k i.site.spot

pub record Gathers (o : Opening) (j : List Entry) (i : Invocation) (count : ℕ) (raw : Json) (used : Used) (outs : List Outcome) : Type 0 where
  pub name : Text
  pub is_join : i.site.spot ≡ OnJoin name
  pub fan : IsFanAt o j i.name.place raw used count
  pub ended : (m : ℕ) (x : Outcome) → slice_get outs m ≡ Some x → HasEnd o j (child i.name.place m count) x
  pub each : (m : ℕ) → m < length outs → Opened j (child i.name.place m count)
  pub room : length outs ≤ count

-- the Join that a branch may invoke
abbrev pub JoinOk : Opening → List Entry → Invocation → Type 0
JoinOk o j i = (q : Parent) (f : Frame) (around : List Frame) → parent_of (scope_of i.name.place) ≡ Some q → i.site.around ≡ f ∷ around → MadeOk o j (join_of f around q.place)

abbrev pub PhaseOk : Opening → List Entry → ℕ → Invocation → Phase → Type 0
PhaseOk o j a i Looking = Unit {0}
PhaseOk o j a i Saving = (name : Text) × (i.site.spot ≡ OnJoin name)
PhaseOk o j a i (Gathering count raw used outs) = Gathers o j i count raw used outs × (nat_lt (length outs) count ≡ true)
PhaseOk o j a i Reading = Unit {0}
PhaseOk o j a i (Calling raw used) = (name : Text) × (i.site.spot ≡ OnTask name) × EnteredAs o j i.name raw used
PhaseOk o j a i (Creating k) = CanCreate o j a i k
PhaseOk o j a i (Acting k m) = KeptOk o j i.name k
PhaseOk o j a i (Joining k) = KeptOk o j i.name k × JoinOk o j i
PhaseOk o j a i (Marking k m) = KeptOk o j i.name k
PhaseOk o j a i (Acking finished) = Unit {0}
PhaseOk o j a i (AttemptOver finished) = Unit {0}

pub record AttOk (o : Opening) (invs : List Invocation) (j : List Entry) (a : ℕ) (inv : ℕ) (phase : Phase) : Type 0 where
  pub invocation : Invocation
  pub found : slice_get invs inv ≡ Some invocation
  pub phase_ok : PhaseOk o j a invocation phase

pub record Keeps (o : Opening) (objects : Obj → Condition) (invs : List Invocation) (states : List InvState) (atts : List Attempt) (j : List Entry) : Type 0 where
  pub made : (k : ℕ) (i : Invocation) → slice_get invs k ≡ Some i → MadeOk o j i
  pub paired : length states ≡ length invs
  pub has : (x : Obj) → ObjectOk o j x (objects x)
  pub distinct : HasDistinctNames j
  pub entries : (e : Entry) → In e j → EntryAgrees o j e
  pub tickets : (e : Entry) → In e j → TicketAgrees invs atts e
  pub joins : (p : Place) → HasEntry j (join_name p) → AllOpened o j p
  pub attempts : (a : ℕ) (t : Attempt) → slice_get atts a ≡ Some t → AttOk o invs j a t.inv t.phase

abbrev pub WorldKeeps : World → Type 0
WorldKeeps w = Keeps w.opening w.objects w.invs w.states w.atts w.journal

-- ---------------------------------------------------------------- more entries

module _ (o : Opening) (j es : List Entry) where
  abbrev more : Holds (journal_answers j) (journal_answers (j ++ es))
  more = answers_more j es

  -- a visit stays, with all it has
  grown : (s : ℕ) → Grows (visits_of o j s) (visits_of o (j ++ es) s)
  grown s = run_grows o j (j ++ es) more s

  name_grown : (v u : Visit) → IsGrown v u → name_of u ≡ name_of v
  name_grown v u g = ap₂ (λ (p : Place) (z : Visited). let n : Name = record { place = p; kind = kind_at z } in n) g.place g.visited

  pub kept_more : (n : Name) (k : Kept) → KeptOk o j n k → KeptOk o (j ++ es) n k
  kept_more n k c =
      let (u, i, g) = grown n.place.session c.visit c.in_run in
      record {
        visit = u;
        in_run = i;
        name_is = name_grown c.visit u g ∙ c.name_is;
        answer_is = g.answer k.answer c.answer_is;
        raw_is = g.raw ∙ c.raw_is;
        used_is = g.used ∙ c.used_is;
        entry = In-left j es (record { name = n; answer = k.answer; ticket = k.ticket }) c.entry;
      }

  entry_stays : (n : Name) → HasEntry j n → HasEntry (j ++ es) n
  entry_stays n h = (h.0, (In-left j es h.0 h.1.0, h.1.1))

  pub fan_at_more : (p : Place) (raw : Json) (used : Used) (count : ℕ) → IsFanAt o j p raw used count → IsFanAt o (j ++ es) p raw used count
  fan_at_more p raw used count c = record {
    block = c.block;
    name = c.name;
    branches = c.branches;
    leads = fan_more o j (j ++ es) more p c.block c.name raw used c.branches c.leads;
    count_is = c.count_is;
  }

  frames_more : (s : Scope) (b : Block) (around : List Frame) → FramesOk o j s b around → FramesOk o (j ++ es) s b around
  frames_more s b [] h = h
  frames_more s b (f ∷ around) h =
      let c : FrameOk o j s b f = h.0 in (
        record {
          place = c.place;
          index = c.index;
          raw = c.raw;
          used = c.used;
          branches = c.branches;
          input = c.input;
          scope_is = c.scope_is;
          branch_is = c.branch_is;
          leads = fan_more o j (j ++ es) more c.place f.block f.name c.raw c.used c.branches c.leads;
          opened = entry_stays (name_at (scope_of c.place) 0 names.Enter) c.opened;
        },
        frames_more (scope_of c.place) f.block around h.1,
      )

  input_more : (v u : Visit) → IsGrown v u → (at : Visited) (x : Json) (us : Used) → InputIs v at x us → InputIs u at x us
  input_more v u g Entered x us h = g.given ∙ h
  input_more v u g (Called name resource) x us h = (g.raw ∙ h.0, g.used ∙ h.1)
  input_more v u g (Joined name) x us h = tt

  arg_more : (n : Name) (x : Json) (us : Used) → ArgAt o j n x us → ArgAt o (j ++ es) n x us
  arg_more n x us c =
      let (u, i, g) = grown n.place.session c.visit c.in_run in
      record {
        visit = u;
        in_run = i;
        name_is = name_grown c.visit u g ∙ c.name_is;
        input_is = subst (λ z. InputIs u z x us) (sym g.visited) (input_more c.visit u g c.visit.visited x us c.input_is);
      }

  made_more : (i : Invocation) → MadeOk o j i → MadeOk o (j ++ es) i
  made_more i c =
      let (u, k, g) = grown i.name.place.session c.visit c.in_run in
      record {
        visit = u;
        in_run = k;
        name_is = name_grown c.visit u g ∙ c.name_is;
        block_is = g.block ∙ c.block_is;
        spot_is = ap spot_of g.visited ∙ c.spot_is;
        frames = frames_more (scope_of i.name.place) i.site.block i.site.around c.frames;
        opened = elim c.opened [ inl q ↦ inl q | inr h ↦ inr (entry_stays (name_at (scope_of i.name.place) 0 names.Enter) h) ];
      }

  entry_more : (e : Entry) → EntryAgrees o j e → EntryAgrees o (j ++ es) e
  entry_more e c =
      let (u, k, g) = grown e.name.place.session c.visit c.in_run in
      record {
        visit = u;
        in_run = k;
        name_is = name_grown c.visit u g ∙ c.name_is;
        answer_is = g.answer e.answer c.answer_is;
        called = λ state resource q. subst (λ (z : Json). IsAnswerOf o.functions resource z e.ticket e.answer) (sym g.given) (c.called state resource (sym g.visited ∙ q));
      }

  entered_more : (n : Name) (raw : Json) (used : Used) → EnteredAs o j n raw used → EnteredAs o (j ++ es) n raw used
  entered_more n raw used c =
      let (u, k, g) = grown n.place.session c.visit c.in_run in
      record { visit = u; in_run = k; name_is = name_grown c.visit u g ∙ c.name_is; raw_is = g.raw ∙ c.raw_is; used_is = g.used ∙ c.used_is }

  as_more : (n : Name) (raw : Json) (used : Used) (x : Outcome) → AnsweredAs o j n raw used x → AnsweredAs o (j ++ es) n raw used x
  as_more n raw used x c =
      let (u, k, g) = grown n.place.session c.visit c.in_run in
      record { visit = u; in_run = k; name_is = name_grown c.visit u g ∙ c.name_is; raw_is = g.raw ∙ c.raw_is; used_is = g.used ∙ c.used_is; answer_is = g.answer x c.answer_is }

  opened_more : (p : Place) → AllOpened o j p → AllOpened o (j ++ es) p
  opened_more p c = record {
    raw = c.raw;
    used = c.used;
    count = c.count;
    fan = fan_at_more p c.raw c.used c.count c.fan;
    each = λ m l. entry_stays (name_at (child p m c.count) 0 names.Enter) (c.each m l);
  }

  answered_more : (a : ℕ) (i : Invocation) (k : Kept) (v : Spot) → AnsweredBy o j a i k v → AnsweredBy o (j ++ es) a i k v
  answered_more a i k OnEnter c = as_more i.name k.raw k.used k.answer c
  answered_more a i k (OnTask name) c = (entered_more i.name k.raw k.used c.0, c.1)
  answered_more a i k (OnJoin name) c = (as_more i.name k.raw k.used k.answer c.0, opened_more i.name.place c.1)

  gathers_more : (i : Invocation) (count : ℕ) (raw : Json) (used : Used) (outs : List Outcome) → Gathers o j i count raw used outs → Gathers o (j ++ es) i count raw used outs
  gathers_more i count raw used outs c = record {
    name = c.name;
    is_join = c.is_join;
    fan = fan_at_more i.name.place raw used count c.fan;
    ended = λ m x e. end_more o j (j ++ es) more (child i.name.place m count) x (c.ended m x e);
    each = λ m l. entry_stays (name_at (child i.name.place m count) 0 names.Enter) (c.each m l);
    room = c.room;
  }

  phase_more : (a : ℕ) (i : Invocation) (p : Phase) → PhaseOk o j a i p → PhaseOk o (j ++ es) a i p
  phase_more a i Looking c = c
  phase_more a i Saving c = c
  phase_more a i (Gathering count raw used outs) c = (gathers_more i count raw used outs c.0, c.1)
  phase_more a i Reading c = c
  phase_more a i (Calling raw used) c = (c.0, c.1, entered_more i.name raw used c.2)
  phase_more a i (Creating k) c = record { ticket_is = c.ticket_is; answer_is = answered_more a i k i.site.spot c.answer_is }
  phase_more a i (Acting k n) c = kept_more i.name k c
  phase_more a i (Joining k) c = (kept_more i.name k c.0, λ q f around e u. made_more (join_of f around q.place) (c.1 q f around e u))
  phase_more a i (Marking k n) c = kept_more i.name k c
  phase_more a i (Acking finished) c = c
  phase_more a i (AttemptOver finished) c = c

  -- an object's condition, after entries with other names
  object_more : (x : Obj) (c : Condition) → ((e : Entry) → In e es → Check e.name ≢ x) → ObjectOk o j x c → ObjectOk o (j ++ es) x c
  object_more (Check n) Absent apart h = λ e k. elim (In-cases j es e k) [ inl u ↦ h e u | inr v ↦ λ q. apart e v (ap Check q) ]
  object_more (Check n) (Live (KeptAs k)) apart h = kept_more n k h
  object_more (Check n) (Live (OutcomeIs x)) apart h = absurd h
  object_more (Check n) (Live (SavedAs m x us)) apart h = absurd h
  object_more (Check n) (Live (BitsAre is)) apart h = absurd h
  object_more (Check n) (Live (ArgIs x us)) apart h = absurd h
  object_more (Check n) Tombstone apart h = entry_stays n h
  object_more (Out s) (Live (OutcomeIs x)) apart h = (end_more o j (j ++ es) more s x h.0, entry_stays (name_at s 0 names.Enter) h.1)
  object_more (Out s) (Live (KeptAs k)) apart h = absurd h
  object_more (Out s) (Live (SavedAs m x us)) apart h = absurd h
  object_more (Out s) (Live (BitsAre is)) apart h = absurd h
  object_more (Out s) (Live (ArgIs x us)) apart h = absurd h
  object_more (Out s) Absent apart h = tt
  object_more (Out s) Tombstone apart h = (h.0, (h.1.0, entry_stays (join_name h.0.place) h.1.1))
  object_more (Saved p) (Live (SavedAs m x us)) apart h = fan_at_more p x us m h
  object_more (Saved p) (Live (KeptAs k)) apart h = absurd h
  object_more (Saved p) (Live (OutcomeIs x)) apart h = absurd h
  object_more (Saved p) (Live (BitsAre is)) apart h = absurd h
  object_more (Saved p) (Live (ArgIs x us)) apart h = absurd h
  object_more (Saved p) Absent apart h = tt
  object_more (Saved p) Tombstone apart h = entry_stays (join_name p) h
  object_more (Bits p n) (Live x) apart h = λ m e. let r = h m e in (r.0, end_more o j (j ++ es) more (child p m n) r.0 r.1)
  object_more (Bits p n) Absent apart h = tt
  object_more (Bits p n) Tombstone apart h = entry_stays (join_name p) h
  object_more (Arg n) (Live (ArgIs x us)) apart h = arg_more n x us h
  object_more (Arg n) (Live (KeptAs k)) apart h = absurd h
  object_more (Arg n) (Live (OutcomeIs x)) apart h = absurd h
  object_more (Arg n) (Live (SavedAs m x us)) apart h = absurd h
  object_more (Arg n) (Live (BitsAre is)) apart h = absurd h
  object_more (Arg n) Absent apart h = tt
  object_more (Arg n) Tombstone apart h = entry_stays n h

-- ---------------------------------------------------------------- one object changes

put_at : (o : Opening) (j : List Entry) (b : Bool) (x y : Obj) (c d : Condition) → object_same x y ≡ b → ObjectOk o j y c → (x ≢ y → ObjectOk o j x d) → ObjectOk o j x (cond b c d)
put_at o j true x y c d s h k = let P : Obj → Type 0 = λ z. ObjectOk o j z c in subst P (sym (object_is x y s)) h
put_at o j false x y c d s h k = k (λ q. let r : object_same x y ≡ true = rw q (object_refl y) in cc)

pub put_ok : (o : Opening) (j : List Entry) (objects : Obj → Condition) (y : Obj) (c : Condition) → ObjectOk o j y c → ((x : Obj) → x ≢ y → ObjectOk o j x (objects x)) →
    (x : Obj) → ObjectOk o j x (objects_with y c objects x)
unfolding objects_with
put_ok o j objects y c h k x = put_at o j (object_same x y) x y c (objects x) refl h (k x)

object_changed : (w : World) → WorldKeeps w → (y : Obj) (c : Condition) → ObjectOk w.opening w.journal y c → WorldKeeps (record w { objects = objects_with y c w.objects })
object_changed w K y c h = record {
  made = K.made;
  paired = K.paired;
  has = put_ok w.opening w.journal w.objects y c h (λ x q. K.has x);
  distinct = K.distinct;
  entries = K.entries;
  tickets = K.tickets;
  joins = K.joins;
  attempts = K.attempts;
}

-- what an object has where its condition is known
pub has_at : (w : World) → WorldKeeps w → (x : Obj) (c : Condition) → w.objects x ≡ c → ObjectOk w.opening w.journal x c
has_at w K x c e = subst (ObjectOk w.opening w.journal x) e (K.has x)

-- ---------------------------------------------------------------- an attempt moves

pub att_moved : (o : Opening) (objects : Obj → Condition) (invs : List Invocation) (states : List InvState) (atts : List Attempt) (j : List Entry) →
    Keeps o objects invs states atts j → (a : ℕ) (t u : Attempt) → slice_get atts a ≡ Some t → u.inv ≡ t.inv → AttOk o invs j a u.inv u.phase →
    Keeps o objects invs states (slice_set atts a u) j
att_moved o objects invs states atts j K a t u found same ok = record {
  made = K.made;
  paired = K.paired;
  has = K.has;
  distinct = K.distinct;
  entries = K.entries;
  tickets = λ e h.
      let c : TicketAgrees invs atts e = K.tickets e h in
      elim (set_get atts a u e.ticket c.attempt c.attempt_is) [
        | inl p ↦ record { attempt = c.attempt; invocation = c.invocation; attempt_is = p; invocation_is = c.invocation_is; name_is = c.name_is }
        | inr q ↦
            let r : Some t ≡ Some c.attempt = sym found ∙ ap (slice_get atts) (sym q.0) ∙ c.attempt_is in
            let s : t ≡ c.attempt = same_Some t c.attempt r in
            record {
              attempt = u;
              invocation = c.invocation;
              attempt_is = q.1;
              invocation_is = ap (slice_get invs) (same ∙ ap (λ (z : Attempt). z.inv) s) ∙ c.invocation_is;
              name_is = c.name_is;
            }
      ];
  joins = K.joins;
  attempts = λ b v e.
      elim (get_set atts a u b v e) [
        | inl p ↦
            let P : Attempt → Type 0 = λ z. AttOk o invs j b z.inv z.phase in
            let Q : ℕ → Type 0 = λ z. AttOk o invs j z u.inv u.phase in
            subst P p.1 (subst Q (sym p.0) ok)
        | inr q ↦ K.attempts b v q
      ];
}

pub moved_ok : (w : World) (a : ℕ) (t : Attempt) (i : Invocation) (lives : Bool) (phase : Phase) → WorldKeeps w →
    slice_get w.atts a ≡ Some t → slice_get w.invs t.inv ≡ Some i → PhaseOk w.opening w.journal a i phase → WorldKeeps (moved_world w a t lives phase)
moved_ok w a t i lives phase K found at ok =
    att_moved w.opening w.objects w.invs w.states w.atts w.journal K a t (record { inv = t.inv; live = lives; steps = suc t.steps; phase = phase })
    found refl (record { invocation = i; found = at; phase_ok = ok })

-- ---------------------------------------------------------------- a Create of a Check that wins

abbrev entry_by : Invocation → Kept → ℕ → Entry
entry_by i k a = record { name = i.name; answer = k.answer; ticket = a }

-- the visit that a new entry answers
record Won (o : Opening) (l : List Entry) (a : ℕ) (i : Invocation) (k : Kept) : Type 0 where
  pub visit : Visit
  pub in_run : In visit (run_for o l i.name).visits
  pub name_is : name_of visit ≡ i.name
  pub answer_is : visit.answer ≡ Some k.answer
  pub raw_is : visit.raw ≡ k.raw
  pub used_is : visit.used ≡ k.used
  pub called : (state resource : Text) → visit.visited ≡ Called state resource → IsAnswerOf o.functions resource visit.given a k.answer

is_enter : (v : Visited) → spot_of v ≡ OnEnter → v ≡ Entered
is_enter Entered e = refl
is_enter (Called name resource) e = absurd (cc)
is_enter (Joined name) e = absurd (cc)

pub is_task : (v : Visited) (n : Text) → spot_of v ≡ OnTask n → (r : Text) × (v ≡ Called n r)
is_task Entered n e = absurd (cc)
is_task (Called name resource) n e = (resource, let same : name ≡ n = cc in ap (λ z. Called z resource) same)
is_task (Joined name) n e = absurd (cc)

pub is_join : (v : Visited) (n : Text) → spot_of v ≡ OnJoin n → v ≡ Joined n
is_join Entered n e = absurd (cc)
is_join (Called name resource) n e = absurd (cc)
is_join (Joined name) n e = let same : name ≡ n = cc in ap Joined same

-- what a Task's visit is given is what its function was called with
pub task_call : (site : Site) (name r : Text) (st : State) (raw x : Json) → site.spot ≡ OnTask name → state_of site.block name ≡ Some st → rules.begin name st raw ≡ Calls r x →
    (c : Text × Json) → call_of site raw ≡ Some c → (r ≡ c.0) × (x ≡ c.1)
task_call site name r st raw x q found begins c e =
    let P : Spot → Type 0 = λ z. elim z [ OnEnter ↦ None | OnTask name ↦ call_at name (state_of site.block name) raw | OnJoin name ↦ None ] ≡ Some c in
    let at : call_at name (state_of site.block name) raw ≡ Some c = subst P q e in
    let Q : Option State → Type 0 = λ z. call_at name z raw ≡ Some c in
    let st_at : call_in (rules.begin name st raw) ≡ Some c = subst Q found at in
    let R : Begun → Type 0 = λ z. call_in z ≡ Some c in
    let same : (r, x) ≡ c = same_Some (r, x) c (subst R begins st_at) in
    (ap (λ (z : Text × Json). z.0) same, ap (λ (z : Text × Json). z.1) same)

-- an Enter or a Join has the answer of its visit
won_answered : (o : Opening) (j : List Entry) (a : ℕ) (i : Invocation) (k : Kept) → MadeOk o j i → ((name : Text) → i.site.spot ≢ OnTask name) → AnsweredAs o j i.name k.raw k.used k.answer → Won o (j ++ entry_by i k a ∷ []) a i k
won_answered o j a i k m other c =
    let es : List Entry = entry_by i k a ∷ [] in
    let (u, h, g) = grown o j es i.name.place.session c.visit c.in_run in
    let one : c.visit ≡ m.visit = run_once o j i.name.place.session c.visit m.visit c.in_run m.in_run (c.name_is ∙ sym m.name_is) in
    record {
      visit = u;
      in_run = h;
      name_is = name_grown o j es c.visit u g ∙ c.name_is;
      answer_is = g.answer k.answer c.answer_is;
      raw_is = g.raw ∙ c.raw_is;
      used_is = g.used ∙ c.used_is;
      called = λ state resource e. absurd (other state (sym m.spot_is ∙ ap spot_of (ap (λ (z : Visit). z.visited) (sym one) ∙ sym g.visited ∙ e)));
    }

won_at : (o : Opening) (j : List Entry) (a : ℕ) (i : Invocation) (k : Kept) → MadeOk o j i → ((f : Entry) → In f j → f.name ≢ i.name) →
    (at : Spot) → i.site.spot ≡ at → AnsweredBy o j a i k at → Won o (j ++ entry_by i k a ∷ []) a i k
won_at o j a i k m apart OnEnter q c = won_answered o j a i k m (λ name e. absurd (let z : OnEnter ≡ OnTask name = sym q ∙ e in cc)) c
won_at o j a i k m apart (OnTask name) q c =
    let es : List Entry = entry_by i k a ∷ [] in
    let l : List Entry = j ++ es in
    let v : EnteredAs o j i.name k.raw k.used = c.0 in
    let one : v.visit ≡ m.visit = run_once o j i.name.place.session v.visit m.visit v.in_run m.in_run (v.name_is ∙ sym m.name_is) in
    let (r, task) = is_task v.visit.visited name (ap (λ (z : Visit). spot_of z.visited) one ∙ m.spot_is ∙ q) in
    let (u, h, g) = grown o j es i.name.place.session v.visit v.in_run in
    let there : u.visited ≡ Called name r = g.visited ∙ task in
    let S : Visited → Type 0 = λ z. IsSound rules (journal_answers l) u z in
    let sound = subst S there (run_sound o l i.name.place.session u h) in
    let n : i.name ≡ record { place = u.place; kind = names.Task } = sym v.name_is ∙ sym (name_grown o j es v.visit u g) ∙ ap (λ (z : Visited). record { place = u.place; kind = kind_at z }) there in
    let call : TaskAnswer o a i.site k.raw k.answer = c.1 in
    let b : u.block ≡ i.site.block = g.block ∙ ap (λ (z : Visit). z.block) one ∙ m.block_is in
    let found : state_of i.site.block name ≡ Some sound.state = subst (λ z. state_of z name ≡ Some sound.state) b sound.found in
    let begins : rules.begin name sound.state k.raw ≡ Calls r u.given = subst (λ z. rules.begin name sound.state z ≡ Calls r u.given) (g.raw ∙ v.raw_is) sound.begins in
    let same = task_call i.site name r sound.state k.raw u.given q found begins call.call call.call_is in
    record {
      visit = u;
      in_run = h;
      name_is = name_grown o j es v.visit u g ∙ v.name_is;
      answer_is = sound.answer ∙ answers_new j (entry_by i k a) u.place n apart;
      raw_is = g.raw ∙ v.raw_is;
      used_is = g.used ∙ v.used_is;
      called = λ state resource e.
          let s : Called name r ≡ Called state resource = sym there ∙ e in
          let rr : r ≡ resource = cc in
          subst₂ (λ (y : Text) (z : Json). IsAnswerOf o.functions y z a k.answer) (sym same.0 ∙ rr) (sym same.1) call.answer_is;
    }
won_at o j a i k m apart (OnJoin name) q c = won_answered o j a i k m (λ n e. absurd (let z : OnJoin name ≡ OnTask n = sym q ∙ e in cc)) c.0

won_kept : (o : Opening) (j : List Entry) (a : ℕ) (i : Invocation) (k : Kept) → CanCreate o j a i k → Won o (j ++ entry_by i k a ∷ []) a i k →
    KeptOk o (j ++ entry_by i k a ∷ []) i.name k
won_kept o j a i k c v = record {
  visit = v.visit;
  in_run = v.in_run;
  name_is = v.name_is;
  answer_is = v.answer_is;
  raw_is = v.raw_is;
  used_is = v.used_is;
  entry = In-right j (entry_by i k a ∷ []) (record { name = i.name; answer = k.answer; ticket = k.ticket })
      (inl (ap (λ (z : ℕ). record { name = i.name; answer = k.answer; ticket = z }) c.ticket_is));
}

won_ok : (w : World) → WorldKeeps w → (a : ℕ) (t : Attempt) (i : Invocation) (k : Kept) → slice_get w.atts a ≡ Some t → slice_get w.invs t.inv ≡ Some i →
    ((f : Entry) → In f w.journal → f.name ≢ i.name) → Won w.opening (w.journal ++ entry_by i k a ∷ []) a i k → KeptOk w.opening (w.journal ++ entry_by i k a ∷ []) i.name k →
    (i.name.kind ≡ names.Join → AllOpened w.opening w.journal i.name.place) → WorldKeeps (created_world w a (Check i.name) (KeptAs k) Absent)
won_ok w K a t i k found at apart v kept opened =
    let o : Opening = w.opening in
    let j : List Entry = w.journal in
    let n : Name = i.name in
    let es : List Entry = entry_by i k a ∷ [] in
    let l : List Entry = j ++ es in
    record {
      made = λ k' i' e. made_more o j es i' (K.made k' i' e);
      paired = K.paired;
      has = put_ok o l w.objects (Check n) (Live (KeptAs k)) kept
          (λ x q. object_more o j es x (w.objects x) (λ e h z. elim h [ inl y ↦ q (sym z ∙ ap (λ (u : Entry). Check u.name) y) | inr y ↦ absurd y ]) (K.has x));
      distinct = distinct_more j (entry_by i k a) apart K.distinct;
      entries = λ f h. elim (In-cases j es f h) [
        | inl u ↦ entry_more o j es f (K.entries f u)
        | inr u ↦ elim u [
          | inl x ↦ subst (EntryAgrees o l) (sym x) (record { visit = v.visit; in_run = v.in_run; name_is = v.name_is; answer_is = v.answer_is; called = v.called })
          | inr x ↦ absurd x
        ]
      ];
      tickets = λ f h. elim (In-cases j es f h) [
        | inl u ↦ K.tickets f u
        | inr u ↦ elim u [
          | inl x ↦ subst (TicketAgrees w.invs w.atts) (sym x) (record { attempt = t; invocation = i; attempt_is = found; invocation_is = at; name_is = refl })
          | inr x ↦ absurd x
        ]
      ];
      joins = λ p h. elim (In-cases j es h.0 h.1.0) [
        | inl u ↦ opened_more o j es p (K.joins p (h.0, (u, h.1.1)))
        | inr u ↦ elim u [
          | inl x ↦
              let n : i.name ≡ join_name p = ap (λ (z : Entry). z.name) (sym x) ∙ h.1.1 in
              opened_more o j es p (subst (λ (z : Name). AllOpened o j z.place) n (opened (ap (λ (z : Name). z.kind) n)))
          | inr x ↦ absurd x
        ]
      ];
      attempts = λ b u e.
          let d : AttOk o w.invs j b u.inv u.phase = K.attempts b u e in
          record { invocation = d.invocation; found = d.found; phase_ok = phase_more o j es b d.invocation u.phase d.phase_ok };
    }

-- ---------------------------------------------------------------- other changes

-- a Create of any other object
other_created : (w : World) → WorldKeeps w → (a : ℕ) (y : Obj) (h : Held) → entries_of y h a ≡ [] → ObjectOk w.opening w.journal y (Live h) → (c : Condition) →
    WorldKeeps (created_world w a y h c)
other_created w K a y h e ok (Live x) = K
other_created w K a y h e ok Tombstone = K
other_created w K a y h e ok Absent =
    let P : List Entry → Type 0 = λ l. Keeps w.opening (objects_with y (Live h) w.objects) w.invs w.states w.atts l in
    subst P (sym (append-nil w.journal) ∙ ap (λ (z : List Entry). w.journal ++ z) (sym e)) (object_changed w K y (Live h) ok)

pub invoked_ok : (w : World) → WorldKeeps w → (i : Invocation) (s : InvState) → MadeOk w.opening w.journal i →
    WorldKeeps (record w { invs = w.invs ++ i ∷ []; states = w.states ++ s ∷ [] })
invoked_ok w K i s m = record {
  made = λ k i' e. elim (get_pushed w.invs i k i' e) [
    | inl p ↦ K.made k i' p
    | inr q ↦ subst (MadeOk w.opening w.journal) q m
  ];
  paired = let e : length w.states ≡ length w.invs = K.paired in omega (arith, length-append w.states (s ∷ []), length-append w.invs (i ∷ []));
  has = K.has;
  distinct = K.distinct;
  entries = K.entries;
  tickets = λ e h.
      let c : TicketAgrees w.invs w.atts e = K.tickets e h in
      record { attempt = c.attempt; invocation = c.invocation; attempt_is = c.attempt_is; invocation_is = get_append w.invs (i ∷ []) c.attempt.inv c.invocation c.invocation_is; name_is = c.name_is };
  joins = K.joins;
  attempts = λ b v e.
      let d : AttOk w.opening w.invs w.journal b v.inv v.phase = K.attempts b v e in
      record { invocation = d.invocation; found = get_append w.invs (i ∷ []) v.inv d.invocation d.found; phase_ok = d.phase_ok };
}

pub states_ok : (w : World) → WorldKeeps w → (n : ℕ) (f : InvState → InvState) (s : Option InvState) → WorldKeeps (with_state w n f s)
states_ok w K n f None = K
states_ok w K n f (Some s) = record {
  made = K.made;
  paired = length-set w.states n (f s) ∙ K.paired;
  has = K.has;
  distinct = K.distinct;
  entries = K.entries;
  tickets = K.tickets;
  joins = K.joins;
  attempts = K.attempts;
}

-- a root scope is no branch
pub root_no_parent : (s : Scope) → s.trail ≡ [] → (q : Parent) → parent_of s ≡ Some q → ⊥
unfolding parent_of
root_no_parent s t q e = let z : None ≡ Some q = ap (λ y. parent_in s.session (split_last y)) (sym t) ∙ e in cc

-- an object that a finished instance of that name marks
abbrev pub Due : Name → Obj → Type 0
Due n (Check m) = n ≡ m
Due n (Out s) = (q : Parent) × ((parent_of s ≡ Some q) × (n ≡ join_name q.place))
Due n (Saved p) = n ≡ join_name p
Due n (Bits p c) = n ≡ join_name p
Due n (Arg m) = n ≡ m

gone_ok : (o : Opening) (j : List Entry) (n : Name) (k : Kept) → KeptOk o j n k → (x : Obj) → Due n x → ObjectOk o j x Tombstone
gone_ok o j n k d (Check m) h = (record { name = n; answer = k.answer; ticket = k.ticket }, (d.entry, h))
gone_ok o j n k d (Out s) h = (h.0, (h.1.0, (record { name = n; answer = k.answer; ticket = k.ticket }, (d.entry, h.1.1))))
gone_ok o j n k d (Saved p) h = (record { name = n; answer = k.answer; ticket = k.ticket }, (d.entry, h))
gone_ok o j n k d (Bits p c) h = (record { name = n; answer = k.answer; ticket = k.ticket }, (d.entry, h))
gone_ok o j n k d (Arg m) h = (record { name = n; answer = k.answer; ticket = k.ticket }, (d.entry, h))

marked_ok : (w : World) → WorldKeeps w → (x : Obj) → ObjectOk w.opening w.journal x Tombstone → (c : Condition) → WorldKeeps (marked_world w x c)
marked_ok w K x h Absent = K
marked_ok w K x h (Live y) = object_changed w K x Tombstone h
marked_ok w K x h Tombstone = object_changed w K x Tombstone h

-- ---------------------------------------------------------------- the phase after a reply

adopted_ok : (o : Opening) (j : List Entry) (a : ℕ) (i : Invocation) (h : Held) → ObjectOk o j (Check i.name) (Live h) → PhaseOk o j a i (adopted_phase h)
adopted_ok o j a i (KeptAs k) d = d
adopted_ok o j a i (OutcomeIs x) d = tt
adopted_ok o j a i (SavedAs m x us) d = tt
adopted_ok o j a i (BitsAre is) d = tt
adopted_ok o j a i (ArgIs x us) d = tt

gathers_ok : (o : Opening) (j : List Entry) (a : ℕ) (i : Invocation) (v : Spot) → i.site.spot ≡ v → PhaseOk o j a i (gathering_phase v)
gathers_ok o j a i OnEnter q = tt
gathers_ok o j a i (OnTask name) q = tt
gathers_ok o j a i (OnJoin name) q = (name, q)

looked_ok : (w : World) → WorldKeeps w → (a : ℕ) (i : Invocation) → MadeOk w.opening w.journal i → (c : Condition) → w.objects (Check i.name) ≡ c → PhaseOk w.opening w.journal a i (after_look i a (look_reply c))
looked_ok w K a i d Absent q = subst (λ (z : names.Kind). PhaseOk w.opening w.journal a i (program.gathering_phase z)) (kind_is w.opening w.journal i d) (gathers_ok w.opening w.journal a i i.site.spot refl)
looked_ok w K a i d (Live h) q = adopted_ok w.opening w.journal a i h (has_at w K (Check i.name) (Live h) q)
looked_ok w K a i d Tombstone q = tt

name_join : (n : Name) → n.kind ≡ names.Join → join_name n.place ≡ n
name_join n e = ap (λ (z : names.Kind). record { place = n.place; kind = z }) (sym e)

pub get_at : {A : Type 0} (xs : List A) (m : ℕ) → m < length xs → (x : A) × (slice_get xs m ≡ Some x)
get_at [] m l = absurd (omega arith)
get_at (x ∷ xs) zero l = (x, refl)
get_at (x ∷ xs) (suc m) l = get_at xs m (omega arith)

same_lists : (xs ys : List Outcome) → length xs ≡ length ys → ((i : ℕ) → i < length ys → (o : Outcome) × (slice_get xs i ≡ Some o) × (slice_get ys i ≡ Some o)) → xs ≡ ys
same_lists [] [] e h = refl
same_lists [] (y ∷ ys) e h = absurd (omega arith)
same_lists (x ∷ xs) [] e h = absurd (omega arith)
same_lists (x ∷ xs) (y ∷ ys) e h =
    let (o, a, b) = h 0 (omega arith) in
    let first : x ≡ y = cc in
    let l : length xs ≡ length ys = omega arith in
    ap₂ (λ z zs. z ∷ zs) first (same_lists xs ys l (λ i k. h (suc i) (omega arith)))

-- all outcomes are gathered: the Join's answer is that of its visit
gathered_all : (o : Opening) (j : List Entry) (a : ℕ) (i : Invocation) → MadeOk o j i → (count : ℕ) (raw : Json) (used : Used) (outs : List Outcome) → Gathers o j i count raw used outs →
    length outs ≡ count → CanCreate o j a i (kept_of raw used a (combine (state_at i.site.spot) outs) count)
gathered_all o j a i m count raw used outs g e =
    let p : Place = i.name.place in
    let f : IsFanAt o j p raw used count = g.fan in
    let n : ℕ = length f.branches in
    let E : ℕ → ℕ → Outcome → Type 0 = λ c k x. HasEnd o j (child p k c) x in
    let ended : (k : ℕ) (x : Outcome) → slice_get outs k ≡ Some x → E n k x = λ k x q. subst (λ (c : ℕ). E c k x) (sym f.count_is) (g.ended k x q) in
    let full : length outs ≡ n = e ∙ sym f.count_is in
    let r : Ready (journal_answers j) (visits_of o j p.session) p f.block f.name raw used f.branches =
    run_ready o j p f.block f.name raw used f.branches f.leads (λ k l. let (x, q) = get_at outs k (omega (arith, l, full)) in (x, ended k x q)) in
    let (os, len, each, w, h, wp, wb, wv, wr, wu, wa) = r in
    let joined : m.visit.visited ≡ Joined g.name = is_join m.visit.visited g.name (m.spot_is ∙ g.is_join) in
    let places : w.place ≡ m.visit.place = wp ∙ ap (λ (z : Name). z.place) (sym m.name_is) in
    let names : name_of w ≡ name_of m.visit = ap₂ (λ (q : Place) (z : names.Kind). let y : Name = record { place = q; kind = z } in y) places (ap kind_at wv ∙ ap kind_at (sym joined)) in
    let one : w ≡ m.visit = run_once o j p.session w m.visit h m.in_run names in
    let states : Joined f.name ≡ Joined g.name = sym wv ∙ ap (λ (z : Visit). z.visited) one ∙ joined in
    let state : f.name ≡ g.name = cc in
    let lists : os ≡ outs = same_lists os outs (len ∙ sym full) (λ k l. let (x, q) = get_at outs k l in (x, each k x (ended k x q) (omega (arith, l, full)), q)) in
    let x : Outcome = combine (state_at i.site.spot) outs in
    let answer : w.answer ≡ Some x = wa ∙ ap₂ (λ y z. Some (combine y z)) (state ∙ ap state_at (sym g.is_join)) lists in
    let V : Spot → Type 0 = λ v. AnsweredBy o j a i (kept_of raw used a x count) v in
    record {
      ticket_is = refl;
      answer_is = subst V (sym g.is_join) (
        record { visit = w; in_run = h; name_is = names ∙ m.name_is; raw_is = wr; used_is = wu; answer_is = answer },
        record { raw = raw; used = used; count = count; fan = f; each = λ k l. g.each k (omega (arith, l, e)) },
      );
    }

gathered_at : (o : Opening) (j : List Entry) (a : ℕ) (i : Invocation) → MadeOk o j i → (count : ℕ) (raw : Json) (used : Used) (outs : List Outcome) → Gathers o j i count raw used outs →
    (b : Bool) → nat_lt (length outs) count ≡ b → PhaseOk o j a i (cond b (Gathering count raw used outs) (Creating (kept_of raw used a (combine (state_at i.site.spot) outs) count)))
gathered_at o j a i m count raw used outs g true e = (g, e)
gathered_at o j a i m count raw used outs g false e =
    let l : length outs ≤ count = g.room in
    let k : count ≤ length outs = ltb-false (length outs) count e in
    gathered_all o j a i m count raw used outs g (omega arith)

saved_phase_ok : (o : Opening) (j : List Entry) (a : ℕ) (i : Invocation) → MadeOk o j i → (name : Text) → i.site.spot ≡ OnJoin name → (h : Held) → ObjectOk o j (Saved i.name.place) (Live h) →
    PhaseOk o j a i (saved_phase i.site.spot a h)
saved_phase_ok o j a i m name q (SavedAs count raw used) d =
    gathered_at o j a i m count raw used [] (record { name = name; is_join = q; fan = d; ended = λ m' x e. absurd (let z : None ≡ Some x = e in cc); each = λ m' l. absurd (omega arith); room = omega arith })
    (nat_lt 0 count) refl
saved_phase_ok o j a i m name q (KeptAs k) d = tt
saved_phase_ok o j a i m name q (OutcomeIs x) d = tt
saved_phase_ok o j a i m name q (BitsAre is) d = tt
saved_phase_ok o j a i m name q (ArgIs x us) d = tt

saved_ok : (w : World) → WorldKeeps w → (a : ℕ) (i : Invocation) → MadeOk w.opening w.journal i → (name : Text) → i.site.spot ≡ OnJoin name → (c : Condition) → w.objects (Saved i.name.place) ≡ c →
    PhaseOk w.opening w.journal a i (after_saved i.site.spot a (look_reply c))
saved_ok w K a i m name q Absent e = tt
saved_ok w K a i m name q (Live h) e = saved_phase_ok w.opening w.journal a i m name q h (has_at w K (Saved i.name.place) (Live h) e)
saved_ok w K a i m name q Tombstone e = tt

last_or : (n m : ℕ) → n < suc m → (n < m) ⊎ (n ≡ m)
last_or n m l = by (nat_lt n m) refl
  where
    by : (b : Bool) → nat_lt n m ≡ b → (n < m) ⊎ (n ≡ m)
    by true e = inl (ltb-true n m e)
    by false e = let k : m ≤ n = ltb-false n m e in inr (omega arith)

out_phase : (o : Opening) (j : List Entry) (a : ℕ) (i : Invocation) → MadeOk o j i → (count : ℕ) (raw : Json) (used : Used) (outs : List Outcome) → Gathers o j i count raw used outs → nat_lt (length outs) count ≡ true →
    (h : Held) → ObjectOk o j (Out (child i.name.place (length outs) count)) (Live h) → PhaseOk o j a i (next_gathered_phase i.site.spot a count raw used outs h)
out_phase o j a i m count raw used outs g lt (OutcomeIs x) d =
    let more : Gathers o j i count raw used (outs ++ x ∷ []) = record {
      name = g.name;
      is_join = g.is_join;
      fan = g.fan;
      ended = λ n y e. elim (get_pushed_at outs x n y e) [
        | inl p ↦ g.ended n y p
        | inr q ↦
            let P : ℕ → Type 0 = λ z. HasEnd o j (child i.name.place z count) y in
            let Q : Outcome → Type 0 = λ z. HasEnd o j (child i.name.place (length outs) count) z in
            subst P (sym q.0) (subst Q q.1 d.0)
      ];
      each = λ n l. elim (last_or n (length outs) (let z : n < suc (length outs) = omega (arith, l, length-append outs (x ∷ [])) in z)) [
        | inl y ↦ g.each n y
        | inr y ↦ subst (λ z. Opened j (child i.name.place z count)) (sym y) d.1
      ];
      room = let l : length outs < count = ltb-true (length outs) count lt in omega (arith, length-append outs (x ∷ []));
    } in
    gathered_at o j a i m count raw used (outs ++ x ∷ []) more (nat_lt (length (outs ++ x ∷ [])) count) refl
out_phase o j a i m count raw used outs g lt (KeptAs k) d = tt
out_phase o j a i m count raw used outs g lt (SavedAs n x us) d = tt
out_phase o j a i m count raw used outs g lt (BitsAre is) d = tt
out_phase o j a i m count raw used outs g lt (ArgIs x us) d = tt

out_ok : (w : World) → WorldKeeps w → (a : ℕ) (i : Invocation) → MadeOk w.opening w.journal i → (count : ℕ) (raw : Json) (used : Used) (outs : List Outcome) → Gathers w.opening w.journal i count raw used outs →
    nat_lt (length outs) count ≡ true → (c : Condition) → w.objects (Out (child i.name.place (length outs) count)) ≡ c →
    PhaseOk w.opening w.journal a i (after_out i.site.spot a count raw used outs (look_reply c))
out_ok w K a i m count raw used outs g lt Absent e = tt
out_ok w K a i m count raw used outs g lt (Live h) e =
    out_phase w.opening w.journal a i m count raw used outs g lt h (has_at w K (Out (child i.name.place (length outs) count)) (Live h) e)
out_ok w K a i m count raw used outs g lt Tombstone e = tt

-- whose Join wins has gathered
join_opened : (o : Opening) (j : List Entry) (a : ℕ) (i : Invocation) (k : Kept) → MadeOk o j i → (at : Spot) → i.site.spot ≡ at → AnsweredBy o j a i k at → i.name.kind ≡ names.Join → AllOpened o j i.name.place
join_opened o j a i k m OnEnter q c e =
    let v : m.visit.visited ≡ Entered = is_enter m.visit.visited (m.spot_is ∙ q) in
    absurd (let z : names.Enter ≡ names.Join = sym (ap kind_at v) ∙ ap (λ (z : Name). z.kind) m.name_is ∙ e in cc)
join_opened o j a i k m (OnTask name) q c e =
    let (r, v) = is_task m.visit.visited name (m.spot_is ∙ q) in
    absurd (let z : names.Task ≡ names.Join = sym (ap kind_at v) ∙ ap (λ (z : Name). z.kind) m.name_is ∙ e in cc)
join_opened o j a i k m (OnJoin name) q c e = c.1

created_ok : (w : World) → WorldKeeps w → (a : ℕ) (t : Attempt) (i : Invocation) (k : Kept) → slice_get w.atts a ≡ Some t → slice_get w.invs t.inv ≡ Some i →
    CanCreate w.opening w.journal a i k → (c : Condition) → w.objects (Check i.name) ≡ c →
    WorldKeeps (moved_world (created_world w a (Check i.name) (KeptAs k) c) a t true (after_create k (create_reply c)))
created_ok w K a t i k found at d Absent q =
    let apart : (f : Entry) → In f w.journal → f.name ≢ i.name = has_at w K (Check i.name) Absent q in
    let v : Won w.opening (w.journal ++ entry_by i k a ∷ []) a i k = won_at w.opening w.journal a i k (K.made t.inv i at) apart i.site.spot refl d.answer_is in
    let kept : KeptOk w.opening (w.journal ++ entry_by i k a ∷ []) i.name k = won_kept w.opening w.journal a i k d v in
    moved_ok (created_world w a (Check i.name) (KeptAs k) Absent) a t i true (Acting k 0) (won_ok w K a t i k found at apart v kept (join_opened w.opening w.journal a i k (K.made t.inv i at) i.site.spot refl d.answer_is)) found at kept
created_ok w K a t i k found at d (Live h) q =
    moved_ok w a t i true (adopted_phase h) K found at (adopted_ok w.opening w.journal a i h (has_at w K (Check i.name) (Live h) q))
created_ok w K a t i k found at d Tombstone q = moved_ok w a t i true (Acking false) K found at tt

-- ---------------------------------------------------------------- acts

-- what follows the adopted answer stands in R
pub record Follows (o : Opening) (j : List Entry) (i : Invocation) (stop : Stop) : Type 0 where
  visit : Visit
  in_run : In visit (run_for o j i.name).visits
  answer : Outcome
  answer_is : visit.answer ≡ Some answer
  block_is : visit.block ≡ i.site.block
  place_is : visit.place ≡ i.name.place
  pub frames : FramesOk o j (scope_of i.name.place) i.site.block i.site.around
  pub opened : Opened j (scope_of i.name.place)
  stop_is : after rules visit.block visit.visited visit.place.hop visit.raw visit.used answer ≡ stop

-- an Enter's name
pub enter_name : (o : Opening) (j : List Entry) (i : Invocation) (m : MadeOk o j i) → i.site.spot ≡ OnEnter → (i.name.place.hop ≡ 0) × (i.name.kind ≡ names.Enter)
enter_name o j i m q =
    let entered : m.visit.visited ≡ Entered = is_enter m.visit.visited (m.spot_is ∙ q) in
    let S : Visited → Type 0 = λ z. IsSound rules (journal_answers j) m.visit z in
    let sound = subst S entered (run_sound o j i.name.place.session m.visit m.in_run) in
    (ap (λ (z : Name). z.place.hop) (sym m.name_is) ∙ sound.0, ap (λ (z : Name). z.kind) (sym m.name_is) ∙ ap kind_at entered)

name_there : (n : Name) → n.place.hop ≡ 0 → n.kind ≡ names.Enter → (s : Scope) → scope_of n.place ≡ s → n ≡ name_at s 0 names.Enter
name_there n a b s c =
    ap₂ (λ (h : ℕ) (k : names.Kind). let y : Name = record { place = at_hop (scope_of n.place) h; kind = k } in y) a b ∙ ap (λ (z : Scope). name_at z 0 names.Enter) c

-- a name that has an entry stands in a scope whose Enter has one
pub opened_by : (o : Opening) (j : List Entry) (i : Invocation) (k : Kept) → MadeOk o j i → KeptOk o j i.name k → Opened j (scope_of i.name.place)
opened_by o j i k m d = elim m.opened [
  | inl q ↦ let e = enter_name o j i m q in (record { name = i.name; answer = k.answer; ticket = k.ticket }, (d.entry, name_there i.name e.0 e.1 (scope_of i.name.place) refl))
  | inr h ↦ h
]

pub adopted_stop : (o : Opening) (j : List Entry) (i : Invocation) (k : Kept) → MadeOk o j i → KeptOk o j i.name k → Follows o j i (stop_of i.site i.name.place.hop k)
adopted_stop o j i k m d =
    let v : Visit = d.visit in
    let one : v ≡ m.visit = run_once o j i.name.place.session v m.visit d.in_run m.in_run (d.name_is ∙ sym m.name_is) in
    let block : v.block ≡ i.site.block = ap (λ (z : Visit). z.block) one ∙ m.block_is in
    let spot : spot_of v.visited ≡ i.site.spot = ap (λ (z : Visit). spot_of z.visited) one ∙ m.spot_is in
    let place : v.place ≡ i.name.place = ap (λ (z : Name). z.place) d.name_is in
    let same : after rules v.block (visited_at (spot_of v.visited)) v.place.hop v.raw v.used k.answer ≡ stop_of i.site i.name.place.hop k = cc (block, spot, place, d.raw_is, d.used_is) in
    record {
      visit = v;
      in_run = d.in_run;
      answer = k.answer;
      answer_is = d.answer_is;
      block_is = block;
      place_is = place;
      frames = m.frames;
      opened = opened_by o j i k m d;
      stop_is = after_site v.block v.visited v.place.hop v.raw v.used k.answer ∙ same;
    }

-- what an act may do, in the run of its scope
abbrev pub OpOk : Opening → List Entry → Scope → Op → Type 0
OpOk o j s (Create (Out t) h) = ObjectOk o j (Out t) (Live h)
OpOk o j s (Create (Saved p) h) = ObjectOk o j (Saved p) (Live h)
OpOk o j s (Create (Arg n) h) = ObjectOk o j (Arg n) (Live h)
OpOk o j s (Create _ h) = ⊥
OpOk o j s (Set p index count) = (parent_of s ≡ Some (record { place = p; index = index; count = count })) × ((x : Outcome) × HasEnd o j (child p index count) x)
OpOk o j s (Invoke i) = MadeOk o j i
OpOk o j s _ = ⊥

split_more_some : (g : Seg) (z : Option Split) → split_more g z ≡ None → ⊥
split_more_some g None e = cc
split_more_some g (Some z) e = cc

split_none : (t : List Seg) → split_last t ≡ None → t ≡ []
split_none [] e = refl
split_none (g ∷ t) e = absurd (split_more_some g (split_last t) e)

split_step : (g : Seg) (t : List Seg) → ((y : Split) → split_last t ≡ Some y → t ≡ y.front ++ y.last ∷ []) → (z : Option Split) → split_last t ≡ z →
    (x : Split) → split_more g z ≡ Some x → g ∷ t ≡ x.front ++ x.last ∷ []
split_step g t rec None q x e =
    let P : Split → Type 0 = λ y. g ∷ t ≡ y.front ++ y.last ∷ [] in
    subst P (same_Some (record { front = []; last = g }) x e) (ap (λ (u : List Seg). g ∷ u) (split_none t q))
split_step g t rec (Some y) q x e =
    let P : Split → Type 0 = λ y. g ∷ t ≡ y.front ++ y.last ∷ [] in
    subst P (same_Some (record { front = g ∷ y.front; last = y.last }) x e) (ap (λ (u : List Seg). g ∷ u) (rec y q))

split_back : (t : List Seg) (x : Split) → split_last t ≡ Some x → t ≡ x.front ++ x.last ∷ []
split_back [] x e = absurd (cc)
split_back (g ∷ t) x e = split_step g t (λ y q. split_back t y q) (split_last t) refl x e

parent_at : (session : ℕ) (t : List Seg) (z : Option Split) → split_last t ≡ z → (q : Parent) → parent_in session z ≡ Some q →
    ◌≡◌ {A = Scope} (record { session = session; trail = t }) (child q.place q.index q.count)
parent_at session t None e q h = absurd (cc)
parent_at session t (Some x) e q h =
    let p : Parent = record { place = record { session = session; trail = x.front; hop = x.last.hop }; index = x.last.index; count = x.last.count } in
    let P : Parent → Type 0 = λ y. ◌≡◌ {A = Scope} (record { session = session; trail = t }) (child y.place y.index y.count) in
    subst P (same_Some p q h) (ap (λ (u : List Seg). record { session = session; trail = u }) (split_back t x e))

-- a scope with a parent is that branch of it
pub parent_child : (s : Scope) (q : Parent) → parent_of s ≡ Some q → s ≡ child q.place q.index q.count
unfolding parent_of
parent_child s q e = parent_at s.session s.trail (split_last s.trail) refl q e

-- a branch's parent is its fan's place, with its index and count
split_snoc : (t : List Seg) (g : Seg) → split_last (t ++ g ∷ []) ≡ Some (record { front = t; last = g })
split_snoc [] g = refl
split_snoc (a ∷ t) g = ap (split_more a) (split_snoc t g)

pub parent_of_child : (p : Place) (index count : ℕ) → parent_of (child p index count) ≡ Some (record { place = p; index = index; count = count })
unfolding parent_of
parent_of_child p index count = ap (parent_in p.session) (split_snoc p.trail (record { hop = p.hop; index = index; count = count }))

first_op : (o : Opening) (j : List Entry) (s : Scope) (x op : Op) → OpOk o j s x → Some x ≡ Some op → OpOk o j s op
first_op o j s x op h e = subst (OpOk o j s) (same_Some x op e) h

-- the Enter of a fan's branch is a visit of R, and given its input
record Branch (o : Opening) (j : List Entry) (p : Place) (n count : ℕ) (b : Block) (x : Json) : Type 0 where
  visit : Visit
  in_run : In visit (visits_of o j p.session)
  name_is : name_of visit ≡ name_at (child p n count) 0 names.Enter
  block_is : visit.block ≡ b
  visited_is : visit.visited ≡ Entered
  given_is : visit.given ≡ x

branch_at : (o : Opening) (j : List Entry) (p : Place) (fb : Block) (name : Text) (raw : Json) (used : Used) (cs : List (Block × Json)) → HasFan o j p fb name raw used cs →
    (n : ℕ) (b : Block) (x : Json) → slice_get cs n ≡ Some (b, x) → Branch o j p n (length cs) b x
branch_at o j p fb name raw used cs (v, i, vb, x, ve, vf, vp) n b y e =
    let f : FollowedBy rules (journal_answers j) (visits_of o j p.session) v (Fan name p.hop raw used cs) = subst (FollowedBy rules (journal_answers j) (visits_of o j p.session) v) vf (run_next o j p.session v x i ve) in
    let (w, h, q, wb, wv, g) = f.0 n b y e in
    record {
      visit = w;
      in_run = h;
      name_is = ap₂ (λ (r : Place) (z : Visited). let n : Name = record { place = r; kind = kind_at z } in n) (q ∙ ap (λ (z : Place). at_hop (child z n (length cs)) 0) (sym vp)) wv;
      block_is = wb;
      visited_is = wv;
      given_is = g;
    }

made_enter : (o : Opening) (j : List Entry) (p : Place) (f : Frame) (around : List Frame) (raw : Json) (used : Used) (cs : List (Block × Json)) → HasFan o j p f.block f.name raw used cs → Opened j (scope_of p) → FramesOk o j (scope_of p) f.block around →
    (n : ℕ) (b : Block) (x : Json) → slice_get cs n ≡ Some (b, x) → MadeOk o j (enter_of (f ∷ around) p n (length cs) b)
made_enter o j p f around raw used cs h op k n b x e =
    let w : Branch o j p n (length cs) b x = branch_at o j p f.block f.name raw used cs h n b x e in
    record {
      visit = w.visit;
      in_run = w.in_run;
      name_is = w.name_is;
      block_is = w.block_is;
      spot_is = ap spot_of w.visited_is;
      frames = (record { place = p; index = n; raw = raw; used = used; branches = cs; input = x; scope_is = refl; branch_is = e; leads = h; opened = op }, k);
      opened = inl refl;
    }

first_of : {A : Type 0} (n : ℕ) (xs : List A) (m : ℕ) (x : A) → slice_get (firsts n xs) m ≡ Some x → slice_get xs m ≡ Some x
first_of zero xs m x e = absurd (cc)
first_of (suc n) [] m x e = absurd (cc)
first_of (suc n) (y ∷ ys) zero x e = e
first_of (suc n) (y ∷ ys) (suc m) x e = first_of n ys m x e

once_of : {A : Type 0} (w : ℕ) (xs : List A) (m : ℕ) (x : A) → slice_get (at_once w xs) m ≡ Some x → slice_get xs m ≡ Some x
once_of zero xs m x e = e
once_of (suc w) xs m x e = first_of (suc w) xs m x e

enters_ok : (o : Opening) (j : List Entry) (s : Scope) (around : List Frame) (p : Place) (index count : ℕ) (cs : List (Block × Json)) (m : ℕ) (op : Op) →
    ((n : ℕ) (c : Block × Json) → slice_get cs n ≡ Some c → MadeOk o j (enter_of around p (index + n) count c.0)) → slice_get (enter_ops around p index count cs) m ≡ Some op → OpOk o j s op
enters_ok o j s around p index count [] m op h e = absurd (cc)
enters_ok o j s around p index count (c ∷ cs) zero op h e =
    let z : index + 0 ≡ index = omega arith in
    first_op o j s (Invoke (enter_of around p index count c.0)) op (subst (λ (n : ℕ). MadeOk o j (enter_of around p n count c.0)) z (h 0 c refl)) e
enters_ok o j s around p index count (c ∷ cs) (suc m) op h e =
    enters_ok o j s around p (suc index) count cs m op
    (λ n d q. let z : index + suc n ≡ suc index + n = omega arith in subst (λ (y : ℕ). MadeOk o j (enter_of around p y count d.0)) z (h (suc n) d q)) e

item_at : (cs : List (Block × Json)) (i : ℕ) → i < length cs → (b : Block) × (x : Json) × (slice_get cs i ≡ Some (b, x))
item_at [] i h = absurd (omega arith)
item_at (c ∷ cs) zero h = (c.0, c.1, refl)
item_at (c ∷ cs) (suc i) h = item_at cs i (omega arith)

width_found : (f : Frame) (st : State) → state_of f.block f.name ≡ Some st → width_of f ≡ limit_of st
width_found f st e = ap Acts.width_at e

-- the branch that a branch's end invokes
paced_made : (o : Opening) (j : List Entry) (s : Scope) (b : Block) (f : Frame) (around : List Frame) (w : ℕ) → FramesOk o j s b (f ∷ around) → width_of f ≡ suc w →
    (q : Parent) → parent_of s ≡ Some q → q.index + suc w < q.count → MadeOk o j (enter_of (f ∷ around) q.place (q.index + suc w) q.count b)
paced_made o j s b f around w h wide q e l =
    let c : FrameOk o j s b f = h.0 in
    let n : ℕ = length c.branches in
    let here : Parent = record { place = c.place; index = c.index; count = n } in
    let hq : q ≡ here = same_Some q here (sym e ∙ ap parent_of c.scope_is ∙ parent_of_child c.place c.index n) in
    let lt : c.index + suc w < n = subst (λ (z : Parent). z.index + suc w < z.count) hq l in
    let (b', x', k) = item_at c.branches (c.index + suc w) lt in
    let (st, inputs, found, begins, are) = run_fan_is o j c.place f.block f.name c.raw c.used c.branches c.leads in
    let limited : limit_of st ≢ 0 = λ z. absurd (let y : suc w ≡ 0 = sym wide ∙ width_found f st found ∙ z in cc) in
    let mine : slice_get (children st inputs) c.index ≡ Some (b, c.input) = subst (λ z. slice_get z c.index ≡ Some (b, c.input)) are c.branch_is in
    let next : slice_get (children st inputs) (c.index + suc w) ≡ Some (b', x') = subst (λ z. slice_get z (c.index + suc w) ≡ Some (b', x')) are k in
    let same : b' ≡ b = one_body_lem st inputs limited (c.index + suc w) c.index b' b x' c.input next mine in
    let made : MadeOk o j (enter_of (f ∷ around) c.place (c.index + suc w) n b) =
    subst (λ z. MadeOk o j (enter_of (f ∷ around) c.place (c.index + suc w) n z)) same (made_enter o j c.place f around c.raw c.used c.branches c.leads c.opened h.1 (c.index + suc w) b' x' k) in
    subst (λ (z : Parent). MadeOk o j (enter_of (f ∷ around) z.place (z.index + suc w) z.count b)) (sym hq) made

module _ (o : Opening) (j : List Entry) (i : Invocation) where
  abbrev S : Scope
  S = scope_of i.name.place

  followed : (stop : Stop) (f : Follows o j i stop) → FollowedBy rules (journal_answers j) (run_for o j i.name).visits f.visit stop
  followed stop f = subst (FollowedBy rules (journal_answers j) (run_for o j i.name).visits f.visit) f.stop_is (run_next o j i.name.place.session f.visit f.answer f.in_run f.answer_is)

  -- the fan that it leads to
  pub leads : (name : Text) (hop : ℕ) (raw : Json) (used : Used) (cs : List (Block × Json)) → Follows o j i (Fan name hop raw used cs) → HasFan o j (at_hop S hop) i.site.block name raw used cs
  leads name hop raw used cs f =
      (f.visit, f.in_run, f.block_is, f.answer, f.answer_is, f.stop_is, ap (λ (z : Place). at_hop (scope_of z) hop) (sym f.place_is))

  made_task : (name : Text) (hop : ℕ) (raw : Json) (used : Used) → Follows o j i (Call name hop raw used) → MadeOk o j (task_of i.site S hop name) × ArgAt o j (name_at S hop names.Task) raw used
  made_task name hop raw used f =
      let (w, h, st, resource, p, b, v, found, begins, r, u) = followed (Call name hop raw used) f in
      let name_is : name_of w ≡ name_at S hop names.Task = ap₂ (λ (q : Place) (z : Visited). let n : Name = record { place = q; kind = kind_at z } in n) (p ∙ ap (λ (z : Place). at_hop (scope_of z) hop) f.place_is) v in (
        record { visit = w; in_run = h; name_is = name_is; block_is = b ∙ f.block_is; spot_is = ap spot_of v; frames = f.frames; opened = inr f.opened },
        record { visit = w; in_run = h; name_is = name_is; input_is = subst (λ z. InputIs w z raw used) (sym v) (r, u) },
      )

  made_empty : (name : Text) (hop : ℕ) (raw : Json) (used : Used) → Follows o j i (Fan name hop raw used []) → MadeOk o j (join_of (record { block = i.site.block; name = name }) i.site.around (at_hop S hop))
  made_empty name hop raw used f =
      let (w, h, p, b, v, g, u) = (followed (Fan name hop raw used []) f).1 refl in
      record {
        visit = w;
        in_run = h;
        name_is = ap₂ (λ (q : Place) (z : Visited). let n : Name = record { place = q; kind = kind_at z } in n) (p ∙ ap (λ (z : Place). at_hop (scope_of z) hop) f.place_is) v;
        block_is = b ∙ f.block_is;
        spot_is = ap spot_of v;
        frames = f.frames;
        opened = inr f.opened;
      }

  made_end : (x : Outcome) → Follows o j i (Over x) → HasEnd o j S x
  made_end x f = over_end o j f.visit S x (ap scope_of f.place_is) (followed (Over x) f)

  fans_ok : (name : Text) (hop : ℕ) (raw : Json) (used : Used) (cs : List (Block × Json)) → Follows o j i (Fan name hop raw used cs) → (m : ℕ) (op : Op) →
      slice_get (fan_ops i.site (at_hop S hop) name cs) m ≡ Some op → OpOk o j S op
  fans_ok name hop raw used [] f zero op e = first_op o j S (Invoke (join_of (record { block = i.site.block; name = name }) i.site.around (at_hop S hop))) op (made_empty name hop raw used f) e
  fans_ok name hop raw used [] f (suc m) op e = absurd (cc)
  fans_ok name hop raw used (c ∷ cs) f m op e =
      let fr : Frame = record { block = i.site.block; name = name } in
      enters_ok o j S (inner i.site name) (at_hop S hop) 0 (suc (length cs)) (at_once (width_of fr) (c ∷ cs)) m op
      (λ n d q. let z : n ≡ 0 + n = omega arith in
      subst (λ (y : ℕ). MadeOk o j (enter_of (inner i.site name) (at_hop S hop) y (suc (length cs)) d.0)) z
      (made_enter o j (at_hop S hop) fr i.site.around raw used (c ∷ cs) (leads name hop raw used (c ∷ cs) f) f.opened f.frames n d.0 d.1 (once_of (width_of fr) (c ∷ cs) n d q)))
      (subst (λ (z : List Op). slice_get z m ≡ Some op) (fan_same i.site (at_hop S hop) name c cs) e)

  module _ (x : Outcome) (h : HasEnd o j S x) (fr : FramesOk o j S i.site.block i.site.around) where
    set_ok : (q : Parent) → parent_of S ≡ Some q → (m : ℕ) (op : Op) → slice_get (Set q.place q.index q.count ∷ []) m ≡ Some op → OpOk o j S op
    set_ok p q zero op e = first_op o j S (Set p.place p.index p.count) op (q, (x, subst (λ z. HasEnd o j z x) (parent_child S p q) h)) e
    set_ok p q (suc m) op e = absurd (cc)

    pace_ok : (q : Parent) → parent_of S ≡ Some q → (f : Frame) (around : List Frame) → i.site.around ≡ f ∷ around → (w : ℕ) → width_of f ≡ suc w → (b : Bool) → nat_lt (q.index + suc w) q.count ≡ b → (m : ℕ) (op : Op) →
        slice_get (cond b (Invoke (enter_of i.site.around q.place (q.index + suc w) q.count i.site.block) ∷ []) [] ++ (Set q.place q.index q.count ∷ [])) m ≡ Some op → OpOk o j S op
    pace_ok p q f around u w wide true lt zero op e =
        let l : p.index + suc w < p.count = ltb-true (p.index + suc w) p.count lt in
        let fr' : FramesOk o j S i.site.block (f ∷ around) = subst (FramesOk o j S i.site.block) u fr in
        let made = paced_made o j S i.site.block f around w fr' wide p q l in
        first_op o j S (Invoke (enter_of i.site.around p.place (p.index + suc w) p.count i.site.block)) op (subst (λ z. MadeOk o j (enter_of z p.place (p.index + suc w) p.count i.site.block)) (sym u) made) e
    pace_ok p q f around u w wide true lt (suc m) op e = set_ok p q m op e
    pace_ok p q f around u w wide false lt m op e = set_ok p q m op e

    paces_ok : (q : Parent) → parent_of S ≡ Some q → (f : Frame) (around : List Frame) → i.site.around ≡ f ∷ around → (w : ℕ) → width_of f ≡ w → (m : ℕ) (op : Op) →
        slice_get (pace_ops i.site q w ++ (Set q.place q.index q.count ∷ [])) m ≡ Some op → OpOk o j S op
    paces_ok p q f around u zero wide m op e = set_ok p q m op e
    paces_ok p q f around u (suc w) wide m op e = pace_ok p q f around u w wide (nat_lt (p.index + suc w) p.count) refl m op e

    width_ok : (q : Parent) → parent_of S ≡ Some q → (around : List Frame) → i.site.around ≡ around → (m : ℕ) (op : Op) → slice_get (pace_ops i.site q (width_in around) ++ (Set q.place q.index q.count ∷ [])) m ≡ Some op → OpOk o j S op
    width_ok p q [] u m op e = set_ok p q m op e
    width_ok p q (f ∷ around) u m op e = paces_ok p q f around u (width_of f) refl m op e

    sets_ok : (z : Option Parent) → parent_of S ≡ z → (m : ℕ) (op : Op) → slice_get (set_ops i.site z) m ≡ Some op → OpOk o j S op
    sets_ok None q m op e = absurd (cc)
    sets_ok (Some p) q m op e = width_ok p q i.site.around refl m op e

  pub acts_ok : (stop : Stop) (m : ℕ) (op : Op) → Follows o j i stop → slice_get (acts_of i.site S stop) m ≡ Some op → OpOk o j S op
  acts_ok (Call name hop raw used) zero op f e = first_op o j S (Create (Arg (name_at S hop names.Task)) (ArgIs raw used)) op (made_task name hop raw used f).1 e
  acts_ok (Call name hop raw used) (suc zero) op f e = first_op o j S (Invoke (task_of i.site S hop name)) op (made_task name hop raw used f).0 e
  acts_ok (Call name hop raw used) (suc (suc m)) op f e = absurd (cc)
  acts_ok (Fan name hop raw used cs) zero op f e =
      first_op o j S (Create (Saved (at_hop S hop)) (SavedAs (length (enter_sites (inner i.site name) cs)) raw used)) op
      (record { block = i.site.block; name = name; branches = cs; leads = leads name hop raw used cs f; count_is = sym (sites_length (inner i.site name) cs) }) e
  acts_ok (Fan name hop raw used cs) (suc m) op f e = fans_ok name hop raw used cs f m op e
  acts_ok (Over x) zero op f e = first_op o j S (Create (Out S) (OutcomeIs x)) op (made_end x f, f.opened) e
  acts_ok (Over x) (suc m) op f e = sets_ok x (made_end x f) f.frames (parent_of S) refl m op e

-- ---------------------------------------------------------------- what is read

-- the data of an Enter: its answer is that of its visit
entered_ok : (o : Opening) (j : List Entry) (a : ℕ) (i : Invocation) (m : MadeOk o j i) → i.site.spot ≡ OnEnter → (x : Json) → m.visit.given ≡ x → CanCreate o j a i (kept_of Null [] a (Done x) 0)
entered_ok o j a i m q x g =
    let entered : m.visit.visited ≡ Entered = is_enter m.visit.visited (m.spot_is ∙ q) in
    let S : Visited → Type 0 = λ z. IsSound rules (journal_answers j) m.visit z in
    let sound = subst S entered (run_sound o j i.name.place.session m.visit m.in_run) in
    let P : Spot → Type 0 = λ v. AnsweredBy o j a i (kept_of Null [] a (Done x) 0) v in
    record {
      ticket_is = refl;
      answer_is = subst P (sym q) (record { visit = m.visit; in_run = m.in_run; name_is = m.name_is; raw_is = sound.1; used_is = sound.2; answer_is = sound.3 ∙ ap (λ (z : Json). Some (Done z)) g });
    }

-- what an Arg holds is what the visit of its name has
arg_is : (o : Opening) (j : List Entry) (i : Invocation) (m : MadeOk o j i) (x : Json) (us : Used) → ArgAt o j i.name x us → InputIs m.visit m.visit.visited x us
arg_is o j i m x us c =
    let one : c.visit ≡ m.visit = run_once o j i.name.place.session c.visit m.visit c.in_run m.in_run (c.name_is ∙ sym m.name_is) in
    subst (λ (z : Visit). InputIs z z.visited x us) one c.input_is

-- what the fan of a branch saved gives the branch its input
saved_input : (o : Opening) (j : List Entry) (s : Scope) (b : Block) (f : Frame) (c : FrameOk o j s b f) (around : List Frame) (q : Parent) → parent_of s ≡ Some q → (count : ℕ) (raw : Json) (us : Used) → IsFanAt o j q.place raw us count →
    input_at (f ∷ around) raw (Some q) ≡ Some c.input
saved_input o j s b f c around q e count raw us d =
    let n : ℕ = length c.branches in
    let here : Parent = record { place = c.place; index = c.index; count = n } in
    let hq : q ≡ here = same_Some q here (sym e ∙ ap parent_of c.scope_is ∙ parent_of_child c.place c.index n) in
    let fan_saved : HasFan o j c.place d.block d.name raw us d.branches = subst (λ (z : Parent). HasFan o j z.place d.block d.name raw us d.branches) hq d.leads in
    let same : SameFan d.block f.block d.name f.name raw c.raw us c.used d.branches c.branches = run_one_fan o j c.place d.block f.block d.name f.name raw c.raw us c.used d.branches c.branches fan_saved c.leads in
    let (st, inputs, found, begins, are) = run_fan_is o j c.place f.block f.name c.raw c.used c.branches c.leads in
    let mine : slice_get inputs c.index ≡ Some c.input = input_at_lem st inputs c.index b c.input (subst (λ z. slice_get z c.index ≡ Some (b, c.input)) are c.branch_is) in
    let given : input_in f.name (Some st) c.raw c.index ≡ Some c.input = subst (λ z. input_of z c.index ≡ Some c.input) (sym begins) mine in
    let at : input_in f.name (state_of f.block f.name) c.raw c.index ≡ Some c.input = subst (λ z. input_in f.name z c.raw c.index ≡ Some c.input) (sym found) given in
    subst₂ (λ (y : Json) (z : ℕ). input_in f.name (state_of f.block f.name) y z ≡ Some c.input) (sym same.raw_is) (sym (ap (λ (z : Parent). z.index) hq)) at

-- so each branch has one
pub branch_has_input : (o : Opening) (j : List Entry) (i : Invocation) → MadeOk o j i → (q : Parent) → parent_of (scope_of i.name.place) ≡ Some q → (count : ℕ) (raw : Json) (us : Used) → IsFanAt o j q.place raw us count →
    (around : List Frame) → i.site.around ≡ around → (x : Json) × (input_at around raw (Some q) ≡ Some x)
branch_has_input o j i m q e count raw us d [] u =
    absurd (root_no_parent (scope_of i.name.place) (subst (FramesOk o j (scope_of i.name.place) i.site.block) u m.frames) q e)
branch_has_input o j i m q e count raw us d (f ∷ around) u =
    let h : FramesOk o j (scope_of i.name.place) i.site.block (f ∷ around) = subst (FramesOk o j (scope_of i.name.place) i.site.block) u m.frames in
    (h.0.input, saved_input o j (scope_of i.name.place) i.site.block f h.0 around q e count raw us d)

-- the input with its index is what a branch's Enter is given
branch_input : (o : Opening) (j : List Entry) (i : Invocation) (m : MadeOk o j i) → i.site.spot ≡ OnEnter → i.name.place.hop ≡ 0 → i.name.kind ≡ names.Enter → (q : Parent) → parent_of (scope_of i.name.place) ≡ Some q → (count : ℕ) (raw : Json) (us : Used) → IsFanAt o j q.place raw us count →
    (around : List Frame) → i.site.around ≡ around → (x : Json) → input_at around raw (Some q) ≡ Some x → m.visit.given ≡ x
branch_input o j i m spot hop kind q e count raw us d [] u x g = absurd (cc)
branch_input o j i m spot hop kind q e count raw us d (f ∷ around) u x g =
    let s : Scope = scope_of i.name.place in
    let h : FramesOk o j s i.site.block (f ∷ around) = subst (FramesOk o j s i.site.block) u m.frames in
    let c : FrameOk o j s i.site.block f = h.0 in
    let n : ℕ = length c.branches in
    let given : c.input ≡ x = same_Some c.input x (sym (saved_input o j s i.site.block f c around q e count raw us d) ∙ g) in
    let w : Branch o j c.place c.index n i.site.block c.input = branch_at o j c.place f.block f.name c.raw c.used c.branches c.leads c.index i.site.block c.input c.branch_is in
    let names : name_of w.visit ≡ name_of m.visit = w.name_is ∙ sym (name_there i.name hop kind (child c.place c.index n) c.scope_is) ∙ sym m.name_is in
    let session : c.place.session ≡ i.name.place.session = ap (λ (z : Scope). z.session) (sym c.scope_is) in
    let one : w.visit ≡ m.visit = run_once o j i.name.place.session w.visit m.visit (subst (λ z. In w.visit (visits_of o j z)) session w.in_run) m.in_run names in
    ap (λ (z : Visit). z.given) (sym one) ∙ w.given_is ∙ given

enters_phase : (o : Opening) (j : List Entry) (a : ℕ) (i : Invocation) (m : MadeOk o j i) → i.site.spot ≡ OnEnter → (z : Option Json) → ((x : Json) → z ≡ Some x → m.visit.given ≡ x) → PhaseOk o j a i (entered_phase a z)
enters_phase o j a i m q None f = tt
enters_phase o j a i m q (Some x) f = entered_ok o j a i m q x (f x refl)

read_phase_ok : (o : Opening) (j : List Entry) (a : ℕ) (i : Invocation) (m : MadeOk o j i) (at : Spot) → i.site.spot ≡ at → (z : Option Parent) → parent_of (scope_of i.name.place) ≡ z → (h : Held) → ObjectOk o j (source_in i.name at z) (Live h) →
    PhaseOk o j a i (read_phase i a at h)
read_phase_ok o j a i m OnEnter q None e (ArgIs x us) d =
    let entered : m.visit.visited ≡ Entered = is_enter m.visit.visited (m.spot_is ∙ q) in
    entered_ok o j a i m q x (subst (λ z. InputIs m.visit z x us) entered (arg_is o j i m x us d))
read_phase_ok o j a i m OnEnter q None e (SavedAs n x us) d = absurd d
read_phase_ok o j a i m OnEnter q None e (KeptAs k) d = tt
read_phase_ok o j a i m OnEnter q None e (OutcomeIs x) d = tt
read_phase_ok o j a i m OnEnter q None e (BitsAre is) d = tt
read_phase_ok o j a i m OnEnter q (Some p) e (ArgIs x us) d = absurd d
read_phase_ok o j a i m OnEnter q (Some p) e (SavedAs n x us) d =
    let name = enter_name o j i m q in
    enters_phase o j a i m q (input_at i.site.around x (parent_of (scope_of i.name.place)))
    (λ y g. branch_input o j i m q name.0 name.1 p e n x us d i.site.around refl y (subst (λ z. input_at i.site.around x z ≡ Some y) e g))
read_phase_ok o j a i m OnEnter q (Some p) e (KeptAs k) d = tt
read_phase_ok o j a i m OnEnter q (Some p) e (OutcomeIs x) d = tt
read_phase_ok o j a i m OnEnter q (Some p) e (BitsAre is) d = tt
read_phase_ok o j a i m (OnTask name) q z e (ArgIs x us) d =
    let (r, task) = is_task m.visit.visited name (m.spot_is ∙ q) in
    let both = subst (λ z. InputIs m.visit z x us) task (arg_is o j i m x us d) in
    (name, q, record { visit = m.visit; in_run = m.in_run; name_is = m.name_is; raw_is = both.0; used_is = both.1 })
read_phase_ok o j a i m (OnTask name) q z e (SavedAs n x us) d = tt
read_phase_ok o j a i m (OnTask name) q z e (KeptAs k) d = tt
read_phase_ok o j a i m (OnTask name) q z e (OutcomeIs x) d = tt
read_phase_ok o j a i m (OnTask name) q z e (BitsAre is) d = tt
read_phase_ok o j a i m (OnJoin name) q z e h d = tt

read_ok : (w : World) → WorldKeeps w → (a : ℕ) (i : Invocation) → MadeOk w.opening w.journal i → (c : Condition) → w.objects (source i) ≡ c → PhaseOk w.opening w.journal a i (after_read i a (look_reply c))
read_ok w K a i m Absent e = tt
read_ok w K a i m (Live h) e =
    let k : kind_on i.site.spot ≡ i.name.kind = kind_is w.opening w.journal i m in
    let z : Option Parent = parent_of (scope_of i.name.place) in
    subst (λ (y : names.Kind). PhaseOk w.opening w.journal a i (program.read_phase machine_code i a y h)) k
    (read_phase_ok w.opening w.journal a i m i.site.spot refl z refl h
    (subst (λ (y : names.Kind). ObjectOk w.opening w.journal (program.source_in i.name y z) (Live h)) (sym k) (has_at w K (source i) (Live h) e)))
read_ok w K a i m Tombstone e = tt

-- ---------------------------------------------------------------- a bitmap that is full

pub and_parts : (a b : Bool) → a && b ≡ true → (a ≡ true) × (b ≡ true)
and_parts true b q = (refl, q)
and_parts false b q = cc

pub has_all_at : (n : ℕ) (is : List ℕ) (m : ℕ) → has_all n is ≡ true → m < n → has_bit m is ≡ true
has_all_at zero is m e l = absurd (omega arith)
has_all_at (suc n) is m e l =
    let p : (has_bit n is ≡ true) × (has_all n is ≡ true) = and_parts (has_bit n is) (has_all n is) e in
    elim (eqb_tells m n) [
      | inl q ↦ subst (λ z. has_bit z is ≡ true) (sym q.1) p.0
      | inr q ↦ let ne : m ≢ n = q.1 in has_all_at n is m p.1 (omega arith)
    ]

-- a branch of a fan whose branches have all ended may invoke the Join
join_ready : (o : Opening) (j : List Entry) (i : Invocation) → MadeOk o j i → (p : Place) (index count : ℕ) →
    parent_of (scope_of i.name.place) ≡ Some (record { place = p; index = index; count = count }) →
    ((m : ℕ) → m < count → (x : Outcome) × HasEnd o j (child p m count) x) → JoinOk o j i
join_ready o j i d p index count parent ended = λ q f around e u.
    let s : Scope = scope_of i.name.place in
    let h : FramesOk o j s i.site.block (f ∷ around) = subst (FramesOk o j s i.site.block) u d.frames in
    let c : FrameOk o j s i.site.block f = h.0 in
    let n : ℕ = length c.branches in
    let mine : Parent = record { place = p; index = index; count = count } in
    let here : Parent = record { place = c.place; index = c.index; count = n } in
    let pq : mine ≡ q = same_Some mine q (sym parent ∙ e) in
    let hq : here ≡ q = same_Some here q (sym (parent_of_child c.place c.index n) ∙ ap parent_of (sym c.scope_is) ∙ e) in
    let T : Parent → Type 0 = λ z. (m : ℕ) → m < z.count → (x : Outcome) × HasEnd o j (child z.place m z.count) x in
    let all : T here = subst T (pq ∙ sym hq) ended in
    let r : Ready (journal_answers j) (visits_of o j c.place.session) c.place f.block f.name c.raw c.used c.branches = run_ready o j c.place f.block f.name c.raw c.used c.branches c.leads all in
    let (os, len, each, w, k, wp, wb, wv, wr, wu, wa) = r in
    let made : MadeOk o j (join_of f around c.place) = record {
      visit = w;
      in_run = k;
      name_is = ap₂ (λ (y : Place) (z : Visited). let n : Name = record { place = y; kind = kind_at z } in n) wp wv;
      block_is = wb;
      spot_is = ap spot_of wv;
      frames = h.1;
      opened = inr c.opened;
    } in
    subst (λ (z : Parent). MadeOk o j (join_of f around z.place)) hq made

-- ---------------------------------------------------------------- a step of an act

act_phase : (o : Opening) (j : List Entry) (a : ℕ) (i : Invocation) (k : Kept) (m : ℕ) (b : Bool) → KeptOk o j i.name k → PhaseOk o j a i (cond b (Acting k (suc m)) (Marking k 0))
act_phase o j a i k m true d = d
act_phase o j a i k m false d = d

create_step : (w : World) → WorldKeeps w → (a : ℕ) (t : Attempt) (i : Invocation) (k : Kept) → slice_get w.atts a ≡ Some t → slice_get w.invs t.inv ≡ Some i →
    KeptOk w.opening w.journal i.name k → (m all : ℕ) (y : Obj) (h : Held) → entries_of y h a ≡ [] → ObjectOk w.opening w.journal y (Live h) → (c : Condition) →
    WorldKeeps (moved_world (created_world w a y h c) a t true (after_act k m all (create_reply c)))
create_step w K a t i k found at d m all y h e ok Absent =
    moved_ok (created_world w a y h Absent) a t i true (cond (nat_lt (suc m) all) (Acting k (suc m)) (Marking k 0)) (other_created w K a y h e ok Absent) found at
    (act_phase w.opening (w.journal ++ entries_of y h a) a i k m (nat_lt (suc m) all) (kept_more w.opening w.journal (entries_of y h a) i.name k d))
create_step w K a t i k found at d m all y h e ok (Live x) =
    moved_ok w a t i true (cond (nat_lt (suc m) all) (Acting k (suc m)) (Marking k 0)) K found at (act_phase w.opening w.journal a i k m (nat_lt (suc m) all) d)
create_step w K a t i k found at d m all y h e ok Tombstone =
    moved_ok w a t i true (cond (nat_lt (suc m) all) (Acting k (suc m)) (Marking k 0)) K found at (act_phase w.opening w.journal a i k m (nat_lt (suc m) all) d)

-- one bit more
bits_more : (o : Opening) (j : List Entry) (p : Place) (index count : ℕ) (x : Outcome) → HasEnd o j (child p index count) x →
    (is : List ℕ) → ((m : ℕ) → has_bit m is ≡ true → (y : Outcome) × HasEnd o j (child p m count) y) →
    (m : ℕ) → has_bit m (index ∷ is) ≡ true → (y : Outcome) × HasEnd o j (child p m count) y
bits_more o j p index count x h is f m e =
    elim (eqb_tells m index) [
      | inl q ↦ (x, subst (λ z. HasEnd o j (child p z count) x) (sym q.1) h)
      | inr q ↦ f m (let r : nat_eq m index ≡ false = q.0 in let P : Bool → Type 0 = λ b. cond b true (has_bit m is) ≡ true in subst P r e)
    ]

set_phase : (o : Opening) (j : List Entry) (a : ℕ) (i : Invocation) (k : Kept) → MadeOk o j i → KeptOk o j i.name k → (p : Place) (index count : ℕ) →
    parent_of (scope_of i.name.place) ≡ Some (record { place = p; index = index; count = count }) → (is : List ℕ) →
    ((m : ℕ) → has_bit m is ≡ true → (y : Outcome) × HasEnd o j (child p m count) y) → (m all : ℕ) →
    (b : Bool) → has_all count is ≡ b → PhaseOk o j a i (after_act k m all (cond b BitFull BitNotFull))
set_phase o j a i k d kept p index count parent is f m all true e =
    (kept, join_ready o j i d p index count parent (λ n l. f n (has_all_at count is n e l)))
set_phase o j a i k d kept p index count parent is f m all false e = kept

set_step : (w : World) → WorldKeeps w → (a : ℕ) (t : Attempt) (i : Invocation) (k : Kept) → slice_get w.atts a ≡ Some t → slice_get w.invs t.inv ≡ Some i →
    KeptOk w.opening w.journal i.name k → (m all : ℕ) (p : Place) (index count : ℕ) → OpOk w.opening w.journal (scope_of i.name.place) (Set p index count) →
    (c : Condition) → w.objects (Bits p count) ≡ c → WorldKeeps (moved_world (with_bit w p index count c) a t true (after_act k m all (set_reply index count c)))
set_step w K a t i k found at d m all p index count ok Absent e =
    let f = bits_more w.opening w.journal p index count ok.1.0 ok.1.1 [] (λ n q. absurd (cc)) in
    moved_ok (with_bit w p index count Absent) a t i true (after_act k m all (cond (has_all count (index ∷ [])) BitFull BitNotFull))
    (object_changed w K (Bits p count) (Live (BitsAre (index ∷ []))) f) found at
    (set_phase w.opening w.journal a i k (K.made t.inv i at) d p index count ok.0 (index ∷ []) f m all (has_all count (index ∷ [])) refl)
set_step w K a t i k found at d m all p index count ok (Live h) e =
    let f = bits_more w.opening w.journal p index count ok.1.0 ok.1.1 (bits_of h) (has_at w K (Bits p count) (Live h) e) in
    moved_ok (with_bit w p index count (Live h)) a t i true (after_act k m all (cond (has_all count (index ∷ bits_of h)) BitFull BitNotFull))
    (object_changed w K (Bits p count) (Live (BitsAre (index ∷ bits_of h))) f) found at
    (set_phase w.opening w.journal a i k (K.made t.inv i at) d p index count ok.0 (index ∷ bits_of h) f m all (has_all count (index ∷ bits_of h)) refl)
set_step w K a t i k found at d m all p index count ok Tombstone e = moved_ok w a t i true (Marking k 0) K found at d

invoke_step : (w : World) → WorldKeeps w → (a : ℕ) (t : Attempt) (i : Invocation) (v : Invocation) → slice_get w.atts a ≡ Some t → slice_get w.invs t.inv ≡ Some i →
    MadeOk w.opening w.journal v → (p : Phase) → PhaseOk w.opening w.journal a i p → WorldKeeps (moved_world (record w { invs = w.invs ++ v ∷ []; states = w.states ++ fresh_state ∷ [] }) a t true p)
invoke_step w K a t i v found at h p d =
    moved_ok (record w { invs = w.invs ++ v ∷ []; states = w.states ++ fresh_state ∷ [] }) a t i true p (invoked_ok w K v fresh_state h) found (get_append w.invs (v ∷ []) t.inv i at) d

act_ok : (w : World) → WorldKeeps w → (a : ℕ) (t : Attempt) (i : Invocation) (k : Kept) → slice_get w.atts a ≡ Some t → slice_get w.invs t.inv ≡ Some i →
    KeptOk w.opening w.journal i.name k → (m : ℕ) (op : Op) → OpOk w.opening w.journal (scope_of i.name.place) op → WorldKeeps (stepped_world w a t i (Acting k m) (Do op))
unfolding program.absorb
act_ok w K a t i k found at d m (Create (Out s) h) ok = create_step w K a t i k found at d m (length (acts i k)) (Out s) h refl ok (w.objects (Out s))
act_ok w K a t i k found at d m (Create (Saved p) h) ok = create_step w K a t i k found at d m (length (acts i k)) (Saved p) h refl ok (w.objects (Saved p))
act_ok w K a t i k found at d m (Create (Check n) h) ok = absurd ok
act_ok w K a t i k found at d m (Create (Bits p c) h) ok = absurd ok
act_ok w K a t i k found at d m (Create (Arg n) h) ok = create_step w K a t i k found at d m (length (acts i k)) (Arg n) h refl ok (w.objects (Arg n))
act_ok w K a t i k found at d m (Set p index count) ok = set_step w K a t i k found at d m (length (acts i k)) p index count ok (w.objects (Bits p count)) refl
act_ok w K a t i k found at d m (Invoke v) ok =
    invoke_step w K a t i v found at ok (cond (nat_lt (suc m) (length (acts i k))) (Acting k (suc m)) (Marking k 0)) (act_phase w.opening w.journal a i k m (nat_lt (suc m) (length (acts i k))) d)
act_ok w K a t i k found at d m (Look x) ok = absurd ok
act_ok w K a t i k found at d m (Mark x) ok = absurd ok
act_ok w K a t i k found at d m Ack ok = absurd ok

acting_ok : (w : World) → WorldKeeps w → (a : ℕ) (t : Attempt) (i : Invocation) (k : Kept) → slice_get w.atts a ≡ Some t → slice_get w.invs t.inv ≡ Some i →
    KeptOk w.opening w.journal i.name k → (m : ℕ) (z : Option Op) → slice_get (acts i k) m ≡ z → WorldKeeps (stepped_world w a t i (Acting k m) (doing z))
acting_ok w K a t i k found at d m None e = K
acting_ok w K a t i k found at d m (Some op) e =
    act_ok w K a t i k found at d m op
    (acts_ok w.opening w.journal i (stop_of i.site i.name.place.hop k) m op (adopted_stop w.opening w.journal i k (K.made t.inv i at) d) e)

joining_ok : (w : World) → WorldKeeps w → (a : ℕ) (t : Attempt) (i : Invocation) (k : Kept) → slice_get w.atts a ≡ Some t → slice_get w.invs t.inv ≡ Some i →
    KeptOk w.opening w.journal i.name k → JoinOk w.opening w.journal i → (z : Option Parent) → parent_of (scope_of i.name.place) ≡ z → (around : List Frame) → i.site.around ≡ around →
    WorldKeeps (stepped_world w a t i (Joining k) (joining z around))
unfolding program.absorb
joining_ok w K a t i k found at d ok None e around u = K
joining_ok w K a t i k found at d ok (Some q) e [] u = K
joining_ok w K a t i k found at d ok (Some q) e (f ∷ around) u = invoke_step w K a t i (join_of f around q.place) found at (ok q f around e u) (Marking k 0) d

-- ---------------------------------------------------------------- marks

abbrev pub EachDue : Name → List Obj → Type 0
EachDue n xs = (m : ℕ) (x : Obj) → slice_get xs m ≡ Some x → Due n x

own_due : (n : Name) → EachDue n (Check n ∷ [])
own_due n zero x e = subst (Due n) (same_Some (Check n) x e) refl
own_due n (suc m) x e = absurd (cc)

due_first : (n : Name) (y : Obj) (xs : List Obj) → Due n y → EachDue n xs → EachDue n (y ∷ xs)
due_first n y xs h f zero x e = subst (Due n) (same_Some y x e) h
due_first n y xs h f (suc m) x e = f m x e

outs_due : (n : Name) (p : Place) → n ≡ join_name p → (index count left : ℕ) (xs : List Obj) → EachDue n xs → EachDue n (Acts.out_objects p index count left ++ xs)
outs_due n p q index count zero xs f = f
outs_due n p q index count (suc left) xs f =
    due_first n (Out (child p index count)) (Acts.out_objects p (suc index) count left ++ xs)
    (record { place = p; index = index; count = count }, (parent_of_child p index count, q)) (outs_due n p q (suc index) count left xs f)

bits_due : (n : Name) (p : Place) → n ≡ join_name p → (count : ℕ) (xs : List Obj) → EachDue n xs → EachDue n (Acts.bits_objects p count ++ xs)
bits_due n p q zero xs f = f
bits_due n p q (suc k) xs f = due_first n (Bits p (suc k)) xs q f

enter_due : (n : Name) (z : Option Parent) → EachDue n (due_at_enter n z)
enter_due n None = due_first n (Arg n) (Check n ∷ []) refl (own_due n)
enter_due n (Some q) = own_due n

pub due_ok : (n : Name) (count : ℕ) (k : names.Kind) → n.kind ≡ k → EachDue n (Acts.due_by_kind n count k)
due_ok n count names.Enter e = enter_due n (parent_of (scope_of n.place))
due_ok n count names.Task e = due_first n (Arg n) (Check n ∷ []) refl (own_due n)
due_ok n count names.Join e =
    let q : n ≡ join_name n.place = sym (name_join n e) in
    outs_due n n.place q 0 count count (Saved n.place ∷ (Acts.bits_objects n.place count ++ Check n ∷ []))
    (due_first n (Saved n.place) (Acts.bits_objects n.place count ++ Check n ∷ []) q (bits_due n n.place q count (Check n ∷ []) (own_due n)))

mark_phase : (o : Opening) (j : List Entry) (a : ℕ) (i : Invocation) (k : Kept) (m : ℕ) (b : Bool) → KeptOk o j i.name k → PhaseOk o j a i (cond b (Marking k (suc m)) (Acking true))
mark_phase o j a i k m true d = d
mark_phase o j a i k m false d = tt

mark_step : (w : World) → WorldKeeps w → (a : ℕ) (t : Attempt) (i : Invocation) (k : Kept) → slice_get w.atts a ≡ Some t → slice_get w.invs t.inv ≡ Some i →
    KeptOk w.opening w.journal i.name k → (m : ℕ) (b : Bool) (x : Obj) → Due i.name x → (c : Condition) →
    WorldKeeps (moved_world (marked_world w x c) a t true (cond b (Marking k (suc m)) (Acking true)))
mark_step w K a t i k found at d m b x h Absent = moved_ok w a t i true (cond b (Marking k (suc m)) (Acking true)) K found at (mark_phase w.opening w.journal a i k m b d)
mark_step w K a t i k found at d m b x h (Live y) =
    moved_ok (marked_world w x (Live y)) a t i true (cond b (Marking k (suc m)) (Acking true)) (marked_ok w K x (gone_ok w.opening w.journal i.name k d x h) (Live y)) found at (mark_phase w.opening w.journal a i k m b d)
mark_step w K a t i k found at d m b x h Tombstone =
    moved_ok (marked_world w x Tombstone) a t i true (cond b (Marking k (suc m)) (Acking true)) (marked_ok w K x (gone_ok w.opening w.journal i.name k d x h) Tombstone) found at (mark_phase w.opening w.journal a i k m b d)

marking_ok : (w : World) → WorldKeeps w → (a : ℕ) (t : Attempt) (i : Invocation) (k : Kept) → slice_get w.atts a ≡ Some t → slice_get w.invs t.inv ≡ Some i →
    KeptOk w.opening w.journal i.name k → (m : ℕ) (z : Option Obj) → slice_get (due_objects i.name k.count) m ≡ z → WorldKeeps (stepped_world w a t i (Marking k m) (marking z))
unfolding program.absorb
marking_ok w K a t i k found at d m None e = K
marking_ok w K a t i k found at d m (Some x) e =
    mark_step w K a t i k found at d m (nat_lt (suc m) (length (due_objects i.name k.count))) x (due_ok i.name k.count i.name.kind refl m x e) (w.objects x)

ack_step : (w : World) → WorldKeeps w → (a : ℕ) (t : Attempt) (i : Invocation) → slice_get w.atts a ≡ Some t → slice_get w.invs t.inv ≡ Some i →
    (s : Option InvState) → (finished : Bool) → WorldKeeps (moved_world (with_state w t.inv state_after_ack s) a t false (AttemptOver finished))
ack_step w K a t i found at None finished = moved_ok w a t i false (AttemptOver finished) K found at tt
ack_step w K a t i found at (Some s) finished = moved_ok (with_state w t.inv state_after_ack (Some s)) a t i false (AttemptOver finished) (states_ok w K t.inv state_after_ack (Some s)) found at tt

-- a call is no step
asking_kept : (w : World) → WorldKeeps w → (a : ℕ) (t : Attempt) (i : Invocation) (p : Phase) (z : Option (Text × Json)) → WorldKeeps (stepped_world w a t i p (asking z))
asking_kept w K a t i p None = K
asking_kept w K a t i p (Some c) = K

pub step_ok : (w : World) → WorldKeeps w → (a : ℕ) (t : Attempt) (i : Invocation) → slice_get w.atts a ≡ Some t → slice_get w.invs t.inv ≡ Some i →
    (p : Phase) → PhaseOk w.opening w.journal a i p → WorldKeeps (stepped_world w a t i p (next_of i p))
unfolding program.next_of program.absorb
step_ok w K a t i found at Looking d =
    moved_ok w a t i true (after_look i a (look_reply (w.objects (Check i.name)))) K found at (looked_ok w K a i (K.made t.inv i at) (w.objects (Check i.name)) refl)
step_ok w K a t i found at Saving d =
    moved_ok w a t i true (after_saved i.site.spot a (look_reply (w.objects (Saved i.name.place)))) K found at (saved_ok w K a i (K.made t.inv i at) d.0 d.1 (w.objects (Saved i.name.place)) refl)
step_ok w K a t i found at (Gathering count raw used outs) d =
    let x : Obj = Out (child i.name.place (length outs) count) in
    moved_ok w a t i true (after_out i.site.spot a count raw used outs (look_reply (w.objects x))) K found at (out_ok w K a i (K.made t.inv i at) count raw used outs d.0 d.1 (w.objects x) refl)
step_ok w K a t i found at Reading d =
    moved_ok w a t i true (after_read i a (look_reply (w.objects (source i)))) K found at (read_ok w K a i (K.made t.inv i at) (w.objects (source i)) refl)
step_ok w K a t i found at (Calling raw used) d = asking_kept w K a t i (Calling raw used) (call_of i.site raw)
step_ok w K a t i found at (Creating k) d = created_ok w K a t i k found at d (w.objects (Check i.name)) refl
step_ok w K a t i found at (Acting k m) d = acting_ok w K a t i k found at d m (slice_get (acts i k) m) refl
step_ok w K a t i found at (Joining k) d = joining_ok w K a t i k found at d.0 d.1 (parent_of (scope_of i.name.place)) refl i.site.around refl
step_ok w K a t i found at (Marking k m) d = marking_ok w K a t i k found at d m (slice_get (due_objects i.name k.count) m) refl
step_ok w K a t i found at (Acking finished) d = ack_step w K a t i found at (slice_get w.states t.inv) finished
step_ok w K a t i found at (AttemptOver finished) d = K

-- the Arg of a name with no checkpoint is not a mark
pub arg_stays : (w : World) → WorldKeeps w → (n : Name) → w.objects (Check n) ≡ Absent → w.objects (Arg n) ≢ Tombstone
arg_stays w K n a e =
    let apart : (e : Entry) → In e w.journal → e.name ≢ n = has_at w K (Check n) Absent a in
    let h : HasEntry w.journal n = has_at w K (Arg n) Tombstone e in
    apart h.0 h.1.0 h.1.1

-- what a branch's Enter with no checkpoint still reads is not a mark
branch_stays : (w : World) → WorldKeeps w → (v : Visit) → In v (run_for w.opening w.journal (name_of v)).visits → v.visited ≡ Entered → w.objects (Check (name_of v)) ≡ Absent →
    (q : Parent) → parent_of (scope_of v.place) ≡ Some q → w.objects (Saved q.place) ≢ Tombstone
branch_stays w K v i entered a q e z =
    elim (run_sites w.opening w.journal v.place.session v i) [
      | inl r ↦ root_no_parent (scope_of v.place) (ap (λ (y : Scope). y.trail) r) q e
      | inr c ↦ in_branch c
    ]
  where
    in_branch : IsBranchOf rules (journal_answers w.journal) (visits_of w.opening w.journal v.place.session) v → ⊥
    in_branch c =
        let n : ℕ = length c.branches in
        let here : Parent = record { place = c.place; index = c.index; count = n } in
        let hq : q ≡ here = same_Some q here (sym e ∙ ap parent_of c.scope_is ∙ parent_of_child c.place c.index n) in
        let gone : HasEntry w.journal (join_name c.place) = subst (λ (y : Parent). HasEntry w.journal (join_name y.place)) hq (has_at w K (Saved q.place) Tombstone z) in
        let all : AllOpened w.opening w.journal c.place = K.joins c.place gone in
        let session : v.place.session ≡ c.place.session = ap (λ (y : Scope). y.session) c.scope_is in
        let lead : HasFan w.opening w.journal c.place c.block c.name c.raw c.used c.branches =
        subst (λ y. LeadsTo rules (journal_answers w.journal) (visits_of w.opening w.journal y) c.place c.block c.name c.raw c.used c.branches) session c.leads in
        let one = run_one_fan w.opening w.journal c.place all.fan.block c.block all.fan.name c.name all.raw c.raw all.used c.used all.fan.branches c.branches all.fan.leads lead in
        let count : n ≡ all.count = ap length (sym one.branches) ∙ all.fan.count_is in
        let l : c.index < n = place_of c.branches c.index (c.inner, c.input) c.item in
        let there : Opened w.journal (child c.place c.index n) = subst (λ y. Opened w.journal (child c.place c.index y)) (sym count) (all.each c.index (omega (arith, l, count))) in
        let S : Visited → Type 0 = λ z. IsSound rules (journal_answers w.journal) v z in
        let sound = subst S entered (run_sound w.opening w.journal v.place.session v i) in
        let same : name_of v ≡ name_at (child c.place c.index n) 0 names.Enter = name_there (name_of v) sound.0 (ap kind_at entered) (child c.place c.index n) c.scope_is in
        let apart : (e : Entry) → In e w.journal → e.name ≢ name_of v = has_at w K (Check (name_of v)) Absent a in
        apart there.0 there.1.0 (subst (λ y. there.0.name ≡ y) (sym same) there.1.1)

-- what a visit with no checkpoint still reads is not a mark
pub source_stays : (w : World) → WorldKeeps w → (v : Visit) → In v (run_for w.opening w.journal (name_of v)).visits → w.objects (Check (name_of v)) ≡ Absent →
    w.objects (source_in (name_of v) (spot_of v.visited) (parent_of (scope_of v.place))) ≢ Tombstone
source_stays w K v i a = by v.visited refl (parent_of (scope_of v.place)) refl
  where
    by : (s : Visited) → v.visited ≡ s → (z : Option Parent) → parent_of (scope_of v.place) ≡ z → w.objects (source_in (name_of v) (spot_of s) z) ≢ Tombstone
    by Entered q None e = arg_stays w K (name_of v) a
    by Entered q (Some p) e = branch_stays w K v i q a p e
    by (Called name resource) q z e = arg_stays w K (name_of v) a
    by (Joined name) q z e = arg_stays w K (name_of v) a

-- what the Join of a place still has to gather is not a mark
pub can_read : (w : World) → WorldKeeps w → (p : Place) → w.objects (Check (join_name p)) ≡ Absent →
    (w.objects (Saved p) ≢ Tombstone) × ((index count : ℕ) → w.objects (Out (child p index count)) ≢ Tombstone)
can_read w K p a =
    let apart : (e : Entry) → In e w.journal → e.name ≢ join_name p = has_at w K (Check (join_name p)) Absent a in (
      λ e. let h : HasEntry w.journal (join_name p) = has_at w K (Saved p) Tombstone e in apart h.0 h.1.0 h.1.1,
      λ index count e.
          let h = has_at w K (Out (child p index count)) Tombstone e in
          let q : record { place = p; index = index; count = count } ≡ h.0 = same_Some _ h.0 (sym (parent_of_child p index count) ∙ h.1.0) in
          apart h.1.1.0 h.1.1.1.0 (h.1.1.1.1 ∙ ap (λ (z : Parent). join_name z.place) (sym q)),
    )

-- an Out of a root scope is never a mark
pub root_stays : (w : World) → WorldKeeps w → (s : ℕ) → w.objects (Out (root s)) ≢ Tombstone
unfolding parent_of
root_stays w K s e =
    let h = has_at w K (Out (root s)) Tombstone e in
    let z : None ≡ Some h.0 = h.1.0 in
    cc
