-- The checkpoint that a step adopts: only with it an attempt comes to its acts.
use Rattle.std.proofs.Common.{ℕ, suc, ◌≡◌, ◌⊎◌, sym, ap, subst, inl, inr, Bool, true, false, cond, nat_lt, List, [], ◌∷◌, ◌++◌, length, Option, Some, None}
use Rattle.place_name.specs.declared.obj.Obj.{Obj}
use Rattle.place_name.specs.declared.obj.Obj.TheVariants.{Check}
use Rattle.world_model.specs.AnyCode.Names.{Kind, Enter, Task, Join}
use Rattle.world_model.specs.AnyCode.Code.{Json, Outcome, Code, flags}
use Rattle.world_model.specs.AnyCode.Operations.{Kept, Held, KeptAs, OutcomeIs, SavedAs, BitsAre, ArgIs, Condition, Absent, Live, Tombstone, Invocation, Op, Look, Create, Reply, WasAbsent, WasLive, WasTombstone, Won, Had, HadTombstone, BitFull, BitNotFull, BitTombstone, Invoked, Finished}
use Rattle.world_model.specs.AnyCode.Acts.{acts, due_objects}
use Rattle.world_model.specs.AnyCode.Program.{Phase, Looking, Saving, Gathering, Reading, Calling, Creating, Acting, Joining, Marking, Acking, AttemptOver, Doing, Do, next_of, absorb, called_phase, after_look, after_create, after_act, after_saved, saved_phase, after_out, next_gathered_phase, after_read, read_phase, entered_phase}
use Rattle.world_model.specs.AnyCode.World.{look_reply, create_reply, reply_to}
use Rattle.unum_world.specs.OneStep.{adopted_kept, kept_in, kept_or}

abbrev Objects : Type 0
Objects = Obj → Condition (List Bool)

-- no phase but Acting is of acts
abbrev NotActing : Phase → Type 0
NotActing (Acting k m) = ⊥
NotActing _ = Unit {0}

not_acting : (p : Phase) (k : Kept) (m : ℕ) → NotActing p → p ≡ Acting k m → ⊥
not_acting p k m h e = subst NotActing e h

-- what is found is adopted
found_is : (h : Held (List Bool)) (kind : Kind) (k : Kept) (m : ℕ) → after_look kind (WasLive h) ≡ Acting k m → kept_in (Live h) ≡ Some k
found_is (KeptAs j) kind k m e = ap Some (let z : j ≡ k = cc in z)
found_is (OutcomeIs o) kind k m e = absurd (cc)
found_is (SavedAs count raw used) kind k m e = absurd (cc)
found_is (BitsAre bs) kind k m e = absurd (cc)
found_is (ArgIs raw used) kind k m e = absurd (cc)

absent_not : (kind : Kind) (k : Kept) (m : ℕ) → after_look {B = List Bool} kind WasAbsent ≡ Acting k m → ⊥
absent_not Enter k m e = absurd (cc)
absent_not Task k m e = absurd (cc)
absent_not Join k m e = absurd (cc)

looked_is : (kind : Kind) (c : Condition (List Bool)) (k : Kept) (m : ℕ) → after_look kind (look_reply c) ≡ Acting k m → kept_in c ≡ Some k
looked_is kind Absent k m e = absurd (absent_not kind k m e)
looked_is kind (Live h) k m e = found_is h kind k m e
looked_is kind Tombstone k m e = absurd (cc)

had_is : (j : Kept) (h : Held (List Bool)) (k : Kept) (m : ℕ) → after_create j (Had h) ≡ Acting k m → kept_in (Live h) ≡ Some k
had_is j (KeptAs i) k m e = ap Some (let z : i ≡ k = cc in z)
had_is j (OutcomeIs o) k m e = absurd (cc)
had_is j (SavedAs count raw used) k m e = absurd (cc)
had_is j (BitsAre bs) k m e = absurd (cc)
had_is j (ArgIs raw used) k m e = absurd (cc)

created_is : (j : Kept) (c : Condition (List Bool)) (k : Kept) (m : ℕ) → after_create j (create_reply c) ≡ Acting k m → kept_or j c ≡ Some k
created_is j Absent k m e = ap Some (let z : j ≡ k = cc in z)
created_is j (Live h) k m e = had_is j h k m e
created_is j Tombstone k m e = absurd (cc)

-- ---------------------------------------------------------------- the other phases never lead to acts

gathered_not : (b : Bool) (count : ℕ) (raw : Json) (used : List ℕ) (outs : List Outcome) (kept : Kept) → NotActing (cond b (Gathering count raw used outs) (Creating kept))
gathered_not true count raw used outs kept = tt
gathered_not false count raw used outs kept = tt

saved_not : (combine : List Outcome → Outcome) (a : ℕ) (h : Held (List Bool)) → NotActing (saved_phase combine a h)
saved_not combine a (SavedAs count raw used) = gathered_not (nat_lt 0 count) count raw used [] _
saved_not combine a (KeptAs k) = tt
saved_not combine a (OutcomeIs o) = tt
saved_not combine a (BitsAre bs) = tt
saved_not combine a (ArgIs raw used) = tt

after_saved_not : (combine : List Outcome → Outcome) (a : ℕ) (r : Reply (List Bool)) → NotActing (after_saved combine a r)
after_saved_not combine a (WasLive h) = saved_not combine a h
after_saved_not combine a WasAbsent = tt
after_saved_not combine a WasTombstone = tt
after_saved_not combine a Won = tt
after_saved_not combine a (Had h) = tt
after_saved_not combine a HadTombstone = tt
after_saved_not combine a BitFull = tt
after_saved_not combine a BitNotFull = tt
after_saved_not combine a BitTombstone = tt
after_saved_not combine a Invoked = tt
after_saved_not combine a Finished = tt

heard_not : (combine : List Outcome → Outcome) (a count : ℕ) (raw : Json) (used : List ℕ) (outs : List Outcome) (h : Held (List Bool)) →
    NotActing (next_gathered_phase combine a count raw used outs h)
heard_not combine a count raw used outs (OutcomeIs o) = gathered_not (nat_lt (length (outs ++ o ∷ [])) count) count raw used (outs ++ o ∷ []) _
heard_not combine a count raw used outs (SavedAs n r u) = tt
heard_not combine a count raw used outs (KeptAs k) = tt
heard_not combine a count raw used outs (BitsAre bs) = tt
heard_not combine a count raw used outs (ArgIs r u) = tt

after_out_not : (combine : List Outcome → Outcome) (a count : ℕ) (raw : Json) (used : List ℕ) (outs : List Outcome) (r : Reply (List Bool)) →
    NotActing (after_out combine a count raw used outs r)
after_out_not combine a count raw used outs (WasLive h) = heard_not combine a count raw used outs h
after_out_not combine a count raw used outs WasAbsent = tt
after_out_not combine a count raw used outs WasTombstone = tt
after_out_not combine a count raw used outs Won = tt
after_out_not combine a count raw used outs (Had h) = tt
after_out_not combine a count raw used outs HadTombstone = tt
after_out_not combine a count raw used outs BitFull = tt
after_out_not combine a count raw used outs BitNotFull = tt
after_out_not combine a count raw used outs BitTombstone = tt
after_out_not combine a count raw used outs Invoked = tt
after_out_not combine a count raw used outs Finished = tt

entered_not : (a : ℕ) (x : Option Json) → NotActing (entered_phase a x)
entered_not a None = tt
entered_not a (Some x) = tt

read_not : (code : Code ℕ) (i : Invocation ℕ) (a : ℕ) (kind : Kind) (h : Held (List Bool)) → NotActing (read_phase code i a kind h)
read_not code i a Enter (ArgIs x used) = tt
read_not code i a Enter (SavedAs count raw used) = entered_not a _
read_not code i a Enter (KeptAs k) = tt
read_not code i a Enter (OutcomeIs o) = tt
read_not code i a Enter (BitsAre bs) = tt
read_not code i a Task (ArgIs x used) = tt
read_not code i a Task (SavedAs count raw used) = tt
read_not code i a Task (KeptAs k) = tt
read_not code i a Task (OutcomeIs o) = tt
read_not code i a Task (BitsAre bs) = tt
read_not code i a Join (ArgIs x used) = tt
read_not code i a Join (SavedAs count raw used) = tt
read_not code i a Join (KeptAs k) = tt
read_not code i a Join (OutcomeIs o) = tt
read_not code i a Join (BitsAre bs) = tt

after_read_not : (code : Code ℕ) (i : Invocation ℕ) (a : ℕ) (r : Reply (List Bool)) → NotActing (after_read code i a r)
after_read_not code i a (WasLive h) = read_not code i a i.name.kind h
after_read_not code i a WasAbsent = tt
after_read_not code i a WasTombstone = tt
after_read_not code i a Won = tt
after_read_not code i a (Had h) = tt
after_read_not code i a HadTombstone = tt
after_read_not code i a BitFull = tt
after_read_not code i a BitNotFull = tt
after_read_not code i a BitTombstone = tt
after_read_not code i a Invoked = tt
after_read_not code i a Finished = tt

marked_not : (b : Bool) (j : Kept) (n : ℕ) → NotActing (cond b (Marking j n) (Acking true))
marked_not true j n = tt
marked_not false j n = tt

-- after an act the checkpoint is the same
act_more : (b : Bool) (j : Kept) (n : ℕ) (k : Kept) (m : ℕ) → cond b (Acting j (suc n)) (Marking j 0) ≡ Acting k m → j ≡ k
act_more true j n k m e = cc
act_more false j n k m e = absurd (cc)

act_is : (j : Kept) (n all : ℕ) (r : Reply (List Bool)) (k : Kept) (m : ℕ) → after_act j n all r ≡ Acting k m → j ≡ k
act_is j n all BitFull k m e = absurd (cc)
act_is j n all BitNotFull k m e = absurd (cc)
act_is j n all BitTombstone k m e = absurd (cc)
act_is j n all WasAbsent k m e = act_more (nat_lt (suc n) all) j n k m e
act_is j n all (WasLive h) k m e = act_more (nat_lt (suc n) all) j n k m e
act_is j n all WasTombstone k m e = act_more (nat_lt (suc n) all) j n k m e
act_is j n all Won k m e = act_more (nat_lt (suc n) all) j n k m e
act_is j n all (Had h) k m e = act_more (nat_lt (suc n) all) j n k m e
act_is j n all HadTombstone k m e = act_more (nat_lt (suc n) all) j n k m e
act_is j n all Invoked k m e = act_more (nat_lt (suc n) all) j n k m e
act_is j n all Finished k m e = act_more (nat_lt (suc n) all) j n k m e

op_is : (x y : Op ℕ (List Bool)) → ◌≡◌ {A = Doing ℕ (List Bool)} (Do x) (Do y) → x ≡ y
op_is x y e = cc

-- An attempt comes to its acts only by the checkpoint that it adopts, or goes on with those of its own.
pub acting_is : (code : Code ℕ) (i : Invocation ℕ) (a : ℕ) (ph : Phase) (objects : Objects) (op : Op ℕ (List Bool)) (k : Kept) (m : ℕ) →
    next_of code i ph ≡ Do op → absorb code i a ph (reply_to flags objects op) ≡ Acting k m →
    (adopted_kept ph (objects (Check i.name)) ≡ Some k) ⊎ ((n : ℕ) × (ph ≡ Acting k n))
unfolding next_of absorb
acting_is code i a Looking objects op k m n e =
    inl (looked_is i.name.kind (objects (Check i.name)) k m
    (subst (λ z. after_look i.name.kind (reply_to flags objects z) ≡ Acting k m) (sym (op_is (Look (Check i.name)) op n)) e))
acting_is code i a (Creating j) objects op k m n e =
    inl (created_is j (objects (Check i.name)) k m
    (subst (λ z. after_create j (reply_to flags objects z) ≡ Acting k m) (sym (op_is (Create (Check i.name) (KeptAs j)) op n)) e))
acting_is code i a (Acting j l) objects op k m n e =
    inr (l, ap (λ z. Acting z l) (act_is j l (length (acts {B = List Bool} code i j)) (reply_to flags objects op) k m e))
acting_is code i a Saving objects op k m n e = absurd (not_acting _ k m (after_saved_not (code.combine i.site) a (reply_to flags objects op)) e)
acting_is code i a (Gathering count raw used outs) objects op k m n e =
    absurd (not_acting _ k m (after_out_not (code.combine i.site) a count raw used outs (reply_to flags objects op)) e)
acting_is code i a Reading objects op k m n e = absurd (not_acting _ k m (after_read_not code i a (reply_to flags objects op)) e)
acting_is code i a (Calling raw used) objects op k m n e = absurd (cc)
acting_is code i a (Joining j) objects op k m n e = absurd (cc)
acting_is code i a (Marking j l) objects op k m n e =
    absurd (not_acting _ k m (marked_not (nat_lt (suc l) (length (due_objects i.name j.count))) j (suc l)) e)
acting_is code i a (Acking finished) objects op k m n e = absurd (cc)
acting_is code i a (AttemptOver finished) objects op k m n e = absurd (cc)

-- What is called leads to no act.
pub called_not : (a : ℕ) (ph : Phase) (o : Outcome) (k : Kept) (m : ℕ) → called_phase a ph o ≡ Acting k m → ph ≡ Acting k m
called_not a (Calling raw used) o k m e = absurd (cc)
called_not a Looking o k m e = e
called_not a Saving o k m e = e
called_not a (Gathering count raw used outs) o k m e = e
called_not a Reading o k m e = e
called_not a (Creating j) o k m e = e
called_not a (Acting j l) o k m e = e
called_not a (Joining j) o k m e = e
called_not a (Marking j l) o k m e = e
called_not a (Acking finished) o k m e = e
called_not a (AttemptOver finished) o k m e = e
