-- Journal and marks after an operation, by what the code adds to them; and which operations may take memory.
use Rattle.std.proofs.Common.{ℕ, ◌+◌, ◌≡◌, refl, sym, ap, ◌∙◌, subst, arith, Bool, true, false, List, [], ◌++◌, slice_get, Option, Some, None}
use Rattle.std.proofs.lemmas.List.{append-nil}
use Rattle.std.specs.Prelude.{is_some}
use Rattle.place_name.specs.declared.obj.Obj.{Obj}
use Rattle.place_name.specs.declared.obj.Obj.TheVariants.{Check, Out, Saved, Bits, Arg}
use Rattle.world_model.specs.AnyCode.Names.{Scope}
use Rattle.world_model.specs.AnyCode.Code.{Text, Json, Code, Stop, Call, Fan, Over, flags}
use Rattle.world_model.specs.AnyCode.Operations.{Held, KeptAs, OutcomeIs, SavedAs, BitsAre, ArgIs, Condition, Absent, Live, Tombstone, Invocation, Look, Create, Set, Invoke, Mark, Ack}
use Rattle.world_model.specs.AnyCode.Acts.{acts_of, stop_of}
use Rattle.world_model.specs.AnyCode.Names.{scope_of}
use Rattle.world_model.specs.AnyCode.Program.{Phase, Looking, Saving, Gathering, Reading, Calling, Creating, Acting, Joining, Marking, Acking, AttemptOver, Doing, Do, asking, doing, next_of}
use Rattle.world_model.specs.AnyCode.World.{Entry, entries_of, won_journal, journal_after, marks_after, create_reply, reply_to}
use Rattle.fn_wrapper.specs.Ready.{ReadsData, CopiesData}
use Rattle.unum_hub.specs.Holding.{NumberedOp}
use Rattle.unum_world.specs.OneStep.{adopted_kept, entry_of, is_won, entries_won, one_mark, op_takes_memory}

abbrev Objects : Type 0
Objects = Obj → Condition (List Bool)

-- ---------------------------------------------------------------- marks and journal

pub marks_are : (n : ℕ) (op : NumberedOp) → marks_after n op ≡ n + one_mark op
marks_are n (Mark o) = omega arith
marks_are n (Look o) = omega arith
marks_are n (Create o h) = omega arith
marks_are n (Set p index count) = omega arith
marks_are n (Invoke i) = omega arith
marks_are n Ack = omega arith

none_won : (b : Bool) → entries_won b None ≡ []
none_won true = refl
none_won false = refl

not_won : (x : Option Entry) → entries_won false x ≡ []
not_won None = refl
not_won (Some e) = refl

stays : (journal : List Entry) (xs : List Entry) → xs ≡ [] → journal ≡ journal ++ xs
stays journal xs e = sym (append-nil journal) ∙ ap (λ z. journal ++ z) (sym e)

entry_is : (o : Obj) (h : Held (List Bool)) (a : ℕ) → entries_of o h a ≡ entries_won true (entry_of (Create o h) a)
entry_is (Check n) (KeptAs k) a = refl
entry_is (Check n) (OutcomeIs r) a = refl
entry_is (Check n) (SavedAs count raw used) a = refl
entry_is (Check n) (BitsAre bs) a = refl
entry_is (Check n) (ArgIs raw used) a = refl
entry_is (Out s) h a = refl
entry_is (Saved p) h a = refl
entry_is (Bits p count) h a = refl
entry_is (Arg n) h a = refl

created_are : (journal : List Entry) (a : ℕ) (o : Obj) (h : Held (List Bool)) (c : Condition (List Bool)) →
    won_journal journal a o h c ≡ journal ++ entries_won (is_won (create_reply c)) (entry_of (Create o h) a)
created_are journal a o h Absent = ap (λ z. journal ++ z) (entry_is o h a)
created_are journal a o h (Live x) = stays journal _ (not_won (entry_of (Create o h) a))
created_are journal a o h Tombstone = stays journal _ (not_won (entry_of (Create o h) a))

pub journal_are : (objects : Objects) (journal : List Entry) (a : ℕ) (op : NumberedOp) →
    journal_after objects journal a op ≡ journal ++ entries_won (is_won (reply_to flags objects op)) (entry_of op a)
journal_are objects journal a (Create o h) = created_are journal a o h (objects o)
journal_are objects journal a (Look o) = stays journal _ (none_won (is_won (reply_to {S = ℕ} flags objects (Look o))))
journal_are objects journal a (Set p index count) = stays journal _ (none_won (is_won (reply_to {S = ℕ} flags objects (Set p index count))))
journal_are objects journal a (Invoke i) = stays journal _ (none_won (is_won (reply_to flags objects (Invoke i))))
journal_are objects journal a (Mark o) = stays journal _ (none_won (is_won (reply_to {S = ℕ} flags objects (Mark o))))
journal_are objects journal a Ack = stays journal _ (none_won (is_won (reply_to {S = ℕ} flags objects Ack)))

-- ---------------------------------------------------------------- memory

op_is : (x y : NumberedOp) → ◌≡◌ {A = Doing ℕ (List Bool)} (Do x) (Do y) → x ≡ y
op_is x y e = cc

takes : (x op : NumberedOp) → op_takes_memory x ≡ true → ◌≡◌ {A = Doing ℕ (List Bool)} (Do x) (Do op) → op_takes_memory op ≡ true
takes x op t e = subst (λ z. op_takes_memory z ≡ true) (op_is x op e) t

ask_not : (x : Option (Text × Json)) (op : NumberedOp) → ◌≡◌ {A = Doing ℕ (List Bool)} (asking x) (Do op) → ⊥
ask_not None op e = absurd (cc)
ask_not (Some c) op e = absurd (cc)

-- the first act creates something
first_takes : (code : Code ℕ) (site : ℕ) (s : Scope) (stop : Stop ℕ) (op : NumberedOp) → doing (slice_get (acts_of code site s stop) 0) ≡ Do op →
    op_takes_memory op ≡ true
first_takes code site s (Call f hop raw used) op e = takes _ op refl e
first_takes code site s (Fan j hop raw used es) op e = takes _ op refl e
first_takes code site s (Over o) op e = takes _ op refl e

-- what copies data may take memory
pub copies_take : (code : Code ℕ) (i : Invocation ℕ) (ph : Phase) (op : NumberedOp) → CopiesData ph → next_of code i ph ≡ Do op → op_takes_memory op ≡ true
unfolding next_of
copies_take code i (Calling raw used) op c n = absurd (ask_not (code.call_of i.site raw) op n)
copies_take code i (Creating k) op c n = takes _ op refl n
copies_take code i (Acting k m) op c n =
    first_takes code i.site (scope_of i.name.place) (stop_of code i k) op
    (ap (λ z. doing (slice_get (acts_of code i.site (scope_of i.name.place) (stop_of code i k)) z)) (sym c) ∙ n)
copies_take code i Looking op c n = absurd c
copies_take code i Saving op c n = absurd c
copies_take code i (Gathering count raw used outs) op c n = absurd c
copies_take code i Reading op c n = absurd c
copies_take code i (Joining k) op c n = absurd c
copies_take code i (Marking k m) op c n = absurd c
copies_take code i (Acking finished) op c n = absurd c
copies_take code i (AttemptOver finished) op c n = absurd c

-- and so does what reads it,
pub reads_take : (code : Code ℕ) (i : Invocation ℕ) (ph : Phase) (op : NumberedOp) → ReadsData ph → next_of code i ph ≡ Do op →
    (x : Obj) × (op ≡ Look x)
unfolding next_of
reads_take code i Saving op c n = (_, sym (op_is _ op n))
reads_take code i (Gathering count raw used outs) op c n = (_, sym (op_is _ op n))
reads_take code i Reading op c n = (_, sym (op_is _ op n))
reads_take code i Looking op c n = absurd c
reads_take code i (Calling raw used) op c n = absurd c
reads_take code i (Creating k) op c n = absurd c
reads_take code i (Acting k m) op c n = absurd c
reads_take code i (Joining k) op c n = absurd c
reads_take code i (Marking k m) op c n = absurd c
reads_take code i (Acking finished) op c n = absurd c
reads_take code i (AttemptOver finished) op c n = absurd c

-- and what adopts a checkpoint
pub adopts_take : (code : Code ℕ) (i : Invocation ℕ) (ph : Phase) (c : Condition (List Bool)) (op : NumberedOp) → is_some (adopted_kept ph c) ≡ true →
    next_of code i ph ≡ Do op → op_takes_memory op ≡ true
unfolding next_of
adopts_take code i Looking c op s n = takes _ op refl n
adopts_take code i (Creating k) c op s n = takes _ op refl n
adopts_take code i Saving c op s n = absurd (cc)
adopts_take code i (Gathering count raw used outs) c op s n = absurd (cc)
adopts_take code i Reading c op s n = absurd (cc)
adopts_take code i (Calling raw used) c op s n = absurd (cc)
adopts_take code i (Acting k m) c op s n = absurd (cc)
adopts_take code i (Joining k) c op s n = absurd (cc)
adopts_take code i (Marking k m) c op s n = absurd (cc)
adopts_take code i (Acking finished) c op s n = absurd (cc)
adopts_take code i (AttemptOver finished) c op s n = absurd (cc)
