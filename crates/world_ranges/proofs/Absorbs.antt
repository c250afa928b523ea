-- The phase after a reply is in range.
use Rattle.std.proofs.Common.{◌≡◌, ℕ, suc, ◌≤◌, Bool, true, false, cond, nat_lt, List, [], ◌∷◌, ◌++◌, length, Option, Some, None, refl, sym, ◌∙◌, subst, arith}
use Rattle.std.proofs.lemmas.Bool.{ltb-true}
use Rattle.place_name.specs.declared.kind.Kind.{Kind}
use Rattle.place_name.specs.declared.kind.Kind.TheVariants as kinds
use Rattle.place_name.specs.declared.limits.TheConstants.{MOST_BRANCHES}
use Rattle.place_name.specs.declared.obj.Obj.{Obj}
use Rattle.place_name.specs.declared.obj.Obj.TheVariants.{Check, Saved}
use Rattle.place_name.specs.Names.{scope_of}
use Rattle.world_model.specs.AnyCode.Names.{parent_of}
use Rattle.world_model.specs.AnyCode.Code.{Json, Used, Outcome, Code}
use Rattle.world_model.specs.AnyCode.Operations.{Kept, Held, KeptAs, OutcomeIs, SavedAs, BitsAre, ArgIs, Invocation, Op, Look, Create, Reply, WasAbsent, WasLive, WasTombstone, Won, Had, HadTombstone, BitFull, BitNotFull, BitTombstone, Invoked, Finished}
use Rattle.world_model.specs.AnyCode.Acts.{stop_of, acts, due_objects}
use Rattle.world_model.specs.AnyCode.Program.{Phase, Looking, Saving, Gathering, Reading, Calling, Creating, Acting, Joining, Marking, Acking, AttemptOver, Do, branch_input, next_of, kept_of, gathering_phase, Combine, gathered_phase, adopted_phase, saved_phase, next_gathered_phase, entered_phase, read_phase, after_read, after_look, after_saved, after_out, after_create, after_act, absorb, called_phase}
use Rattle.world_ranges.specs.Roles.{Role}
use Rattle.world_ranges.specs.Ranges.{IsCountOf, IsHeldBy, IsInvocation, IsPhase}
use Rattle.world_ranges.proofs.Nexts.{due_in, acts_some}

-- what is told of an object is of its kind
abbrev pub IsTold : Obj → Reply (List Bool) → Type 0
IsTold o (WasLive h) = IsHeldBy o h
IsTold o (Had h) = IsHeldBy o h
IsTold o _ = Unit {0}

-- a reply fits its operation
abbrev pub Fits : {S : Type 0} → Op S (List Bool) → Reply (List Bool) → Type 0
Fits (Look o) r = IsTold o r
Fits (Create o h) r = IsTold o r
Fits _ r = Unit {0}

none_counted : (k : Kind) → IsCountOf k 0
none_counted kinds.Enter = refl
none_counted kinds.Task = refl
none_counted kinds.Join = omega arith

module _ {S : Type 0} (sessions : ℕ) (roles : (session : ℕ) → S → Option Role) (code : Code S) (i : Invocation S) (h : IsInvocation sessions roles i) where
  abbrev In : Phase → Type 0
  In ph = IsPhase code i ph

  acting : (k : Kept) → IsCountOf i.name.kind k.count → In (Acting k 0)
  acting k c = (c, acts_some sessions roles code i.site (scope_of i.name.place) (stop_of code i k))

  marking : (k : Kept) → IsCountOf i.name.kind k.count → In (Marking k 0)
  marking k c = (c, (due_in i.name h.name h.room k.count c).1)

  adopted : (x : Held (List Bool)) → IsHeldBy (Check i.name) x → In (adopted_phase x)
  adopted (KeptAs k) c = acting k c
  adopted (OutcomeIs o) c = tt
  adopted (SavedAs n x u) c = tt
  adopted (BitsAre b) c = tt
  adopted (ArgIs x u) c = tt

  gathering : (k : Kind) → i.name.kind ≡ k → In (gathering_phase k)
  gathering kinds.Enter e = λ f. let bad : kinds.Enter ≡ kinds.Join = sym e ∙ f in cc
  gathering kinds.Task e = λ f. let bad : kinds.Task ≡ kinds.Join = sym e ∙ f in cc
  gathering kinds.Join e = e

  looked : (r : Reply (List Bool)) → IsTold (Check i.name) r → In (after_look i.name.kind r)
  looked WasAbsent t = gathering i.name.kind refl
  looked (WasLive x) t = adopted x t
  looked _ t = tt

  -- a Join with so many branches has some outcomes
  gathered : i.name.kind ≡ kinds.Join → (f : Combine) (a count : ℕ) (raw : Json) (used : Used) (outs : List Outcome) → count ≤ MOST_BRANCHES → In (gathered_phase f a count raw used outs)
  gathered e f a count raw used outs c = by (nat_lt (length outs) count) refl
    where
      by : (b : Bool) → nat_lt (length outs) count ≡ b → In (cond b (Gathering count raw used outs) (Creating (kept_of raw used a (f outs) count)))
      by true t = (e, c, ltb-true (length outs) count t)
      by false t = subst (λ k. IsCountOf k count) (sym e) c

  saved_by : i.name.kind ≡ kinds.Join → (f : Combine) (a : ℕ) (x : Held (List Bool)) → IsHeldBy (Saved i.name.place) x → In (saved_phase f a x)
  saved_by e f a (SavedAs count raw used) c = gathered e f a count raw used [] c
  saved_by e f a (KeptAs k) c = tt
  saved_by e f a (OutcomeIs o) c = tt
  saved_by e f a (BitsAre b) c = tt
  saved_by e f a (ArgIs x u) c = tt

  saved : i.name.kind ≡ kinds.Join → (f : Combine) (a : ℕ) (r : Reply (List Bool)) → IsTold (Saved i.name.place) r → In (after_saved f a r)
  saved e f a (WasLive x) t = saved_by e f a x t
  saved e f a _ t = tt

  more_by : i.name.kind ≡ kinds.Join → (f : Combine) (a count : ℕ) (raw : Json) (used : Used) (outs : List Outcome) → count ≤ MOST_BRANCHES → (x : Held (List Bool)) → In (next_gathered_phase f a count raw used outs x)
  more_by e f a count raw used outs c (OutcomeIs o) = gathered e f a count raw used (outs ++ o ∷ []) c
  more_by e f a count raw used outs c (KeptAs k) = tt
  more_by e f a count raw used outs c (SavedAs n x u) = tt
  more_by e f a count raw used outs c (BitsAre b) = tt
  more_by e f a count raw used outs c (ArgIs x u) = tt

  more : i.name.kind ≡ kinds.Join → (f : Combine) (a count : ℕ) (raw : Json) (used : Used) (outs : List Outcome) → count ≤ MOST_BRANCHES → (r : Reply (List Bool)) → In (after_out f a count raw used outs r)
  more e f a count raw used outs c (WasLive x) = more_by e f a count raw used outs c x
  more e f a count raw used outs c _ = tt

  entered : (a : ℕ) (z : Option Json) → In (entered_phase a z)
  entered a (Some x) = none_counted i.name.kind
  entered a None = tt

  read_by : (a : ℕ) (k : Kind) → i.name.kind ≡ k → (x : Held (List Bool)) → In (read_phase code i a k x)
  read_by a kinds.Enter e (ArgIs x u) = entered a (Some x)
  read_by a kinds.Enter e (SavedAs n raw u) = entered a (branch_input code (code.join_around i.site) raw (parent_of (scope_of i.name.place)))
  read_by a kinds.Enter e (KeptAs k) = tt
  read_by a kinds.Enter e (OutcomeIs o) = tt
  read_by a kinds.Enter e (BitsAre b) = tt
  read_by a kinds.Task e (ArgIs x u) = e
  read_by a kinds.Task e (SavedAs n raw u) = tt
  read_by a kinds.Task e (KeptAs k) = tt
  read_by a kinds.Task e (OutcomeIs o) = tt
  read_by a kinds.Task e (BitsAre b) = tt
  read_by a kinds.Join e (ArgIs x u) = tt
  read_by a kinds.Join e (SavedAs n raw u) = tt
  read_by a kinds.Join e (KeptAs k) = tt
  read_by a kinds.Join e (OutcomeIs o) = tt
  read_by a kinds.Join e (BitsAre b) = tt

  read : (a : ℕ) (r : Reply (List Bool)) → In (after_read code i a r)
  read a (WasLive x) = read_by a i.name.kind refl x
  read a _ = tt

  created : (k : Kept) → IsCountOf i.name.kind k.count → (r : Reply (List Bool)) → IsTold (Check i.name) r → In (after_create k r)
  created k c Won t = acting k c
  created k c (Had x) t = adopted x t
  created k c _ t = tt

  act_more : (k : Kept) (m : ℕ) → IsCountOf i.name.kind k.count → In (cond (nat_lt (suc m) (length (acts {B = List Bool} code i k))) (Acting k (suc m)) (Marking k 0))
  act_more k m c = by (nat_lt (suc m) (length (acts {B = List Bool} code i k))) refl
    where
      by : (b : Bool) → nat_lt (suc m) (length (acts {B = List Bool} code i k)) ≡ b → In (cond b (Acting k (suc m)) (Marking k 0))
      by true t = (c, ltb-true (suc m) (length (acts {B = List Bool} code i k)) t)
      by false t = marking k c

  acted : (k : Kept) (m : ℕ) → IsCountOf i.name.kind k.count → (r : Reply (List Bool)) → In (after_act k m (length (acts {B = List Bool} code i k)) r)
  acted k m c BitFull = c
  acted k m c BitNotFull = marking k c
  acted k m c BitTombstone = marking k c
  acted k m c WasAbsent = act_more k m c
  acted k m c (WasLive x) = act_more k m c
  acted k m c WasTombstone = act_more k m c
  acted k m c Won = act_more k m c
  acted k m c (Had x) = act_more k m c
  acted k m c HadTombstone = act_more k m c
  acted k m c Invoked = act_more k m c
  acted k m c Finished = act_more k m c

  marked : (k : Kept) (m : ℕ) → IsCountOf i.name.kind k.count → In (cond (nat_lt (suc m) (length (due_objects i.name k.count))) (Marking k (suc m)) (Acking true))
  marked k m c = by (nat_lt (suc m) (length (due_objects i.name k.count))) refl
    where
      by : (b : Bool) → nat_lt (suc m) (length (due_objects i.name k.count)) ≡ b → In (cond b (Marking k (suc m)) (Acking true))
      by true t = (c, ltb-true (suc m) (length (due_objects i.name k.count)) t)
      by false t = tt

  pub absorb_in : (a : ℕ) (ph : Phase) → IsPhase code i ph → (r : Reply (List Bool)) → ((op : Op S (List Bool)) → next_of code i ph ≡ Do op → Fits op r) → IsPhase code i (absorb code i a ph r)
  unfolding absorb next_of
  absorb_in a Looking k r f = looked r (f (Look (Check i.name)) refl)
  absorb_in a Saving k r f = saved k (code.combine i.site) a r (f (Look (Saved i.name.place)) refl)
  absorb_in a (Gathering count raw used outs) k r f = more k.0 (code.combine i.site) a count raw used outs k.1 r
  absorb_in a Reading k r f = read a r
  absorb_in a (Calling raw used) k r f = k
  absorb_in a (Creating kept) k r f = created kept k r (f (Create (Check i.name) (KeptAs kept)) refl)
  absorb_in a (Acting kept m) k r f = acted kept m k.0 r
  absorb_in a (Joining kept) k r f = marking kept k
  absorb_in a (Marking kept m) k r f = marked kept m k.0
  absorb_in a (Acking finished) k r f = tt
  absorb_in a (AttemptOver finished) k r f = tt

  pub called_in : (a : ℕ) (ph : Phase) (o : Outcome) → IsPhase code i ph → IsPhase code i (called_phase a ph o)
  called_in a (Calling raw used) o k = none_counted i.name.kind
  called_in a Looking o k = k
  called_in a Saving o k = k
  called_in a (Gathering count raw used outs) o k = k
  called_in a Reading o k = k
  called_in a (Creating kept) o k = k
  called_in a (Acting kept m) o k = k
  called_in a (Joining kept) o k = k
  called_in a (Marking kept m) o k = k
  called_in a (Acking finished) o k = k
  called_in a (AttemptOver finished) o k = k
