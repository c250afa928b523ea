-- When the invocations, objects and attempts of a world are in range.
use Rattle.std.specs.Prelude.{ℕ, ◌+◌, ◌≡◌, ◌≢◌, ◌<◌, ◌≤◌, Bool, List, length, slice_get, Option, Some}
use Rattle.place_name.specs.declared.kind.Kind.{Kind}
use Rattle.place_name.specs.declared.kind.Kind.TheVariants as kinds
use Rattle.place_name.specs.declared.limits.TheConstants.{MOST_BRANCHES}
use Rattle.place_name.specs.declared.obj.Obj.{Obj}
use Rattle.place_name.specs.declared.obj.Obj.TheVariants.{Check, Out, Saved, Bits, Arg}
use Rattle.place_name.specs.Names.{IsScope, IsPlace, IsName, IsParent}
use Rattle.world_model.specs.AnyCode.Code.{Code}
use Rattle.world_model.specs.AnyCode.Operations.{Kept, Held, KeptAs, OutcomeIs, SavedAs, BitsAre, ArgIs, Live, Invocation, Op, Look, Create, Set, Invoke, Mark, Ack}
use Rattle.world_model.specs.AnyCode.Acts.{acts, due_objects}
use Rattle.world_model.specs.AnyCode.Program.{Phase, Looking, Saving, Gathering, Reading, Calling, Creating, Acting, Joining, Marking, Acking, AttemptOver, Do, next_of}
use Rattle.world_model.specs.AnyCode.World.{Attempt, World, Codes, code_of}
use Rattle.world_ranges.specs.Roles.{Role, HasRoom, IsSite}

-- ---------------------------------------------------------------- objects

-- what names an object is in range, and a fan with a bitmap has a branch
abbrev pub IsObject : Obj → Type 0
IsObject (Check n) = IsName n
IsObject (Out s) = IsScope s
IsObject (Saved p) = IsPlace p
IsObject (Bits p count) = IsPlace p × (0 < count) × (count ≤ MOST_BRANCHES)
IsObject (Arg n) = IsName n

-- a Join's checkpoint counts at most 1,000 branches, and any other none
abbrev pub IsCountOf : Kind → (count : ℕ) → Type 0
IsCountOf kinds.Enter count = count ≡ 0
IsCountOf kinds.Task count = count ≡ 0
IsCountOf kinds.Join count = count ≤ MOST_BRANCHES

-- an object holds what is of its kind, and a bitmap has a flag for each branch
abbrev pub IsHeldBy : Obj → Held (List Bool) → Type 0
IsHeldBy (Check n) (KeptAs k) = IsCountOf n.kind k.count
IsHeldBy (Out s) (OutcomeIs o) = Unit {0}
IsHeldBy (Saved p) (SavedAs count raw used) = count ≤ MOST_BRANCHES
IsHeldBy (Bits p count) (BitsAre bs) = length bs ≡ count
IsHeldBy (Arg n) (ArgIs raw used) = Unit {0}
IsHeldBy _ _ = ⊥

-- ---------------------------------------------------------------- invocations and operations

module _ {S : Type 0} (sessions : ℕ) (roles : (session : ℕ) → S → Option Role) where
  -- The name is in range, and its session is there. The site is of the name's kind, and has as many fans round its scope as the
  -- trail has segments; and a Join's trail has room for one more.
  pub record IsInvocation (i : Invocation S) : Type 0 where
    pub name : IsName i.name
    pub session : i.name.place.session < sessions
    pub site : IsSite (roles i.name.place.session) i.site i.name.kind (length i.name.place.trail)
    pub room : HasRoom i.name.kind (length i.name.place.trail)

  -- what it names is in range: an object that holds what is of its kind, a branch of a fan, or an invocation
  abbrev pub IsOperation : Op S (List Bool) → Type 0
  IsOperation (Look o) = IsObject o
  IsOperation (Create o h) = IsObject o × IsHeldBy o h
  IsOperation (Set p index count) = IsParent (record { place = p; index = index; count = count })
  IsOperation (Invoke i) = IsInvocation i
  IsOperation (Mark o) = IsObject o
  IsOperation Ack = Unit {0}

-- ---------------------------------------------------------------- attempts

-- Only a Join gathers, of at most 1,000 outcomes, and one is missing; and only a Task calls. Where acts are done one is left to do,
-- and where objects are marked one is left to mark.
abbrev pub IsPhase : {S : Type 0} → Code S → Invocation S → Phase → Type 0
IsPhase code i Looking = Unit {0}
IsPhase code i Saving = i.name.kind ≡ kinds.Join
IsPhase code i (Gathering count raw used outs) = (i.name.kind ≡ kinds.Join) × (count ≤ MOST_BRANCHES) × (length outs < count)
IsPhase code i Reading = i.name.kind ≢ kinds.Join
IsPhase code i (Calling raw used) = i.name.kind ≡ kinds.Task
IsPhase code i (Creating k) = IsCountOf i.name.kind k.count
IsPhase code i (Acting k m) = IsCountOf i.name.kind k.count × (m < length (acts {B = List Bool} code i k))
IsPhase code i (Joining k) = IsCountOf i.name.kind k.count
IsPhase code i (Marking k m) = IsCountOf i.name.kind k.count × (m < length (due_objects i.name k.count))
IsPhase code i (Acking finished) = Unit {0}
IsPhase code i (AttemptOver finished) = Unit {0}

-- its invocation is there, and its phase is in range
pub record IsAttempt {S : Type 0} (codes : Codes S) (invs : List (Invocation S)) (t : Attempt) : Type 0 where
  pub i : Invocation S
  pub there : slice_get invs t.inv ≡ Some i
  pub phase : IsPhase (code_of codes i) i t.phase

-- ---------------------------------------------------------------- worlds

-- each invocation, each live object and each attempt is in range, and the queue knows of each invocation and of no other
pub record IsInRange {M S : Type 0} (sessions : ℕ) (roles : (session : ℕ) → S → Option Role) (codes : Codes S)
    (w : World M S (List Bool)) : Type 0 where
  pub invs : (k : ℕ) (i : Invocation S) → slice_get w.invs k ≡ Some i → IsInvocation sessions roles i
  pub states : length w.states ≡ length w.invs
  pub objects : (o : Obj) (h : Held (List Bool)) → w.objects o ≡ Live h → IsObject o × IsHeldBy o h
  pub atts : (a : ℕ) (t : Attempt) → slice_get w.atts a ≡ Some t → IsAttempt codes w.invs t

-- what an attempt of that invocation does next in that phase is in range
abbrev pub NextInRange : {S : Type 0} → (sessions : ℕ) → (roles : (session : ℕ) → S → Option Role) → Code S → Invocation S → Phase → Type 0
NextInRange {S = S} sessions roles code i ph = (op : Op S (List Bool)) → next_of code i ph ≡ Do op → IsOperation sessions roles op

-- an instance has at most 1,001 acts, and afterwards at most 1,003 objects are due
pub record DoesFew {S : Type 0} (code : Code S) (i : Invocation S) : Type 0 where
  pub acts : (k : Kept) → length (acts {B = List Bool} code i k) ≤ MOST_BRANCHES + 1
  pub due : (count : ℕ) → IsCountOf i.name.kind count → length (due_objects i.name count) ≤ MOST_BRANCHES + 3
