-- What an instance's calls take as given: that what it does next is in range.
use Rattle.std.specs.Prelude.{ℕ, ◌≡◌, Bool, List, Option, Some, length, slice_get, IsSome}
use Rattle.place_name.specs.declared.kind.Kind.TheVariants as kinds
use Rattle.place_name.specs.Names.{Scope, Parent, IsName, IsParent, scope_of}
use Rattle.world_model.specs.AnyCode.Names.{parent_of}
use Rattle.world_model.specs.AnyCode.Code.{Code, Json, Used, Stop}
use Rattle.world_model.specs.AnyCode.Operations.{Kept, Invocation, Op, Look, Create, Set, Invoke, Mark, Ack, Reply, WasLive, SavedAs}
use Rattle.world_model.specs.AnyCode.Acts.{stop_of, acts_of}
use Rattle.world_model.specs.AnyCode.Program.{Phase, Saving, Gathering, Reading, Calling, Creating, Acting, Doing, Do, Ask, Nothing}
use Rattle.world_model.specs.AnyCode.Program.{branch_input, next_of}
use Rattle.world_ranges.specs.Roles.{HasRoom}
use Rattle.world_ranges.specs.Ranges.{IsObject, IsHeldBy, IsPhase, DoesFew}

-- the names of an operation are in range, and what it creates is of its object's kind
abbrev pub IsNamed : Op ℕ (List Bool) → Type 0
IsNamed (Look o) = IsObject o
IsNamed (Create o h) = IsObject o × IsHeldBy o h
IsNamed (Set p index count) = IsParent (record { place = p; index = index; count = count })
IsNamed (Invoke i) = IsName i.name
IsNamed (Mark o) = IsObject o
IsNamed Ack = Unit {0}

-- so is the operation with that number, if there is one
abbrev pub NamesAt : List (Op ℕ (List Bool)) → (index : ℕ) → Type 0
NamesAt ops index = (op : Op ℕ (List Bool)) → slice_get ops index ≡ Some op → IsNamed op

-- so is what is created first at a stop
abbrev pub FirstIsNamed : Scope → Stop ℕ → Type 0
FirstIsNamed s stop =
    (op : Op ℕ (List Bool)) → ((code : Code ℕ) (site : ℕ) → slice_get (acts_of code site s stop) 0 ≡ Some op) → IsNamed op

-- What an instance's calls take as given of an attempt in that phase, and what its world has: what it does next is in range, it does
-- few things, a Join's trail has room for one segment more, its numbers are in range, and a Task that is at its call has one.
pub record IsReady (code : Code ℕ) (i : Invocation ℕ) (ph : Phase) : Type 0 where
  pub next : (op : Op ℕ (List Bool)) → next_of code i ph ≡ Do op → IsNamed op
  pub few : DoesFew code i
  pub room : HasRoom i.name.kind (length i.name.place.trail)
  pub phase : IsPhase code i ph
  pub calls : (raw : Json) (used : Used) → ph ≡ Calling raw used → IsSome (code.call_of i.site raw)

-- that is where the scope stops after the answer of an attempt that acts
abbrev pub IsStopOf : Code ℕ → Invocation ℕ → Phase → Option (Stop ℕ) → Type 0
IsStopOf code i ph stop = (k : Kept) (m : ℕ) → ph ≡ Acting k m → stop ≡ Some (stop_of code i k)

-- what is next is the call of a function
abbrev pub IsAsk : Doing ℕ (List Bool) → Type 0
IsAsk (Do op) = ⊥
IsAsk (Ask resource input) = Unit {0}
IsAsk Nothing = ⊥

-- an attempt in that phase reads its data, or the outcomes of its branches
abbrev pub ReadsData : Phase → Type 0
ReadsData Saving = Unit {0}
ReadsData (Gathering count raw used outs) = Unit {0}
ReadsData Reading = Unit {0}
ReadsData _ = ⊥

-- what an attempt in that phase does next copies data: a call's input, a checkpoint, or what the first act saves
abbrev pub CopiesData : Phase → Type 0
CopiesData (Calling raw used) = Unit {0}
CopiesData (Creating k) = Unit {0}
CopiesData (Acting k m) = m ≡ 0
CopiesData _ = ⊥

-- the input of a branch, by what its fan saved
abbrev pub input_by : Code ℕ → Invocation ℕ → (raw : Json) → Option Json
input_by code i raw = branch_input code (code.join_around i.site) raw (parent_of (scope_of i.name.place))

-- where the Enter of a branch has read what its fan saved, the branch has its input by it
abbrev pub HasInput : Code ℕ → Invocation ℕ → Phase → Reply (List Bool) → Type 0
HasInput code i ph reply =
    (q : Parent) (count : ℕ) (raw : Json) (used : Used) → ph ≡ Reading → i.name.kind ≡ kinds.Enter →
    parent_of (scope_of i.name.place) ≡ Some q → reply ≡ WasLive (SavedAs count raw used) → IsSome (input_by code i raw)
