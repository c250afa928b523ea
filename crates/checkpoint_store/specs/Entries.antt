-- The objects of a store by its entries, and how many of a session's are live.
use Rattle.std.specs.Prelude.{◌≡◌, ℕ, ◌+◌, Bool, cond, nat_eq, List, [], ◌∷◌, length, slice_index, Option, Some, None}
use Rattle.std.specs.List.{IsDistinct}
use Rattle.std.specs.Map.{keys_of, lookup}
use Rattle.indexmap.specs.IndexMap.{insert_entry}
use Rattle.place_name.specs.declared.obj.Obj.{Obj}
use Rattle.place_name.specs.declared.obj.Obj.TheVariants.{Check, Out, Saved, Bits, Arg}
use Rattle.world_model.specs.AnyCode.Operations.{Held, KeptAs, OutcomeIs, SavedAs, BitsAre, ArgIs, Condition, Absent, Live, Tombstone}
use Rattle.checkpoint_store.specs.declared.key.Key.{Key}
use Rattle.checkpoint_store.specs.declared.slot.Slot.{Slot}
use Rattle.checkpoint_store.specs.declared.slot.Slot.TheVariants as slot
use Rattle.checkpoint_store.specs.Keys.{key_same}

-- what a store has: each object that is not absent, with its slot
abbrev pub Entries : Type 0
Entries = List (Key × Slot)

-- the key of an object
abbrev pub key_of : Obj → Key
key_of o = record { object = o }

-- no object has two entries
abbrev pub AreApart : Entries → Type 0
AreApart es = IsDistinct key_same (keys_of es)

-- what a slot stands for
abbrev pub condition_of : Slot → Condition (List Bool)
condition_of (slot.Live h) = Live h
condition_of slot.Tombstone = Tombstone

-- an object without a slot is absent
abbrev pub condition_in : Option Slot → Condition (List Bool)
condition_in None = Absent
condition_in (Some s) = condition_of s

-- the slot of an object, if it has one
abbrev pub slot_of : Entries → Obj → Option Slot
slot_of es o = lookup (key_same (key_of o)) es

-- what each object is
unfoldable pub objects_of : Entries → Obj → Condition (List Bool)
objects_of es o = condition_in (slot_of es o)

-- ---------------------------------------------------------------- live objects

-- the session that an object is of
abbrev pub session_of : Obj → ℕ
session_of (Check n) = n.place.session
session_of (Out s) = s.session
session_of (Saved p) = p.session
session_of (Bits p count) = p.session
session_of (Arg n) = n.place.session

-- a live object of the session counts 1
abbrev pub one_if_live : (session : ℕ) → Obj → Slot → ℕ
one_if_live session o slot.Tombstone = 0
one_if_live session o (slot.Live h) = cond (nat_eq (session_of o) session) 1 0

-- how many objects of the session are live
unfoldable pub live_in : (session : ℕ) → Entries → ℕ
live_in session [] = 0
live_in session (e ∷ es) = one_if_live session e.0.object e.1 + live_in session es

-- ---------------------------------------------------------------- kinds

-- what an object of its kind holds: a bitmap has a flag for each branch of its fan
abbrev pub IsOfKind : Obj → Held (List Bool) → Type 0
IsOfKind (Check n) (KeptAs k) = Unit {0}
IsOfKind (Out s) (OutcomeIs o) = Unit {0}
IsOfKind (Saved p) (SavedAs count raw used) = Unit {0}
IsOfKind (Bits p count) (BitsAre bs) = length bs ≡ count
IsOfKind (Arg n) (ArgIs raw used) = Unit {0}
IsOfKind o h = ⊥

-- each live object holds what its kind does
abbrev pub AreOfKinds : (Obj → Condition (List Bool)) → Type 0
AreOfKinds objects = (o : Obj) (h : Held (List Bool)) → objects o ≡ Live h → IsOfKind o h

-- the live objects of each session are counted
abbrev pub AreCounted : List ℕ → Entries → Type 0
AreCounted counts es = (session : ℕ) → slice_index counts session ≡ live_in session es

-- what holds of a store's fields
pub record Keeps (es : Entries) (counts : List ℕ) : Type 0 where
  pub apart : AreApart es
  pub kinds : AreOfKinds (objects_of es)
  pub counts_live : AreCounted counts es

-- the entries after a slot is put at an object, which keeps its place if it has one
pub record IsPut (before after : Entries) (o : Obj) (s : Slot) : Type 0 where
  pub lookups : (q : Key) → lookup (key_same q) after ≡ cond (key_same (key_of o) q) (Some s) (lookup (key_same q) before)
  pub entries : after ≡ insert_entry key_same before (key_of o) s
  pub apart : AreApart after

-- it is there, and was not collected
abbrev pub IsLive : Condition (List Bool) → Type 0
IsLive (Live h) = Unit {0}
IsLive c = ⊥
