-- Instances of machines, what the objects of a world hold, and the operations on objects and queue.
use Rattle.std.specs.Prelude.{ℕ, List}
use Rattle.world_model.specs.AnyCode.Operations as any_code
pub use Rattle.world_model.specs.AnyCode.Names.{name_at, root}
pub use Rattle.world_model.specs.AnyCode.Operations.{Kept, KeptAs, OutcomeIs, SavedAs, BitsAre, ArgIs, Absent, Live, Tombstone, Look, Create, Set, Invoke, Mark, Ack, WasAbsent, WasLive, WasTombstone, Won, Had, HadTombstone, BitFull, BitNotFull, BitTombstone, Invoked, Finished}
pub use Rattle.world_model.specs.Sites.{Spot, OnEnter, OnTask, OnJoin, spot_of, visited_at, kind_on, Frame, Site}

-- a bitmap holds the indices of the branches that have ended, the last first
abbrev pub Held : Type 0
Held = any_code.Held (List ℕ)

-- what has become of an object
abbrev pub Condition : Type 0
Condition = any_code.Condition (List ℕ)

-- a message
abbrev pub Invocation : Type 0
Invocation = any_code.Invocation Site

-- an operation
abbrev pub Op : Type 0
Op = any_code.Op Site (List ℕ)

-- what it answers
abbrev pub Reply : Type 0
Reply = any_code.Reply (List ℕ)
