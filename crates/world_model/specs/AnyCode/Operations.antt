-- What the objects of a world hold, and the operations on objects and queue.
pub use Rattle.world_types.specs.declared.held.Kept.{Kept}
pub use Rattle.world_types.specs.declared.held.Held.{Held}
pub use Rattle.world_types.specs.declared.held.Held.TheVariants.{Kept as KeptAs, Outcome as OutcomeIs, Saved as SavedAs, Bits as BitsAre, Arg as ArgIs}
pub use Rattle.world_types.specs.declared.held.Condition.{Condition}
pub use Rattle.world_types.specs.declared.held.Condition.TheVariants.{Absent, Live, Tombstone}
pub use Rattle.world_types.specs.declared.operation.Invocation.{Invocation}
pub use Rattle.world_types.specs.declared.operation.Op.{Op}
pub use Rattle.world_types.specs.declared.operation.Op.TheVariants.{Look, Create, Set, Invoke, Mark, Ack}
pub use Rattle.world_types.specs.declared.operation.Reply.{Reply}
pub use Rattle.world_types.specs.declared.operation.Reply.TheVariants.{WasAbsent, WasLive, WasTombstone, Won, Had, HadTombstone, BitFull, BitNotFull, BitTombstone, Invoked, Finished}
