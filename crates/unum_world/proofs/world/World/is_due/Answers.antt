use Rattle.unum_world.proofs.TheRun.{holds_of}
use Rattle.unum_world.proofs.world.World.is_due.Goals as goal

pub is_awaited-requires-clause-holds : goal.is_awaited-requires-clause-holds
is_awaited-requires-clause-holds c =
    let a = c.self.inside in
    holds_of a.opening a.limit a.history.items _ a.state c.self.invariant
