use Rattle.unum_world.proofs.TheRun.{holds_of}
use Rattle.unum_world.proofs.world.World.awaited.Goals as goal

pub awaited-requires-clause-holds : goal.awaited-requires-clause-holds
awaited-requires-clause-holds c =
    let a = c.self.inside in
    holds_of a.opening a.limit a.history.items _ a.state c.self.invariant
