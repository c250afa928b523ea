use Rattle.std.proofs.Common.{◌≤◌, length, arith}
use Rattle.unum_world.proofs.TheRun.{holds_of}
use Rattle.unum_world.proofs.world.World.totals.Goals as goal

pub totals-requires-clause-few : goal.totals-requires-clause-few
totals-requires-clause-few c =
    let a = c.self.inside in
    let n : length a.state.hub.queue.invs ≤ 4294967294 = (holds_of a.opening a.limit a.history.items _ a.state c.self.invariant).bounded.invs in
    omega (arith, n)
