use Rattle.std.proofs.Common.{◌≡◌, ◌≤◌, length, arith}
use Rattle.unum_world.specs.Traces.{Trace, world_of}
use Rattle.unum_world.proofs.TheRun.{holds_of, at_now}
use Rattle.unum_world.proofs.world.World.attempts.Goals as goal

pub overflow_cast-result : goal.overflow_cast-result
overflow_cast-result c =
    let a = c.self.inside in
    let n : length a.state.hub.queue.atts ≤ 4294967294 = (holds_of a.opening a.limit a.history.items _ a.state c.self.invariant).bounded.atts in
    omega (arith, n, c.attempts.ensures)

pub returns : goal.returns
returns c =
    let a = c.self.inside in
    let p : Trace = record { opening = a.opening; limit = a.limit; history = a.history.items } in
    at_now (λ w. c.attempts.result ≡ length w.atts) p c.args.self.now (world_of a.opening a.state) c.self.view_is c.self.invariant.is_run c.attempts.ensures
