use Rattle.std.proofs.Common.{◌≤◌, length, sym, arith, Some, None}
use Rattle.world_plans.specs.Sessions.{session_of}
use Rattle.unum_world.specs.Traces.{Trace, world_of}
use Rattle.unum_world.specs.Answers.{IsStanding}
use Rattle.unum_world.proofs.TheRun.{holds_of, at_now, stands_so, stands_not}
use Rattle.unum_world.proofs.world.World.session.Goals as goal

pub standing-requires-clause-few : goal.standing-requires-clause-few
standing-requires-clause-few c =
    let a = c.self.inside in
    let n : length a.state.hub.queue.invs ≤ 4294967294 = (holds_of a.opening a.limit a.history.items _ a.state c.self.invariant).bounded.invs in
    omega (arith, n)

pub returns-in-Some : goal.returns-in-Some
returns-in-Some c =
    let a = c.self.inside in
    let p : Trace = record { opening = a.opening; limit = a.limit; history = a.history.items } in
    at_now (λ w. IsStanding (Some c.standing.result) (session_of w c.args.s)) p c.args.self.now (world_of a.opening a.state) c.self.view_is
    c.self.invariant.is_run
    (stands_so a.opening a.state c.args.s c.in-Some.field-0.now c.standing.result (sym c.in-Some.ensures.value) (c.standing.ensures a.opening))

pub returns-in-None : goal.returns-in-None
returns-in-None c =
    let a = c.self.inside in
    let p : Trace = record { opening = a.opening; limit = a.limit; history = a.history.items } in
    at_now (λ w. IsStanding None (session_of w c.args.s)) p c.args.self.now (world_of a.opening a.state) c.self.view_is c.self.invariant.is_run
    (stands_not a.opening a.state c.args.s (sym c.in-None.ensures.value))
