use Rattle.std.proofs.Common.{rules, ◌≡◌, ◌<◌, sym, length, ◌++◌, [], ◌∷◌, arith}
use Rattle.unum_world.specs.Traces.{Trace, world_of}
use Rattle.unum_world.proofs.TheRun.{holds_of, enabled_now, stands_on}
use Rattle.unum_world.proofs.world.World.try_event.Goals as goal

pub make-requires-clause-holds : goal.make-requires-clause-holds
make-requires-clause-holds c =
    let a = c.self.inside in
    holds_of a.opening a.limit a.history.items _ a.state c.self.invariant

pub make-requires-clause-on : goal.make-requires-clause-on
make-requires-clause-on c =
    let a = c.self.inside in
    let p : Trace = record { opening = a.opening; limit = a.limit; history = a.history.items } in
    enabled_now p c.args.self.now (world_of a.opening a.state) c.args.event c.self.view_is c.self.invariant.is_run (sym c.if-not-enabled.ensures)

pub invariant_of-self-2 : goal.invariant_of-self-2
invariant_of-self-2 c =
    let a = c.self.inside in
    let p : Trace = record { opening = a.opening; limit = a.limit; history = a.history.items } in
    let more : c.push.new.self.items ≡ a.history.items ++ c.args.event ∷ [] = search rules in
    let less : length a.history.items < a.limit = omega (arith, c.len-len.ensures, c.if-len-self.false) in
    stands_on a.opening a.limit a.history.items _ a.state c.make.new.now c.args.event c.push.new.self.items _ c.self.invariant
    (enabled_now p c.args.self.now (world_of a.opening a.state) c.args.event c.self.view_is c.self.invariant.is_run (sym c.if-not-enabled.ensures))
    (search rules) c.make.ensures.kept more less
    (omega (arith, c.push.ensures.capacity, c.push.ensures.lower_bound))
