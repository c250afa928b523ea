use Rattle.std.proofs.Common.{subst}
use Rattle.unum_world.specs.Traces.{Trace, IsObeying}
use Rattle.unum_world.specs.Turns.{Picks}
use Rattle.unum_world.proofs.Turning.{picks_goes, follows, on_traces, on_idle}
use Rattle.unum_world.proofs.engine.PlannedEngine.pick.Goals as goal

pub returns-clause-extends : goal.returns-clause-extends
returns-clause-extends c =
    let p : Trace = c.args.self.now in
    let q : Trace = c.pick.new.world in
    let h : Picks p c.args.mine c.pick.result q = subst (λ z. Picks z c.args.mine c.pick.result q) c.self.view_is c.pick.ensures.picks in
    follows p q (picks_goes p c.args.mine c.pick.result q h)

pub returns-clause-idle : goal.returns-clause-idle
returns-clause-idle c =
    let p : Trace = c.args.self.now in
    let q : Trace = c.pick.new.world in
    let h : Picks p c.args.mine c.pick.result q = subst (λ z. Picks z c.args.mine c.pick.result q) c.self.view_is c.pick.ensures.picks in
    on_idle p c.args.mine c.pick.result q (subst IsObeying c.self.view_is c.self.invariant) h

pub returns-clause-picked : goal.returns-clause-picked
returns-clause-picked c =
    let p : Trace = c.args.self.now in
    let q : Trace = c.pick.new.world in
    let h : Picks p c.args.mine c.pick.result q = subst (λ z. Picks z c.args.mine c.pick.result q) c.self.view_is c.pick.ensures.picks in
    on_traces (λ y z. Picks y c.args.mine c.pick.result z) p q (picks_goes p c.args.mine c.pick.result q h)
    (subst IsObeying c.self.view_is c.self.invariant) c.pick.ensures.obeying h
