use Rattle.std.proofs.Common.{subst}
use Rattle.unum_world.specs.Traces.{Trace, IsObeying}
use Rattle.unum_world.specs.Turns.{Hands}
use Rattle.unum_world.proofs.Turning.{hands_goes, follows, on_traces}
use Rattle.unum_world.proofs.engine.PlannedEngine.hand.Goals as goal

pub returns-clause-extends : goal.returns-clause-extends
returns-clause-extends c =
    let p : Trace = c.args.self.now in
    let q : Trace = c.hand.new.world in
    let h : Hands p c.args.done.now c.hand.result q = subst (λ z. Hands z c.args.done.now c.hand.result q) c.self.view_is c.hand.ensures.hands in
    follows p q (hands_goes p c.args.done.now c.hand.result q h)

pub returns-clause-handed : goal.returns-clause-handed
returns-clause-handed c =
    let p : Trace = c.args.self.now in
    let q : Trace = c.hand.new.world in
    let h : Hands p c.args.done.now c.hand.result q = subst (λ z. Hands z c.args.done.now c.hand.result q) c.self.view_is c.hand.ensures.hands in
    on_traces (λ y z. Hands y c.args.done.now c.hand.result z) p q (hands_goes p c.args.done.now c.hand.result q h)
    (subst IsObeying c.self.view_is c.self.invariant) c.hand.ensures.obeying h
