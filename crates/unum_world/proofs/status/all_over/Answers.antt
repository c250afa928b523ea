use Rattle.std.proofs.Common.{◌+◌, sym, ◌∙◌, add-one}
use Rattle.unum_world.proofs.Sessions.{over_past, over_not, over_more}
use Rattle.unum_world.proofs.status.all_over.Goals as goal

pub returns-in_default-state : goal.returns-in_default-state
returns-in_default-state c =
    let q = c.args.queue.now in
    sym (c.loop-k.invariant ∙ over_past c.args.session c.loop-k.k q.invs q.states (sym c.in_default-state.ensures))

pub returns-then-not-is_settled : goal.returns-then-not-is_settled
returns-then-not-is_settled c =
    let q = c.args.queue.now in
    sym
    (c.loop-k.invariant
    ∙ over_not c.args.session c.loop-k.k q.invs q.states c.in-Some.i.now c.in-Some-state.s (sym c.in-Some.ensures) (sym c.in-Some-state.ensures)
    (sym c.is_settled.ensures ∙ c.if-not-is_settled.true))

pub loop-k-preserved : goal.loop-k-preserved
loop-k-preserved c =
    let q = c.args.queue.now in
    c.loop-k.invariant
    ∙ over_more c.args.session c.loop-k.k q.invs q.states c.in-Some.i.now c.in-Some-state.s (sym c.in-Some.ensures) (sym c.in-Some-state.ensures)
    (c.loop-k.k + 1) (add-one c.loop-k.k) (sym c.is_settled.ensures ∙ c.if-not-is_settled.false)
