use Rattle.std.proofs.Common.{◌≡◌, sym, ap, ◌∙◌, subst, None}
use Rattle.unum_world.specs.Openings.{codes_of}
use Rattle.unum_world.specs.Traces.{Trace, world_of}
use Rattle.unum_world.specs.Turns.{due_in, due_event, own_attempt}
use Rattle.unum_world.proofs.Dues.{own_none}
use Rattle.unum_world.proofs.TheRun.{holds_of, at_now, now_is}
use Rattle.unum_world.proofs.world.World.due.Goals as goal

pub due_event-requires : goal.due_event-requires
due_event-requires c =
    let a = c.self.inside in
    holds_of a.opening a.limit a.history.items _ a.state c.self.invariant

pub returns-clause-event : goal.returns-clause-event
returns-clause-event c =
    let a = c.self.inside in
    let p : Trace = record { opening = a.opening; limit = a.limit; history = a.history.items } in
    let P : Trace → Type 0 = λ z. c.due_event.result ≡ due_event z c.args.mine in
    subst P c.self.view_is
    (c.due_event.ensures
    ∙ ap (λ w. due_in a.opening.plan (codes_of a.opening) w c.args.mine) (sym (now_is p (world_of a.opening a.state) c.self.invariant.is_run)))

pub returns-clause-none : goal.returns-clause-none
returns-clause-none c = λ q.
    let a = c.self.inside in
    let p : Trace = record { opening = a.opening; limit = a.limit; history = a.history.items } in
    let h = holds_of a.opening a.limit a.history.items _ a.state c.self.invariant in
    at_now (λ w. own_attempt w c.args.mine ≡ None) p c.args.self.now (world_of a.opening a.state) c.self.view_is c.self.invariant.is_run
    (own_none a.opening.plan (codes_of a.opening) (world_of a.opening a.state) h.running c.args.mine (sym c.due_event.ensures ∙ q))
