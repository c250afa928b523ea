use Rattle.std.proofs.Common.{sym, subst, IsTrue, ◌↔◌}
use Rattle.asl_model.specs.Laws.{In}
use Rattle.world_types.specs.declared.queue.Event.TheVariants.{Answer}
use Rattle.world_plans.specs.Chooser.{allowed_events}
use Rattle.unum_world.specs.Openings.{codes_of}
use Rattle.unum_world.specs.Traces.{Trace, world_of}
use Rattle.unum_world.specs.Turns.{allowed}
use Rattle.unum_world.proofs.TheRun.{holds_of, now_is}
use Rattle.unum_world.proofs.world.World.allows.Goals as goal

pub allows_answer-requires : goal.allows_answer-requires
allows_answer-requires c =
    let a = c.self.inside in
    holds_of a.opening a.limit a.history.items _ a.state c.self.invariant

pub returns : goal.returns
returns c =
    let a = c.self.inside in
    let p : Trace = record { opening = a.opening; limit = a.limit; history = a.history.items } in
    let P : Trace → Type 0 = λ z. IsTrue c.allows_answer.result ↔ In (Answer c.args.attempt) (allowed z) in
    subst P c.self.view_is
    (subst (λ w. IsTrue c.allows_answer.result ↔ In (Answer c.args.attempt) (allowed_events a.opening.plan (codes_of a.opening) w))
    (sym (now_is p (world_of a.opening a.state) c.self.invariant.is_run)) c.allows_answer.ensures)
