use Rattle.std.proofs.Common.{◌≡◌, sym, ap, ◌∙◌, subst, length, None, arith}
use Rattle.world_plans.specs.Chooser as chooser
use Rattle.unum_world.specs.Openings.{codes_of}
use Rattle.unum_world.specs.Traces.{Trace, world_of, chosen_event, IsDrained, IsRun}
use Rattle.unum_world.proofs.Choices.{unchosen_drained}
use Rattle.unum_world.proofs.TheRun.{holds_of, is_run, now_is, runs_on}
use Rattle.unum_world.proofs.world.World.choose.Goals as goal

pub choose_event-requires : goal.choose_event-requires
choose_event-requires c =
    let a = c.self.inside in
    holds_of a.opening a.limit a.history.items _ a.state c.self.invariant

pub returns-clause-event : goal.returns-clause-event
returns-clause-event c =
    let a = c.self.inside in
    let w = world_of a.opening a.state in
    let p : Trace = record { opening = a.opening; limit = a.limit; history = a.history.items } in
    let n : c.len.result ≡ length a.history.items = omega (arith, c.len.ensures) in
    let P : Trace → Type 0 = λ z. c.choose_event.result ≡ chosen_event z in
    subst P c.self.view_is
    (c.choose_event.ensures ∙ ap (chooser.chosen_event a.opening.plan (codes_of a.opening) w) n
    ∙ ap (λ w. chooser.chosen_event a.opening.plan (codes_of a.opening) w (length a.history.items)) (sym (now_is p w c.self.invariant.is_run)))

pub returns-clause-drained : goal.returns-clause-drained
returns-clause-drained c = λ q.
    let a = c.self.inside in
    let i = c.self.invariant in
    let w = world_of a.opening a.state in
    let p : Trace = record { opening = a.opening; limit = a.limit; history = a.history.items } in
    let n : c.len.result ≡ length a.history.items = omega (arith, c.len.ensures) in
    let e : chosen_event p ≡ None =
    ap (λ w. chooser.chosen_event a.opening.plan (codes_of a.opening) w (length a.history.items)) (now_is p w i.is_run)
    ∙ ap (chooser.chosen_event a.opening.plan (codes_of a.opening) w) (sym n) ∙ sym c.choose_event.ensures ∙ q in
    subst IsDrained c.self.view_is (unchosen_drained p w i.is_run (runs_on a.opening a.history.items w i.valid i.is_run) e)

pub returns-clause-happened : goal.returns-clause-happened
returns-clause-happened c =
    let a = c.self.inside in
    let p : Trace = record { opening = a.opening; limit = a.limit; history = a.history.items } in
    subst IsRun c.self.view_is (is_run p (world_of a.opening a.state) c.self.invariant.is_run)
