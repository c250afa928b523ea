use Rattle.std.proofs.Common.{◌≡◌, ◌≤◌, sym, ap, ◌∙◌, subst, length, slice_get}
use Rattle.world_plans.specs.Three.{living_numbers}
use Rattle.unum_world.specs.Openings.{codes_of}
use Rattle.unum_world.specs.AllCrash.{living}
use Rattle.unum_world.specs.Traces.{Trace, world_of, IsRun}
use Rattle.unum_world.proofs.TheRun.{is_run, now_is}
use Rattle.unum_world.proofs.world.World.first_living.Goals as goal

pub returns-clause-first : goal.returns-clause-first
returns-clause-first c =
    let a = c.self.inside in
    let w = world_of a.opening a.state in
    let p : Trace = record { opening = a.opening; limit = a.limit; history = a.history.items } in
    let P : Trace → Type 0 = λ z. c.live_at.result ≡ slice_get (living z) 0 in
    subst P c.self.view_is (c.live_at.ensures ∙ ap (λ v. slice_get (living_numbers a.opening.plan (codes_of a.opening) v) 0) (sym (now_is p w c.self.invariant.is_run)))

pub returns-clause-happened : goal.returns-clause-happened
returns-clause-happened c =
    let a = c.self.inside in
    let p : Trace = record { opening = a.opening; limit = a.limit; history = a.history.items } in
    subst IsRun c.self.view_is (is_run p (world_of a.opening a.state) c.self.invariant.is_run)

pub returns-clause-within : goal.returns-clause-within
returns-clause-within c = subst (λ (z : Trace). length z.history ≤ z.limit) c.self.view_is c.self.invariant.within

pub returns-clause-limit : goal.returns-clause-limit
returns-clause-limit c = subst (λ (z : Trace). z.limit ≤ 10000000) c.self.view_is c.self.invariant.limit
