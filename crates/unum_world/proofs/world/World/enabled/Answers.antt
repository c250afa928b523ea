use Rattle.std.proofs.Common.{◌≡◌, sym, ap, ◌∙◌, subst}
use Rattle.world_model.specs.AnyCode.World.{enabled}
use Rattle.unum_world.specs.Openings.{codes_of}
use Rattle.unum_world.specs.Traces.{Trace, world_of, is_enabled}
use Rattle.unum_world.proofs.TheRun.{holds_of, now_is}
use Rattle.unum_world.proofs.world.World.enabled.Goals as goal

pub returns : goal.returns
returns c =
    let a = c.self.inside in
    let i = c.self.invariant in
    let p : Trace = record { opening = a.opening; limit = a.limit; history = a.history.items } in
    let P : Trace → Type 0 = λ z. c.may.result ≡ is_enabled z c.args.event in
    subst P c.self.view_is
    (c.may.ensures a.opening (holds_of a.opening a.limit a.history.items _ a.state i)
    ∙ ap (λ w. enabled (codes_of a.opening) w c.args.event) (sym (now_is p (world_of a.opening a.state) i.is_run)))
