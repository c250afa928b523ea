use Rattle.std.proofs.Common.{refl, subst}
use Rattle.unum_world.specs.Traces.{Trace, world_of}
use Rattle.unum_world.specs.Sound.{IsSound}
use Rattle.unum_world.proofs.TheRun.{sound_of}
use Rattle.unum_world.proofs.world.World.is_sound.Goals as goal

pub returns : goal.returns
returns c =
    let a = c.self.inside in
    let i = c.self.invariant in
    let p : Trace = record { opening = a.opening; limit = a.limit; history = a.history.items } in
    subst IsSound c.self.view_is (sound_of p (world_of a.opening a.state) i.valid i.fits i.within refl i.is_run)
