use Rattle.std.proofs.Common.{◌≡◌, length, ap, arith}
use Rattle.unum_world.specs.Traces.{world_of}
use Rattle.unum_world.proofs.Opened.{all_valid, opened_run}
use Rattle.unum_world.proofs.world.World.open.Goals as goal

pub invariant_of-world : goal.invariant_of-world
invariant_of-world c =
    let o = c.args.opening in
    let m = c.in-Ok.state in
    let h = c.in-Ok-with_capacity in
    let none : length h.history.items ≡ 0 = ap length h.ensures.items in
    record {
      is_run = opened_run o h.history.items (world_of o m) h.ensures.items c.in-Ok.ensures.world;
      valid = all_valid o c.requires.fits c.machines_are_valid.ensures;
      fits = c.requires.fits;
      limit = c.requires.limit;
      within = omega (arith, none);
      reserved = omega (arith, h.ensures.capacity);
      kept = c.in-Ok.ensures.kept;
    }
