use Rattle.std.proofs.Common.{◌+◌, add-one, arith}
use Rattle.std.proofs.lemmas.List.{length-map}
use Rattle.world_plans.specs.Sessions.{standing}
use Rattle.unum_world.specs.Openings.{session_as, opening_as}
use Rattle.unum_world.specs.Traces.{world_of}
use Rattle.unum_world.proofs.Sessions.{count_more}
use Rattle.unum_world.proofs.status.count.Goals as goal

pub loop-s-preserved : goal.loop-s-preserved
loop-s-preserved c =
    let o = c.args.o.now in
    let w = world_of o c.args.now.now in
    record {
      counted =
          count_more w c.loop-s.s (opening_as o).sessions (c.loop-s.s + 1) c.loop-s.counts c.count_one.new.counts _ (add-one c.loop-s.s)
          (omega (arith, length-map o.sessions (session_as o.machines))) c.loop-s.invariant.counted
          (c.count_one.ensures.count (standing w c.loop-s.s) (c.standing.ensures o));
      many = omega (arith, c.count_one.ensures.sum);
    }
