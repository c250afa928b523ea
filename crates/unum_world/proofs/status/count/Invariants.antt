use Rattle.std.proofs.Common.{◌≡◌, ◌+◌, drop}
use Rattle.world_plans.specs.Sessions.{count_from, no_counts}
use Rattle.unum_world.specs.Openings.{opening_as}
use Rattle.unum_world.specs.Traces.{world_of}
use Rattle.unum_world.proofs.status.count.Given as goal

abbrev pub invariant-loop-s : goal.invariant-loop-s
invariant-loop-s l = record {
  counted :
      count_from (world_of l.o l.now) l.s (drop l.s (opening_as l.o).sessions) l.counts
      ≡ count_from (world_of l.o l.now) 0 (opening_as l.o).sessions no_counts;
  many : l.counts.ended + l.counts.abandoned + l.counts.still_open ≡ l.s;
}
