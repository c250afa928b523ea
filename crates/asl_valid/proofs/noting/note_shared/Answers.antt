use Rattle.std.proofs.Common.{◌∙◌}
use Rattle.asl_valid.specs.Homes.{home_in}
use Rattle.asl_valid.proofs.Sharing.{shared_step}
use Rattle.asl_valid.proofs.noting.note_shared.Goals as goal

pub loop-at-preserved : goal.loop-at-preserved
loop-at-preserved c =
    shared_step (home_in c.in_ok-homes.homes) c.args.levels.now c.loop-at.at c.index-levels-at.result c.loop-at.found c.note_shared_in.new.found
    c.loop-at-test.true c.index-levels-at.is c.in_ok-note_shared_in.ensures
    ∙ c.loop-at.invariant
