use Rattle.std.proofs.Common.{◌∙◌}
use Rattle.asl_valid.specs.Homes.{home_in}
use Rattle.asl_valid.proofs.Sharing.{row_noted}
use Rattle.asl_valid.proofs.homes.note_names.Goals as goal

pub loop-row-preserved : goal.loop-row-preserved
loop-row-preserved c = λ q.
    row_noted c.as_slice-row-items.result.now c.loop-row.row-index c.row-item.result q c.args.at (home_in c.loop-row.homes q) (home_in c.note_name.new.homes q)
    c.loop-row-test.true c.row-item.is (c.in_ok-note_name.ensures q)
    ∙ c.loop-row.invariant q
