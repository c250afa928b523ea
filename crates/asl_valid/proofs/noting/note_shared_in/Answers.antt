use Rattle.std.proofs.Common.{◌++◌, map, filter, ap}
use Rattle.asl_model.specs.declared.validity.VRule.TheVariants.{V3}
use Rattle.asl_model.specs.Blocks.{Row}
use Rattle.asl_model.specs.Valid.{names_rule}
use Rattle.asl_valid.specs.Homes.{home_in, is_shared}
use Rattle.asl_valid.proofs.Trees.{rows_start}
use Rattle.asl_valid.proofs.noting.note_shared_in.Goals as goal

pub loop-row-init : goal.loop-row-init
loop-row-init c =
    ap (λ rs. c.args.found.now ++ map (λ (r : Row). names_rule V3 r.0) (filter (λ (r : Row). is_shared (home_in c.args.homes.now r.0) c.args.at) rs))
    (rows_start c.args.level.now.block.now c.as_slice-row-items.result.now c.as_slice-row-items.ensures.value)
