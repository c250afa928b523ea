use Rattle.std.proofs.Common.{◌++◌, map, filter, ap}
use Rattle.asl_model.specs.Blocks.{Row}
use Rattle.asl_model.specs.Valid.{names_rule}
use Rattle.asl_valid.specs.Levels.{level_of}
use Rattle.asl_valid.specs.Rules.{breaks}
use Rattle.asl_valid.proofs.Trees.{rows_start}
use Rattle.asl_valid.proofs.noting.note_block.Goals as goal

pub loop-row-init : goal.loop-row-init
loop-row-init c =
    ap (λ rs. c.args.found.now ++ map (λ (r : Row). names_rule c.args.rule r.0) (filter (breaks c.args.rule (level_of c.args.level.now)) rs))
    (rows_start c.args.level.now.block.now c.as_slice-row-items.result.now c.as_slice-row-items.ensures.value)
