use Rattle.std.proofs.Common.{◌≡◌, map, take}
use Rattle.asl_model.specs.Tree.{catcher_of}
use Rattle.continuation_gen.specs.Numbering.{number_catcher}
use Rattle.continuation_gen.specs.Filling.{number_in}
use Rattle.continuation_gen.proofs.ops.number_catchers.Given as goal

abbrev pub invariant-loop-catcher : goal.invariant-loop-catcher
invariant-loop-catcher l = l.numbered ≡ map (number_catcher (number_in l.spot)) (map catcher_of (take l.catcher-index l.catcher-items))
