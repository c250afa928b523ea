use Rattle.std.proofs.Common.{◌≡◌, drop, map}
use Rattle.asl_model.specs.Head.{caught}
use Rattle.asl_model.specs.Tree.{catcher_of}
use Rattle.central_model.proofs.care.catch.Given as goal

abbrev pub invariant-loop-catcher : goal.invariant-loop-catcher
invariant-loop-catcher l =
    caught l.name l.raw l.error l.cause l.answered (map catcher_of (drop l.catcher-index l.catcher-items)) ≡ caught l.name l.raw l.error l.cause l.answered (map catcher_of l.catchers)
