use Rattle.std.proofs.Common.{◌≡◌, map, take}
use Rattle.ir_text.specs.Printed.{catcher_value}
use Rattle.ir_text.proofs.nodes.catchers.Given as goal

abbrev pub invariant-loop-catcher : goal.invariant-loop-catcher
invariant-loop-catcher l = l.values ≡ map catcher_value (take l.catcher-index l.catcher-items)
