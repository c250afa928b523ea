use Rattle.std.proofs.Common.{◌≡◌, map, take}
use Rattle.continuation_gen.specs.Tables.{Child}
use Rattle.fn_wrapper.proofs.stopping.enters_of.Given as goal

abbrev pub invariant-loop-child : goal.invariant-loop-child
invariant-loop-child l = l.enters ≡ map (λ (c : Child). c.func) (take l.child-index l.children)
