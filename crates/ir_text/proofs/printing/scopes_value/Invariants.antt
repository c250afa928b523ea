use Rattle.std.proofs.Common.{◌≡◌, map, take}
use Rattle.ir_text.specs.Printed.{scope_value}
use Rattle.ir_text.proofs.printing.scopes_value.Given as goal

abbrev pub invariant-loop-scope : goal.invariant-loop-scope
invariant-loop-scope l = l.values ≡ map scope_value (take l.scope-index l.scope-items)
