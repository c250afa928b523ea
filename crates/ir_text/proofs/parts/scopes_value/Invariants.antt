use Rattle.std.proofs.Common.{◌≡◌, map, take}
use Rattle.ir_text.specs.Printed.{number_value}
use Rattle.ir_text.proofs.parts.scopes_value.Given as goal

abbrev pub invariant-loop-scope : goal.invariant-loop-scope
invariant-loop-scope l = l.values ≡ map number_value (take l.scope-index l.scopes)
