use Rattle.std.proofs.Common.{◌≡◌, map, take}
use Rattle.ir_text.specs.Printed.{func_value}
use Rattle.ir_text.proofs.printing.funcs_value.Given as goal

abbrev pub invariant-loop-func : goal.invariant-loop-func
invariant-loop-func l = l.values ≡ map func_value (take l.func-index l.func-items)
