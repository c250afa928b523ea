use Rattle.std.proofs.Common.{◌≡◌, map, take}
use Rattle.unum_json.specs.declared.value.Json.{Obj}
use Rattle.ir_text.specs.Printed.{rule_fields}
use Rattle.ir_text.proofs.rules.+rules.Given as goal

abbrev pub invariant-rules_value-loop-rule : goal.invariant-rules_value-loop-rule
invariant-rules_value-loop-rule l = l.values ≡ map Obj (map rule_fields (take l.rule-index l.rule-items))
