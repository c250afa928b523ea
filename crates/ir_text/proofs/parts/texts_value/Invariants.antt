use Rattle.std.proofs.Common.{◌≡◌, map, take}
use Rattle.unum_json.specs.declared.value.Json.{Str}
use Rattle.ir_text.proofs.parts.texts_value.Given as goal

abbrev pub invariant-loop-text : goal.invariant-loop-text
invariant-loop-text l = l.values ≡ map Str (take l.text-index l.text-items)
