-- A flat form as code that worlds run.
use Rattle.std.specs.Prelude.{ℕ, map, slice_get, Option, Some, None}
use Rattle.asl_model.specs.Data.{Text, Json}
use Rattle.continuation_gen.specs.Tables.{Ir, Stop, CallAt, FanAt, EndsWith, Child}
use Rattle.unum_ir.specs.Flat.{flat_after}
use Rattle.unum_ir.specs.Calls.{effective, resource_of, input_of, width, combined, enter_of, parent_of}
use Rattle.world_model.specs.AnyCode.Code as coded
use Rattle.world_model.specs.AnyCode.Code.{Code}

-- a stop by functions alone: the inputs of a fan's branches are found by its raw data
abbrev pub bare_stop : Stop → coded.Stop ℕ
bare_stop (CallAt func hop raw used) = coded.Call func hop raw used
bare_stop (FanAt func hop raw used children) = coded.Fan func hop raw used (map (λ (c : Child). c.func) children)
bare_stop (EndsWith o) = coded.Over o

abbrev pub with_input : Option Text → Option Json → Option (Text × Json)
with_input (Some resource) (Some x) = Some (resource, x)
with_input _ _ = None

abbrev pub call_by : Ir → (func : ℕ) → (raw : Json) → Option (Text × Json)
call_by ir func raw = with_input (resource_of (slice_get ir.funcs func)) (effective ir func raw)

abbrev pub code_of_ir : Ir → Code ℕ
code_of_ir ir = record {
  after = λ func hop raw used o. bare_stop (flat_after ir func hop raw used o);
  call_of = call_by ir;
  join_around = parent_of ir;
  enter_of = enter_of ir;
  width = width ir;
  input_of = λ func index raw. input_of ir func index raw;
  combine = combined ir;
}
