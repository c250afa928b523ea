-- The data flow by computation: only what a value's layers are has to be told.
use Rattle.std.proofs.Common.{◌≡◌, ℕ, ◌+◌, List, Option, rules, refl}
use Rattle.std.specs.Prelude.{ℤ}
use Rattle.unum_json.specs.declared.value.Json.{Json, the_lemmas, out-Json}
use Rattle.unum_json.specs.declared.value.Json as json
use Rattle.unum_json.specs.declared.value.Json.TheOpen.{Json-F}
use Rattle.unum_json.specs.Tree.{nodes, depth, fields_sum, largest_value, on_values}
use Rattle.asl_paths.specs.declared.path.Path.{Path}
use Rattle.asl_paths.specs.declared.template.Part as part
use Rattle.asl_paths.specs.declared.template.Part.{the_lemmas as part_lemmas}
use Rattle.asl_paths.specs.Filling.{fill_part}
use Rattle.asl_paths.specs.Lookup.{get}
use Rattle.asl_shape.specs.Shown.{InputPathGives, ParametersFollow, ResultPathGives, OutputPathGives, FirstErrorWins, DataLimit}

out-Int : (i : ℤ) → out-Json (json.Int i) ≡ Json-F.Int i
out-Int i = search (rules, the_lemmas)

out-Obj : (fs : List (List ℕ × Json)) → out-Json (json.Obj fs) ≡ Json-F.Obj fs
out-Obj fs = search (rules, the_lemmas)

nodes-Int : (i : ℤ) → nodes (json.Int i) ≡ 1
nodes-Int i = search (rules, the_lemmas)

nodes-Obj : (fs : List (List ℕ × Json)) → nodes (json.Obj fs) ≡ 1 + fields_sum (on_values nodes fs)
nodes-Obj fs = search (rules, the_lemmas)

depth-Int : (i : ℤ) → depth (json.Int i) ≡ 0
depth-Int i = search (rules, the_lemmas)

depth-Obj : (fs : List (List ℕ × Json)) → depth (json.Obj fs) ≡ largest_value (on_values depth fs) + 1
depth-Obj fs = search (rules, the_lemmas)

part-Found : (value : Json) (item : Option (Json × ℕ)) (path : Path) → fill_part value item (part.Found path) ≡ get path value
part-Found value item path = search (rules, part_lemmas)

ruleset layers = (part-Found, out-Int, out-Obj, nodes-Int, nodes-Obj, depth-Int, depth-Obj)

pub input_path : InputPathGives
input_path = (refl, simp layers)

pub parameters_follow : ParametersFollow
parameters_follow = (simp layers, simp layers)

pub result_path : ResultPathGives
result_path = (simp layers, simp layers, simp layers)

pub output_path : OutputPathGives
output_path = (simp layers, simp layers)

pub first_error : FirstErrorWins
first_error = (simp layers, simp layers, simp layers, simp layers, simp layers)

pub data_limit : DataLimit
data_limit = (λ v few flat. rw (few, flat) refl, λ v many. rw many refl, λ v few deep. rw (few, deep) refl)
