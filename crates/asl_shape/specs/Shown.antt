-- What the data flow makes of one small input, {"a":1}, and of the result 2.
-- Source: Amazon States Language, "Input and Output Processing".
use Rattle.std.specs.Prelude.{◌≡◌, ℕ, List, [], ◌∷◌, false, Option, Some, None, Result, Ok, Err, pos, codes}
use Rattle.unum_json.specs.declared.value.Json.{Json}
use Rattle.unum_json.specs.declared.value.Json as json
use Rattle.unum_json.specs.Tree.{nodes, depth}
use Rattle.asl_paths.specs.declared.path.Path.{Path}
use Rattle.asl_paths.specs.declared.path.PathStep.TheVariants.{Field, Index}
use Rattle.asl_paths.specs.declared.template.Template.{Template}
use Rattle.asl_paths.specs.declared.template.Part as part
use Rattle.asl_paths.specs.Grammar.{path_text}
use Rattle.asl_shape.specs.declared.shape.Shape.{Shape}
use Rattle.asl_shape.specs.declared.trouble.ShapeError.{ShapeError}
use Rattle.asl_shape.specs.declared.trouble.ShapeError.TheVariants as error
use Rattle.asl_shape.specs.Flow.{prep, post}
use Rattle.asl_shape.specs.Names.{error_name}

-- {"a":1}
abbrev pub raw : Json
raw = json.Obj ((codes "a", json.Int (pos 1)) ∷ [])

abbrev pub two : Json
two = json.Int (pos 2)

-- {"a":1,"r":2}
abbrev pub raw_with_two : Json
raw_with_two = json.Obj ((codes "a", json.Int (pos 1)) ∷ (codes "r", two) ∷ [])

-- {}
abbrev pub nothing : Json
nothing = json.Obj []

-- {"x":1}
abbrev pub x_is_one : Json
x_is_one = json.Obj ((codes "x", json.Int (pos 1)) ∷ [])

-- every path is $, and there is no template
abbrev pub plain : Shape
plain = record { input = Some []; parameters = None; selector = None; result = Some []; output = Some [] }

-- the path $.KEY
abbrev pub at_key : List ℕ → Path
at_key key = Field key ∷ []

-- the template {"x.$":"$.KEY"}
abbrev pub x_from : List ℕ → Template
x_from key = record {
  fields = (codes "x", part.Found (at_key key)) ∷ [];
  item = false;
  source = json.Obj ((codes "x.$", json.Str (path_text (at_key key))) ∷ []);
}

-- InputPath null gives {}, and $ the input
abbrev pub InputPathGives : Type 0
InputPathGives = (prep (record plain { input = None }) raw ≡ Ok nothing) × (prep plain raw ≡ Ok raw)

-- Parameters are filled from what InputPath gives, and not from the raw input
abbrev pub ParametersFollow : Type 0
ParametersFollow =
    (prep (record plain { parameters = Some (x_from (codes "a")) }) raw ≡ Ok x_is_one)
    × (prep (record plain { input = None; parameters = Some (x_from (codes "a")) }) raw ≡ Err error.Parameter)

-- ResultPath null gives the raw input, $ the result, and $.r both
abbrev pub ResultPathGives : Type 0
ResultPathGives =
    (post (record plain { result = None }) raw two ≡ Ok raw) × (post plain raw two ≡ Ok two)
    × (post (record plain { result = Some (at_key (codes "r")) }) raw two ≡ Ok raw_with_two)

-- OutputPath null gives {}, and another path leads into the raw input with the result
abbrev pub OutputPathGives : Type 0
OutputPathGives =
    (post (record plain { output = None }) raw two ≡ Ok nothing)
    × (post (record plain { result = Some (at_key (codes "r")); output = Some (at_key (codes "r")) }) raw two ≡ Ok two)

-- the name of the error that an application ends with
abbrev pub failing : Result Json ShapeError → Option (List ℕ)
failing (Ok v) = None
failing (Err e) = error_name e

-- The first error in the order of application wins: here each later application fails too.
abbrev pub FirstErrorWins : Type 0
FirstErrorWins =
    (failing (prep (record plain { input = Some (at_key (codes "q")); parameters = Some (x_from (codes "q")) }) raw)
    ≡ Some (codes "Unum.PathFailure"))
    × (failing (prep (record plain { parameters = Some (x_from (codes "q")) }) raw) ≡ Some (codes "States.ParameterPathFailure"))
    × (failing
    (post (record plain { selector = Some (x_from (codes "q")); result = Some (Index 0 ∷ []); output = Some (at_key (codes "q")) }) raw two)
    ≡ Some (codes "States.ParameterPathFailure"))
    × (failing (post (record plain { result = Some (Index 0 ∷ []); output = Some (at_key (codes "q")) }) raw two)
    ≡ Some (codes "States.ResultPathMatchFailure"))
    × (failing (post (record plain { output = Some (at_key (codes "q")) }) raw two) ≡ Some (codes "Unum.PathFailure"))

-- a value may have 200,000 nodes and depth 120, and no more
abbrev pub DataLimit : Type 0
DataLimit =
    ((v : Json) → nodes v ≡ 200000 → depth v ≡ 120 → prep plain v ≡ Ok v)
    × ((v : Json) → nodes v ≡ 200001 → failing (prep plain v) ≡ Some (codes "Unum.DataLimit"))
    × ((v : Json) → nodes v ≡ 200000 → depth v ≡ 121 → failing (prep plain v) ≡ Some (codes "Unum.DataLimit"))
