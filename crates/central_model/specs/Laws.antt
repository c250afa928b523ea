-- What a sequential run is, as a central run.
use Rattle.std.specs.Prelude.{◌≡◌, ℕ, List}
use Rattle.asl_model.specs.Data.{Json, Outcome}
use Rattle.asl_model.specs.Names.{Place, answers_of}
use Rattle.asl_model.specs.Machine.{Block}
use Rattle.asl_model.specs.Step.{standard}
use Rattle.asl_model.specs.Central.{central}
use Rattle.asl_model.specs.Sequential.{Functions, sequential}
use Rattle.central_model.specs.Asking.{by_functions, AreAnswered}

-- It is one, on answers with which each Task has that of its function. Its ticket is how many Tasks are visited before.
abbrev pub AnswersInOrder : Type 0
AnswersInOrder =
    (root : Block) (session : ℕ) (input : Json) (call : Functions) →
    (es : List (Place × Outcome)) × (sequential root session input call ≡ central standard (answers_of es) root session input)
    × AreAnswered (by_functions call) 0 (sequential root session input call).visits
