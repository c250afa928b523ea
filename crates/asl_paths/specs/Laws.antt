-- How getting and putting go together, and how paths are read and spelled.
use Rattle.std.specs.Prelude.{◌≡◌, ◌≢◌, List, ◌∷◌, ◌++◌, Some}
use Rattle.unum_json.specs.declared.value.Json.{Json}
use Rattle.asl_paths.specs.declared.path.PathStep.{PathStep}
use Rattle.asl_paths.specs.Grammar.{path_text}
use Rattle.asl_paths.specs.Lookup.{get, put}
use Rattle.asl_paths.specs.Reading.{path_of}
use Rattle.asl_paths.specs.Steps.{IsPath}

-- what was put at a path is found there
abbrev pub PutIsFound : Type 0
PutIsFound = (path : List PathStep) (raw made after : Json) → put path raw made ≡ Some after → get path after ≡ Some made

-- two paths that part at some step, so that neither goes on from the other
abbrev pub Part : List PathStep → List PathStep → Type 0
Part path other =
    (front : List PathStep) × (step : PathStep) × (turn : PathStep) × (rest : List PathStep) × (others : List PathStep)
    × (path ≡ front ++ step ∷ rest) × (other ≡ front ++ turn ∷ others) × (step ≢ turn)

-- a path that parts from the one that is put at finds what it found before
abbrev pub PutKeepsOthers : Type 0
PutKeepsOthers =
    (path other : List PathStep) (raw made after : Json) → Part path other → put path raw made ≡ Some after →
    get other after ≡ get other raw

-- the canonical text of a path reads as the path
abbrev pub PathsReadBack : Type 0
PathsReadBack = (path : List PathStep) → IsPath path → path_of (path_text path) ≡ Some path
