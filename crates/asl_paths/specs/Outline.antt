-- What a template is seen as.
use Rattle.std.specs.Prelude.{ℕ, Bool, List}
use Rattle.unum_json.specs.declared.value.Json.{Json}
use Rattle.asl_paths.specs.declared.template.Part.{Part}

-- the part at each key, whether it was read with the paths into an item, and the value that it is read from, in its canonical
-- form
pub record Outline : Type 0 where
  pub fields : List (List ℕ × Part)
  pub item : Bool
  pub source : Json
