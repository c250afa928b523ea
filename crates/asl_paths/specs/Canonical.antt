-- The canonical form of a template's value: the same value, with the canonical text of each path.
-- Source: Amazon States Language, "Payload Template".
use Rattle.std.specs.Prelude.{ℕ, ◌+◌, Bool, true, false, if◌then◌else◌, List, [], ◌∷◌, ◌++◌, map, take, drop, codes, Option, Some, None, flat_map, Result, Ok, ◌≡◌}
use Rattle.std.specs.Str.{bytes_eq}
use Rattle.unum_json.specs.declared.value.Json.{Json, fold-Json, out-Json}
use Rattle.unum_json.specs.declared.value.Json as json
use Rattle.unum_json.specs.declared.value.Json.TheOpen.{Json-F}
use Rattle.asl_paths.specs.declared.path.PathStep.{PathStep}
use Rattle.asl_paths.specs.declared.template.Part.{Part}
use Rattle.asl_paths.specs.Grammar.{step_text, path_text}
use Rattle.asl_paths.specs.Reading.{path_of}
use Rattle.asl_paths.specs.Templates.{path_name, template_of}

-- what a text says of a path, or else the text itself
abbrev pub text_by : List ℕ → (List PathStep → List ℕ) → Option (List PathStep) → List ℕ
text_by t spell None = t
text_by t spell (Some path) = spell path

abbrev pub plain_text : List ℕ → List ℕ
plain_text t = text_by t path_text (path_of t)

abbrev pub into_item : List PathStep → List ℕ
into_item path = codes "$$.Map.Item.Value" ++ flat_map step_text path

abbrev pub item_text : List ℕ → List ℕ
item_text t =
    if bytes_eq t (codes "$$.Map.Item.Index") then t
    else (if bytes_eq (take 17 t) (codes "$$.Map.Item.Value") then text_by t into_item (path_of (36 ∷ drop 17 t)) else plain_text t)

-- the canonical text of a path, or of a path into an item; any other text as it is
abbrev pub canonical_text : (item : Bool) → List ℕ → List ℕ
canonical_text false t = plain_text t
canonical_text true t = item_text t

abbrev pub at_path : (item : Bool) → Json → Json-F Json → Json
at_path item v (Json-F.Str t) = json.Str (canonical_text item t)
at_path item v _ = v

abbrev pub value_by : (item : Bool) → Json → Option (List ℕ) → Json
value_by item v None = v
value_by item v (Some name) = at_path item v (out-Json v)

-- the text of a key that ends in `.$` is a path's
abbrev pub canonical_field : (item : Bool) → List ℕ × Json → List ℕ × Json
canonical_field item f = (f.0, value_by item f.1 (path_name f.0))

abbrev pub canonical_step : (item : Bool) → Json-F Json → Json
canonical_step item Json-F.Null = json.Null
canonical_step item (Json-F.Bool b) = json.Bool b
canonical_step item (Json-F.Int n) = json.Int n
canonical_step item (Json-F.Str s) = json.Str s
canonical_step item (Json-F.Arr vs) = json.Arr vs
canonical_step item (Json-F.Obj fs) = json.Obj (map (canonical_field item) fs)

-- the value with the canonical text of each path
abbrev pub canonical : (item : Bool) → Json → Json
canonical item = fold-Json Json (canonical_step item)

abbrev pub canonical_items : (item : Bool) → List Json → List Json
canonical_items item vs = map (canonical item) vs

abbrev pub canonical_fields : (item : Bool) → List (List ℕ × Json) → List (List ℕ × Json)
canonical_fields item fs = map (canonical_field item) (map (λ f. (f.0, canonical item f.1)) fs)

-- The parts are what the value is read as, and the value is in its canonical form.
pub record IsTemplate (parts : List (List ℕ × Part)) (item : Bool) (source : Json) : Type 0 where
  pub read : template_of item source ≡ Ok parts
  pub same : canonical item source ≡ source
