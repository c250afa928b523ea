-- What a value says as a text, a number, a path and so on.
--
-- Each definition gives some value also where the value is of another type. No such value is ever handed out, since it
-- breaks a rule.
-- Source: Amazon States Language, "Paths", "Reference Paths", "Payload Template", "Input and Output Processing" and "Errors".
use Rattle.std.specs.Prelude.{ℕ, Bool, true, false, List, [], ◌∷◌, map, codes, Option, Some, None, option_map, option_and_then, unwrap_or, Result, Ok, Err, ℤ, pos, negsuc, nat_le, if◌then◌else◌}
use Rattle.serde_json.specs.Data.{Data, null, array, Items, no_items, item}
use Rattle.serde_json.specs.Find.{get, as_bool, as_str, as_number, as_i64}
use Rattle.unum_json.specs.Whole.{Place, of_data}
use Rattle.unum_json.specs.declared.value.Json.{Json}
use Rattle.unum_json.specs.declared.value.Json as json
use Rattle.asl_paths.specs.Canonical.{canonical}
use Rattle.asl_paths.specs.Reading.{path_of}
use Rattle.asl_paths.specs.Templates.{template_of}
use Rattle.asl_paths.specs.declared.path.Path.{Path}
use Rattle.asl_paths.specs.declared.template.Template.{Template}
use Rattle.asl_paths.specs.declared.template.Part.{Part}
use Rattle.asl_shape.specs.Stages.{Stages}
use Rattle.asl_model.specs.declared.machine.After.{After}
use Rattle.asl_model.specs.declared.machine.Retrier.{Retrier}
use Rattle.asl_model.specs.declared.machine.Catcher.{Catcher}
use Rattle.asl_model.specs.declared.machine.Care.{Care}
use Rattle.asl_read.specs.Objects.{Key}

-- ---------------------------------------------------------------- one value

abbrev pub text_of : Data → List ℕ
text_of d = unwrap_or (as_str d) []

abbrev pub truth_of : Data → Bool
truth_of d = unwrap_or (as_bool d) false

abbrev pub whole_of : Data → ℤ
whole_of d = unwrap_or (option_and_then as_i64 (as_number d)) (pos 0)

abbrev pub path_in_text : List ℕ → Path
path_in_text t = unwrap_or (path_of t) []

abbrev pub path_at : Data → Path
path_at d = path_in_text (text_of d)

abbrev pub json_or_null : Result Json Place → Json
json_or_null (Ok v) = v
json_or_null (Err p) = json.Null

abbrev pub json_of : Data → Json
json_of d = json_or_null (of_data d)

abbrev pub template_by : (for_item : Bool) → Json → Result (List (Key × Part)) Place → Template
template_by for_item v (Ok parts) = record { fields = parts; item = for_item; source = canonical for_item v }
template_by for_item v (Err p) = record { fields = []; item = for_item; source = json.Obj [] }

abbrev pub template_at : (for_item : Bool) → Data → Template
template_at for_item d = template_by for_item (json_of d) (template_of for_item (json_of d))

abbrev pub items_in : Items → List Data
items_in no_items = []
items_in (item d ds) = d ∷ items_in ds

-- the items of an array
abbrev pub items_of : Data → List Data
items_of (array ds) = items_in ds
items_of _ = []

-- ---------------------------------------------------------------- fields

abbrev pub text_if : Key → Data → Option (List ℕ)
text_if k d = option_map text_of (get k d)

-- the text of a key, empty where it is missing
abbrev pub text_in : Key → Data → List ℕ
text_in k d = unwrap_or (text_if k d) []

-- false where it is missing
abbrev pub truth_in : Key → Data → Bool
truth_in k d = unwrap_or (option_map truth_of (get k d)) false

-- the items of a key's array
abbrev pub list_in : Key → Data → List Data
list_in k d = unwrap_or (option_map items_of (get k d)) []

-- `$` where it is missing
abbrev pub path_in : Key → Data → Path
path_in k d = unwrap_or (option_map path_at (get k d)) []

abbrev pub path_or_null : Data → Option Path
path_or_null null = None
path_or_null d = Some (path_at d)

-- `$` where it is missing, and nothing where it is null
abbrev pub path_if : Key → Data → Option Path
path_if k d = unwrap_or (option_map path_or_null (get k d)) (Some [])

abbrev pub template_if : (for_item : Bool) → Key → Data → Option Template
template_if for_item k d = option_map (template_at for_item) (get k d)

-- ---------------------------------------------------------------- groups of fields

abbrev pub shape_in : Data → Stages
shape_in d = record {
  input = path_if (codes "InputPath") d;
  parameters = template_if false (codes "Parameters") d;
  selector = template_if false (codes "ResultSelector") d;
  result = path_if (codes "ResultPath") d;
  output = path_if (codes "OutputPath") d;
}

-- a Pass has no ResultSelector
abbrev pub pass_shape_in : Data → Stages
pass_shape_in d = record (shape_in d) { selector = None }

-- a Choice and a Succeed have InputPath and OutputPath alone
abbrev pub path_shape_in : Data → Stages
path_shape_in d = record (shape_in d) { parameters = None; selector = None; result = Some [] }

-- the Parameters of a Map stand in its item template
abbrev pub map_shape_in : Data → Stages
map_shape_in d = record (shape_in d) { parameters = None }

-- the item template of a Map
abbrev pub item_template_in : Data → Option Template
item_template_in d = elim (template_if true (codes "ItemSelector") d) [ Some t ↦ Some t | None ↦ template_if true (codes "Parameters") d ]

abbrev pub after_in : Data → After
after_in d = record { next = text_if (codes "Next") d; end = truth_in (codes "End") d }

-- a number from 0 to the bound, and any other as the greatest 32 bit number, which no valid machine has
abbrev pub within : (bound : ℕ) → ℤ → ℕ
within bound (pos n) = if nat_le n bound then n else 4294967295
within bound (negsuc n) = 4294967295

abbrev pub number_in : Key → (bound missing : ℕ) → Data → ℕ
number_in k bound missing d = unwrap_or (option_map (λ v. within bound (whole_of v)) (get k d)) missing

abbrev pub retrier_of : Data → Retrier
retrier_of d = record { errors = map text_of (list_in (codes "ErrorEquals") d); most = number_in (codes "MaxAttempts") 99999999 3 d }

abbrev pub catcher_of : Data → Catcher
catcher_of d = record {
  errors = map text_of (list_in (codes "ErrorEquals") d);
  result = path_if (codes "ResultPath") d;
  next = text_in (codes "Next") d;
}

abbrev pub care_in : Data → Care
care_in d = record { retry = map retrier_of (list_in (codes "Retry") d); catch = map catcher_of (list_in (codes "Catch") d) }
