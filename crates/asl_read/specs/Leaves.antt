-- Which rules a value breaks that is read as a whole.
-- Source: Amazon States Language, "Paths", "Reference Paths" and "Payload Template".
use Rattle.std.specs.Prelude.{ℕ, Bool, true, false, List, [], ◌∷◌, codes, Some, None, is_some, Result, Ok, Err}
use Rattle.std.specs.Str.{bytes_eq}
use Rattle.serde_json.specs.Data.{Data}
use Rattle.serde_json.specs.Find.{as_null, as_bool, as_str, as_number, as_object, as_i64}
use Rattle.unum_json.specs.Whole.{Place, of_data}
use Rattle.unum_json.specs.declared.value.Json.{Json}
use Rattle.asl_paths.specs.Reading.{path_of}
use Rattle.asl_paths.specs.Templates.{template_of}
use Rattle.asl_paths.specs.declared.template.Part.{Part}
use Rattle.asl_read.specs.Objects.{Key, Broken, here, unless}
use Rattle.asl_read.specs.declared.fault.LRule.TheVariants.{L2, L5, L6, L8}
use Rattle.asl_read.specs.declared.table.How.{How}
use Rattle.asl_read.specs.declared.table.How.TheVariants as how

-- a text, and what that breaks
abbrev pub text_faults : (List ℕ → List Broken) → Data → List Broken
text_faults more d = elim (as_str d) [ None ↦ here L2 | Some t ↦ more t ]

abbrev pub path_faults : Data → List Broken
path_faults = text_faults (λ t. unless (is_some (path_of t)) (here L6))

abbrev pub whole_faults : Data → List Broken
whole_faults d = elim (as_number d) [ None ↦ here L2 | Some n ↦ unless (is_some (as_i64 n)) (here L8) ]

-- the first number that is not whole, and no more is looked for
abbrev pub data_faults : Result Json Place → List Broken
data_faults (Ok v) = []
data_faults (Err p) = record { rule = L8; at = p } ∷ []

abbrev pub form_faults : Result (List (Key × Part)) Place → List Broken
form_faults (Ok parts) = []
form_faults (Err p) = record { rule = L6; at = p } ∷ []

abbrev pub template_in : (item : Bool) → Result Json Place → List Broken
template_in item (Ok v) = form_faults (template_of item v)
template_in item (Err p) = data_faults (Err p)

-- L8 is looked for in the whole value first
abbrev pub template_faults : (item : Bool) → Data → List Broken
template_faults item d = elim (as_object d) [ None ↦ here L2 | Some ms ↦ template_in item (of_data d) ]

abbrev pub leaf_faults : How → Data → List Broken
leaf_faults how.Unread d = []
leaf_faults how.Text d = text_faults (λ t. []) d
leaf_faults how.Truth d = unless (is_some (as_bool d)) (here L2)
leaf_faults how.Whole d = whole_faults d
leaf_faults how.Data d = data_faults (of_data d)
leaf_faults how.Language d = text_faults (λ t. unless (bytes_eq t (codes "JSONPath")) (here L5)) d
leaf_faults how.Mode d = text_faults (λ t. unless (bytes_eq t (codes "INLINE")) (here L5)) d
leaf_faults how.Path d = path_faults d
leaf_faults how.PathOrNull d = elim (as_null d) [ None ↦ path_faults d | Some u ↦ [] ]
leaf_faults how.Template d = template_faults false d
leaf_faults how.ItemTemplate d = template_faults true d
-- what else is read has parts of its own, and this is not of its type
leaf_faults _ d = here L2
