-- Where a value is not as it would be printed: a text stands otherwise than in its canonical form, or a field stands that is left
-- out in print. Numbers are not compared.
use Rattle.std.specs.Prelude.{ℕ, ◌+◌, List, [], ◌∷◌, ◌++◌, Option, Some, None}
use Rattle.std.specs.Str.{bytes_eq}
use Rattle.serde_json.specs.Data.{Data, null, boolean, number, string, array, object, Items, no_items, item, Members, no_members, member}
use Rattle.unum_json.specs.declared.value.Json.{Json, out-Json}
use Rattle.unum_json.specs.declared.value.Json.TheOpen.{Json-F}
use Rattle.unum_json.specs.Keys.{find_key}
use Rattle.unum_json.specs.Whole.{index_step, key_step}
use Rattle.asl_read.specs.Objects.{Key, Broken, here, unless, under}
use Rattle.asl_read.specs.declared.fault.LRule.TheVariants.{L4, L6}

abbrev pub text_unlike : List ℕ → Json-F Json → List Broken
text_unlike s (Json-F.Str t) = unless (bytes_eq s t) (here L6)
text_unlike s _ = here L6

abbrev pub printed_items : Json-F Json → List Json
printed_items (Json-F.Arr vs) = vs
printed_items _ = []

abbrev pub printed_fields : Json-F Json → List (Key × Json)
printed_fields (Json-F.Obj fs) = fs
printed_fields _ = []

-- The value, and what is printed in its place, if something is. Arrays are compared as far as both go.
abbrev mutual
  pub unlike : Data → Option Json → List Broken
  unlike null o = elim o [ None ↦ here L4 | Some v ↦ [] ]
  unlike (boolean b) o = elim o [ None ↦ here L4 | Some v ↦ [] ]
  unlike (number n) o = elim o [ None ↦ here L4 | Some v ↦ [] ]
  unlike (string s) o = elim o [ None ↦ here L4 | Some v ↦ text_unlike s (out-Json v) ]
  unlike (array ds) o = elim o [ None ↦ here L4 | Some v ↦ items_unlike 0 ds (printed_items (out-Json v)) ]
  unlike (object ms) o = elim o [ None ↦ here L4 | Some v ↦ members_unlike ms (printed_fields (out-Json v)) ]

  pub items_unlike : ℕ → Items → List Json → List Broken
  items_unlike i no_items vs = []
  items_unlike i (item d ds) [] = []
  items_unlike i (item d ds) (v ∷ vs) = under (index_step i) (unlike d (Some v)) ++ items_unlike (i + 1) ds vs

  pub members_unlike : Members → List (Key × Json) → List Broken
  members_unlike no_members fs = []
  members_unlike (member k d ms) fs = under (key_step k) (unlike d (find_key k fs)) ++ members_unlike ms fs
