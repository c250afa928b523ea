-- What a walk over the value of a flat form finds, in the order of reading. One walk asks for the form of each part, and one for
-- the range of each number.
use Rattle.std.specs.Prelude.{ℕ, ◌+◌, List, [], ◌++◌, codes, Option, Some, None}
use Rattle.serde_json.specs.Data.{Data, null, boolean, number, string, array, object, Items, no_items, item, Members, no_members, member}
use Rattle.serde_json.specs.Find.{get, as_null, as_str}
use Rattle.unum_json.specs.Keys.{find_key}
use Rattle.unum_json.specs.Whole.{index_step, key_step}
use Rattle.asl_read.specs.Objects.{Key, Broken, here, at_key, under, how_at, key_faults, missing_faults}
use Rattle.asl_read.specs.Names.{left_out}
use Rattle.asl_read.specs.Faults.{value_faults}
use Rattle.asl_read.specs.declared.fault.LRule.TheVariants.{L2, L3, L4}
use Rattle.asl_read.specs.declared.objects.LeftOut.TheVariants.{Nothing}
use Rattle.asl_read.specs.declared.table.How.TheVariants as how
use Rattle.asl_read.specs.declared.table.Kind.TheVariants.{FlatRule}
use Rattle.ir_text.specs.declared.kinds.Object.{Object}
use Rattle.ir_text.specs.declared.kinds.Part.{Part}
use Rattle.ir_text.specs.declared.kinds.Part.TheVariants as part
use Rattle.ir_text.specs.declared.walk.Form.{Form}
use Rattle.ir_text.specs.declared.walk.Form.TheVariants.{Refused, Fields, Whole}
use Rattle.ir_text.specs.declared.walk.Walk.{Walk}
use Rattle.ir_text.specs.declared.walk.Walk.TheVariants as walk
use Rattle.ir_text.specs.Tables.{fields, item_part, ops, kinds}
use Rattle.ir_text.specs.Ranges.{range_faults}

-- ---------------------------------------------------------------- what an object is read as

abbrev pub named : List (Key × Object) → Key → Form
named names t = elim (find_key t names) [ Some kind ↦ Fields kind | None ↦ Refused L4 ]

-- A tag is a text and one of the names.
abbrev pub tagged : List (Key × Object) → Option Data → Form
tagged names None = Refused L3
tagged names (Some d) = elim (as_str d) [ None ↦ Refused L2 | Some t ↦ named names t ]

abbrev pub tag_key : Part → Key
tag_key part.Node = codes "op"
tag_key _ = codes "kind"

abbrev pub form_of : Part → Data → Form
form_of (part.Object kind) d = Fields kind
form_of part.Node d = tagged ops (get (codes "op") d)
form_of part.Func d = tagged kinds (get (codes "kind") d)
form_of _ d = Whole

-- how the members of an object are read, by the table of its kind
abbrev pub member_part : Object → Key → Part
member_part kind = how_at (fields kind) (part.Field how.Unread)

-- ---------------------------------------------------------------- what each walk asks

abbrev pub number_form : Data → List Broken
number_form d = value_faults how.Whole d

-- a value that is read as a whole has its form
abbrev pub form_faults : Part → Data → List Broken
form_faults (part.Field h) d = value_faults h d
form_faults (part.Number n) d = number_form d
form_faults (part.NumberOrNull n) d = elim (as_null d) [ None ↦ number_form d | Some u ↦ [] ]
form_faults part.Rule d = value_faults (how.Object FlatRule) d
-- what else is read has parts of its own, and this is not of its type
form_faults _ d = here L2

abbrev pub whole_faults : Walk → Part → Data → List Broken
whole_faults walk.Forms p d = form_faults p d
whole_faults (walk.Ranges sizes) p d = range_faults sizes p d

-- each key is known, and then each required key is there
abbrev pub field_faults : Walk → Object → Data → List Broken
field_faults walk.Forms kind d = key_faults (fields kind) (left_out Nothing) d ++ missing_faults (fields kind) d
field_faults (walk.Ranges sizes) kind d = []

-- ---------------------------------------------------------------- values

-- Arrays are read by index, and the values of an object in the byte order of their keys, each whole before the next.
abbrev mutual
  pub part_faults : Walk → Part → Data → List Broken
  part_faults w p null = whole_faults w p null
  part_faults w p (boolean b) = whole_faults w p (boolean b)
  part_faults w p (number n) = whole_faults w p (number n)
  part_faults w p (string s) = whole_faults w p (string s)
  part_faults w p (array ds) = elim (item_part p) [ None ↦ whole_faults w p (array ds) | Some i ↦ item_faults w i 0 ds ]
  part_faults w p (object ms) = elim (form_of p (object ms)) [
    | Refused rule ↦ at_key rule (tag_key p)
    | Fields kind ↦ field_faults w kind (object ms) ++ member_faults w kind ms
    | Whole ↦ whole_faults w p (object ms)
  ]

  pub item_faults : Walk → Part → ℕ → Items → List Broken
  item_faults w p i no_items = []
  item_faults w p i (item d ds) = under (index_step i) (part_faults w p d) ++ item_faults w p (i + 1) ds

  pub member_faults : Walk → Object → Members → List Broken
  member_faults w kind no_members = []
  member_faults w kind (member k d ms) = under (key_step k) (part_faults w (member_part kind k) d) ++ member_faults w kind ms
