-- Which rules of reading a bundle's value breaks, in the order of reading: the first of them is the refusal.
use Rattle.std.specs.Prelude.{ℕ, ◌+◌, List, [], ◌++◌, codes, Option, Some, None}
use Rattle.serde_json.specs.Data.{Data, null, boolean, number, string, array, object, Items, no_items, item, Members, no_members, member}
use Rattle.serde_json.specs.Find.{get, as_str}
use Rattle.unum_json.specs.Keys.{find_key}
use Rattle.unum_json.specs.Whole.{index_step, key_step}
use Rattle.asl_read.specs.Objects.{Key, Broken, here, at_key, under, how_at, key_faults, missing_faults}
use Rattle.asl_read.specs.Names.{left_out}
use Rattle.asl_read.specs.Faults.{value_faults}
use Rattle.asl_read.specs.declared.fault.LRule.TheVariants.{L2, L3, L4}
use Rattle.asl_read.specs.declared.objects.LeftOut.TheVariants.{Nothing}
use Rattle.asl_read.specs.declared.table.How.TheVariants as how
use Rattle.asl_read.specs.declared.table.Kind.TheVariants.{Machine}
use Rattle.bundle_read.specs.declared.kinds.Object.{Object}
use Rattle.bundle_read.specs.declared.kinds.Object.TheVariants.{Function}
use Rattle.bundle_read.specs.declared.kinds.Part.{Part}
use Rattle.bundle_read.specs.declared.kinds.Part.TheVariants as part
use Rattle.bundle_read.specs.declared.reading.Form.{Form}
use Rattle.bundle_read.specs.declared.reading.Form.TheVariants.{Refused, Fields, Each, Whole}
use Rattle.bundle_read.specs.Parts.{fields, item_part, kinds}

-- ---------------------------------------------------------------- what an object is read as

abbrev pub named : Key → Form
named name = elim (find_key name kinds) [ Some kind ↦ Fields (Function kind) | None ↦ Refused L4 ]

-- A function has a kind, which is a text and names one of the kinds.
abbrev pub named_by : Option Data → Form
named_by None = Refused L3
named_by (Some d) = elim (as_str d) [ None ↦ Refused L2 | Some name ↦ named name ]

abbrev pub form_of : Part → Data → Form
form_of (part.Object kind) d = Fields kind
form_of part.Function d = named_by (get (codes "kind") d)
form_of part.Functions d = Each part.Function
form_of part.Machines d = Each (part.Field (how.Object Machine))
form_of _ d = Whole

-- how the members of an object are read: by the table of its kind, or all in one way
abbrev pub member_part : Form → Key → Part
member_part (Fields kind) k = how_at (fields kind) (part.Field how.Unread) k
member_part (Each p) k = p
member_part _ k = part.Field how.Unread

-- ---------------------------------------------------------------- values

-- what is read as a part of a machine is, or has another type than it is to have
abbrev pub whole_faults : Part → Data → List Broken
whole_faults (part.Field h) d = value_faults h d
whole_faults _ d = here L2

-- each key, then each required key
abbrev pub field_faults : Object → Data → List Broken
field_faults kind d = key_faults (fields kind) (left_out Nothing) d ++ missing_faults (fields kind) d

-- Arrays are read by index, and the values of an object in the byte order of their keys, each whole before the next.
abbrev mutual
  pub part_faults : Part → Data → List Broken
  part_faults p null = whole_faults p null
  part_faults p (boolean b) = whole_faults p (boolean b)
  part_faults p (number n) = whole_faults p (number n)
  part_faults p (string s) = whole_faults p (string s)
  part_faults p (array ds) = elim (item_part p) [ None ↦ whole_faults p (array ds) | Some i ↦ item_faults i 0 ds ]
  part_faults p (object ms) = elim (form_of p (object ms)) [
    | Refused rule ↦ at_key rule (codes "kind")
    | Fields kind ↦ field_faults kind (object ms) ++ member_faults (Fields kind) ms
    | Each q ↦ member_faults (Each q) ms
    | Whole ↦ whole_faults p (object ms)
  ]

  pub item_faults : Part → ℕ → Items → List Broken
  item_faults p i no_items = []
  item_faults p i (item d ds) = under (index_step i) (part_faults p d) ++ item_faults p (i + 1) ds

  pub member_faults : Form → Members → List Broken
  member_faults form no_members = []
  member_faults form (member k d ms) = under (key_step k) (part_faults (member_part form k) d) ++ member_faults form ms
