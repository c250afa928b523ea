-- Which rules of reading a value breaks, in the order of reading: the first of them is the refusal.
use Rattle.std.specs.Prelude.{ℕ, ◌+◌, true, false, if◌then◌else◌, List, [], ◌++◌, codes, Option, Some, None}
use Rattle.std.specs.Borrow.{Bor}
use Rattle.std.specs.Str.{bytes_eq}
use Rattle.serde_json.specs.Data.{Data, null, boolean, number, string, array, object, Items, no_items, item, Members, no_members, member}
use Rattle.serde_json.specs.Find.{get, as_str}
use Rattle.unum_json.specs.Keys.{find_key}
use Rattle.unum_json.specs.Whole.{index_step, key_step}
use Rattle.asl_read.specs.Objects.{Key, Broken, here, at_key, under, key_faults, missing_faults}
use Rattle.asl_read.specs.Names.{left_out}
use Rattle.asl_read.specs.Choices.{is_malformed}
use Rattle.asl_read.specs.Tables.{table, others, how_in, state_types}
use Rattle.asl_read.specs.Leaves.{leaf_faults}
use Rattle.asl_read.specs.declared.fault.LRule.TheVariants.{L2, L3, L4, L5, L7}
use Rattle.asl_read.specs.declared.table.How.{How}
use Rattle.asl_read.specs.declared.table.How.TheVariants as how
use Rattle.asl_read.specs.declared.table.Kind.{Kind}
use Rattle.asl_read.specs.declared.table.Kind.TheVariants.{Machine, State, TopRule, InnerRule, FlatRule}
use Rattle.asl_read.specs.declared.table.StateType.{StateType}
use Rattle.asl_read.specs.declared.checking.Form.{Form}
use Rattle.asl_read.specs.declared.checking.Form.TheVariants as form

-- ---------------------------------------------------------------- what an object is read as

-- a row of the code
abbrev pub named_type : Bor (List ℕ) × StateType → Key × StateType
named_type row = (row.0.now, row.1)

abbrev pub typed : Key → Form
typed t = elim (find_key t state_types) [
  | Some type ↦ form.Fields (State type)
  | None ↦ if bytes_eq t (codes "Wait") then form.Refused L5 else form.Refused L4
]

-- A state has a Type, which is a text and names a state type that is built.
abbrev pub typed_by : Option Data → Form
typed_by None = form.Refused L3
typed_by (Some d) = elim (as_str d) [ None ↦ form.Refused L2 | Some t ↦ typed t ]

abbrev pub form_of : How → Data → Form
form_of (how.Object kind) d = form.Fields kind
form_of how.State d = typed_by (get (codes "Type") d)
form_of how.States d = form.States
form_of _ d = form.Leaf

-- ---------------------------------------------------------------- an object by its table

abbrev pub rule_faults : Kind → Data → List Broken
rule_faults TopRule d = if is_malformed false d then here L7 else []
rule_faults InnerRule d = if is_malformed true d then here L7 else []
rule_faults FlatRule d = if is_malformed false d then here L7 else []
rule_faults _ d = []

-- each key, then a rule as a whole, then each required key
abbrev pub field_faults : Kind → Data → List Broken
field_faults kind d = key_faults (table kind) (left_out (others kind)) d ++ rule_faults kind d ++ missing_faults (table kind) d

-- how the items of an array are read, if it is an array that is read
abbrev pub item_how : How → Option How
item_how how.Texts = Some how.Text
item_how (how.Each kind) = Some (how.Object kind)
item_how _ = None

-- how the members of an object are read: by the table of its kind, or each as a state
abbrev pub member_how : Option Kind → Key → How
member_how (Some kind) k = how_in kind k
member_how None k = how.State

-- ---------------------------------------------------------------- values

-- Arrays are read by index, and the values of an object in the byte order of their keys, each whole before the next.
abbrev mutual
  pub value_faults : How → Data → List Broken
  value_faults h null = leaf_faults h null
  value_faults h (boolean b) = leaf_faults h (boolean b)
  value_faults h (number n) = leaf_faults h (number n)
  value_faults h (string s) = leaf_faults h (string s)
  value_faults h (array ds) = elim (item_how h) [ None ↦ leaf_faults h (array ds) | Some i ↦ item_faults i 0 ds ]
  value_faults h (object ms) = elim (form_of h (object ms)) [
    | form.Refused rule ↦ at_key rule (codes "Type")
    | form.Fields kind ↦ field_faults kind (object ms) ++ member_faults (Some kind) ms
    | form.States ↦ member_faults None ms
    | form.Leaf ↦ leaf_faults h (object ms)
  ]

  pub item_faults : How → ℕ → Items → List Broken
  item_faults h i no_items = []
  item_faults h i (item d ds) = under (index_step i) (value_faults h d) ++ item_faults h (i + 1) ds

  pub member_faults : Option Kind → Members → List Broken
  member_faults kind no_members = []
  member_faults kind (member k d ms) = under (key_step k) (value_faults (member_how kind k) d) ++ member_faults kind ms

-- the rules that a machine's value breaks
abbrev pub machine_faults : Data → List Broken
machine_faults d = value_faults (how.Object Machine) d
