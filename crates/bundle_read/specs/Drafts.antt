-- What the value of a bundle says.
--
-- Each definition gives something also where the value breaks a rule of reading. No such thing is ever handed out.
use Rattle.std.specs.Prelude.{ℕ, List, [], ◌∷◌, map, codes, unwrap_or}
use Rattle.serde_json.specs.Data.{Data, null, object, Members, no_members, member}
use Rattle.serde_json.specs.Find.{get}
use Rattle.unum_json.specs.Keys.{find_key}
use Rattle.fn_table.specs.declared.kind.FnKind.{FnKind}
use Rattle.fn_table.specs.declared.kind.FnKind.TheVariants as function
use Rattle.asl_read.specs.Objects.{Key}
use Rattle.asl_read.specs.Parts.{text_in, json_of, whole_of, within, items_of}
use Rattle.asl_read.specs.Machines.{machine_of}
use Rattle.bundle_read.specs.declared.draft.Draft.{Draft}
use Rattle.bundle_read.specs.declared.draft.DraftPlan.{DraftPlan}
use Rattle.bundle_read.specs.declared.draft.DraftSession.{DraftSession}
use Rattle.bundle_read.specs.declared.kinds.FunctionKind.{FunctionKind}
use Rattle.bundle_read.specs.declared.kinds.FunctionKind.TheVariants.{Echo, Const, Sum, Ticket, Flaky, Fail}
use Rattle.bundle_read.specs.Parts.{kinds}

-- the value of a key, or null
abbrev pub at : Key → Data → Data
at k d = unwrap_or (get k d) null

-- what f says of each member
abbrev pub each_member : {A : Type 0} → (Data → A) → Members → List (Key × A)
each_member f no_members = []
each_member f (member k d ms) = (k, f d) ∷ each_member f ms

abbrev pub members_of : {A : Type 0} → (Data → A) → Data → List (Key × A)
members_of f (object ms) = each_member f ms
members_of f _ = []

-- a number that no 32 bits hold stands as the greatest that they do
abbrev pub number_of : Data → ℕ
number_of d = within 4294967295 (whole_of d)

abbrev pub numbers_of : Data → List ℕ
numbers_of d = map number_of (items_of d)

abbrev pub kind_of : Data → FunctionKind
kind_of d = unwrap_or (find_key (text_in (codes "kind") d) kinds) Echo

abbrev pub function_by : FunctionKind → Data → FnKind
function_by Echo d = function.Echo
function_by Const d = function.Const (json_of (at (codes "value") d))
function_by Sum d = function.Sum
function_by Ticket d = function.Ticket
function_by Flaky d = function.Flaky (number_of (at (codes "every") d))
function_by Fail d = function.Fail (record { error = text_in (codes "error") d; cause = text_in (codes "cause") d })

abbrev pub function_of : Data → FnKind
function_of d = function_by (kind_of d) d

abbrev pub session_of : Data → DraftSession
session_of d = record { machine = text_in (codes "machine") d; input = json_of (at (codes "input") d) }

-- a number that is missing is 0, and a list that is missing empty
abbrev pub plan_of : Data → DraftPlan
plan_of d = record {
  crash = number_of (at (codes "crash") d);
  repeat = number_of (at (codes "repeat") d);
  script = map numbers_of (items_of (at (codes "script") d));
  seed = number_of (at (codes "seed") d);
  twins = numbers_of (at (codes "twins") d);
}

-- the parts of a bundle
abbrev pub draft_of : Data → Draft
draft_of d = record {
  functions = members_of function_of (at (codes "functions") d);
  machines = members_of machine_of (at (codes "machines") d);
  plan = plan_of (at (codes "plan") d);
  sessions = map session_of (items_of (at (codes "sessions") d));
}
