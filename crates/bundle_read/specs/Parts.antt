-- The table of a bundle's fields: for each kind of object its keys, which of them have to be there, and how their values
-- are read.
use Rattle.std.specs.Prelude.{ℕ, List, [], ◌∷◌, codes, Option, Some, None}
use Rattle.std.specs.Borrow.{Bor}
use Rattle.asl_read.specs.Objects.{Key, Row, must, may}
use Rattle.asl_read.specs.declared.table.How.TheVariants.{Unread, Text, Whole, Data}
use Rattle.bundle_read.specs.declared.kinds.FunctionKind.{FunctionKind}
use Rattle.bundle_read.specs.declared.kinds.FunctionKind.TheVariants.{Echo, Const, Sum, Ticket, Flaky, Fail}
use Rattle.bundle_read.specs.declared.kinds.Object as kind
use Rattle.bundle_read.specs.declared.kinds.Object.TheVariants.{Bundle, Function, Plan, Session}
use Rattle.bundle_read.specs.declared.kinds.Part.{Part}
use Rattle.bundle_read.specs.declared.kinds.Part.TheVariants as part

abbrev pub Fields : Type 0
Fields = List (Row Part)

-- the kind of a function was read before
abbrev pub function_fields : FunctionKind → Fields
function_fields Const = may (codes "kind") (part.Field Unread) ∷ must (codes "value") (part.Field Data) ∷ []
function_fields Flaky = may (codes "kind") (part.Field Unread) ∷ must (codes "every") (part.Field Whole) ∷ []
function_fields Fail = may (codes "kind") (part.Field Unread) ∷ must (codes "cause") (part.Field Text)
    ∷ must (codes "error") (part.Field Text) ∷ []
function_fields _ = may (codes "kind") (part.Field Unread) ∷ []

abbrev pub fields : kind.Object → Fields
fields Bundle =
    must (codes "functions") part.Functions ∷ must (codes "machines") part.Machines
    ∷ may (codes "plan") (part.Object Plan) ∷ must (codes "sessions") part.Sessions ∷ []
fields (Function f) = function_fields f
fields Plan =
    may (codes "crash") (part.Field Whole) ∷ may (codes "repeat") (part.Field Whole) ∷ may (codes "script") part.Script
    ∷ may (codes "seed") (part.Field Whole) ∷ may (codes "twins") part.Numbers ∷ []
fields Session = must (codes "input") (part.Field Data) ∷ must (codes "machine") (part.Field Text) ∷ []

-- how the items of an array are read, if it is an array that is read
abbrev pub item_part : Part → Option Part
item_part part.Numbers = Some (part.Field Whole)
item_part part.Script = Some part.Numbers
item_part part.Sessions = Some (part.Object Session)
item_part _ = None

-- the kinds of functions, by their names
abbrev pub kinds : List (Key × FunctionKind)
kinds = (codes "echo", Echo) ∷ (codes "const", Const) ∷ (codes "sum", Sum) ∷ (codes "ticket", Ticket) ∷ (codes "flaky", Flaky)
    ∷ (codes "fail", Fail) ∷ []

-- a row of the code
abbrev pub named_kind : Bor (List ℕ) × FunctionKind → Key × FunctionKind
named_kind row = (row.0.now, row.1)
