-- Which numbers of a flat form are out of range.
use Rattle.std.specs.Prelude.{ℕ, Bool, false, nat_lt, List, [], codes, Option, Some, None, ℤ, pos, negsuc}
use Rattle.serde_json.specs.Data.{Data}
use Rattle.serde_json.specs.Find.{get, as_null}
use Rattle.unum_json.specs.Whole.{key_step}
use Rattle.asl_read.specs.Objects.{Broken, here, unless, under}
use Rattle.asl_read.specs.Parts.{whole_of}
use Rattle.asl_read.specs.declared.fault.LRule.TheVariants.{L8}
use Rattle.ir_text.specs.declared.kinds.Number.{Number}
use Rattle.ir_text.specs.declared.kinds.Number.TheVariants as number
use Rattle.ir_text.specs.declared.kinds.Part.{Part}
use Rattle.ir_text.specs.declared.kinds.Part.TheVariants as part
use Rattle.ir_text.specs.declared.ranges.Sizes.{Sizes}

-- each number is below this: a node's, a function's or a scope's number below the length of its table
abbrev pub bound : Sizes → Number → ℕ
bound sizes number.Node = sizes.nodes
bound sizes number.Func = sizes.funcs
bound sizes number.Scope = sizes.scopes
bound sizes number.Most = 100000000
bound sizes number.Limit = 1000001

abbrev pub is_below : ℕ → ℤ → Bool
is_below bound (pos n) = nat_lt n bound
is_below bound (negsuc n) = false

abbrev pub number_faults : Sizes → Number → Data → List Broken
number_faults sizes number d = unless (is_below (bound sizes number) (whole_of d)) (here L8)

abbrev pub number_or_null_faults : Sizes → Number → Data → List Broken
number_or_null_faults sizes number d = elim (as_null d) [ None ↦ number_faults sizes number d | Some u ↦ [] ]

-- the node that a rule leads to
abbrev pub next_faults : Sizes → Option Data → List Broken
next_faults sizes None = []
next_faults sizes (Some d) = under (key_step (codes "Next")) (number_faults sizes number.Node d)

abbrev pub range_faults : Sizes → Part → Data → List Broken
range_faults sizes (part.Number number) d = number_faults sizes number d
range_faults sizes (part.NumberOrNull number) d = number_or_null_faults sizes number d
range_faults sizes part.Rule d = next_faults sizes (get (codes "Next") d)
range_faults sizes _ d = []
