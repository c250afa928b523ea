-- The texts of flat code: what `compile` prints of a bundle, and what `ir` tells of a text.
use Rattle.std.specs.Prelude.{◌≡◌, ℕ, Bool, true, false, nat_lt, List, [], ◌++◌, length, flat_map, codes, decimal, Option, Some, None, Result, Ok, Err}
use Rattle.serde_json.specs.Data.{Data}
use Rattle.unum_json.specs.Reading.{reading}
use Rattle.unum_json.specs.Whole.{Place}
use Rattle.unum_json.specs.Written.{text, quoted}
use Rattle.asl_model.specs.Tree.{tree_of}
use Rattle.asl_model.specs.declared.machine.Machine.{Machine}
use Rattle.asl_read.specs.declared.fault.LRule.TheVariants.{L0, L1}
use Rattle.unum_ir.specs.declared.ir.Ir.{Ir}
use Rattle.continuation_gen.specs.Numbering.{flat_form}
use Rattle.ir_text.specs.Printed.{ir_value}
use Rattle.ir_text.specs.Reads.{Breaks, Reads}
use Rattle.ir_text.specs.declared.fault.IRule.{IRule}
use Rattle.bundle_read.specs.Accepted.{Accepted}
use Rattle.bundle_read.specs.Bounds.{Text}
use Rattle.bundle_read.specs.declared.refusal.RuleCode.TheVariants.{Reading, Flat}
use Rattle.bundle_read.specs.declared.refusal.Refusal.{Refusal}
use Rattle.bundle_read.specs.declared.refusal.Refusal.TheVariants.{One}

-- ---------------------------------------------------------------- compile

-- a line with a machine's name and the text of its flat code
abbrev pub compiled_line : Text × Machine → List ℕ
compiled_line m = codes "ir" ++ codes " " ++ quoted m.0 ++ codes " " ++ text (ir_value (flat_form (tree_of m.1))) ++ codes "\n"

-- the text of `compile`: a line for each machine, by name
abbrev pub compiled_text : Accepted → List ℕ
compiled_text b = flat_map compiled_line b.machines

-- ---------------------------------------------------------------- ir

-- the line of `ir`: how much is in a flat form
unfoldable pub flat_text : Ir → List ℕ
flat_text ir =
    codes "ir ok nodes " ++ decimal (length ir.nodes) ++ codes " funcs " ++ decimal (length ir.funcs) ++ codes " scopes "
    ++ decimal (length ir.scopes) ++ codes "\n"

-- the first rule of flat code that a value breaks, and where
pub record BreaksFirst (r : Refusal) (d : Data) : Type 0 where
  pub rule : IRule
  pub at : Place
  pub is : r ≡ One (Flat rule) at
  pub breaks : Breaks rule at d

-- a value is the flat form that is printed so, or it breaks this first
abbrev pub JudgesValue : Result Ir Refusal → Data → Type 0
JudgesValue (Ok ir) d = Reads (Ok ir) d
JudgesValue (Err r) d = BreaksFirst r d

-- the same of bytes: they are a value, or else no JSON
abbrev pub JudgesParsed : Result Ir Refusal → Option Data → Type 0
JudgesParsed made None = made ≡ Err (One (Reading L1) [])
JudgesParsed made (Some d) = JudgesValue made d

-- by whether there are too many of them
abbrev pub JudgesBytes : (too_many : Bool) → Result Ir Refusal → List ℕ → Type 0
JudgesBytes true made bytes = made ≡ Err (One (Reading L0) [])
JudgesBytes false made bytes = JudgesParsed made (reading bytes)

-- the flat form whose text the bytes are, or the first rule that they break
unfoldable pub JudgesFlat : Result Ir Refusal → List ℕ → Type 0
JudgesFlat made bytes = JudgesBytes (nat_lt 4194304 (length bytes)) made bytes

-- There is one such answer.
abbrev pub JudgesOnce : Type 0
JudgesOnce = (made other : Result Ir Refusal) (bytes : List ℕ) → JudgesFlat made bytes → JudgesFlat other bytes → made ≡ other
