-- What a value of a flat form's text is read as, and which rule it breaks.
use Rattle.std.specs.Prelude.{◌≡◌, ℕ, List, [], ◌∷◌, length, codes, Option, Some, None, Result, Ok, Err}
use Rattle.serde_json.specs.Data.{Data}
use Rattle.unum_json.specs.Whole.{Place, of_data}
use Rattle.asl_read.specs.Objects.{Broken}
use Rattle.asl_read.specs.declared.fault.ReadFault.{ReadFault}
use Rattle.asl_read.specs.declared.fault.ReadFault.TheVariants as fault
use Rattle.asl_read.specs.Parts.{list_in}
use Rattle.ir_text.specs.declared.fault.IRule.{IRule}
use Rattle.ir_text.specs.declared.fault.IRule.TheVariants.{I1, I2, I3, I4}
use Rattle.ir_text.specs.declared.fault.IrError.{IrError}
use Rattle.ir_text.specs.declared.fault.IrError.TheVariants.{BadIr, NoMemory}
use Rattle.ir_text.specs.declared.kinds.Object.TheVariants as object
use Rattle.ir_text.specs.declared.kinds.Part.TheVariants as part
use Rattle.ir_text.specs.declared.ranges.Sizes.{Sizes}
use Rattle.ir_text.specs.declared.walk.Walk.TheVariants as walk
use Rattle.ir_text.specs.Printed.{ir_value}
use Rattle.ir_text.specs.Spelled.{ir_of}
use Rattle.ir_text.specs.Texts.{unlike}
use Rattle.ir_text.specs.Walks.{part_faults}
use Rattle.ir_text.specs.Flat.{Ir}
use Rattle.unum_ir.specs.WellFormed.{IsWellFormed}

-- the value is what the flat form is printed as, and this is well formed
pub record IsPrinted (ir : Ir) (d : Data) : Type 0 where
  pub value : of_data d ≡ Ok (ir_value ir)
  pub well_formed : IsWellFormed ir

-- how many numbers each table has
abbrev pub sizes_of : Data → Sizes
sizes_of d = record {
  nodes = length (list_in (codes "nodes") d);
  funcs = length (list_in (codes "funcs") d);
  scopes = length (list_in (codes "scopes") d);
}

-- a field, its type, a tag, a path, a template or a rule is malformed
abbrev pub malformed : Data → List Broken
malformed d = part_faults walk.Forms (part.Object object.Ir) d

-- a text or a field is not in its canonical form: the value is not as what it spells is printed
abbrev pub not_canonical : Data → List Broken
not_canonical d = unlike d (Some (ir_value (ir_of d)))

-- a number is out of range
abbrev pub out_of_range : Data → List Broken
out_of_range d = part_faults (walk.Ranges (sizes_of d)) (part.Object object.Ir) d

-- where the first of them is
abbrev pub first_place : List Broken → Option Place
first_place [] = None
first_place (b ∷ bs) = Some b.at

-- The rules are tried one after the other over the whole value, and the last one, whose place is empty, is broken where no other is.
abbrev pub IsFirst : IRule → Place → Data → Type 0
IsFirst I1 at d = first_place (malformed d) ≡ Some at
IsFirst I2 at d = (malformed d ≡ []) × (first_place (not_canonical d) ≡ Some at)
IsFirst I3 at d = (malformed d ≡ []) × (not_canonical d ≡ []) × (first_place (out_of_range d) ≡ Some at)
IsFirst I4 at d = (malformed d ≡ []) × (not_canonical d ≡ []) × (out_of_range d ≡ []) × (at ≡ [])

-- A rule is broken where the value is not the printed form of the well formed flat form that it spells.
abbrev pub Breaks : IRule → Place → Data → Type 0
Breaks rule at d = (¬ IsPrinted (ir_of d) d) × IsFirst rule at d

-- Memory may always run out.
abbrev pub Blames : IrError → Data → Type 0
Blames (BadIr rule at) d = Breaks rule at d
Blames NoMemory d = Unit {0}

-- The flat form that the value is the printed form of, or the first broken rule and its place.
abbrev pub Reads : Result Ir IrError → Data → Type 0
Reads (Ok ir) d = (ir ≡ ir_of d) × IsPrinted ir d
Reads (Err e) d = Blames e d

abbrev pub rule_name : IRule → List ℕ
rule_name I1 = codes "I1"
rule_name I2 = codes "I2"
rule_name I3 = codes "I3"
rule_name I4 = codes "I4"

-- what one of the walks found, as a broken rule
abbrev pub Tells : IRule → IrError → ReadFault → Type 0
Tells rule (BadIr r at) (fault.Refused l p) = (r ≡ rule) × (at ≡ p)
Tells rule NoMemory fault.NoMemory = Unit {0}
Tells rule e f = ⊥

-- what a check of a value answers
abbrev pub Passes : Result (Unit {0}) IrError → Data → Type 0
Passes (Ok done) d = IsPrinted (ir_of d) d
Passes (Err e) d = Blames e d
