-- What is printed is read.
use Rattle.std.specs.Prelude.{◌≡◌, Ok}
use Rattle.serde_json.specs.Data.{Data}
use Rattle.unum_json.specs.Whole.{of_data}
use Rattle.unum_ir.specs.WellFormed.{IsWellFormed}
use Rattle.ir_text.specs.Flat.{Ir}
use Rattle.ir_text.specs.Printed.{ir_value}
use Rattle.ir_text.specs.Readable.{IsReadable}
use Rattle.ir_text.specs.Reads.{IsPrinted}
use Rattle.ir_text.specs.Spelled.{ir_of}

-- the value that a flat form is printed as spells it, so that no two are printed as the same value
abbrev pub PrintedIsSpelled : Type 0
PrintedIsSpelled = (ir : Ir) (d : Data) → IsReadable ir → of_data d ≡ Ok (ir_value ir) → ir_of d ≡ ir

-- and no rule is broken by it, where it is well formed
abbrev pub PrintedIsAccepted : Type 0
PrintedIsAccepted = (ir : Ir) (d : Data) → IsReadable ir → IsWellFormed ir → of_data d ≡ Ok (ir_value ir) → IsPrinted (ir_of d) d
