-- What a check answers.
use Rattle.std.specs.Prelude.{◌≡◌, ◌≢◌, ⊤, []}
use Rattle.asl_model.specs.Machine.{Block}
use Rattle.asl_model.specs.Valid.{broken}
use Rattle.asl_valid.specs.declared.checking.CheckError.{CheckError}
use Rattle.asl_valid.specs.declared.checking.CheckError.TheVariants.{Broken, NoMemory}

-- what is broken is told exactly, and there is something; want of memory tells nothing
abbrev pub Tells : Block → CheckError → Type 0
Tells root (Broken rules) = (rules ≡ broken root) × (broken root ≢ [])
Tells root NoMemory = ⊤
