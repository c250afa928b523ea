-- What the compiler keeps beside a machine.
use Rattle.std.specs.Prelude.{◌≡◌}
use Rattle.asl_model.specs.Machine.{Block}
use Rattle.asl_model.specs.Valid.{IsValid}
use Rattle.asl_model.specs.Walked.{HasRisingNames}
use Rattle.continuation_gen.specs.Tables.{Ir}
use Rattle.continuation_gen.specs.Numbering.{flat_form}

-- the flat form of a valid machine whose names rise
pub record IsFormOf (root : Block) (ir : Ir) : Type 0 where
  pub valid : IsValid root
  pub rising : HasRisingNames root
  pub form : ir ≡ flat_form root
