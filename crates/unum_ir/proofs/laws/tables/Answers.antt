use Rattle.unum_ir.proofs.TablesHold.{nexts_there, starts_there, funcs_there, scopes_there}
use Rattle.unum_ir.proofs.laws.tables.Goals as goal

pub returns : goal.returns
returns c = record { nexts = nexts_there; starts = starts_there; funcs = funcs_there; scopes = scopes_there }
