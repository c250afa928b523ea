use Rattle.continuation_gen.proofs.Maps.{ir_maps}
use Rattle.continuation_gen.proofs.laws.stands_for_sites.Goals as goal

pub returns : goal.returns
returns c = ir_maps
