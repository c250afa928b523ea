use Rattle.continuation_gen.proofs.Stops.{flat_is_stretch, flat_after_is_after}
use Rattle.continuation_gen.proofs.Maps.{reads_alike}
use Rattle.continuation_gen.proofs.laws.walks.Goals as goal

pub returns : goal.returns
returns c = record { flat = flat_is_stretch; after = flat_after_is_after; reads = reads_alike }
