use Rattle.std.proofs.Common.{◌≡◌, fold, take}
use Rattle.std.specs.List.{flat_map}
use Rattle.checkpoint_store.specs.Writes.{seg_writes}
use Rattle.checkpoint_store.proofs.key.feed_scope.Given as goal

abbrev pub invariant-loop-seg : goal.invariant-loop-seg
invariant-loop-seg g l = l.state ≡ fold g.H.Hasher.write l.initial.state (flat_map seg_writes (take l.seg-index l.seg-items))
