use Rattle.checkpoint_store.proofs.Stored.{absent}
use Rattle.checkpoint_store.proofs.entries.put.Goals as goal

pub unreachable-requires : goal.unreachable-requires
unreachable-requires c = c.requires (absent c.args.objects.now.entries c.args.object.now c.in-Err.ensures.absent)
