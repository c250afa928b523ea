use Rattle.checkpoint_store.specs.declared.slot.Slot.TheVariants as slot
use Rattle.checkpoint_store.proofs.Stored.{buried, some_counted, objects_put}
use Rattle.checkpoint_store.proofs.entries.bury.Goals as goal

pub take_one-requires : goal.take_one-requires
take_one-requires c = record {
  some = some_counted c.args.objects.now.entries c.put.new.objects.entries c.args.live.now.items c.args.object.now c.session_of.result
      c.requires.kept c.put.ensures
      c.requires.live c.session_of.ensures;
}

pub returns-clause-kept : goal.returns-clause-kept
returns-clause-kept c =
    buried c.args.objects.now.entries c.put.new.objects.entries c.args.live.now.items c.take_one.new.counts.items c.args.object.now
    c.session_of.result c.requires.kept
    c.put.ensures c.requires.live c.session_of.ensures c.take_one.ensures

pub returns-clause-buried : goal.returns-clause-buried
returns-clause-buried c = objects_put c.args.objects.now.entries c.put.new.objects.entries c.args.object.now slot.Tombstone c.put.ensures
