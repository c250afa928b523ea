use Rattle.checkpoint_store.specs.declared.slot.Slot.TheVariants as slot
use Rattle.checkpoint_store.proofs.Stored.{Keeps-replaced, objects_put}
use Rattle.checkpoint_store.proofs.entries.replace.Goals as goal

pub returns-clause-kept : goal.returns-clause-kept
returns-clause-kept c =
    Keeps-replaced c.args.objects.now.entries c.put.new.objects.entries c.args.live.now c.args.object.now c.args.held c.requires.kept
    c.put.ensures c.requires.live c.requires.kind

pub returns-clause-replaced : goal.returns-clause-replaced
returns-clause-replaced c = objects_put c.args.objects.now.entries c.put.new.objects.entries c.args.object.now
    (slot.Live c.args.held) c.put.ensures
