use Rattle.std.proofs.Common.{sym, ap, ◌∙◌}
use Rattle.checkpoint_store.specs.Entries.{objects_of, condition_of}
use Rattle.checkpoint_store.proofs.Stored.{marked_again}
use Rattle.checkpoint_store.proofs.store.Store.mark.Goals as goal

pub returns-in-Some-Tombstone-clause-objects : goal.returns-in-Some-Tombstone-clause-objects
returns-in-Some-Tombstone-clause-objects c =
    marked_again (objects_of c.args.self.now) c.args.object.now
    (sym c.in-Some-Tombstone.ensures.found ∙ ap condition_of c.in-Some-Tombstone.field-0-is)
