use Rattle.std.proofs.Common.{ap, ◌∙◌}
use Rattle.std.specs.Option.{option_copied}
use Rattle.checkpoint_store.specs.Entries.{objects_of}
use Rattle.checkpoint_store.proofs.Stored.{found}
use Rattle.checkpoint_store.proofs.store.Store.look.Goals as goal

pub returns-clause-found : goal.returns-clause-found
returns-clause-found c =
    found c.self.inside.objects.entries c.args.object.now (option_copied c.get.result) c.get.ensures.value
    ∙ ap (λ l. objects_of l c.args.object.now) c.self.view_is
