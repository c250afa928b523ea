use Rattle.checkpoint_store.proofs.Stored.{Keeps-none, absent_in_none}
use Rattle.checkpoint_store.proofs.store.Store.new.Goals as goal

pub invariant_of-result : goal.invariant_of-result
invariant_of-result c = Keeps-none c.new.result.entries c.new-2.result.items c.new.ensures.empty c.new-2.ensures.items c.new.ensures.unique

pub returns : goal.returns
returns c = absent_in_none c.new.result.entries c.new.ensures.empty
