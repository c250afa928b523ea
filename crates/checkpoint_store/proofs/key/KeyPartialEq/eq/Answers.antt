use Rattle.checkpoint_store.proofs.Sames.{same_test}
use Rattle.checkpoint_store.proofs.key.KeyPartialEq.eq.Goals as goal

pub returns : goal.returns
returns c = same_test c.args.self.now.object c.args.other.now.object c.same.result c.same.ensures
