use Rattle.fanin_bitmap.proofs.Flagged.{full_by_counts}
use Rattle.fanin_bitmap.proofs.bitmap.Bitmap.is_full.Goals as goal

pub returns : goal.returns
returns c = full_by_counts c.self.inside.words c.self.inside.count c.self.inside.set c.args.self.now c.self.view_is c.self.invariant
