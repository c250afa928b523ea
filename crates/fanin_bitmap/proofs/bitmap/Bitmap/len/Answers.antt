use Rattle.fanin_bitmap.proofs.Flagged.{count_is}
use Rattle.fanin_bitmap.proofs.bitmap.Bitmap.len.Goals as goal

pub returns-clause-len : goal.returns-clause-len
returns-clause-len c = count_is c.self.inside.words c.self.inside.count c.args.self.now c.self.view_is
