use Rattle.fanin_bitmap.proofs.Flagged.{word_within, flag_read}
use Rattle.fanin_bitmap.proofs.bitmap.Bitmap.get.Goals as goal

pub bounds-self-inside-index : goal.bounds-self-inside-index
bounds-self-inside-index c =
    word_within c.self.inside.words c.self.inside.count c.self.inside.set c.args.index c.args.self.now c.self.view_is c.self.invariant
    c.requires

pub returns : goal.returns
returns c = flag_read c.self.inside.words c.self.inside.count c.args.index c.args.self.now c.self.view_is c.requires
