use Rattle.std.proofs.Common.{◌≤◌, true, false, sym, arith}
use Rattle.std.proofs.lemmas.Option.{get_or_from_slice_get}
use Rattle.fanin_bitmap.proofs.Flagged.{word_within, set_again, one_more, most_set}
use Rattle.fanin_bitmap.proofs.bitmap.Bitmap.set.Goals as goal

pub returns-then-get : goal.returns-then-get
returns-then-get c =
    sym (set_again c.args.self.now c.args.index (get_or_from_slice_get c.args.self.now c.args.index true false c.if-get.ensures))

pub bounds-self-inside-index : goal.bounds-self-inside-index
bounds-self-inside-index c =
    word_within c.self.inside.words c.self.inside.count c.self.inside.set c.args.index c.args.self.now c.self.view_is c.self.invariant
    c.requires

pub bounds-self-inside-index-2 : goal.bounds-self-inside-index-2
bounds-self-inside-index-2 c =
    word_within c.self.inside.words c.self.inside.count c.self.inside.set c.args.index c.args.self.now c.self.view_is c.self.invariant
    c.requires

pub overflow_add-self : goal.overflow_add-self
overflow_add-self c =
    let most : c.self.inside.set ≤ 1000 = most_set c.self.inside.words c.self.inside.count c.self.inside.set c.self.invariant in
    omega arith

pub invariant_of-self : goal.invariant_of-self
invariant_of-self c =
    (one_more c.self.inside.words c.self.inside.count c.self.inside.set c.args.index c.args.self.now c.self.view_is c.self.invariant
    c.requires c.if-get.ensures).0

pub returns : goal.returns
returns c =
    (one_more c.self.inside.words c.self.inside.count c.self.inside.set c.args.index c.args.self.now c.self.view_is c.self.invariant
    c.requires c.if-get.ensures).1
