use Rattle.std.proofs.Common.{◌<◌, sym, subst}
use Rattle.std.specs.Option.{option_copied}
use Rattle.checkpoint_store.specs.Entries.{objects_of, condition_in}
use Rattle.checkpoint_store.proofs.Bits.{length-bits_before, length-with_bit}
use Rattle.checkpoint_store.proofs.store.Store.set.Goals as goal

pub with_bit-bits-requires-clause-below : goal.with_bit-bits-requires-clause-below
with_bit-bits-requires-clause-below c =
    subst (λ n. c.args.index < n)
    (sym (length-bits_before (objects_of c.args.self.now) c.args.place.now c.args.count
    (condition_in (option_copied c.look-slot.result)) c.look-slot.ensures.kinds
    c.look-slot.ensures.found))
    c.requires.below

pub add-requires-clause-kind : goal.add-requires-clause-kind
add-requires-clause-kind c =
    length-with_bit (objects_of c.args.self.now) c.args.place.now c.args.index c.args.count
    (condition_in (option_copied c.look-slot.result)) c.with_bit-bits.result
    c.look-slot.ensures.kinds c.look-slot.ensures.found c.with_bit-bits.ensures

pub replace-requires-clause-kind : goal.replace-requires-clause-kind
replace-requires-clause-kind c =
    length-with_bit (objects_of c.args.self.now) c.args.place.now c.args.index c.args.count
    (condition_in (option_copied c.look-slot.result)) c.with_bit-bits.result
    c.look-slot.ensures.kinds c.look-slot.ensures.found c.with_bit-bits.ensures
