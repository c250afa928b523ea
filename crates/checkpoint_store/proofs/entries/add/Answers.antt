use Rattle.std.proofs.Common.{◌<◌, ◌≤◌, length, get_or, arith, rules}
use Rattle.checkpoint_store.specs.declared.slot.Slot.TheVariants as slot
use Rattle.checkpoint_store.specs.Entries.{IsPut}
use Rattle.checkpoint_store.proofs.Stored.{added, count_fits, objects_put}
use Rattle.checkpoint_store.proofs.entries.add.Goals as goal

pub add_one-requires-clause-fits : goal.add_one-requires-clause-fits
add_one-requires-clause-fits c =
    let most : get_or c.make_room.new.counts.items c.session_of-session.result 0 ≤ c.len-number.result =
    count_fits c.args.objects.now.entries c.args.live.now.items c.make_room.new.counts.items c.session_of-session.result
    c.len-number.result c.requires.kept
    c.make_room.ensures.same c.len-number.ensures.len in
    omega (arith, c.len-number.ensures.small)

pub returns-in-Ok-clause-kept : goal.returns-in-Ok-clause-kept
returns-in-Ok-clause-kept c =
    let room : c.session_of-session.result < length c.make_room.new.counts.items = search rules in
    let put : IsPut c.args.objects.now.entries c.insert.new.self.entries c.args.object.now (slot.Live c.args.held) =
    record { lookups = c.in-Ok.ensures.updates.0; entries = c.in-Ok.ensures.entries; apart = c.in-Ok.ensures.unique } in
    added c.args.objects.now.entries c.insert.new.self.entries c.args.live.now.items c.make_room.new.counts.items
    c.add_one.new.counts.items c.args.object.now c.args.held
    c.session_of-session.result c.requires.kept c.make_room.ensures.same put c.requires.absent c.requires.kind
    c.session_of-session.ensures room c.add_one.ensures

pub returns-in-Ok-clause-ok : goal.returns-in-Ok-clause-ok
returns-in-Ok-clause-ok c =
    objects_put c.args.objects.now.entries c.insert.new.self.entries c.args.object.now (slot.Live c.args.held)
    (record { lookups = c.in-Ok.ensures.updates.0; entries = c.in-Ok.ensures.entries; apart = c.in-Ok.ensures.unique })
