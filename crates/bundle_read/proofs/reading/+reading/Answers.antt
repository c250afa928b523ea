use Rattle.std.proofs.Common.{arith, rules}
use Rattle.unum_json.specs.Parsed.{view, items_view, members_view}
use Rattle.bundle_read.specs.Faults.{part_faults, item_faults, member_faults}
use Rattle.bundle_read.proofs.Walk.{Refuses, item_found, member_found}
use Rattle.bundle_read.proofs.reading.+reading.Goals as goal

pub check_items-returns-in_err-under_index : goal.check_items-returns-in_err-under_index
check_items-returns-in_err-under_index t c =
    let found : Refuses c.in_err-under_index.field-0.0 (item_faults c.args.part 0 (items_view c.args.items.now.items))
    = item_found c.args.part _ c.deref-item-items.result.now c.loop-i.i c.item-item.result c.in_err-under_index.field-0.0 c.loop-i.invariant c.loop-i-test.true c.item-item.is
    (c.in_err-under_index.ensures (part_faults c.args.part (view c.item-item.result)) c.check_part.ensures) in
    search rules

pub check_members-returns-in_err-under_key : goal.check_members-returns-in_err-under_key
check_members-returns-in_err-under_key t c =
    let m = c.member-item.result in
    let here = c.in_err-under_key.ensures (part_faults c.member_part-part.result (view m.1)) c.check_part.ensures in
    let found : Refuses c.in_err-under_key.field-0.0 (member_faults c.args.form (members_view c.args.members.now))
    = member_found c.args.form _ c.as_slice-member-items.result.now c.loop-member.member-index m c.in_err-under_key.field-0.0 c.loop-member.invariant (omega (arith, c.loop-member-test.true)) c.member-item.is
    (rw (c.member_part-part.ensures, c.as_str-key.ensures) at here) in
    search rules
