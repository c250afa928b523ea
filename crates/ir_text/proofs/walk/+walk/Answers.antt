use Rattle.std.proofs.Common.{arith, rules}
use Rattle.unum_json.specs.Parsed.{view, items_view, members_view}
use Rattle.ir_text.specs.Walks.{part_faults, item_faults, member_faults}
use Rattle.ir_text.proofs.Steps.{Refuses, item_found, member_found}
use Rattle.ir_text.proofs.walk.+walk.Goals as goal

pub check_items-returns-in_err-under_index : goal.check_items-returns-in_err-under_index
check_items-returns-in_err-under_index t c =
    let found : Refuses c.in_err-under_index.field-0.0 (item_faults c.args.walk c.args.part 0 (items_view c.args.items.now.items))
    = item_found c.args.walk c.args.part _ c.deref-item-items.result.now c.loop-i.i c.item-item.result c.in_err-under_index.field-0.0 c.loop-i.invariant c.loop-i-test.true c.item-item.is
    (c.in_err-under_index.ensures (part_faults c.args.walk c.args.part (view c.item-item.result)) c.check_part.ensures) in
    search rules

pub check_members-returns-in_err-under_key : goal.check_members-returns-in_err-under_key
check_members-returns-in_err-under_key t c =
    let m = c.member-item.result in
    let here = c.in_err-under_key.ensures (part_faults c.args.walk c.member_part-part.result (view m.1)) c.check_part.ensures in
    let found : Refuses c.in_err-under_key.field-0.0 (member_faults c.args.walk c.args.kind (members_view c.args.members.now))
    = member_found c.args.walk c.args.kind _ c.as_slice-member-items.result.now c.loop-member.member-index m c.as_str-key.result.now c.member_part-part.result c.in_err-under_key.field-0.0
    c.loop-member.invariant (omega (arith, c.loop-member-test.true)) c.member-item.is c.as_str-key.ensures c.member_part-part.ensures here in
    search rules
