use Rattle.std.proofs.Common.{◌≡◌, drop}
use Rattle.unum_json.specs.Parsed.{items_view, members_view}
use Rattle.ir_text.specs.Walks.{item_faults, member_faults}
use Rattle.ir_text.proofs.walk.+walk.Given as goal

abbrev pub invariant-check_items-loop-i : goal.invariant-check_items-loop-i
invariant-check_items-loop-i l
    = item_faults l.walk l.part 0 (items_view l.items.items) ≡ item_faults l.walk l.part l.i (items_view (drop l.i l.item-items))

abbrev pub invariant-check_members-loop-member : goal.invariant-check_members-loop-member
invariant-check_members-loop-member l
    = member_faults l.walk l.kind (members_view l.members) ≡ member_faults l.walk l.kind (members_view (drop l.member-index l.member-items))
