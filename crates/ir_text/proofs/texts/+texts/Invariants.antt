use Rattle.std.proofs.Common.{◌≡◌, drop}
use Rattle.unum_json.specs.Parsed.{items_view, members_view}
use Rattle.unum_json.specs.declared.value.Json.{out-Json}
use Rattle.ir_text.specs.Texts.{printed_fields, items_unlike, members_unlike}
use Rattle.ir_text.proofs.texts.+texts.Given as goal

abbrev pub invariant-check_items-loop-i : goal.invariant-check_items-loop-i
invariant-check_items-loop-i l
    = items_unlike 0 (items_view l.items.items) l.printed ≡ items_unlike l.i (items_view (drop l.i l.item-items)) (drop l.i l.printed)

abbrev pub invariant-check_members-loop-member : goal.invariant-check_members-loop-member
invariant-check_members-loop-member l
    = members_unlike (members_view l.members) (printed_fields
    (out-Json l.printed)) ≡ members_unlike (members_view (drop l.member-index l.member-items)) (printed_fields (out-Json l.printed))
