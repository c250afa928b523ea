use Rattle.std.proofs.Common.{Bor, List, ◌≡◌, slice_get, Some, arith}
use Rattle.asl_model.specs.Data.{Json}
use Rattle.unum_ir.proofs.OneFilling.{item_given, item_found, item_filled, input_filled, never_named}
use Rattle.unum_ir.proofs.inputs.filled_item.Goals as goal

pub unreachable-requires : goal.unreachable-requires
unreachable-requires c =
    let g = item_given c.args.items.now c.args.template.now c.args.value.now c.args.index c.requires in
    never_named {A = Bor (List Json)} (λ vs. vs.now) c.in-Err-Named.field-0 c.in-Err-Named.field-0-0 _ g.list c.in-Err-Named.field-0-is c.in-Err-Named.ensures g.list_is

pub unwrap-item-requires : goal.unwrap-item-requires
unwrap-item-requires c =
    let g = item_given c.args.items.now c.args.template.now c.args.value.now c.args.index c.requires in
    let e = item_found c.args.items.now c.args.template.now c.args.value.now c.args.index g c.in-Ok.list.now c.in-Ok.ensures in
    grind arith

pub unreachable-requires-in-Err-Named-fill_item : goal.unreachable-requires-in-Err-Named-fill_item
unreachable-requires-in-Err-Named-fill_item c =
    let g = item_given c.args.items.now c.args.template.now c.args.value.now c.args.index c.requires in
    let is : slice_get c.in-Ok.list.now c.args.index ≡ Some c.unwrap-item.result.now = grind arith in
    let made = item_filled c.args.items.now c.args.template.now c.args.value.now c.args.index g c.in-Ok.list.now c.unwrap-item.result.now c.in-Ok.ensures is in
    let it = c.in-Err-Named-fill_item in
    never_named {A = Json} (λ v. v) it.field-0 it.field-0-0 _ g.input it.field-0-is it.ensures made

pub returns-in-Ok-fill_item : goal.returns-in-Ok-fill_item
returns-in-Ok-fill_item c =
    let g = item_given c.args.items.now c.args.template.now c.args.value.now c.args.index c.requires in
    let is : slice_get c.in-Ok.list.now c.args.index ≡ Some c.unwrap-item.result.now = grind arith in
    input_filled c.args.items.now c.args.template.now c.args.value.now c.args.index g c.in-Ok.list.now c.unwrap-item.result.now c.in-Ok-fill_item.input c.in-Ok.ensures is c.in-Ok-fill_item.ensures
