use Rattle.std.proofs.Common.{◌≡◌, length, slice_get, Some, None, IfOk, true≢false, refl, sym, ap, ◌∙◌, subst, arith}
use Rattle.unum_json.specs.Seen.{shape_of, shown}
use Rattle.asl_paths.specs.Lookup.{get}
use Rattle.unum_ir.proofs.OneInput.{no_item, no_array, of_array, fits, fits_not, le_true, le_false, large_array, small_array}
use Rattle.unum_ir.proofs.inputs.own_item.Goals as goal

pub returns-in_default : goal.returns-in_default
returns-in_default c =
    let none : get c.args.items.now c.args.value.now ≡ None = grind arith in
    sym (no_item c.args.items.now c.args.value.now c.args.index none)

pub returns-in_default-seen : goal.returns-in_default-seen
returns-in_default-seen c =
    let found : get c.args.items.now c.args.value.now ≡ Some c.in-Some.found.now = grind arith in
    sym (no_array c.args.items.now c.args.value.now c.in-Some.found.now c.seen.result c.args.index found c.seen.ensures.shape c.in_default-seen.not-Arr)

pub returns-then-len-gt-MOST_ITEMS : goal.returns-then-len-gt-MOST_ITEMS
returns-then-len-gt-MOST_ITEMS c =
    let found : get c.args.items.now c.args.value.now ≡ Some c.in-Some.found.now = grind arith in
    let many = le_false (length c.in-Arr.list.now) 1000 (omega arith) in
    sym (of_array c.args.items.now c.args.value.now c.in-Some.found.now c.in-Arr.list.now c.args.index None found (c.seen.ensures.shape ∙ ap shape_of c.in-Arr.is) (λ few. absurd (true≢false (sym few ∙ many))) (λ over. refl))

pub returns-then-nodes-gt-MOST_NODES : goal.returns-then-nodes-gt-MOST_NODES
returns-then-nodes-gt-MOST_NODES c =
    let found : get c.args.items.now c.args.value.now ≡ Some c.in-Some.found.now = grind arith in
    let large = large_array c.in-Some.found.now c.in-Arr.list.now c.nodes.result (c.seen.ensures.tree ∙ ap shown c.in-Arr.is) c.nodes.ensures (omega arith) in
    sym (of_array c.args.items.now c.args.value.now c.in-Some.found.now c.in-Arr.list.now c.args.index None found (c.seen.ensures.shape ∙ ap shape_of c.in-Arr.is) (λ few. fits_not c.in-Arr.list.now c.args.index large) (λ over. refl))

pub returns : goal.returns
returns c =
    let found : get c.args.items.now c.args.value.now ≡ Some c.in-Some.found.now = grind arith in
    let vs = c.in-Arr.list.now in
    let small = small_array c.in-Some.found.now vs c.nodes.result (c.seen.ensures.tree ∙ ap shown c.in-Arr.is) c.nodes.ensures (omega arith) in
    let few = le_true (length vs) 1000 (omega arith) in
    let same = of_array c.args.items.now c.args.value.now c.in-Some.found.now vs c.args.index (slice_get vs c.args.index) found (c.seen.ensures.shape ∙ ap shape_of c.in-Arr.is) (λ short. fits vs c.args.index small) (λ long. absurd (true≢false (sym few ∙ long))) in
    subst (λ to. IfOk c.item_at.result (λ x. x ≡ to)) (sym same) c.item_at.ensures
