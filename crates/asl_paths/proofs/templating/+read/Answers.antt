use Rattle.std.proofs.Common.{◌≡◌, List, ℕ, ap, sym, ◌∙◌, ◌+◌, rules, arith, subst}
use Rattle.std.proofs.lemmas.Result.{err_from_is_err_and}
use Rattle.unum_json.specs.Whole.{index_step, key_step, under}
use Rattle.unum_json.specs.Seen.{shown}
use Rattle.unum_json.specs.Tree.{nodes}
use Rattle.unum_json.proofs.PartSizes.{item_falls, field_falls, items_fall, fields_fall}
use Rattle.asl_paths.specs.declared.template.Part.{Part}
use Rattle.asl_paths.specs.Templates.{Reads, part_at, part_of, parts_of, fields_of, all_seen, seen_of, path_beside}
use Rattle.asl_paths.proofs.PartLaws.{part_by_variant}
use Rattle.asl_paths.proofs.TemplateSteps.{part_read, part_refused, going, field_read, field_refused, path_named, part_named, reads_err, adds_err}
use Rattle.asl_paths.proofs.templating.+read.Goals as goal
use Rattle.asl_paths.proofs.templating.+read.Goals.{read_fields-in-Some+in_ok-add-in-Some, read_fields-in-None+in_ok-add-in-None}

pub read_items-returns-in_err-part : goal.read_items-returns-in_err-part
read_items-returns-in_err-part t c =
    let item = c.args.item in
    let v = c.value-item.result in
    let made = part_of item v in
    let whole = parts_of item c.args.items.now in
    let p = err_from_is_err_and c.from_residual.result c.from_residual.ensures.1 in
    rw (p.1, p.2) (reads_err (λ (x : Part). x) (λ (xs : List Part). xs) c.in_err-part.field-0.0 (under (index_step c.loop-i.i) made) whole (c.in_err-part.ensures made c.read_part.ensures)
    (λ at e. part_refused item whole c.as_slice-value-items.result.now c.loop-i.i v c.loop-i.parts at c.loop-i.invariant c.loop-i-test.true c.value-item.is e))

pub read_items-loop-i-preserved : goal.read_items-loop-i-preserved
read_items-loop-i-preserved t c =
    let item = c.args.item in
    let v = c.value-item.result in
    rw c.in_ok-push.ensures.ok (part_read item (parts_of item c.args.items.now) c.as_slice-value-items.result.now c.loop-i.i v c.loop-i.parts c.in_ok-part.part
    c.loop-i.invariant c.loop-i-test.true c.value-item.is (c.in_ok-part.ensures (part_of item v) c.read_part.ensures))

pub read_fields-returns-in_err-add-in-Some : goal.read_fields-returns-in_err-add-in-Some
read_fields-returns-in_err-add-in-Some t c =
    let item = c.args.item in
    let seen = all_seen item c.args.fields.now in
    let items = c.as_slice-field-items.result.now in
    let i = c.loop-field.field-index in
    let f = c.field-item.result in
    let key = c.as_str-key.result.now in
    let name = c.in-Some.name.now in
    let made = path_beside item seen key (seen_of item f.1).text name in
    let whole = fields_of item c.args.fields.now in
    let p = err_from_is_err_and c.from_residual.result c.from_residual.ensures.1 in
    rw (p.1, p.2) (adds_err (λ (fs : List (List ℕ × Part)). fs) c.in_err-add-in-Some.field-0.0 made name _ _ whole (c.in_err-add-in-Some.ensures made c.path_field-made.ensures)
    (λ at e. field_refused item seen items i f whole c.loop-field.parts name made at c.loop-field.invariant c.loop-field-test.true c.field-item.is (path_named item seen items i f key name c.as_str-key.ensures c.in-Some.ensures) e))

pub read_fields-returns-in_err-add-in-None : goal.read_fields-returns-in_err-add-in-None
read_fields-returns-in_err-add-in-None t c =
    let item = c.args.item in
    let seen = all_seen item c.args.fields.now in
    let items = c.as_slice-field-items.result.now in
    let i = c.loop-field.field-index in
    let f = c.field-item.result in
    let key = c.as_str-key.result.now in
    let made = under (key_step key) (part_of item f.1) in
    let whole = fields_of item c.args.fields.now in
    let p = err_from_is_err_and c.from_residual-in_err-add-in-None.result c.from_residual-in_err-add-in-None.ensures.1 in
    rw (p.1, p.2) (adds_err (λ (fs : List (List ℕ × Part)). fs) c.in_err-add-in-None.field-0.0 made key _ _ whole
    (c.in_err-add-in-None.ensures made (c.at_key-made.ensures (part_of item f.1) c.read_part.ensures))
    (λ at e. field_refused item seen items i f whole c.loop-field.parts key made at c.loop-field.invariant c.loop-field-test.true c.field-item.is (part_named item seen items i f key c.as_str-key.ensures c.in-None.ensures) e))

pub read_fields-loop-field-preserved : goal.read_fields-loop-field-preserved
read_fields-loop-field-preserved t c =
    let item = c.args.item in
    let seen = all_seen item c.args.fields.now in
    let items = c.as_slice-field-items.result.now in
    let i = c.loop-field.field-index in
    let f = c.field-item.result in
    let key = c.as_str-key.result.now in
    let whole = fields_of item c.args.fields.now in
    elim c.match-path_name.branch [
      | read_fields-in-Some+in_ok-add-in-Some w ↦
          let name = w.in-Some.name.now in
          let made = path_beside item seen key (seen_of item f.1).text name in
          field_read item seen items i f whole c.loop-field.parts w.add.new.parts name made c.loop-field.invariant c.loop-field-test.true c.field-item.is
          (path_named item seen items i f key name c.as_str-key.ensures w.in-Some.ensures) (w.in_ok-add-in-Some.ensures made w.path_field-made.ensures)
          ∙ ap (going item seen items i f (i + 1)) (sym w.parts-is)
      | read_fields-in-None+in_ok-add-in-None w ↦
          let made = under (key_step key) (part_of item f.1) in
          field_read item seen items i f whole c.loop-field.parts w.add-in-None.new.parts key made c.loop-field.invariant c.loop-field-test.true c.field-item.is
          (part_named item seen items i f key c.as_str-key.ensures w.in-None.ensures) (w.in_ok-add-in-None.ensures made (w.at_key-made.ensures (part_of item f.1) w.read_part.ensures))
          ∙ ap (going item seen items i f (i + 1)) (sym w.parts-is)
    ]

pub read_seen-read_items-requires : goal.read_seen-read_items-requires
read_seen-read_items-requires t c = (omega (arith, c.decreases, items_fall (shown c.args.value) c.in-Arr.items.now (ap shown c.in-Arr.is)), tt)

pub read_seen-read_fields-requires : goal.read_seen-read_fields-requires
read_seen-read_fields-requires t c = (omega (arith, c.decreases, fields_fall (shown c.args.value) c.in-Obj.fields.now (ap shown c.in-Obj.is)), tt)

pub read_items-read_part-requires : goal.read_items-read_part-requires
read_items-read_part-requires t c =
    (omega (arith, c.decreases, item_falls c.args.items.now c.as_slice-value-items.result.now c.loop-i.i c.value-item.result c.as_slice-value-items.ensures c.loop-i-test.true c.value-item.is), tt)

pub read_fields-read_part-requires : goal.read_fields-read_part-requires
read_fields-read_part-requires t c =
    (omega (arith, c.decreases, field_falls c.args.fields.now c.as_slice-field-items.result.now c.loop-field.field-index c.field-item.result c.as_slice-field-items.ensures.value c.loop-field-test.true c.field-item.is), tt)

pub read_part-read_seen-requires : goal.read_part-read_seen-requires
read_part-read_seen-requires t c =
    let e : nodes c.args.value.now ≡ nodes (shown c.seen.result) = ap nodes c.seen.ensures.tree in
    (omega (arith, c.decreases, e), tt)

pub read_part-returns : goal.read_part-returns
read_part-returns t c =
    subst (Reads (λ v. v) c.read_seen.result) (ap (part_at c.args.item) (sym c.seen.ensures.shape) ∙ sym (part_by_variant c.args.item c.args.value.now)) c.read_seen.ensures
