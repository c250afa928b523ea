use Rattle.std.proofs.Common.{◌≡◌, List, ℕ, IfOk, take, ap, sym, subst, ◌∙◌, rules, refl, arith}
use Rattle.std.proofs.Common.{SFits, w64}
use Rattle.std.proofs.lemmas.Int.{to_z-of_z}
use Rattle.unum_json.specs.Seen.{shown}
use Rattle.unum_json.specs.Tree.{nodes}
use Rattle.unum_json.proofs.PartSizes.{item_falls, field_falls, items_fall, fields_fall}
use Rattle.std.specs.Map.{keys_of}
use Rattle.unum_json.specs.Keys.{IsRising}
use Rattle.unum_json.specs.declared.value.Json.{Json, Obj, Str}
use Rattle.asl_paths.specs.Canonical.{canonical, canonical_fields, value_by}
use Rattle.asl_paths.specs.Templates.{path_name}
use Rattle.asl_paths.proofs.AllFound.{keys_rising}
use Rattle.asl_paths.proofs.CanonicalLaws.{canonical-Arr, canonical-Int, canonical-Null, canonical-Obj, canonical-Str, canonical-Bool, item_added, keys_kept, field_added}
use Rattle.asl_paths.proofs.canonical.+canonical.Goals as goal

pub canonical-canonical_seen-requires : goal.canonical-canonical_seen-requires
canonical-canonical_seen-requires t c =
    let e : nodes c.args.value.now ≡ nodes (shown c.seen.result) = ap nodes c.seen.ensures.tree in
    (omega (arith, c.decreases, e), tt)

pub canonical-returns : goal.canonical-returns
canonical-returns t c = subst (λ x. IfOk c.canonical_seen.result (λ v. v ≡ canonical c.args.item x)) (sym c.seen.ensures.tree) c.canonical_seen.ensures

pub canonical_seen-canonical_items-requires : goal.canonical_seen-canonical_items-requires
canonical_seen-canonical_items-requires t c = (omega (arith, c.decreases, items_fall (shown c.args.value) c.in-Arr.items.now (ap shown c.in-Arr.is)), tt)

pub canonical_seen-canonical_fields-requires : goal.canonical_seen-canonical_fields-requires
canonical_seen-canonical_fields-requires t c = (omega (arith, c.decreases, fields_fall (shown c.args.value) c.in-Obj.fields.now (ap shown c.in-Obj.is)), tt)

pub canonical_items-canonical-requires : goal.canonical_items-canonical-requires
canonical_items-canonical-requires t c =
    (omega (arith, c.decreases, item_falls c.args.items.now c.as_slice-value-items.result.now c.loop-value.value-index c.value-item.result c.as_slice-value-items.ensures c.loop-value-test.true c.value-item.is), tt)

pub canonical_fields-canonical-requires : goal.canonical_fields-canonical-requires
canonical_fields-canonical-requires t c =
    (omega (arith, c.decreases, field_falls c.args.fields.now c.as_slice-field-items.result.now c.loop-field.field-index c.field-item.result c.as_slice-field-items.ensures.value c.loop-field-test.true c.field-item.is), tt)

pub canonical_seen-returns-in_ok-made-in-Arr : goal.canonical_seen-returns-in_ok-made-in-Arr
canonical_seen-returns-in_ok-made-in-Arr t c = rw (ap shown c.in-Arr.is, canonical-Arr c.args.item c.in-Arr.items.now) (search rules)

pub canonical_seen-returns-in_ok-made-in-Obj : goal.canonical_seen-returns-in_ok-made-in-Obj
canonical_seen-returns-in_ok-made-in-Obj t c = rw (ap shown c.in-Obj.is, canonical-Obj c.args.item c.in-Obj.fields.now) (search rules)

pub canonical_seen-returns-in_ok-copy_text-in-Str : goal.canonical_seen-returns-in_ok-copy_text-in-Str
canonical_seen-returns-in_ok-copy_text-in-Str t c =
    c.string.ensures ∙ ap Str c.in_ok-copy_text-in-Str.ensures ∙ sym (ap (λ z. canonical c.args.item (shown z)) c.in-Str.is ∙ canonical-Str c.args.item c.in-Str.text.now)

pub canonical_seen-returns-in-Int : goal.canonical_seen-returns-in-Int
canonical_seen-returns-in-Int t c =
    let fits : SFits w64 c.in-Int.number = search (rules, c.in-Int.is) in
    (rw (to_z-of_z w64 c.in-Int.number fits) at c.whole.ensures) ∙ sym (ap (λ z. canonical c.args.item (shown z)) c.in-Int.is ∙ canonical-Int c.args.item c.in-Int.number)

pub canonical_seen-returns-in-Bool : goal.canonical_seen-returns-in-Bool
canonical_seen-returns-in-Bool t c = c.truth.ensures ∙ sym (ap (λ z. canonical c.args.item (shown z)) c.in-Bool.is ∙ canonical-Bool c.args.item c.in-Bool.truth)

pub canonical_seen-returns-in-Null : goal.canonical_seen-returns-in-Null
canonical_seen-returns-in-Null t c = c.null.ensures ∙ sym (ap (λ z. canonical c.args.item (shown z)) c.in-Null.is ∙ canonical-Null c.args.item)

pub canonical_items-loop-value-preserved : goal.canonical_items-loop-value-preserved
canonical_items-loop-value-preserved t c =
    c.in_ok-push.ensures.ok
    ∙ item_added c.args.item c.as_slice-value-items.result.now c.loop-value.made c.loop-value.value-index c.value-item.result c.in_ok-canonical.field-0 c.loop-value.invariant c.loop-value-test.true c.value-item.is c.in_ok-canonical.ensures

pub canonical_fields-add_field-requires : goal.canonical_fields-add_field-requires
canonical_fields-add_field-requires t c =
    keys_rising c.as_slice-field-items.result.now c.loop-field.made c.loop-field.field-index c.field-item.result c.field-item.result.0 c.in_ok-value.value
    (subst (λ (es : List (List ℕ × Json)). IsRising (keys_of es)) (sym c.as_slice-field-items.ensures.value) c.as_slice-field-items.ensures.rising)
    (ap keys_of c.loop-field.invariant ∙ keys_kept c.args.item (take c.loop-field.field-index c.as_slice-field-items.result.now)) c.loop-field-test.true c.field-item.is refl

pub canonical_fields-loop-field-preserved : goal.canonical_fields-loop-field-preserved
canonical_fields-loop-field-preserved t c =
    c.in_ok-add_field.ensures
    ∙ field_added c.args.item c.as_slice-field-items.result.now c.loop-field.made c.loop-field.field-index c.field-item.result c.in_ok-value.value c.loop-field.invariant c.loop-field-test.true c.field-item.is
    (c.in_ok-value.ensures ∙ ap (λ v. value_by c.args.item v (path_name c.field-item.result.0)) c.in_ok-inner.ensures)
