use Rattle.std.proofs.Common.{◌≡◌, ◌<◌, ◌≤◌, Bool, length, refl, sym, ap, subst, ◌∙◌, arith}
use Rattle.std.specs.Prelude.{IsTrue}
use Rattle.unum_json.specs.declared.value.Json.{Json, Arr, Obj}
use Rattle.unum_json.proofs.PartSizes.{item_falls, field_falls, items_fall, fields_fall}
use Rattle.unum_json.proofs.Sames.{no, never, lengths_differ, items_differ, fronts_next, fronts_all}
use Rattle.unum_json.proofs.Laws.{one_list, one_object}
use Rattle.unum_json.proofs.equal.+same.Goals as goal
use Rattle.unum_json.proofs.equal.+same.Goals.{same_fields-then-not-same_text-via-then-not-same_text, same_fields-then-not-same_text-via-else-not-same_text+then-not-same}

pub same_items-returns-then-len-others : goal.same_items-returns-then-len-others
same_items-returns-then-len-others t c = no (lengths_differ c.args.a.now c.args.b.now c.len.result c.as_slice-others.result.now c.len.ensures c.as_slice-others.ensures c.if-len-others.true)

pub same_items-loop-i-preserved : goal.same_items-loop-i-preserved
same_items-loop-i-preserved t c =
    let same : length c.as_slice-item-items.result.now ≡ length c.as_slice-others.result.now = ap length c.as_slice-item-items.ensures ∙ sym c.len.ensures ∙ c.if-len-others.false in
    fronts_next c.as_slice-item-items.result.now c.as_slice-others.result.now c.loop-i.i c.item-item.result c.index-others-i.result c.loop-i.invariant c.loop-i-test.true (subst (λ n. c.loop-i.i < n) same c.loop-i-test.true) c.item-item.is c.index-others-i.is
    (c.same.ensures.0 c.if-not-same.false)

pub same_items-returns-then-not-same : goal.same_items-returns-then-not-same
same_items-returns-then-not-same t c =
    let same : length c.as_slice-item-items.result.now ≡ length c.as_slice-others.result.now = ap length c.as_slice-item-items.ensures ∙ sym c.len.ensures ∙ c.if-len-others.false in
    no (items_differ c.args.a.now c.args.b.now c.as_slice-item-items.result.now c.as_slice-others.result.now c.loop-i.i c.item-item.result c.index-others-i.result c.as_slice-item-items.ensures c.as_slice-others.ensures (subst (λ n. c.loop-i.i < n) same c.loop-i-test.true) c.item-item.is c.index-others-i.is
    (λ e. never (sym c.if-not-same.true ∙ c.same.ensures.1 e)))

pub same_items-returns : goal.same_items-returns
same_items-returns t c =
    let same : length c.as_slice-item-items.result.now ≡ length c.as_slice-others.result.now = ap length c.as_slice-item-items.ensures ∙ sym c.len.ensures ∙ c.if-len-others.false in
    (λ e. fronts_all c.args.a.now c.args.b.now c.as_slice-item-items.result.now c.as_slice-others.result.now c.loop-i.i c.as_slice-item-items.ensures c.as_slice-others.ensures c.loop-i-test.false (subst (λ n. n ≤ c.loop-i.i) same c.loop-i-test.false) c.loop-i.invariant, λ e. refl)

pub same_fields-returns-then-len-others : goal.same_fields-returns-then-len-others
same_fields-returns-then-len-others t c = no (lengths_differ c.args.a.now c.args.b.now c.len.result c.as_slice-others.result.now c.len.ensures c.as_slice-others.ensures.value c.if-len-others.true)

pub same_fields-loop-i-preserved : goal.same_fields-loop-i-preserved
same_fields-loop-i-preserved t c =
    let same : length c.as_slice-field-items.result.now ≡ length c.as_slice-others.result.now = ap length c.as_slice-field-items.ensures.value ∙ sym c.len.ensures ∙ c.if-len-others.false in
    fronts_next c.as_slice-field-items.result.now c.as_slice-others.result.now c.loop-i.i c.field-item.result c.index-others-i.result c.loop-i.invariant c.loop-i-test.true (subst (λ n. c.loop-i.i < n) same c.loop-i-test.true) c.field-item.is c.index-others-i.is
    (λ j. (c.same_text.ensures.0 c.if-not-same_text.false j, c.same.ensures.0 c.if-not-same.false j))

pub same_fields-returns-then-not-same_text : goal.same_fields-returns-then-not-same_text
same_fields-returns-then-not-same_text t c =
    let same : length c.as_slice-field-items.result.now ≡ length c.as_slice-others.result.now = ap length c.as_slice-field-items.ensures.value ∙ sym c.len.ensures ∙ c.if-len-others.false in
    no (items_differ c.args.a.now c.args.b.now c.as_slice-field-items.result.now c.as_slice-others.result.now c.loop-i.i c.field-item.result c.index-others-i.result c.as_slice-field-items.ensures.value c.as_slice-others.ensures.value (subst (λ n. c.loop-i.i < n) same c.loop-i-test.true) c.field-item.is c.index-others-i.is
    (λ e. elim c.then-not-same_text.branch [
      | same_fields-then-not-same_text-via-then-not-same_text w ↦ never (sym w.if-not-same_text.true ∙ c.same_text.ensures.1 (ap (λ p. p.0) e))
      | same_fields-then-not-same_text-via-else-not-same_text+then-not-same w ↦ never (sym w.if-not-same.true ∙ w.same.ensures.1 (ap (λ p. p.1) e))
    ]))

pub same_fields-returns : goal.same_fields-returns
same_fields-returns t c =
    let same : length c.as_slice-field-items.result.now ≡ length c.as_slice-others.result.now = ap length c.as_slice-field-items.ensures.value ∙ sym c.len.ensures ∙ c.if-len-others.false in
    (λ e. fronts_all c.args.a.now c.args.b.now c.as_slice-field-items.result.now c.as_slice-others.result.now c.loop-i.i c.as_slice-field-items.ensures.value c.as_slice-others.ensures.value c.loop-i-test.false (subst (λ n. n ≤ c.loop-i.i) same c.loop-i-test.false) c.loop-i.invariant, λ e. refl)

-- two lists are equal exactly where the values are that hold them
held_by : {A : Type 0} (wrap : A → Json) (a b : Json) (x y : A) (said : Bool) → a ≡ wrap x → b ≡ wrap y → (wrap x ≡ wrap y → x ≡ y)
    → (IsTrue said → x ≡ y) × (x ≡ y → IsTrue said) → (IsTrue said → a ≡ b) × (a ≡ b → IsTrue said)
held_by wrap a b x y said ea eb one h = ((λ e. ea ∙ ap wrap (h.0 e) ∙ sym eb), (λ e. h.1 (one (sym ea ∙ e ∙ eb))))

pub same-returns-in-Arr-Arr : goal.same-returns-in-Arr-Arr
same-returns-in-Arr-Arr t c = held_by Arr _ _ _ _ _ c.in-Arr-Arr.ensures.tree c.in-Arr-Arr.ensures'.tree (one_list _ _) c.same_items.ensures

pub same-returns-in-Obj-Obj : goal.same-returns-in-Obj-Obj
same-returns-in-Obj-Obj t c = held_by Obj _ _ _ _ _ c.in-Obj-Obj.ensures.tree c.in-Obj-Obj.ensures'.tree (one_object _ _) c.same_fields.ensures

pub same-same_items-requires : goal.same-same_items-requires
same-same_items-requires t c = (omega (arith, c.decreases, items_fall c.args.a.now c.in-Arr-Arr.a.now c.in-Arr-Arr.ensures.tree), tt)

pub same-same_fields-requires : goal.same-same_fields-requires
same-same_fields-requires t c = (omega (arith, c.decreases, fields_fall c.args.a.now c.in-Obj-Obj.a.now c.in-Obj-Obj.ensures.tree), tt)

pub same_items-same-requires : goal.same_items-same-requires
same_items-same-requires t c =
    (omega (arith, c.decreases, item_falls c.args.a.now c.as_slice-item-items.result.now c.loop-i.i c.item-item.result c.as_slice-item-items.ensures c.loop-i-test.true c.item-item.is), tt)

pub same_fields-same-requires : goal.same_fields-same-requires
same_fields-same-requires t c =
    (omega (arith, c.decreases, field_falls c.args.a.now c.as_slice-field-items.result.now c.loop-i.i c.field-item.result c.as_slice-field-items.ensures.value c.loop-i-test.true c.field-item.is), tt)
