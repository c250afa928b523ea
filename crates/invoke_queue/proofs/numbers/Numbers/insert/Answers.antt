use Rattle.std.proofs.Common.{refl, sym, subst, ap, ◌∙◌, ◌≡◌, ◌<◌, ◌/◌, true, false, Some, slice_get, slice_index, length, arith}
use Rattle.std.proofs.lemmas.Option.{slice_get_read}
use Rattle.std.proofs.lemmas.List.{get_or_read}
use Rattle.invoke_queue.specs.Numbers.{NumberSet}
use Rattle.invoke_queue.proofs.Sets.{block_room, wide_room, len_room, put_in, set_written, set_kept}
use Rattle.invoke_queue.proofs.numbers.Numbers.insert.Goals as goal

pub overflow_add-index_mut : goal.overflow_add-index_mut
overflow_add-index_mut c =
    let i : c.args.number < length c.self.inside.flags.items = subst (λ (s : NumberSet). c.args.number < s.room) (sym c.self.view_is) c.requires in
    let g : slice_get c.self.inside.flags.items c.args.number ≡ Some false = slice_get_read c.self.inside.flags.items _ c.args.number c.index.result.now refl i c.index.ensures ∙ ap (λ b. Some b) c.if-not-index.true in
    let cover = c.self.invariant.blocks_are.cover in
    let w : c.args.number / 256 < length c.self.inside.blocks.items = omega (arith, i, cover) in
    let x : c.index_mut-then-not-index.result.now ≡ slice_index c.self.inside.blocks.items (c.args.number / 256) = get_or_read c.self.inside.blocks.items (c.args.number / 256) c.index_mut-then-not-index.result.now w c.index_mut-then-not-index.ensures.value 0 in
    let r = block_room _ _ _ _ c.self.invariant c.args.number (c.args.number / 256) g w in
    omega (arith, x, r)

pub overflow_add-index_mut-then-not-index : goal.overflow_add-index_mut-then-not-index
overflow_add-index_mut-then-not-index c =
    let i : c.args.number < length c.self.inside.flags.items = subst (λ (s : NumberSet). c.args.number < s.room) (sym c.self.view_is) c.requires in
    let g : slice_get c.self.inside.flags.items c.args.number ≡ Some false = slice_get_read c.self.inside.flags.items _ c.args.number c.index.result.now refl i c.index.ensures ∙ ap (λ b. Some b) c.if-not-index.true in
    let cover = c.self.invariant.wide_are.cover in
    let w : c.args.number / 65536 < length c.self.inside.wide.items = omega (arith, i, cover) in
    let x : c.index_mut-then-not-index-2.result.now ≡ slice_index c.self.inside.wide.items (c.args.number / 65536) = get_or_read c.self.inside.wide.items (c.args.number / 65536) c.index_mut-then-not-index-2.result.now w c.index_mut-then-not-index-2.ensures.value 0 in
    let r = wide_room _ _ _ _ c.self.invariant c.args.number (c.args.number / 65536) g w in
    omega (arith, x, r)

pub overflow_add-self : goal.overflow_add-self
overflow_add-self c =
    let i : c.args.number < length c.self.inside.flags.items = subst (λ (s : NumberSet). c.args.number < s.room) (sym c.self.view_is) c.requires in
    let g : slice_get c.self.inside.flags.items c.args.number ≡ Some false = slice_get_read c.self.inside.flags.items _ c.args.number c.index.result.now refl i c.index.ensures ∙ ap (λ b. Some b) c.if-not-index.true in
    let r = len_room _ _ _ _ c.self.invariant c.args.number g in
    omega (arith, r)

pub invariant_of-self : goal.invariant_of-self
invariant_of-self c =
    let i : c.args.number < length c.self.inside.flags.items = subst (λ (s : NumberSet). c.args.number < s.room) (sym c.self.view_is) c.requires in
    let g : slice_get c.self.inside.flags.items c.args.number ≡ Some false = slice_get_read c.self.inside.flags.items _ c.args.number c.index.result.now refl i c.index.ensures ∙ ap (λ b. Some b) c.if-not-index.true in
    let blocks = c.self.invariant.blocks_are.cover in
    let far = c.self.invariant.wide_are.cover in
    put_in _ _ _ _ c.self.invariant c.args.number c.index_mut-then-not-index.result.now c.index_mut-then-not-index-2.result.now g
    (get_or_read c.self.inside.blocks.items (c.args.number / 256) c.index_mut-then-not-index.result.now (omega (arith, i, blocks)) c.index_mut-then-not-index.ensures.value 0)
    (get_or_read c.self.inside.wide.items (c.args.number / 65536) c.index_mut-then-not-index-2.result.now (omega (arith, i, far)) c.index_mut-then-not-index-2.ensures.value 0)

pub returns-then-not-index : goal.returns-then-not-index
returns-then-not-index c =
    let i : c.args.number < length c.self.inside.flags.items = subst (λ (s : NumberSet). c.args.number < s.room) (sym c.self.view_is) c.requires in
    let g : slice_get c.self.inside.flags.items c.args.number ≡ Some false = slice_get_read c.self.inside.flags.items _ c.args.number c.index.result.now refl i c.index.ensures ∙ ap (λ b. Some b) c.if-not-index.true in
    set_written c.self.inside.flags.items c.args.self.now c.self.view_is c.args.number false true g

pub returns-else-not-index : goal.returns-else-not-index
returns-else-not-index c =
    let i : c.args.number < length c.self.inside.flags.items = subst (λ (s : NumberSet). c.args.number < s.room) (sym c.self.view_is) c.requires in
    let g : slice_get c.self.inside.flags.items c.args.number ≡ Some true = slice_get_read c.self.inside.flags.items _ c.args.number c.index.result.now refl i c.index.ensures ∙ ap (λ b. Some b) c.if-not-index.false in
    set_kept c.self.inside.flags.items c.args.self.now c.self.view_is c.args.number true g
