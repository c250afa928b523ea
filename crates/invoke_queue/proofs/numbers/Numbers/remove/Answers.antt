use Rattle.std.proofs.Common.{refl, sym, subst, ap, ◌∙◌, ◌≡◌, ◌<◌, ◌/◌, true, false, Some, slice_get, slice_index, length, arith}
use Rattle.std.proofs.lemmas.Option.{slice_get_read}
use Rattle.std.proofs.lemmas.List.{get_or_read}
use Rattle.invoke_queue.specs.Numbers.{NumberSet}
use Rattle.invoke_queue.proofs.Sets.{block_some, wide_some, len_some, taken_out, set_written, set_kept}
use Rattle.invoke_queue.proofs.numbers.Numbers.remove.Goals as goal

pub overflow_sub-index_mut : goal.overflow_sub-index_mut
overflow_sub-index_mut c =
    let i : c.args.number < length c.self.inside.flags.items = subst (λ (s : NumberSet). c.args.number < s.room) (sym c.self.view_is) c.requires in
    let g : slice_get c.self.inside.flags.items c.args.number ≡ Some true = slice_get_read c.self.inside.flags.items _ c.args.number c.index.result.now refl i c.index.ensures ∙ ap (λ b. Some b) c.if-index.true in
    let cover = c.self.invariant.blocks_are.cover in
    let w : c.args.number / 256 < length c.self.inside.blocks.items = omega (arith, i, cover) in
    let x : c.index_mut-then-index.result.now ≡ slice_index c.self.inside.blocks.items (c.args.number / 256) = get_or_read c.self.inside.blocks.items (c.args.number / 256) c.index_mut-then-index.result.now w c.index_mut-then-index.ensures.value 0 in
    let r = block_some _ _ _ _ c.self.invariant c.args.number g in
    omega (arith, x, r)

pub overflow_sub-index_mut-then-index : goal.overflow_sub-index_mut-then-index
overflow_sub-index_mut-then-index c =
    let i : c.args.number < length c.self.inside.flags.items = subst (λ (s : NumberSet). c.args.number < s.room) (sym c.self.view_is) c.requires in
    let g : slice_get c.self.inside.flags.items c.args.number ≡ Some true = slice_get_read c.self.inside.flags.items _ c.args.number c.index.result.now refl i c.index.ensures ∙ ap (λ b. Some b) c.if-index.true in
    let cover = c.self.invariant.wide_are.cover in
    let w : c.args.number / 65536 < length c.self.inside.wide.items = omega (arith, i, cover) in
    let x : c.index_mut-then-index-2.result.now ≡ slice_index c.self.inside.wide.items (c.args.number / 65536) = get_or_read c.self.inside.wide.items (c.args.number / 65536) c.index_mut-then-index-2.result.now w c.index_mut-then-index-2.ensures.value 0 in
    let r = wide_some _ _ _ _ c.self.invariant c.args.number g in
    omega (arith, x, r)

pub overflow_sub-self : goal.overflow_sub-self
overflow_sub-self c =
    let i : c.args.number < length c.self.inside.flags.items = subst (λ (s : NumberSet). c.args.number < s.room) (sym c.self.view_is) c.requires in
    let g : slice_get c.self.inside.flags.items c.args.number ≡ Some true = slice_get_read c.self.inside.flags.items _ c.args.number c.index.result.now refl i c.index.ensures ∙ ap (λ b. Some b) c.if-index.true in
    let r = len_some _ _ _ _ c.self.invariant c.args.number g in
    omega (arith, r)

pub invariant_of-self : goal.invariant_of-self
invariant_of-self c =
    let i : c.args.number < length c.self.inside.flags.items = subst (λ (s : NumberSet). c.args.number < s.room) (sym c.self.view_is) c.requires in
    let g : slice_get c.self.inside.flags.items c.args.number ≡ Some true = slice_get_read c.self.inside.flags.items _ c.args.number c.index.result.now refl i c.index.ensures ∙ ap (λ b. Some b) c.if-index.true in
    let blocks = c.self.invariant.blocks_are.cover in
    let far = c.self.invariant.wide_are.cover in
    taken_out _ _ _ _ c.self.invariant c.args.number c.index_mut-then-index.result.now c.index_mut-then-index-2.result.now g
    (get_or_read c.self.inside.blocks.items (c.args.number / 256) c.index_mut-then-index.result.now (omega (arith, i, blocks)) c.index_mut-then-index.ensures.value 0)
    (get_or_read c.self.inside.wide.items (c.args.number / 65536) c.index_mut-then-index-2.result.now (omega (arith, i, far)) c.index_mut-then-index-2.ensures.value 0)

pub returns-then-index : goal.returns-then-index
returns-then-index c =
    let i : c.args.number < length c.self.inside.flags.items = subst (λ (s : NumberSet). c.args.number < s.room) (sym c.self.view_is) c.requires in
    let g : slice_get c.self.inside.flags.items c.args.number ≡ Some true = slice_get_read c.self.inside.flags.items _ c.args.number c.index.result.now refl i c.index.ensures ∙ ap (λ b. Some b) c.if-index.true in
    set_written c.self.inside.flags.items c.args.self.now c.self.view_is c.args.number true false g

pub returns-else-index : goal.returns-else-index
returns-else-index c =
    let i : c.args.number < length c.self.inside.flags.items = subst (λ (s : NumberSet). c.args.number < s.room) (sym c.self.view_is) c.requires in
    let g : slice_get c.self.inside.flags.items c.args.number ≡ Some false = slice_get_read c.self.inside.flags.items _ c.args.number c.index.result.now refl i c.index.ensures ∙ ap (λ b. Some b) c.if-index.false in
    set_kept c.self.inside.flags.items c.args.self.now c.self.view_is c.args.number false g
