use Rattle.std.proofs.Common.{◌≡◌, ◌+◌, ◌++◌, ◌∷◌, [], map, rules, refl, sym, ap, ◌∙◌, subst, arith}
use Rattle.std.proofs.lemmas.List.{map-append}
use Rattle.std.proofs.lemmas.Result.{on_ok_weaker, IfOk-weaker}
use Rattle.asl_model.specs.Machine.{states_of}
use Rattle.asl_model.specs.Tree.{state_tree, block_tree, blocks_from}
use Rattle.continuation_gen.specs.Numbering as n
use Rattle.continuation_gen.specs.Numbering.{At, IsSmall, plus, own}
use Rattle.continuation_gen.specs.Filling.{placed_of}
use Rattle.continuation_gen.proofs.Place.{at_eq}
use Rattle.continuation_gen.proofs.Adding.{states_at, blocks_at, next_row, next_block, rows_out, count_states, size_from, small_within, sum_comes, size_next, size_next_block, listed_block, listed_next, listed_next_block, no_states, no_blocks, listed_all, listed_all_blocks, size_all_through, size_through_blocks}
use Rattle.continuation_gen.proofs.placing.+place.Goals as goal

pub place-overflow_cast-inner : goal.place-overflow_cast-inner
place-overflow_cast-inner t c =
    let h = small_within c.args.at (block_tree c.args.block.now) c.requires in
    omega (arith, h.1, count_states c.args.block.now, c.len.ensures)

pub place-overflow_add-inner-2 : goal.place-overflow_add-inner-2
place-overflow_add-inner-2 t c =
    let h = small_within c.args.at (block_tree c.args.block.now) c.requires in
    omega (arith, h.1, count_states c.args.block.now, c.len.ensures)

pub place-place_within-requires : goal.place-place_within-requires
place-place_within-requires t c =
    let b = block_tree c.args.block.now in
    let h = small_within c.args.at b c.requires in
    let inner : At = record { scope = c.args.at.scope + 1; node = c.args.at.node + c.len.result; func = c.args.at.func + c.functions_in.result } in
    let is : inner ≡ plus c.args.at (own b) = at_eq inner (plus c.args.at (own b)) refl (ap (λ k. c.args.at.node + k) (c.len.ensures ∙ sym (count_states c.args.block.now))) (ap (λ k. c.args.at.func + k) c.functions_in.ensures) in
    (search rules, (subst (λ (z : At). IsSmall (plus z (n.size_within (states_of b)))) (sym is) h, omega (arith, h.2)))

pub place-returns-clause-placed : goal.place-returns-clause-placed
place-returns-clause-placed t c =
    let b = block_tree c.args.block.now in
    let inner : At = record { scope = c.args.at.scope + 1; node = c.args.at.node + c.len.result; func = c.args.at.func + c.functions_in.result } in
    let is : inner ≡ plus c.args.at (own b) = at_eq inner (plus c.args.at (own b)) refl (ap (λ k. c.args.at.node + k) (c.len.ensures ∙ sym (count_states c.args.block.now))) (ap (λ k. c.args.at.func + k) c.functions_in.ensures) in
    on_ok_weaker c.place_within.result
    (listed_block (map placed_of c.args.out.now) (map placed_of c.push.new.self) (map placed_of c.place_within.new.out) c.args.parent c.args.at inner b
    (ap (map placed_of) c.in_ok-push.ensures.ok ∙ map-append placed_of c.args.out.now (_ ∷ [])) is)
    c.place_within.ensures.placed

pub place-returns-clause-next : goal.place-returns-clause-next
place-returns-clause-next t c =
    let b = block_tree c.args.block.now in
    let inner : At = record { scope = c.args.at.scope + 1; node = c.args.at.node + c.len.result; func = c.args.at.func + c.functions_in.result } in
    let is : inner ≡ plus c.args.at (own b) = at_eq inner (plus c.args.at (own b)) refl (ap (λ k. c.args.at.node + k) (c.len.ensures ∙ sym (count_states c.args.block.now))) (ap (λ k. c.args.at.func + k) c.functions_in.ensures) in
    IfOk-weaker c.place_within.result _ _ (λ a e. e ∙ ap (λ (z : At). plus z (n.size_within (states_of b))) is ∙ sym (size_from c.args.at b)) c.place_within.ensures.next

pub place_all-loop-block-init : goal.place_all-loop-block-init
place_all-loop-block-init t c =
    let e = ap (λ l. blocks_from (map block_tree l)) c.as_slice-block-items.ensures in
    record { left = ap (λ z. map placed_of c.args.out.now ++ n.place_all c.args.func c.args.at z) e; inner = sum_comes _ _ _ (ap (λ z. plus c.args.at (n.size_all z)) e) }

pub place_all-loop-block-preserved : goal.place_all-loop-block-preserved
place_all-loop-block-preserved t c =
    let items = c.as_slice-block-items.result.now in
    let i = c.loop-block.block-index in
    let b = block_tree c.block-item.result in
    let rest = blocks_at items (i + 1) in
    let e = next_block items i c.block-item.result c.loop-block-test.true c.block-item.is in
    let total : At = plus c.args.at (n.size_all (blocks_from (map block_tree c.args.branches.now))) in
    let next : c.in_ok-inner.inner ≡ plus c.loop-block.inner (n.size b) = c.in_ok-inner.ensures.next in
    record {
      left =
          listed_next_block c.args.func c.loop-block.inner b (blocks_at items i) rest e (map placed_of c.loop-block.out) (map placed_of c.place.new.out) _ c.in_ok-inner.inner
          c.in_ok-inner.ensures.placed next c.loop-block.invariant.left;
      inner = size_next_block c.loop-block.inner c.in_ok-inner.inner total b (blocks_at items i) rest e next c.loop-block.invariant.inner;
    }

pub place_all-returns : goal.place_all-returns
place_all-returns t c =
    let e = no_blocks c.as_slice-block-items.result.now c.loop-block.block-index c.loop-block-test.false in
    record {
      placed = listed_all_blocks c.args.func c.loop-block.inner (blocks_at c.as_slice-block-items.result.now c.loop-block.block-index) e (map placed_of c.loop-block.out) _ c.loop-block.invariant.left;
      next = size_through_blocks c.loop-block.inner _ (blocks_at c.as_slice-block-items.result.now c.loop-block.block-index) e c.loop-block.invariant.inner;
    }

pub place_within-loop-row-init : goal.place_within-loop-row-init
place_within-loop-row-init t c =
    let e = rows_out c.args.block.now c.as_slice-row-items.result.now c.as_slice-row-items.ensures.value in
    record {
      left = ap (λ z. map placed_of c.args.out.now ++ n.place_within c.args.func c.args.at z) e;
      func = ap (λ z. c.args.func + n.callers z) e;
      inner = sum_comes _ _ _ (ap (λ z. plus c.args.at (n.size_within z)) e);
    }

pub place_within-overflow_add-func : goal.place_within-overflow_add-func
place_within-overflow_add-func t c =
    let items = c.as_slice-row-items.result.now in
    let i = c.loop-row.row-index in
    let e = ap n.callers (next_row items i c.row-item.result c.loop-row-test.true c.row-item.is) in
    omega (arith, e, c.loop-row.invariant.func, c.requires.funcs, c.functions_at-func.ensures)

pub place_within-loop-row-preserved : goal.place_within-loop-row-preserved
place_within-loop-row-preserved t c =
    let items = c.as_slice-row-items.result.now in
    let i = c.loop-row.row-index in
    let x = c.row-item.result in
    let s = state_tree x.1 in
    let rest = states_at items (i + 1) in
    let e = next_row items i x c.loop-row-test.true c.row-item.is in
    let total : At = plus c.args.at (n.size_within (states_of (block_tree c.args.block.now))) in
    let next : c.in_ok-inner.inner ≡ plus c.loop-row.inner (n.size_under s) = c.in_ok-inner.ensures.next in
    let func : c.loop-row.func + c.functions_at-func.result ≡ c.loop-row.func + n.calls s = ap (λ k. c.loop-row.func + k) c.functions_at-func.ensures in
    let k = ap n.callers e in
    record {
      left =
          listed_next c.loop-row.func c.loop-row.inner x.0 s (states_at items i) rest e (map placed_of c.loop-row.out) (map placed_of c.place_under.new.out) _ (c.loop-row.func + c.functions_at-func.result) c.in_ok-inner.inner
          c.in_ok-inner.ensures.placed func next c.loop-row.invariant.left;
      func = omega (arith, k, c.loop-row.invariant.func, func);
      inner = size_next c.loop-row.inner c.in_ok-inner.inner total x.0 s (states_at items i) rest e next c.loop-row.invariant.inner;
    }

pub place_within-returns : goal.place_within-returns
place_within-returns t c =
    let e = no_states c.as_slice-row-items.result.now c.loop-row.row-index c.loop-row-test.false in
    record {
      placed = listed_all c.loop-row.func c.loop-row.inner (states_at c.as_slice-row-items.result.now c.loop-row.row-index) e (map placed_of c.loop-row.out) _ c.loop-row.invariant.left;
      next = size_all_through c.loop-row.inner _ (states_at c.as_slice-row-items.result.now c.loop-row.row-index) e c.loop-row.invariant.inner;
    }
