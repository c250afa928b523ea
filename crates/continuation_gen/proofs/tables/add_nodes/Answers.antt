use Rattle.std.proofs.Common.{◌≡◌, ◌+◌, ◌++◌, ◌∷◌, [], refl, ap, ◌∙◌, arith}
use Rattle.asl_model.specs.Machine.{states_of}
use Rattle.asl_model.specs.Tree.{state_tree}
use Rattle.continuation_gen.specs.Numbering.{At, plus, own, size_within, callers, calls, nodes_from, node_number}
use Rattle.continuation_gen.specs.Filling.{placed_of, inner_at}
use Rattle.continuation_gen.proofs.Adding.{states_at, next_row, rows_out, size_from, nodes_alike, nodes_next}
use Rattle.continuation_gen.proofs.tables.add_nodes.Goals as goal

pub loop-row-init : goal.loop-row-init
loop-row-init c =
    let p = placed_of c.args.p.now in
    let e = rows_out c.args.p.now.block.now c.as_slice-row-items.result.now c.as_slice-row-items.ensures.value in
    let from = ap (λ (z : At). z.scope) (size_from p.at p.block) in
    let k = ap (λ z. (size_within z).scope) e in
    record {
      left =
          ap (λ z. c.args.nodes.now ++ nodes_from (node_number p) p.at.scope p.at.func (inner_at (p.at.scope + 1)) z) e
          ∙ ap (λ l. c.args.nodes.now ++ l) (nodes_alike (node_number p) p.at.scope p.at.func (inner_at (p.at.scope + 1)) (plus p.at (own p.block)) (states_of p.block) refl);
      func = ap (λ z. p.at.func + callers z) e;
      scope = omega (arith, from, k);
    }

pub loop-row-preserved : goal.loop-row-preserved
loop-row-preserved c =
    let p = placed_of c.args.p.now in
    let items = c.as_slice-row-items.result.now in
    let i = c.loop-row.row-index in
    let x = c.row-item.result in
    let s = state_tree x.1 in
    let e = next_row items i x c.loop-row-test.true c.row-item.is in
    let func : c.loop-row.func + c.functions_at.result ≡ c.loop-row.func + calls s = ap (λ k. c.loop-row.func + k) c.functions_at.ensures in
    let k = ap callers e in
    let l = ap (λ z. (size_within z).scope) e in
    record {
      left =
          nodes_next (node_number p) p.at.scope c.loop-row.func c.loop-row.scope x.0 s (states_at items i) (states_at items (i + 1)) e c.loop-row.nodes c.push.new.self _ (c.loop-row.func + c.functions_at.result) (c.loop-row.scope + c.scopes_under.result)
          (c.in_ok-push.ensures.ok ∙ ap (λ y. c.loop-row.nodes ++ y ∷ []) c.in_ok-node_of.ensures) func (ap (λ k. c.loop-row.scope + k) c.scopes_under.ensures) c.loop-row.invariant.left;
      func = omega (arith, k, c.loop-row.invariant.func, func);
      scope = omega (arith, l, c.loop-row.invariant.scope, c.scopes_under.ensures);
    }
