use Rattle.std.proofs.Common.{◌+◌, ◌-◌, drop, sym, ap, refl, ◌∙◌}
use Rattle.std.proofs.lemmas.Bool.{eq-eqb, ne_eqb}
use Rattle.unum_ir.specs.Forming.{counted_up}
use Rattle.unum_ir.specs.WellFormed.{each, held_by, scopes_below}
use Rattle.unum_ir.proofs.Counting.{node_passed, node_counted, node_refused, nodes_over, scope_counted, scope_refused, scope_opens}
use Rattle.unum_ir.proofs.scope_tests.+scopes.Goals as goal
use Rattle.unum_ir.proofs.scope_tests.+scopes.Goals.{count_scope-then-node-scope+in_ok-next, count_scope-else-node-scope}

pub count_each-returns-in_err-next : goal.count_each-returns-in_err-next
count_each-returns-in_err-next t c =
    c.from_residual.ensures
    ∙ scope_refused (scopes_below c.args.depth c.args.nodes.now) c.args.bound c.loop-scope.next c.args.scopes.now c.loop-scope.scope-index _ _ c.loop-scope-test.true refl c.in_err-next.ensures c.loop-scope.invariant

pub count_each-loop-scope-preserved : goal.count_each-loop-scope-preserved
count_each-loop-scope-preserved t c =
    scope_counted (scopes_below c.args.depth c.args.nodes.now) c.args.bound c.loop-scope.next c.args.scopes.now c.loop-scope.scope-index _ _ c.in_ok-next.next c.loop-scope-test.true refl c.in_ok-next.ensures c.loop-scope.invariant

pub count_scope-returns-in_err-next : goal.count_scope-returns-in_err-next
count_scope-returns-in_err-next t c =
    let k = c.args.scope in
    c.from_residual.ensures
    ∙ node_refused (scopes_below (c.args.depth - 1) c.args.nodes.now) c.args.bound c.loop-node.next k c.args.nodes.now c.loop-node.node-index c.node-item.result _ c.loop-node-test.true c.node-item.is (eq-eqb c.node-item.result.scope k c.if-node-scope.true) c.in_err-next.ensures c.loop-node.invariant
    ∙ sym (scope_opens c.args.depth c.args.nodes.now k c.args.at c.args.bound c.if-depth-eq0.false c.if-scope-at.false c.if-at-bound.false)

pub count_scope-loop-node-preserved : goal.count_scope-loop-node-preserved
count_scope-loop-node-preserved t c =
    let k = c.args.scope in
    let f = scopes_below (c.args.depth - 1) c.args.nodes.now in
    let i = c.loop-node.node-index in
    let n = c.node-item.result in
    elim c.if-node-scope.branch [
      | count_scope-then-node-scope+in_ok-next w ↦
          ap (λ z. counted_up c.args.bound z (each f (held_by k (drop (i + 1) c.args.nodes.now)))) w.next-is
          ∙ node_counted f c.args.bound c.loop-node.next k c.args.nodes.now i n _ w.in_ok-next.next c.loop-node-test.true c.node-item.is (eq-eqb n.scope k w.if-node-scope.true) w.in_ok-next.ensures c.loop-node.invariant
      | count_scope-else-node-scope w ↦
          ap (λ z. counted_up c.args.bound z (each f (held_by k (drop (i + 1) c.args.nodes.now)))) w.next-is
          ∙ node_passed f c.args.bound c.loop-node.next k c.args.nodes.now i n _ c.loop-node-test.true c.node-item.is (ne_eqb n.scope k w.if-node-scope.false) c.loop-node.invariant
    ]

pub count_scope-returns : goal.count_scope-returns
count_scope-returns t c =
    let k = c.args.scope in
    nodes_over (scopes_below (c.args.depth - 1) c.args.nodes.now) c.args.bound c.loop-node.next k c.args.nodes.now c.loop-node.node-index c.loop-node-test.false
    ∙ c.loop-node.invariant
    ∙ sym (scope_opens c.args.depth c.args.nodes.now k c.args.at c.args.bound c.if-depth-eq0.false c.if-scope-at.false c.if-at-bound.false)
