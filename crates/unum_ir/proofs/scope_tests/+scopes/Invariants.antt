use Rattle.std.proofs.Common.{◌≡◌, ◌+◌, ◌*◌, ◌-◌, drop}
use Rattle.unum_ir.specs.Forming.{counted_up}
use Rattle.unum_ir.specs.WellFormed.{each, held_by, scopes_below}
use Rattle.unum_ir.proofs.scope_tests.+scopes.Given as goal

abbrev pub decreases-count_scope : goal.decreases-count_scope
decreases-count_scope l = 3 * l.depth

abbrev pub decreases-count_held : goal.decreases-count_held
decreases-count_held l = 3 * l.depth + 2

abbrev pub decreases-count_each : goal.decreases-count_each
decreases-count_each l = 3 * l.depth + 1

abbrev pub invariant-count_scope-loop-node : goal.invariant-count_scope-loop-node
invariant-count_scope-loop-node l =
    counted_up l.bound l.next (each (scopes_below (l.depth - 1) l.nodes) (held_by l.scope (drop l.node-index l.nodes))) ≡ counted_up l.bound l.initial.next (each (scopes_below (l.depth - 1) l.nodes) (held_by l.scope l.nodes))

abbrev pub invariant-count_each-loop-scope : goal.invariant-count_each-loop-scope
invariant-count_each-loop-scope l =
    counted_up l.bound l.next (each (scopes_below l.depth l.nodes) (drop l.scope-index l.scopes)) ≡ counted_up l.bound l.at (each (scopes_below l.depth l.nodes) l.scopes)
