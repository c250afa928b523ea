use Rattle.std.proofs.Common.{◌≡◌, ◌+◌, ◌-◌, ◌^◌, drop, min, map, arith}
use Rattle.std.specs.Prelude.{sum}
use Rattle.std.proofs.lemmas.List.{at_drop_all}
use Rattle.unum_json.specs.Tree.{nodes}
use Rattle.unum_ir.proofs.Keeping.{all_counted}
use Rattle.unum_ir.proofs.inputs.total_nodes.Goals as goal

pub returns : goal.returns
returns c =
    let none : sum (map nodes (drop c.loop-value.value-index c.as_slice-value-items.result.now)) ≡ 0
    = at_drop_all (λ vs. sum (map nodes vs)) c.as_slice-value-items.result.now c.loop-value.value-index c.loop-value-test.false in
    let e : c.loop-value.total ≡ min (1 + sum (map nodes c.args.values.now)) (2 ^ 64 - 1) = omega (arith, none, c.loop-value.invariant.0, c.loop-value.invariant.1) in
    all_counted c.args.values.now c.loop-value.total e
