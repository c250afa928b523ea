use Rattle.std.proofs.Common.{◌<◌, codes, arith}
use Rattle.serde_json.specs.Data.{depth}
use Rattle.unum_json.specs.Parsed.{view}
use Rattle.asl_read.proofs.Inside.{get_depth, array_item}
use Rattle.asl_read.proofs.rules.+rules.Goals as goal

pub rule_of-rules_of-requires : goal.rule_of-rules_of-requires
rule_of-rules_of-requires t c =
    let low : depth (view c.in-Some.all.now) < depth (view c.args.value.now) = get_depth (codes "And") _ _ c.in-Some.ensures in
    (omega arith, tt)

pub or_not_test-rules_of-requires : goal.or_not_test-rules_of-requires
or_not_test-rules_of-requires t c =
    let low : depth (view c.in-Some.any.now) < depth (view c.args.value.now) = get_depth (codes "Or") _ _ c.in-Some.ensures in
    (omega arith, tt)

pub not_or_test-rule_of-requires : goal.not_or_test-rule_of-requires
not_or_test-rule_of-requires t c =
    let low : depth (view c.in-Some.inner.now) < depth (view c.args.value.now) = get_depth (codes "Not") _ _ c.in-Some.ensures in
    (omega arith, tt)

pub rules_of-rule_of-requires : goal.rules_of-rule_of-requires
rules_of-rule_of-requires t c =
    let low : depth (view c.item-item.result) < depth (view c.args.value.now)
    = array_item c.args.value.now c.in-Array.items _ c.loop-item.item-index c.item-item.result c.in-Array.is c.deref-item-items.ensures.value c.loop-item-test.true c.item-item.is in
    (omega arith, tt)
