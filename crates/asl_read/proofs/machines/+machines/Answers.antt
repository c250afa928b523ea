use Rattle.std.proofs.Common.{◌+◌, ◌<◌, codes, drop, refl, arith}
use Rattle.std.specs.Map.{keys_of}
use Rattle.serde_json.specs.Data.{depth}
use Rattle.unum_json.specs.Parsed.{view}
use Rattle.unum_json.proofs.Rising.{rising_front}
use Rattle.unum_json.proofs.WholeSteps.{rest_at}
use Rattle.asl_read.proofs.Inside.{get_depth, array_item, member_low, members_low, body_depth, states_start, rising_start, rising_more}
use Rattle.asl_read.proofs.machines.+machines.Goals as goal

pub blocks_of-block_of-requires : goal.blocks_of-block_of-requires
blocks_of-block_of-requires t c =
    let low : depth (view c.item-item.result) < depth (view c.args.value.now)
    = array_item c.args.value.now c.in-Array.items _ c.loop-item.item-index c.item-item.result c.in-Array.is c.deref-item-items.ensures.value c.loop-item-test.true c.item-item.is in
    (omega arith, tt)

pub body_of-block_of-requires : goal.body_of-block_of-requires
body_of-block_of-requires t c =
    let low : depth (view c.in-Some.found.now) < depth (view c.args.value.now) = body_depth _ _ c.in-Some.ensures in
    (omega arith, tt)

pub branches_in-blocks_of-requires : goal.branches_in-blocks_of-requires
branches_in-blocks_of-requires t c =
    let low : depth (view c.in-Some.found.now) < depth (view c.args.value.now) = get_depth (codes "Branches") _ _ c.in-Some.ensures in
    (omega arith, tt)

pub states_in-states_of-requires : goal.states_in-states_of-requires
states_in-states_of-requires t c =
    let low : depth (view c.in-Some.found.now) < depth (view c.args.value.now) = get_depth (codes "States") _ _ c.in-Some.ensures in
    (omega arith, tt)

pub states_of-loop-member-init : goal.states_of-loop-member-init
states_of-loop-member-init t c =
    let all = c.as_slice-member-items in
    record {
      read = states_start c.args.value.now c.in-Object.members _ _ c.in-Object.is all.ensures.value c.new-states.ensures;
      rising = rising_start c.in-Object.members _ _ c.new-states.ensures all.ensures.value all.ensures.rising;
      low = members_low c.args.value.now c.in-Object.members _ c.in-Object.is all.ensures.value;
    }

pub states_of-state_of-requires : goal.states_of-state_of-requires
states_of-state_of-requires t c =
    let i = c.loop-member.member-index in
    let all = c.as_slice-member-items.result.now in
    let e = c.member-item.result in
    let rest = rest_at i all all e refl (omega (arith, c.loop-member-test.true)) c.member-item.is in
    let low : depth (view e.1) < depth (view c.args.value.now) = member_low _ _ (drop (i + 1) all) e rest c.loop-member.invariant.low in
    (omega arith, tt)

pub states_of-push_named-requires : goal.states_of-push_named-requires
states_of-push_named-requires t c =
    let i = c.loop-member.member-index in
    let all = c.as_slice-member-items.result.now in
    let e = c.member-item.result in
    let rest = rest_at i all all e refl (omega (arith, c.loop-member-test.true)) c.member-item.is in
    rising_front _ (keys_of (drop (i + 1) all))
    (rising_more c.loop-member.states _ _ e c.as_str.result.now c.in_ok-state.state c.loop-member.invariant.rising rest c.as_str.ensures)
