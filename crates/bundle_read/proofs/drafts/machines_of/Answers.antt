use Rattle.std.proofs.Common.{◌+◌, drop, arith}
use Rattle.std.specs.Map.{keys_of}
use Rattle.unum_json.proofs.Rising.{rising_front}
use Rattle.asl_read.specs.Machines.{machine_of}
use Rattle.bundle_read.proofs.Values.{Goes, goes_first, goes_on}
use Rattle.bundle_read.proofs.drafts.machines_of.Goals as goal

pub loop-member-init : goal.loop-member-init
loop-member-init c =
    goes_first machine_of c.args.members.now c.as_slice-member-items.result.now _ c.new-found.ensures c.as_slice-member-items.ensures.value c.as_slice-member-items.ensures.rising

pub push-requires : goal.push-requires
push-requires c =
    let i = c.loop-member.member-index in
    let all = c.as_slice-member-items.result.now in
    let more : Goes machine_of c.args.members.now (drop (i + 1) all) _
    = goes_on machine_of c.args.members.now i all c.member-item.result c.loop-member.found c.in_ok-name.name c.in_ok-machine.machine c.loop-member.invariant (omega (arith, c.loop-member-test.true)) c.member-item.is c.in_ok-name.ensures c.in_ok-machine.ensures in
    rising_front _ (keys_of (drop (i + 1) all)) more.rising

pub loop-member-preserved : goal.loop-member-preserved
loop-member-preserved c =
    rw c.in_ok-push.ensures.ok
    (goes_on machine_of c.args.members.now c.loop-member.member-index c.as_slice-member-items.result.now c.member-item.result c.loop-member.found c.in_ok-name.name c.in_ok-machine.machine c.loop-member.invariant (omega (arith, c.loop-member-test.true)) c.member-item.is c.in_ok-name.ensures c.in_ok-machine.ensures)
