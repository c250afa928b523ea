use Rattle.std.proofs.Common.{◌≤◌, length, arith}
use Rattle.place_name.specs.declared.limits.TheConstants.{MOST_BRANCHES}
use Rattle.fn_wrapper.proofs.Branches.{call_hop, fan_hop}
use Rattle.fn_wrapper.proofs.acts.first_act.Goals as goal

pub save_call-requires : goal.save_call-requires
save_call-requires c =
    call_hop c.args.scope.now c.args.stop.now c.in-Call.task c.in-Call.hop c.in-Call.raw c.in-Call.used c.requires c.in-Call.is

pub overflow_cast-count : goal.overflow_cast-count
overflow_cast-count c =
    let few : length c.in-Fan.enters ≤ MOST_BRANCHES =
    (fan_hop c.args.scope.now c.args.stop.now c.in-Fan.join c.in-Fan.hop c.in-Fan.raw c.in-Fan.used c.in-Fan.enters c.requires
    c.in-Fan.is).1 in
    omega arith

pub save_fan-requires : goal.save_fan-requires
save_fan-requires c =
    (fan_hop c.args.scope.now c.args.stop.now c.in-Fan.join c.in-Fan.hop c.in-Fan.raw c.in-Fan.used c.in-Fan.enters c.requires
    c.in-Fan.is).0
