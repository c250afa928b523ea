use Rattle.std.proofs.Common.{sym, refl, arith}
use Rattle.unum_world.specs.declared.world_state.WorldState.{WorldState}
use Rattle.invoke_queue.proofs.Kept.{where_ok}
use Rattle.unum_world.proofs.Givens.{can_run, can_move, runs_room, runs_within, where_err, not_refused}
use Rattle.unum_world.proofs.Inputs.{ack_given}
use Rattle.unum_world.proofs.OneSteps.{no_read, still_lives, ack_world, ack_keeps}
use Rattle.unum_world.proofs.steps.acknowledge.Goals as goal

pub count_acts-acts-requires : goal.count_acts-acts-requires
count_acts-acts-requires c =
    let it = c.args.instance in
    can_run c.args.o.now c.args.now.now c.requires.holds it.ticket c.args.inv it.invocation.now it.ir.now c.requires.runs

pub move_on-requires-clause-moves : goal.move_on-requires-clause-moves
move_on-requires-clause-moves c =
    let it = c.args.instance in
    can_move c.args.o.now c.args.now.now c.requires.holds it.ticket c.args.inv it.invocation.now it.ir.now c.requires.runs c.count_acts-acts.result c.count_acts-acts.ensures

pub move_on-requires-clause-input : goal.move_on-requires-clause-input
move_on-requires-clause-input c = ack_given c.args.instance.ir.now c.args.instance.invocation.now _

pub unreachable-requires : goal.unreachable-requires
unreachable-requires c =
    let it = c.args.instance in
    no_read c.args.o.now c.args.now.now c.requires.holds it.ticket c.args.inv it.invocation.now it.ir.now c.requires.runs c.requires.does
    (where_err _ c.move_on.result c.move_on.ensures.memory (sym c.if-is_err.ensures.value))

pub unreachable-requires-then-is_err-2 : goal.unreachable-requires-then-is_err-2
unreachable-requires-then-is_err-2 c =
    let it = c.args.instance in
    let first = where_ok _ c.move_on.result c.move_on.ensures.ok c.if-is_err.ensures.negation in
    not_refused _ _ c.ack.ensures.refused
    (still_lives c.args.o.now c.args.now.now c.requires.holds it.ticket c.args.inv it.invocation.now it.ir.now c.requires.runs c.requires.does
    c.move_on.new.queue first)
    (sym c.if-is_err-2.ensures.value)

pub put-requires : goal.put-requires
put-requires c =
    let it = c.args.instance in
    let l = runs_within c.args.o.now c.args.now.now c.requires.holds it.ticket c.args.inv it.invocation.now it.ir.now c.requires.runs in
    omega (arith, c.args.now.now.stops.ok.0, l)

pub put_twin-requires-clause-plan : goal.put_twin-requires-clause-plan
put_twin-requires-clause-plan c = c.requires.holds.fits.plan

pub put_twin-requires-clause-room : goal.put_twin-requires-clause-room
put_twin-requires-clause-room c =
    let it = c.args.instance in
    runs_room c.args.o.now c.args.now.now c.requires.holds it.ticket c.args.inv it.invocation.now it.ir.now c.requires.runs

pub returns-clause-world : goal.returns-clause-world
returns-clause-world c =
    let it = c.args.instance in
    let m = c.args.now.now in
    let n : WorldState = record { hub = record m.hub { queue = c.ack.new.self }; journal = m.journal; marks = m.marks; stops = c.put.new.items; twins = c.put_twin.new.twins } in
    ack_world c.args.o.now m c.requires.holds it.ticket c.args.inv it.invocation.now it.ir.now c.requires.runs c.requires.does c.move_on.new.queue
    (where_ok _ c.move_on.result c.move_on.ensures.ok c.if-is_err.ensures.negation) n
    (where_ok _ c.ack.result c.ack.ensures.ok c.if-is_err-2.ensures.negation) refl refl refl

pub returns-clause-kept : goal.returns-clause-kept
returns-clause-kept c =
    let it = c.args.instance in
    let m = c.args.now.now in
    let n : WorldState = record { hub = record m.hub { queue = c.ack.new.self }; journal = m.journal; marks = m.marks; stops = c.put.new.items; twins = c.put_twin.new.twins } in
    let first = where_ok _ c.move_on.result c.move_on.ensures.ok c.if-is_err.ensures.negation in
    let queue = where_ok _ c.ack.result c.ack.ensures.ok c.if-is_err-2.ensures.negation in
    let world = ack_world c.args.o.now m c.requires.holds it.ticket c.args.inv it.invocation.now it.ir.now c.requires.runs c.requires.does c.move_on.new.queue first n queue refl refl refl in
    ack_keeps c.args.o.now m c.requires.holds it.ticket c.args.inv it.invocation.now it.ir.now c.requires.runs c.requires.does c.move_on.new.queue first n queue
    world c.put.ensures c.put_twin.ensures
