use Rattle.std.proofs.Common.{subst, refl, arith, Option}
use Rattle.std.specs.Prelude.{IsSome}
use Rattle.world_types.specs.declared.queue.Entry.{Entry}
use Rattle.unum_world.specs.declared.world_state.WorldState.{WorldState}
use Rattle.unum_world.proofs.Givens.{can_run}
use Rattle.unum_world.proofs.Carried.{room_world, room_keeps, refused_world, refused_keeps, is_there, few_messages, prepared_memory, still_fit, still_moves, still_given, still_does, still_within, marks_fit, twin_room, carried_world, carried_keeps}
use Rattle.unum_world.proofs.steps.carry.Goals as goal

pub count_acts-acts-requires : goal.count_acts-acts-requires
count_acts-acts-requires c =
    let it = c.args.instance in
    can_run c.args.o.now c.args.now.now c.requires.holds it.ticket c.args.inv it.invocation.now it.ir.now c.requires.runs

pub prepare-requires-clause-there : goal.prepare-requires-clause-there
prepare-requires-clause-there c =
    let it = c.args.instance in
    is_there c.args.o.now c.args.now.now c.requires.holds it.ticket c.args.inv it.invocation.now it.ir.now c.requires.runs

pub prepare-requires-clause-within : goal.prepare-requires-clause-within
prepare-requires-clause-within c =
    let it = c.args.instance in
    few_messages c.args.o.now c.args.now.now c.requires.holds it.ticket c.args.inv it.invocation.now it.ir.now c.requires.runs

pub prepare-requires-clause-room : goal.prepare-requires-clause-room
prepare-requires-clause-room c = c.requires.holds.kept.twins.room

pub returns-in_default-clause-err : goal.returns-in_default-clause-err
returns-in_default-clause-err c = room_world c.args.o.now c.args.now.now c.prepare.new.now c.in_default.ensures.same

pub returns-in_default-clause-kept : goal.returns-in_default-clause-kept
returns-in_default-clause-kept c =
    room_keeps c.args.o.now c.args.now.now c.prepare.new.now c.requires.holds.kept c.in_default.ensures.same

pub returns-in_default-clause-memory : goal.returns-in_default-clause-memory
returns-in_default-clause-memory c =
    let it = c.args.instance in
    prepared_memory c.args.o.now c.args.now.now c.requires.holds it.ticket c.args.inv it.invocation.now it.ir.now c.requires.runs c.args.op c.requires.does
    c.in_default.ensures.memory

pub operate-requires-clause-fit : goal.operate-requires-clause-fit
operate-requires-clause-fit c =
    let it = c.args.instance in
    still_fit c.args.o.now c.args.now.now c.requires.holds it.ticket c.args.inv it.invocation.now it.ir.now c.requires.runs c.args.op c.requires.does
    c.prepare.new.now c.in-Ok.ensures.same

pub operate-requires-clause-moves : goal.operate-requires-clause-moves
operate-requires-clause-moves c =
    let it = c.args.instance in
    still_moves c.args.o.now c.args.now.now c.requires.holds it.ticket c.args.inv it.invocation.now it.ir.now c.requires.runs c.args.op c.requires.does
    c.prepare.new.now c.in-Ok.ensures.same c.count_acts-acts.result c.count_acts-acts.ensures

pub operate-requires-clause-input : goal.operate-requires-clause-input
operate-requires-clause-input c =
    let it = c.args.instance in
    still_given c.args.o.now c.args.now.now c.requires.holds it.ticket c.args.inv it.invocation.now it.ir.now c.requires.runs c.args.op c.requires.does
    c.prepare.new.now c.in-Ok.ensures.same

pub operate-requires-clause-does : goal.operate-requires-clause-does
operate-requires-clause-does c =
    let it = c.args.instance in
    still_does c.args.o.now c.args.now.now c.requires.holds it.ticket c.args.inv it.invocation.now it.ir.now c.requires.runs c.args.op c.requires.does
    c.prepare.new.now c.in-Ok.ensures.same

pub finish-requires-clause-plan : goal.finish-requires-clause-plan
finish-requires-clause-plan c = c.requires.holds.fits.plan

pub finish-requires-clause-stops : goal.finish-requires-clause-stops
finish-requires-clause-stops c =
    let it = c.args.instance in
    let l = still_within c.args.o.now c.args.now.now c.requires.holds it.ticket c.args.inv it.invocation.now it.ir.now c.requires.runs c.args.op c.requires.does c.prepare.new.now c.in-Ok.ensures.same in
    omega (arith, c.prepare.new.now.stops.ok.0, l)

pub finish-requires-clause-entries : goal.finish-requires-clause-entries
finish-requires-clause-entries c =
    λ k. c.in-Ok.ensures.entries c.args.instance.ticket (subst (λ (e : Option Entry). IsSome e) c.in-Ok.ensures.made.entry_is k)

pub finish-requires-clause-marks : goal.finish-requires-clause-marks
finish-requires-clause-marks c =
    let it = c.args.instance in
    marks_fit c.args.o.now c.args.now.now c.requires.holds it.ticket c.args.inv it.invocation.now it.ir.now c.requires.runs c.args.op c.requires.does
    c.prepare.new.now c.in-Ok.ensures.same c.in-Ok.prepared c.in-Ok.ensures.made

pub finish-requires-clause-room : goal.finish-requires-clause-room
finish-requires-clause-room c =
    let it = c.args.instance in
    twin_room c.args.o.now c.args.now.now c.requires.holds it.ticket c.args.inv it.invocation.now it.ir.now c.requires.runs c.args.op c.requires.does
    c.prepare.new.now c.in-Ok.ensures.same c.in-Ok.prepared c.in-Ok.ensures.made c.in-Ok.ensures.next

pub returns-in-Ok-operate-clause-ok : goal.returns-in-Ok-operate-clause-ok
returns-in-Ok-operate-clause-ok c =
    let it = c.args.instance in
    carried_world c.args.o.now c.args.now.now c.requires.holds it.ticket c.args.inv it.invocation.now it.ir.now c.requires.runs c.args.op c.requires.does
    c.prepare.new.now c.in-Ok.ensures.same c.in-Ok.prepared c.in-Ok.ensures.made c.requires.goes_on c.operate.new.hub c.finish.new.now
    c.in-Ok-operate.won c.in-Ok-operate.ensures.objects c.in-Ok-operate.ensures.queue c.in-Ok-operate.ensures.won c.finish.ensures.hub
    c.finish.ensures.journal c.finish.ensures.marks

pub returns-in-Ok-operate-clause-kept : goal.returns-in-Ok-operate-clause-kept
returns-in-Ok-operate-clause-kept c =
    let it = c.args.instance in
    let world = carried_world c.args.o.now c.args.now.now c.requires.holds it.ticket c.args.inv it.invocation.now it.ir.now c.requires.runs c.args.op c.requires.does c.prepare.new.now c.in-Ok.ensures.same c.in-Ok.prepared c.in-Ok.ensures.made c.requires.goes_on c.operate.new.hub c.finish.new.now c.in-Ok-operate.won c.in-Ok-operate.ensures.objects c.in-Ok-operate.ensures.queue c.in-Ok-operate.ensures.won c.finish.ensures.hub c.finish.ensures.journal c.finish.ensures.marks in
    carried_keeps c.args.o.now c.args.now.now c.requires.holds it.ticket c.args.inv it.invocation.now it.ir.now c.requires.runs c.args.op c.requires.does
    c.prepare.new.now c.in-Ok.ensures.same c.in-Ok.prepared c.in-Ok.ensures.made c.requires.goes_on c.operate.new.hub c.finish.new.now
    c.in-Ok-operate.won c.in-Ok-operate.ensures.objects c.in-Ok-operate.ensures.queue c.in-Ok-operate.ensures.won c.finish.ensures.hub world
    c.finish.ensures.stops c.finish.ensures.twins c.in-Ok.ensures.next

pub returns-in-Err-clause-err : goal.returns-in-Err-clause-err
returns-in-Err-clause-err c =
    let p = c.prepare.new.now in
    let n : WorldState = record { hub = c.operate.new.hub; journal = p.journal; marks = p.marks; stops = p.stops; twins = p.twins } in
    refused_world c.args.o.now c.args.now.now p n c.in-Ok.ensures.same c.in-Err.ensures.err_objects c.in-Err.ensures.err_queue refl refl

pub returns-in-Err-clause-kept : goal.returns-in-Err-clause-kept
returns-in-Err-clause-kept c =
    let p = c.prepare.new.now in
    let n : WorldState = record { hub = c.operate.new.hub; journal = p.journal; marks = p.marks; stops = p.stops; twins = p.twins } in
    refused_keeps c.args.o.now c.args.now.now p n c.in-Ok.ensures.same c.in-Err.ensures.err_objects c.in-Err.ensures.err_queue c.requires.holds.kept
    (refused_world c.args.o.now c.args.now.now p n c.in-Ok.ensures.same c.in-Err.ensures.err_objects c.in-Err.ensures.err_queue refl refl)
    refl refl
