use Rattle.std.proofs.Common.{refl, sym, ◌∙◌, arith}
use Rattle.invoke_queue.proofs.Kept.{where_ok}
use Rattle.unum_world.specs.declared.world_state.WorldState.{WorldState}
use Rattle.unum_world.proofs.EventEffects.{err_is, crash_world, crash_keeps}
use Rattle.unum_world.proofs.Givens.{lives_crash, message_at, message_room, within}
use Rattle.unum_world.proofs.mishaps.crash.Goals as goal

pub message_of-inv-requires : goal.message_of-inv-requires
message_of-inv-requires c =
    message_at c.args.o.now c.args.now.now c.requires.holds c.args.attempt
    (lives_crash c.args.o.now c.args.now.now c.requires.holds c.args.attempt c.requires.on)

pub unreachable-requires : goal.unreachable-requires
unreachable-requires c =
    let (e, q) = err_is c.crash.result (sym c.is_err.ensures.value ∙ c.if-is_err.true) in
    let no = c.crash.ensures.refused.0 q in
    let yes = lives_crash c.args.o.now c.args.now.now c.requires.holds c.args.attempt c.requires.on in
    cc

pub put-requires : goal.put-requires
put-requires c =
    let l = lives_crash c.args.o.now c.args.now.now c.requires.holds c.args.attempt c.requires.on in
    omega (arith, within c.args.o.now c.args.now.now c.requires.holds c.args.attempt l, c.args.now.now.stops.ok.0)

pub put_twin-requires-clause-room : goal.put_twin-requires-clause-room
put_twin-requires-clause-room c =
    message_room c.args.o.now c.args.now.now c.requires.holds c.args.attempt c.message_of-inv.result.0 c.message_of-inv.result.1 c.message_of-inv.ensures

pub returns-clause-world : goal.returns-clause-world
returns-clause-world c =
    let m = c.args.now.now in
    let n : WorldState =
    record { hub = record m.hub { queue = c.crash.new.self }; journal = m.journal; marks = m.marks; stops = c.put.new.items; twins = c.put_twin.new.twins } in
    crash_world c.args.o.now m n c.args.attempt refl (where_ok _ c.crash.result c.crash.ensures.ok c.if-is_err.ensures.negation) refl refl

pub returns-clause-kept : goal.returns-clause-kept
returns-clause-kept c =
    let m = c.args.now.now in
    let n : WorldState =
    record { hub = record m.hub { queue = c.crash.new.self }; journal = m.journal; marks = m.marks; stops = c.put.new.items; twins = c.put_twin.new.twins } in
    let q = where_ok _ c.crash.result c.crash.ensures.ok c.if-is_err.ensures.negation in
    crash_keeps c.args.o.now m n c.args.attempt c.message_of-inv.result.0 c.message_of-inv.result.1 c.requires.holds c.requires.on c.message_of-inv.ensures
    (crash_world c.args.o.now m n c.args.attempt refl q refl refl) q c.put.ensures c.put_twin.ensures
