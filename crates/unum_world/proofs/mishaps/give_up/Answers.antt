use Rattle.std.proofs.Common.{refl, sym, ◌∙◌}
use Rattle.world_plans.specs.Chooser.{can_give_up}
use Rattle.invoke_queue.proofs.Kept.{where_ok}
use Rattle.unum_world.specs.declared.world_state.WorldState.{WorldState}
use Rattle.unum_world.proofs.EventEffects.{err_is, give_up_world, give_up_keeps}
use Rattle.unum_world.proofs.Givens.{gives_up, room_for}
use Rattle.unum_world.proofs.mishaps.give_up.Goals as goal

pub put_twin-requires-clause-room : goal.put_twin-requires-clause-room
put_twin-requires-clause-room c =
    room_for c.args.o.now c.args.now.now c.requires.holds c.args.inv can_give_up
    (gives_up c.args.o.now c.args.now.now c.requires.holds c.args.inv c.requires.on)

pub unreachable-requires : goal.unreachable-requires
unreachable-requires c =
    let (e, q) = err_is c.give_up.result (sym c.is_err.ensures.value ∙ c.if-is_err.true) in
    let no = c.give_up.ensures.refused.0 q in
    let yes = gives_up c.args.o.now c.args.now.now c.requires.holds c.args.inv c.requires.on in
    cc

pub returns-clause-world : goal.returns-clause-world
returns-clause-world c =
    let m = c.args.now.now in
    let n : WorldState =
    record { hub = record m.hub { queue = c.give_up.new.self }; journal = m.journal; marks = m.marks; stops = m.stops; twins = c.put_twin.new.twins } in
    give_up_world c.args.o.now m n c.args.inv refl (where_ok _ c.give_up.result c.give_up.ensures.ok c.if-is_err.ensures.negation) refl refl

pub returns-clause-kept : goal.returns-clause-kept
returns-clause-kept c =
    let m = c.args.now.now in
    let n : WorldState =
    record { hub = record m.hub { queue = c.give_up.new.self }; journal = m.journal; marks = m.marks; stops = m.stops; twins = c.put_twin.new.twins } in
    let q = where_ok _ c.give_up.result c.give_up.ensures.ok c.if-is_err.ensures.negation in
    give_up_keeps c.args.o.now m n c.args.inv c.requires.holds c.requires.on (give_up_world c.args.o.now m n c.args.inv refl q refl refl) q refl
    c.put_twin.ensures
