use Rattle.std.proofs.Common.{◌++◌, ◌∷◌, [], refl, ap, ◌∙◌, None, Err}
use Rattle.world_plans.specs.Chooser.{can_deliver}
use Rattle.unum_world.specs.declared.world_state.WorldState.{WorldState}
use Rattle.unum_world.proofs.EventEffects.{deliver_world, deliver_keeps}
use Rattle.unum_world.proofs.Givens.{delivers, room_for}
use Rattle.unum_world.proofs.mishaps.deliver.Goals as goal

pub put_twin-requires-clause-room : goal.put_twin-requires-clause-room
put_twin-requires-clause-room c =
    room_for c.args.o.now c.args.now.now c.requires.holds c.args.inv can_deliver
    (delivers c.args.o.now c.args.now.now c.requires.holds c.args.inv c.requires.on)

pub unreachable-requires : goal.unreachable-requires
unreachable-requires c =
    let no = c.deliver.ensures.refused.0 (c.in-Err-NotEnabled.is ∙ ap Err c.in-Err-NotEnabled.field-0-is) in
    let yes = delivers c.args.o.now c.args.now.now c.requires.holds c.args.inv c.requires.on in
    cc

pub returns-in-Ok-clause-ok : goal.returns-in-Ok-clause-ok
returns-in-Ok-clause-ok c =
    let m = c.args.now.now in
    let n : WorldState =
    record { hub = record m.hub { queue = c.deliver.new.self }; journal = m.journal; marks = m.marks; stops = c.add.new.items; twins = c.put_twin.new.twins } in
    deliver_world c.args.o.now m n c.args.inv refl c.in-Ok.ensures.ok refl refl

pub returns-in-Ok-clause-kept : goal.returns-in-Ok-clause-kept
returns-in-Ok-clause-kept c =
    let m = c.args.now.now in
    let n : WorldState =
    record { hub = record m.hub { queue = c.deliver.new.self }; journal = m.journal; marks = m.marks; stops = c.add.new.items; twins = c.put_twin.new.twins } in
    deliver_keeps c.args.o.now m n c.args.inv c.requires.holds c.requires.on (deliver_world c.args.o.now m n c.args.inv refl c.in-Ok.ensures.ok refl refl)
    c.in-Ok.ensures.ok (c.add.ensures ∙ ap (λ xs. xs ++ None ∷ []) c.in_ok-reserve.ensures.items) c.put_twin.ensures
