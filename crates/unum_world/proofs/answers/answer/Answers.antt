use Rattle.std.proofs.Common.{◌≡◌, ◌<◌, refl, sym, ap, ◌∙◌, subst, length}
use Rattle.world_model.specs.Flat.{block_of}
use Rattle.continuation_gen.specs.Numbering.{flat_form}
use Rattle.unum_world.specs.Openings.{opening_as}
use Rattle.unum_world.specs.declared.world_state.WorldState.{WorldState}
use Rattle.unum_world.specs.Instances.{Runs}
use Rattle.unum_world.proofs.Givens.{message_at, lives_answer, session_at, runs_at, can_run, can_answer, message_room}
use Rattle.unum_world.proofs.Answered.{none_world, answer_world, answer_keeps}
use Rattle.unum_world.proofs.answers.answer.Goals as goal

pub message_of-inv-requires : goal.message_of-inv-requires
message_of-inv-requires c =
    message_at c.args.o.now c.args.now.now c.requires.holds c.args.attempt
    (lives_answer c.args.o.now c.args.now.now c.requires.holds c.args.attempt c.requires.on)

pub form_of-ir-requires-clause-fits : goal.form_of-ir-requires-clause-fits
form_of-ir-requires-clause-fits c = c.requires.holds.fits

pub form_of-ir-requires-clause-there : goal.form_of-ir-requires-clause-there
form_of-ir-requires-clause-there c =
    subst (λ n. n < length c.args.o.now.sessions) (sym c.session_of.ensures)
    (session_at c.args.o.now c.args.now.now c.requires.holds c.args.attempt c.message_of-inv.result.0 c.message_of-inv.result.1 c.message_of-inv.ensures)

pub outcome_of-requires : goal.outcome_of-requires
outcome_of-requires c =
    let o = c.args.o.now in
    let m = c.args.now.now in
    let h = c.requires.holds in
    let a = c.args.attempt in
    let inv = c.message_of-inv.result.0 in
    let i = c.message_of-inv.result.1 in
    let ir = c.form_of-ir.result.now in
    let form : ir ≡ flat_form (block_of (opening_as o) i.name.place.session) = c.form_of-ir.ensures ∙ ap (λ s. flat_form (block_of (opening_as o) s)) c.session_of.ensures in
    let r : Runs o m a inv i ir = runs_at o m h a inv i ir c.message_of-inv.ensures form (lives_answer o m h a c.requires.on) in
    can_run o m h a inv i ir r

pub take_answer-requires : goal.take_answer-requires
take_answer-requires c =
    let o = c.args.o.now in
    let m = c.args.now.now in
    let h = c.requires.holds in
    let a = c.args.attempt in
    let inv = c.message_of-inv.result.0 in
    let i = c.message_of-inv.result.1 in
    let ir = c.form_of-ir.result.now in
    let form : ir ≡ flat_form (block_of (opening_as o) i.name.place.session) = c.form_of-ir.ensures ∙ ap (λ s. flat_form (block_of (opening_as o) s)) c.session_of.ensures in
    let r : Runs o m a inv i ir = runs_at o m h a inv i ir c.message_of-inv.ensures form (lives_answer o m h a c.requires.on) in
    can_answer o m h a inv i ir r

pub put_twin-requires-clause-room : goal.put_twin-requires-clause-room
put_twin-requires-clause-room c =
    message_room c.args.o.now c.args.now.now c.requires.holds c.args.attempt c.message_of-inv.result.0 c.message_of-inv.result.1 c.message_of-inv.ensures

pub returns-in-None-clause-ok : goal.returns-in-None-clause-ok
returns-in-None-clause-ok c =
    let o = c.args.o.now in
    let m = c.args.now.now in
    let h = c.requires.holds in
    let a = c.args.attempt in
    let inv = c.message_of-inv.result.0 in
    let i = c.message_of-inv.result.1 in
    let ir = c.form_of-ir.result.now in
    let form : ir ≡ flat_form (block_of (opening_as o) i.name.place.session) = c.form_of-ir.ensures ∙ ap (λ s. flat_form (block_of (opening_as o) s)) c.session_of.ensures in
    let r : Runs o m a inv i ir = runs_at o m h a inv i ir c.message_of-inv.ensures form (lives_answer o m h a c.requires.on) in
    none_world o m m h a inv i ir r c.requires.on (sym c.in_ok-outcome_of.ensures ∙ c.in-None.is)

pub returns-in-Some-clause-ok : goal.returns-in-Some-clause-ok
returns-in-Some-clause-ok c =
    let o = c.args.o.now in
    let m = c.args.now.now in
    let h = c.requires.holds in
    let a = c.args.attempt in
    let inv = c.message_of-inv.result.0 in
    let i = c.message_of-inv.result.1 in
    let ir = c.form_of-ir.result.now in
    let form : ir ≡ flat_form (block_of (opening_as o) i.name.place.session) = c.form_of-ir.ensures ∙ ap (λ s. flat_form (block_of (opening_as o) s)) c.session_of.ensures in
    let r : Runs o m a inv i ir = runs_at o m h a inv i ir c.message_of-inv.ensures form (lives_answer o m h a c.requires.on) in
    let n : WorldState = record { hub = record m.hub { queue = c.take_answer.new.queue }; journal = m.journal; marks = m.marks; stops = m.stops; twins = c.put_twin.new.twins } in
    answer_world o m n h a inv i ir r c.requires.on c.in-Some.outcome c.take_answer.ensures (sym c.in_ok-outcome_of.ensures ∙ c.in-Some.is) refl refl refl

pub returns-in-Some-clause-kept : goal.returns-in-Some-clause-kept
returns-in-Some-clause-kept c =
    let o = c.args.o.now in
    let m = c.args.now.now in
    let h = c.requires.holds in
    let a = c.args.attempt in
    let inv = c.message_of-inv.result.0 in
    let i = c.message_of-inv.result.1 in
    let ir = c.form_of-ir.result.now in
    let form : ir ≡ flat_form (block_of (opening_as o) i.name.place.session) = c.form_of-ir.ensures ∙ ap (λ s. flat_form (block_of (opening_as o) s)) c.session_of.ensures in
    let r : Runs o m a inv i ir = runs_at o m h a inv i ir c.message_of-inv.ensures form (lives_answer o m h a c.requires.on) in
    let n : WorldState = record { hub = record m.hub { queue = c.take_answer.new.queue }; journal = m.journal; marks = m.marks; stops = m.stops; twins = c.put_twin.new.twins } in
    answer_keeps o m n h a inv i ir r c.requires.on c.in-Some.outcome c.take_answer.ensures
    (answer_world o m n h a inv i ir r c.requires.on c.in-Some.outcome c.take_answer.ensures (sym c.in_ok-outcome_of.ensures ∙ c.in-Some.is) refl refl refl)
    refl c.put_twin.ensures
