use Rattle.std.proofs.Common.{◌≡◌, ◌<◌, ◌∙◌, true, length, subst, ap, sym}
use Rattle.world_model.specs.AnyCode.World.{Answer, is_ask, enabled}
use Rattle.world_model.specs.Flat.{block_of}
use Rattle.continuation_gen.specs.Numbering.{flat_form}
use Rattle.unum_world.specs.Openings.{opening_as, codes_of}
use Rattle.unum_world.specs.Traces.{world_of}
use Rattle.unum_world.proofs.Givens.{lives_answer, message_at, session_at, runs_at, can_run}
use Rattle.unum_world.proofs.Awaited.{along, asks, must_ask}
use Rattle.unum_world.proofs.calls.pending.Goals as goal

pub message_of-inv-requires : goal.message_of-inv-requires
message_of-inv-requires c =
    let o = c.args.o.now in
    let m = c.args.now.now in
    let on : enabled (codes_of o) (world_of o m) (Answer c.args.attempt) ≡ true = c.requires.on in
    message_at o m c.requires.holds c.args.attempt (lives_answer o m c.requires.holds c.args.attempt on)

pub form_of-ir-requires-clause-there : goal.form_of-ir-requires-clause-there
form_of-ir-requires-clause-there c =
    let e : c.message-inside.inside.0.0.0.0.session ≡ c.message_of-inv.result.1.name.place.session =
    along c.message-inside.view_is (λ z. z.0.0.place.session) ∙ along c.message.view_is (λ z. z.name.place.session) in
    subst (λ n. n < length c.args.o.now.sessions) (sym e)
    (session_at c.args.o.now c.args.now.now c.requires.holds c.args.attempt _ _ c.message_of-inv.ensures)

pub next_doing-requires : goal.next_doing-requires
next_doing-requires c =
    let o = c.args.o.now in
    let m = c.args.now.now in
    let e : c.message-inside.inside.0.0.0.0.session ≡ c.message_of-inv.result.1.name.place.session =
    along c.message-inside.view_is (λ z. z.0.0.place.session) ∙ along c.message.view_is (λ z. z.name.place.session) in
    let on : enabled (codes_of o) (world_of o m) (Answer c.args.attempt) ≡ true = c.requires.on in
    can_run o m c.requires.holds c.args.attempt c.message_of-inv.result.0 c.message_of-inv.result.1 c.form_of-ir.result.now
    (runs_at o m c.requires.holds c.args.attempt c.message_of-inv.result.0 c.message_of-inv.result.1 c.form_of-ir.result.now
    c.message_of-inv.ensures (c.form_of-ir.ensures ∙ ap (λ n. flat_form (block_of (opening_as o) n)) e)
    (lives_answer o m c.requires.holds c.args.attempt on))

pub unreachable-requires : goal.unreachable-requires
unreachable-requires c =
    let o = c.args.o.now in
    let m = c.args.now.now in
    let e : c.message-inside.inside.0.0.0.0.session ≡ c.message_of-inv.result.1.name.place.session =
    along c.message-inside.view_is (λ z. z.0.0.place.session) ∙ along c.message.view_is (λ z. z.name.place.session) in
    let on : enabled (codes_of o) (world_of o m) (Answer c.args.attempt) ≡ true = c.requires.on in
    let r =
    runs_at o m c.requires.holds c.args.attempt c.message_of-inv.result.0 c.message_of-inv.result.1 c.form_of-ir.result.now
    c.message_of-inv.ensures (c.form_of-ir.ensures ∙ ap (λ n. flat_form (block_of (opening_as o) n)) e)
    (lives_answer o m c.requires.holds c.args.attempt on) in
    let a = asks o m c.requires.holds c.args.attempt c.message_of-inv.result.0 c.message_of-inv.result.1 c.form_of-ir.result.now r on in
    must_ask c.in_ok-other.other (ap is_ask c.in_ok-other.ensures.next ∙ a) c.in_default.not-Ask
