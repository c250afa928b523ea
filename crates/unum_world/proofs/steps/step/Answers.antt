use Rattle.std.proofs.Common.{◌≡◌, ◌<◌, sym, ap, ◌∙◌, subst, length}
use Rattle.world_model.specs.Flat.{block_of}
use Rattle.continuation_gen.specs.Numbering.{flat_form}
use Rattle.unum_world.specs.Openings.{opening_as}
use Rattle.world_model.specs.AnyCode.Program.{Do}
use Rattle.unum_world.specs.Instances.{Runs}
use Rattle.unum_world.proofs.Givens.{message_at, lives_step, session_at, runs_at, can_run, does_step, on_err, err_map}
use Rattle.unum_world.proofs.Carried.{memory_is, copied_memory}
use Rattle.unum_world.proofs.steps.step.Goals as goal

pub message_of-inv-requires : goal.message_of-inv-requires
message_of-inv-requires c =
    message_at c.args.o.now c.args.now.now c.requires.holds c.args.attempt
    (lives_step c.args.o.now c.args.now.now c.requires.holds c.args.attempt c.requires.on)

pub form_of-ir-requires-clause-fits : goal.form_of-ir-requires-clause-fits
form_of-ir-requires-clause-fits c = c.requires.holds.fits

pub form_of-ir-requires-clause-there : goal.form_of-ir-requires-clause-there
form_of-ir-requires-clause-there c =
    subst (λ n. n < length c.args.o.now.sessions) (sym c.session_of.ensures)
    (session_at c.args.o.now c.args.now.now c.requires.holds c.args.attempt c.message_of-inv.result.0 c.message_of-inv.result.1 c.message_of-inv.ensures)

pub operation-requires-clause-runs : goal.operation-requires-clause-runs
operation-requires-clause-runs c =
    let o = c.args.o.now in
    let m = c.args.now.now in
    let h = c.requires.holds in
    let a = c.args.attempt in
    let inv = c.message_of-inv.result.0 in
    let i = c.message_of-inv.result.1 in
    let ir = c.form_of-ir.result.now in
    let form : ir ≡ flat_form (block_of (opening_as o) i.name.place.session) = c.form_of-ir.ensures ∙ ap (λ s. flat_form (block_of (opening_as o) s)) c.session_of.ensures in
    let r : Runs o m a inv i ir = runs_at o m h a inv i ir c.message_of-inv.ensures form (lives_step o m h a c.requires.on) in
    can_run o m h a inv i ir r

pub operation-requires-clause-does : goal.operation-requires-clause-does
operation-requires-clause-does c =
    let o = c.args.o.now in
    let m = c.args.now.now in
    let h = c.requires.holds in
    let a = c.args.attempt in
    let inv = c.message_of-inv.result.0 in
    let i = c.message_of-inv.result.1 in
    let ir = c.form_of-ir.result.now in
    let form : ir ≡ flat_form (block_of (opening_as o) i.name.place.session) = c.form_of-ir.ensures ∙ ap (λ s. flat_form (block_of (opening_as o) s)) c.session_of.ensures in
    let r : Runs o m a inv i ir = runs_at o m h a inv i ir c.message_of-inv.ensures form (lives_step o m h a c.requires.on) in
    does_step o m h a inv i ir r c.requires.on

pub returns-in_err-other-clause-memory : goal.returns-in_err-other-clause-memory
returns-in_err-other-clause-memory c =
    let o = c.args.o.now in
    let m = c.args.now.now in
    let h = c.requires.holds in
    let a = c.args.attempt in
    let inv = c.message_of-inv.result.0 in
    let i = c.message_of-inv.result.1 in
    let ir = c.form_of-ir.result.now in
    let form : ir ≡ flat_form (block_of (opening_as o) i.name.place.session) = c.form_of-ir.ensures ∙ ap (λ s. flat_form (block_of (opening_as o) s)) c.session_of.ensures in
    let r : Runs o m a inv i ir = runs_at o m h a inv i ir c.message_of-inv.ensures form (lives_step o m h a c.requires.on) in
    on_err c.from_residual.result
    (copied_memory o m h a inv i ir r (does_step o m h a inv i ir r c.requires.on) c.in_err-other.ensures.memory)

pub acknowledge-requires-clause-runs : goal.acknowledge-requires-clause-runs
acknowledge-requires-clause-runs c =
    let o = c.args.o.now in
    let m = c.args.now.now in
    let h = c.requires.holds in
    let a = c.args.attempt in
    let inv = c.message_of-inv.result.0 in
    let i = c.message_of-inv.result.1 in
    let ir = c.form_of-ir.result.now in
    let form : ir ≡ flat_form (block_of (opening_as o) i.name.place.session) = c.form_of-ir.ensures ∙ ap (λ s. flat_form (block_of (opening_as o) s)) c.session_of.ensures in
    let r : Runs o m a inv i ir = runs_at o m h a inv i ir c.message_of-inv.ensures form (lives_step o m h a c.requires.on) in
    r

pub acknowledge-requires-clause-does : goal.acknowledge-requires-clause-does
acknowledge-requires-clause-does c = c.in_ok-other.ensures.op ∙ ap Do c.in-Ack.is

pub carry-requires-clause-runs : goal.carry-requires-clause-runs
carry-requires-clause-runs c =
    let o = c.args.o.now in
    let m = c.args.now.now in
    let h = c.requires.holds in
    let a = c.args.attempt in
    let inv = c.message_of-inv.result.0 in
    let i = c.message_of-inv.result.1 in
    let ir = c.form_of-ir.result.now in
    let form : ir ≡ flat_form (block_of (opening_as o) i.name.place.session) = c.form_of-ir.ensures ∙ ap (λ s. flat_form (block_of (opening_as o) s)) c.session_of.ensures in
    let r : Runs o m a inv i ir = runs_at o m h a inv i ir c.message_of-inv.ensures form (lives_step o m h a c.requires.on) in
    r

pub carry-requires-clause-does : goal.carry-requires-clause-does
carry-requires-clause-does c = c.in_ok-other.ensures.op

pub returns-in_default-clause-memory : goal.returns-in_default-clause-memory
returns-in_default-clause-memory c =
    let o = c.args.o.now in
    let m = c.args.now.now in
    let h = c.requires.holds in
    let a = c.args.attempt in
    let inv = c.message_of-inv.result.0 in
    let i = c.message_of-inv.result.1 in
    let ir = c.form_of-ir.result.now in
    let form : ir ≡ flat_form (block_of (opening_as o) i.name.place.session) = c.form_of-ir.ensures ∙ ap (λ s. flat_form (block_of (opening_as o) s)) c.session_of.ensures in
    let r : Runs o m a inv i ir = runs_at o m h a inv i ir c.message_of-inv.ensures form (lives_step o m h a c.requires.on) in
    err_map c.carry.result (memory_is o m h a inv i ir r c.in_ok-other.other c.in_ok-other.ensures.op) c.carry.ensures.memory
