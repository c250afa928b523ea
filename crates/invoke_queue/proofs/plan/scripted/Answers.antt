use Rattle.std.proofs.Common.{refl, sym, ◌≡◌, Some, slice_get}
use Rattle.std.proofs.lemmas.Option.{slice_get_read, slice_get_past}
use Rattle.invoke_queue.proofs.Rising.{step_here, step_other, step_past}
use Rattle.invoke_queue.proofs.plan.scripted.Goals as goal

pub returns-then-mishap-attempt : goal.returns-then-mishap-attempt
returns-then-mishap-attempt c =
    let h = c.in-Some.ensures.lookup in
    let g : slice_get c.args.script.now c.mishaps_before.result ≡ Some c.in-Some.mishap.now = slice_get_read c.args.script.now _ c.mishaps_before.result c.in-Some.mishap.now refl h.3.0 h.1 in
    sym (step_here c.args.attempt c.args.script.now c.mishaps_before.result c.mishaps_before.ensures c.in-Some.mishap.now g c.if-mishap-attempt.true)

pub returns-else-mishap-attempt : goal.returns-else-mishap-attempt
returns-else-mishap-attempt c =
    let h = c.in-Some.ensures.lookup in
    let g : slice_get c.args.script.now c.mishaps_before.result ≡ Some c.in-Some.mishap.now = slice_get_read c.args.script.now _ c.mishaps_before.result c.in-Some.mishap.now refl h.3.0 h.1 in
    sym (step_other c.args.attempt c.args.script.now c.mishaps_before.result c.mishaps_before.ensures c.requires c.in-Some.mishap.now g c.if-mishap-attempt.false)

pub returns-in-None : goal.returns-in-None
returns-in-None c =
    let h = c.in-None.ensures.lookup in
    sym (step_past c.args.attempt c.args.script.now c.mishaps_before.result c.mishaps_before.ensures (slice_get_past c.args.script.now c.mishaps_before.result h.3) h.3)
