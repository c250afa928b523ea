use Rattle.std.proofs.Common.{◌∙◌}
use Rattle.world_model.specs.AnyCode.Program.{Looking}
use Rattle.unum_world.proofs.Inputs.{given_phase}
use Rattle.unum_world.proofs.Moving.{phase_is, replied, restored}
use Rattle.unum_world.proofs.steps.move_on.Goals as goal

pub absorb-requires-clause-input : goal.absorb-requires-clause-input
absorb-requires-clause-input c =
    let r = c.requires.moves in
    let q = c.args.queue.now in
    let a = c.args.instance.ticket in
    given_phase c.args.instance.ir.now c.args.instance.invocation.now _ r.att c.in-Ok.phase c.args.reply c.requires.input r.attempt_is
    (phase_is q a r.att r.attempt_is c.in-Ok.phase c.in-Ok.ensures.before)

pub returns-in-Ok-absorb-clause-ok : goal.returns-in-Ok-absorb-clause-ok
returns-in-Ok-absorb-clause-ok c =
    let r = c.requires.moves in
    let q = c.args.queue.now in
    let a = c.args.instance.ticket in
    replied q a r.att r.attempt_is c.args.instance.ir.now c.args.instance.invocation.now c.args.reply c.put_phase.new.self c.advance.new.queue
    Looking c.in-Ok.phase c.absorb.new.phase c.in-Ok.ensures.ok (phase_is q a r.att r.attempt_is c.in-Ok.phase c.in-Ok.ensures.before)
    c.in-Ok-absorb.ensures.ok c.advance.ensures

pub returns-in-Err-clause-err : goal.returns-in-Err-clause-err
returns-in-Err-clause-err c =
    let r = c.requires.moves in
    let q = c.args.queue.now in
    let a = c.args.instance.ticket in
    restored q a r.att r.attempt_is c.put_phase.new.self c.restore.new.queue Looking c.absorb.new.phase c.in-Ok.ensures.ok
    (c.in-Err.ensures.err ∙ phase_is q a r.att r.attempt_is c.in-Ok.phase c.in-Ok.ensures.before) c.restore.ensures
