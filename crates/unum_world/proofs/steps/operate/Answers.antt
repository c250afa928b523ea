use Rattle.std.proofs.Common.{◌∙◌, subst}
use Rattle.checkpoint_store.specs.Entries.{objects_of}
use Rattle.unum_world.specs.Instances.{ReadsAt}
use Rattle.unum_world.proofs.Moving.{att_stays, looks_at, same_objects, same_queue, look_takes}
use Rattle.unum_world.proofs.steps.operate.Goals as goal

pub returns-in-Err-clause-err_objects : goal.returns-in-Err-clause-err_objects
returns-in-Err-clause-err_objects c =
    let q = c.args.hub.now.queue in
    let a = c.args.instance.ticket in
    let op = c.args.op in
    let s = att_stays q c.apply.new.self.queue a op c.requires.goes_on c.in_ok-reply.ensures.queue in
    let l = looks_at c.args.instance.ir.now c.args.instance.invocation.now _ op (subst ReadsAt s c.in-Err.ensures.memory) c.requires.does in
    c.in_ok-reply.ensures.objects ∙ same_objects (objects_of c.args.hub.now.store) op l

pub returns-in-Err-clause-err_queue : goal.returns-in-Err-clause-err_queue
returns-in-Err-clause-err_queue c =
    let q = c.args.hub.now.queue in
    let a = c.args.instance.ticket in
    let op = c.args.op in
    let s = att_stays q c.apply.new.self.queue a op c.requires.goes_on c.in_ok-reply.ensures.queue in
    let l = looks_at c.args.instance.ir.now c.args.instance.invocation.now _ op (subst ReadsAt s c.in-Err.ensures.memory) c.requires.does in
    c.in-Err.ensures.err ∙ c.in_ok-reply.ensures.queue ∙ same_queue q a op l

pub returns-in-Err-clause-memory : goal.returns-in-Err-clause-memory
returns-in-Err-clause-memory c =
    let q = c.args.hub.now.queue in
    let a = c.args.instance.ticket in
    let op = c.args.op in
    let s = att_stays q c.apply.new.self.queue a op c.requires.goes_on c.in_ok-reply.ensures.queue in
    look_takes op (looks_at c.args.instance.ir.now c.args.instance.invocation.now _ op (subst ReadsAt s c.in-Err.ensures.memory) c.requires.does)
