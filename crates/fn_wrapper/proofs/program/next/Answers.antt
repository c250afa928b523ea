use Rattle.fn_wrapper.proofs.program.next.Goals as goal

pub calling-requires : goal.calling-requires
calling-requires c = c.requires.ready.calls c.in-Calling.raw c.in-Calling.used c.in-Calling.is
