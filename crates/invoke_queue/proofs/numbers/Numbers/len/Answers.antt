use Rattle.invoke_queue.proofs.Sets.{len_numbers}
use Rattle.invoke_queue.proofs.numbers.Numbers.len.Goals as goal

pub returns : goal.returns
returns c = len_numbers _ _ _ _ c.self.invariant c.args.self.now c.self.view_is
