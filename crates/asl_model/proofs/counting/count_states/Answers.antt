use Rattle.std.proofs.Common.{◌^◌, ◌-◌, min, sym, ap, ◌∙◌}
use Rattle.asl_model.specs.Tree.{tree_of}
use Rattle.asl_model.proofs.Trees.{count_nodes}
use Rattle.asl_model.proofs.counting.count_states.Goals as goal

pub returns : goal.returns
returns c = record { count = c.count_in.ensures.count ∙ ap (λ n. min n (2 ^ 64 - 1)) (sym (count_nodes (tree_of c.args.machine.now))); rising = c.count_in.ensures.rising }
