use Rattle.std.proofs.Common.{◌≡◌, drop}
use Rattle.fn_table.specs.Answers.{total_of, total_from}
use Rattle.fn_table.proofs.adding.sum_up.Given as goal

abbrev pub invariant-loop-item : goal.invariant-loop-item
invariant-loop-item l = total_of l.items ≡ total_from l.total (drop l.item-index l.items)
