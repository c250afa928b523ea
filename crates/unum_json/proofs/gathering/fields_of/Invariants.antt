use Rattle.std.proofs.Common.{◌≡◌, ◌++◌}
use Rattle.unum_json.proofs.Pairs.{pairs}
use Rattle.unum_json.proofs.gathering.fields_of.Given as goal

abbrev pub invariant-loop-key : goal.invariant-loop-key
invariant-loop-key l =
    (pairs l.fn.tree.entries ≡ l.members ++ pairs l.key-iterator) ×
    (goal.iterator-loop-key).can_next l.key-iterator ×
    (goal.iterator-loop-key).is_finite l.key-iterator
