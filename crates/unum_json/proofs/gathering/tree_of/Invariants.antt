use Rattle.unum_json.proofs.Pairs.{IsOnItsWay}
use Rattle.unum_json.proofs.gathering.tree_of.Given as goal

abbrev pub invariant-loop-key : goal.invariant-loop-key
invariant-loop-key l = IsOnItsWay l.fn.members l.key-iterator.rest.items l.tree.entries
