use Rattle.std.proofs.Common.{◌≡◌, drop, map}
use Rattle.unum_ir.specs.WellFormed.{tag_of, same_tags, tags_from}
use Rattle.unum_ir.proofs.func_tests.tags_fit.Given as goal

abbrev pub invariant-loop-i : goal.invariant-loop-i
invariant-loop-i l = same_tags (map tag_of (drop l.at l.funcs)) (tags_from l.i (drop l.i l.nodes)) ≡ same_tags (map tag_of (drop l.from l.funcs)) (tags_from 0 l.nodes)
