use Rattle.std.proofs.Common.{◌≡◌, ◌-◌, ◌++◌, drop, map, List}
use Rattle.unum_ir.specs.WellFormed.{Tag, tag_of, same_tags, enter_tags}
use Rattle.unum_ir.proofs.func_tests.enters_fit.Given as goal

abbrev pub invariant-loop-scope : goal.invariant-loop-scope
invariant-loop-scope l =
    (later : List Tag) → same_tags (map tag_of (drop l.scope l.funcs)) (enter_tags l.scope (l.count - l.scope) ++ later) ≡ same_tags (map tag_of l.funcs) (enter_tags 0 l.count ++ later)
