use Rattle.std.proofs.Common.{◌≡◌, ◌++◌}
use Rattle.continuation_gen.specs.Numbering.{enters}
use Rattle.continuation_gen.proofs.tables.add_enters.Given as goal

abbrev pub invariant-loop-scope : goal.invariant-loop-scope
invariant-loop-scope l = l.funcs ≡ l.fn.funcs ++ enters 0 l.scope
