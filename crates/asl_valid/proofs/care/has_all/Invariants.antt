use Rattle.std.proofs.Common.{◌≡◌, drop}
use Rattle.asl_valid.specs.Rules.{has_all}
use Rattle.asl_valid.proofs.care.has_all.Given as goal

abbrev pub invariant-loop-name : goal.invariant-loop-name
invariant-loop-name l = has_all (drop l.name-index l.name-items) ≡ has_all l.errors
