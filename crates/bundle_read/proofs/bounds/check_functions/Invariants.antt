use Rattle.std.proofs.Common.{◌≡◌, drop, flat_map}
use Rattle.bundle_read.specs.Bounds.{wild_function}
use Rattle.bundle_read.proofs.bounds.check_functions.Given as goal

abbrev pub invariant-loop-function : goal.invariant-loop-function
invariant-loop-function l = flat_map wild_function l.functions ≡ flat_map wild_function (drop l.function-index l.functions)
