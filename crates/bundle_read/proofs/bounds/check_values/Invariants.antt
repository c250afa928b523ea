use Rattle.std.proofs.Common.{◌≡◌, drop, flat_map}
use Rattle.bundle_read.specs.Bounds.{large_value}
use Rattle.bundle_read.proofs.bounds.check_values.Given as goal

abbrev pub invariant-loop-function : goal.invariant-loop-function
invariant-loop-function l = flat_map large_value l.functions ≡ flat_map large_value (drop l.function-index l.functions)
