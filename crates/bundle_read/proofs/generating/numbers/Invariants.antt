use Rattle.std.proofs.Common.{◌≡◌, map, pos}
use Rattle.std.specs.List.{range_with_len}
use Rattle.unum_json.specs.declared.value.Json.TheVariants.{Int}
use Rattle.bundle_read.proofs.generating.numbers.Given as goal

abbrev pub invariant-loop-k : goal.invariant-loop-k
invariant-loop-k l = l.numbers ≡ map (λ k. Int (pos k)) (range_with_len 0 l.k)
