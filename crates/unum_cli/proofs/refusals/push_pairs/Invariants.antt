use Rattle.std.proofs.Common.{◌≡◌, ◌++◌, drop, flat_map, string_bytes}
use Rattle.unum_cli.specs.Refused.{pair_text}
use Rattle.unum_cli.proofs.refusals.push_pairs.Given as goal

abbrev pub invariant-loop-pair : goal.invariant-loop-pair
invariant-loop-pair l = string_bytes l.out ++ flat_map pair_text (drop l.pair-index l.pair-items) ≡ string_bytes l.fn.out ++ flat_map pair_text l.pairs
