use Rattle.std.proofs.Common.{◌≡◌, take}
use Rattle.std.specs.String.{string_bytes}
use Rattle.choice_rules.specs.Patterns.{pattern_text}
use Rattle.choice_rules.proofs.reading.spelled.Given as goal

abbrev pub invariant-loop-piece : goal.invariant-loop-piece
invariant-loop-piece l = string_bytes l.out ≡ pattern_text (take l.piece-index l.pieces)
