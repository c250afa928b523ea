use Rattle.std.proofs.Common.{◌≡◌, false, length}
use denote.Text.{Utf8}
use denote.Shadow.{shadow}
use Rattle.std.specs.Str.{chars}
use Rattle.choice_rules.specs.Patterns.{pieces_of, after}
use Rattle.choice_rules.proofs.pattern.Pattern.read.Given as goal

abbrev pub invariant-loop-first : goal.invariant-loop-first
invariant-loop-first l = shadow (Utf8 l.left) × (pieces_of false (chars l.fn.text) ≡ after l.pieces.items (pieces_of l.escaped (chars l.left)))

abbrev pub decreases-loop-first : goal.decreases-loop-first
decreases-loop-first l = length l.left
