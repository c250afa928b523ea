use Rattle.std.proofs.Common.{subst, sym, ◌∙◌}
use Rattle.choice_rules.specs.PatternTexts.{IsPattern}
use Rattle.choice_rules.proofs.copying.copy_pattern.Goals as goal

pub from_pieces-requires : goal.from_pieces-requires
from_pieces-requires c = subst IsPattern (sym (c.in_ok-pieces.ensures.items ∙ c.pieces.ensures.value)) c.pieces.ensures.spellable
