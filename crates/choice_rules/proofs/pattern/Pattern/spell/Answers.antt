use Rattle.std.proofs.Common.{ap, ◌∙◌}
use Rattle.choice_rules.specs.PatternTexts.{pattern_of, pattern_text}
use Rattle.choice_rules.proofs.pattern.Pattern.spell.Goals as goal

pub returns-clause-reads_back : goal.returns-clause-reads_back
returns-clause-reads_back c =
    ap pattern_of (c.in_ok-from_string.ensures ∙ c.in_ok-text.ensures ∙ ap pattern_text c.pieces.ensures.value) ∙ c.pieces.ensures.spellable
